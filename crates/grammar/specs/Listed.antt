-- S-3, 'Ranges as a list', as one statement on running code: whatever `ranges::bounds_of` answers, and so what a line is tested by, is what document
-- 01 lists. 'Every caller sees the same outcome': the definitions of the calls, and what each function above promises, are those without it.
use Rattle.std.specs.Prelude.{ℕ, ◌≡◌, Option, Some, get_or}
use Rattle.counting.specs.Terms.{◌∈◌, Each}
use Rattle.orm.specs.Form.{unlimited, ranges}
use Rattle.orm.specs.Ranges.{Field, field, ranged_fields, document_ranges}
use Rattle.lexer.specs.declared.Kind.{Kind}
use Rattle.lexer.specs.Cuts.{kind_of}
use Rattle.grammar.specs.Bounds.{range_of}

-- What `bounds_of` ensures of its answer: the range of that key and field, also past the last field
abbrev pub HasBounds : Kind → ℕ → Option (ℕ × ℕ) → Type 0
HasBounds key number r = range_of r ≡ get_or (ranges (kind_of key)) number unlimited

-- For this field it is the paper's low and high
abbrev pub Gives : Field → Type 0
Gives (field k number low high) = (key : Kind) (r : Option (ℕ × ℕ)) → kind_of key ≡ k → HasBounds key number r → r ≡ Some (low, high)

pub record RangesListed : Type 0 where
  -- 'each key's fields have their ranges listed case by case, in the paper's order'
  pub in_order : ranged_fields ≡ document_ranges
  -- 'for every field with a range the list gives the paper's low and high'
  pub gives : Each Gives document_ranges
  -- and no other field has one
  pub no_other : (key : Kind) (number low high : ℕ) → HasBounds key number (Some (low, high)) → field (kind_of key) number low high ∈ document_ranges
