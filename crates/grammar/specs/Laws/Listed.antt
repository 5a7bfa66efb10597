-- The proof of S-3's statement.
use Rattle.std.specs.Prelude.{ℕ, zero, suc, ◌+◌, ◌≡◌, refl, Option, Some, None, List, [], ◌∷◌, get_or}
use Rattle.std.proofs.Common.{sym, ap, subst, ◌∙◌, arith}
use mathlib.Core.List.Memᴰ.{head as here}
use mathlib.Core.List.Memᴰ.{tail as there}
use Rattle.counting.specs.Terms.{◌∈◌, Each}
use Rattle.counting.proofs.Laws.Members.{each_nil, each-cons, in_flatten}
use Rattle.orm.specs.Diagram.{LineKind, diagram_line, types_line, type_line, preds_line, pred_line, role_line, limited_role_line, freq_line, end_line}
use Rattle.orm.specs.Form.{Range, ◌to◌, unlimited, ranges}
use Rattle.orm.proofs.Cases.Ranges.{ranged-fields}
use Rattle.orm.specs.Ranges.{Field, field, fields_from, ranged_fields}
use Rattle.lexer.specs.Cuts.{kind_of}
use Rattle.grammar.specs.Bounds.{range_of}
use Rattle.grammar.specs.Listed.{Gives, RangesListed}

between : (r : Option (ℕ × ℕ)) {low high : ℕ} → range_of r ≡ low to high → r ≡ Some (low, high)
between (Some r) {low} {high} e =
    let a : r.0 ≡ low = cc in
    let b : r.1 ≡ high = cc in
    rw (a, b) refl
between None e = let z : ◌≡◌ {A = ℕ} 0 1 = cc in absurd (omega arith)

given : (k : LineKind) (number low high : ℕ) → get_or (ranges k) number unlimited ≡ low to high → Gives (field k number low high)
given k number low high e key r q h = between r (h ∙ ap (λ (x : LineKind). get_or (ranges x) number unlimited) q ∙ e)

and : (k : LineKind) (number low high : ℕ) → get_or (ranges k) number unlimited ≡ low to high → {fs : List Field} → Each Gives fs
    → Each Gives (field k number low high ∷ fs)
and k number low high e {fs} rest = each-cons Gives {x = field k number low high} {xs = fs} (given k number low high e) rest

-- ---- a range of the definition is among the fields

from_range : (k : LineKind) (i n : ℕ) (rs : List Range) {low high : ℕ} → get_or rs n unlimited ≡ low to high
    → field k (i + n) low high ∈ fields_from k i rs
unfolding fields_from
from_range k i n [] e = let z : ◌≡◌ {A = ℕ} 0 1 = cc in absurd (omega arith)
from_range k i zero (a to b ∷ rs) {low} {high} e =
    let z : i + 0 ≡ i = omega arith in
    let q : field k (i + 0) low high ≡ field k i a b = cc in
    here q
from_range k i (suc n) (a to b ∷ rs) {low} {high} e =
    let z : suc i + n ≡ i + suc n = omega arith in
    there (subst (λ (j : ℕ). field k j low high ∈ fields_from k (suc i) rs) z (from_range k (suc i) n rs e))
from_range k i zero (unlimited ∷ rs) e = let z : ◌≡◌ {A = ℕ} 0 1 = cc in absurd (omega arith)
from_range k i (suc n) (unlimited ∷ rs) {low} {high} e =
    let z : suc i + n ≡ i + suc n = omega arith in
    subst (λ (j : ℕ). field k j low high ∈ fields_from k (suc i) rs) z (from_range k (suc i) n rs e)

listed : (k : LineKind) {f : Field} → f ∈ fields_from k 0 (ranges k) → f ∈ ranged_fields
unfolding ranged_fields
listed diagram_line m = in_flatten (here refl) m
listed types_line m = in_flatten (there (here refl)) m
listed type_line m = in_flatten (there (there (here refl))) m
listed preds_line m = in_flatten (there (there (there (here refl)))) m
listed pred_line m = in_flatten (there (there (there (there (here refl))))) m
listed role_line m = in_flatten (there (there (there (there (there (here refl)))))) m
listed limited_role_line m = in_flatten (there (there (there (there (there (there (here refl))))))) m
listed freq_line m = in_flatten (there (there (there (there (there (there (there (here refl)))))))) m
listed end_line m = in_flatten (there (there (there (there (there (there (there (there (here refl))))))))) m

-- ---- the statement

pub ranges-listed : RangesListed
unfolding ranges
ranges-listed = record {
  in_order = ranged-fields;
  gives =
      and diagram_line 0 1 2 refl
      (and types_line 0 1 32 refl
      (and type_line 0 1 4096 refl
      (and type_line 1 1 4096 refl
      (and type_line 2 0 999999 refl
      (and type_line 3 0 999999 refl
      (and type_line 4 0 32 refl
      (and type_line 5 0 1 refl
      (and preds_line 0 1 32 refl
      (and pred_line 0 1 4096 refl
      (and pred_line 1 1 4096 refl
      (and pred_line 2 1 6 refl
      (and pred_line 3 0 6 refl
      (and role_line 0 1 32 refl
      (and role_line 1 0 1 refl
      (and role_line 2 0 6 refl
      (and limited_role_line 0 1 32 refl
      (and limited_role_line 1 0 1 refl
      (and limited_role_line 2 0 6 refl
      (and limited_role_line 3 1 4096 refl
      (and limited_role_line 4 1 4096 refl
      (and freq_line 0 1 4096 refl
      (and freq_line 1 1 4096 refl (each_nil Gives)))))))))))))))))))))));
  no_other = λ key number low high h.
      let z : 0 + number ≡ number = omega arith in
      rw z at (rw ranged-fields at (listed (kind_of key) (from_range (kind_of key) 0 number (ranges (kind_of key)) (sym h))));
}
