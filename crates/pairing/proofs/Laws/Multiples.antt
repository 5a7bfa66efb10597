-- The rule of the table of multiples, and that the pairing's multiple is the least common one for all sizes.
use Rattle.std.specs.Prelude.{ℕ, ◌+◌, ◌*◌, ◌-◌, ◌/◌, ◌≤◌, ◌<◌, ◌≡◌, refl, Bool, true, false, length, get_or}
use Rattle.std.proofs.Common.{sym, ap, ◌∙◌, div-le_self, mul-le-mul, arith, leb-true}
use Rattle.std.proofs.Math.Bool.{and-eq-true_iff}
use mathlib.Core.List.{List, [], map}
use Rattle.std.proofs.lemmas.List.{length-map}
use Rattle.counting.specs.Lists.{up_from}
use Rattle.counting.specs.Terms.{◌∈◌, Each}
use Rattle.counting.proofs.Laws.Members.{each_map}
use Rattle.counting.proofs.Laws.Range.{of-up_from, length-up_from, get_or-map-up_from}
use Rattle.counting.proofs.Laws.Rows.{rows-length, row-entry}
use Rattle.pairing.specs.Pairing.{gcd, lcm}
use Rattle.pairing.specs.Multiples.{multiple_rows, multiples, multiple_at, Listed, has_row, listed, pairing_multiple}

-- ---- the table

pub multiples-rows : length multiple_rows ≡ 64
unfolding multiple_rows
multiples-rows = length-map (up_from 1 64) _ ∙ length-up_from 1 64

-- Each row has 64 numbers
pub multiples-wide : Each (λ (r : List ℕ). length r ≡ 64) multiple_rows
unfolding multiple_rows
multiples-wide = each_map _ _ (up_from 1 64) (λ a m. length-map (up_from 1 64) (lcm a) ∙ length-up_from 1 64)

-- No number of the table is above 64 * 64
pub multiples-small : Each (λ (r : List ℕ). Each (◌≤ 4096) r) multiple_rows
unfolding multiple_rows lcm
multiples-small = each_map _ _ (up_from 1 64) (λ a m. each_map _ (lcm a) (up_from 1 64) (λ b k. small a b (most a m) (most b k)))
  where
    most : (a : ℕ) → a ∈ up_from 1 64 → a ≤ 64
    most a m = omega (arith, of-up_from 1 64 m)

    small : (a b : ℕ) → a ≤ 64 → b ≤ 64 → a * b / gcd a b ≤ 4096
    small a b h l = omega (arith, div-le_self (a * b) (gcd a b), mul-le-mul h l)

pub multiples-length : length multiples ≡ 4096
unfolding multiples
multiples-length = rows-length 64 multiple_rows multiples-wide ∙ ap (◌* 64) multiples-rows

-- The rule at each entry
pub multiple-is : (a b : ℕ) → Listed a b → multiple_at a b ≡ lcm a b
unfolding multiple_at multiples
multiple-is a b h =
    let e : 1 + (a - 1) ≡ a = omega arith in
    let e' : 1 + (b - 1) ≡ b = omega arith in
    row-entry 64 multiple_rows (a - 1) (b - 1) 0 multiples-wide (omega (arith, multiples-rows)) (omega arith)
    ∙ ap (λ (r : List ℕ). get_or r (b - 1) 0) (row (a - 1) (omega arith))
    ∙ get_or-map-up_from (lcm (1 + (a - 1))) 1 64 (b - 1) 0 (omega arith)
    ∙ rw (e, e')
  where
    row : (k : ℕ) → k < 64 → get_or multiple_rows k [] ≡ map (lcm (1 + k)) (up_from 1 64)
    row k l = unfold multiple_rows in get_or-map-up_from (λ (a : ℕ). map (lcm a) (up_from 1 64)) 1 64 k [] l

-- ---- where the pairing uses it

pub listed-is : (a b : ℕ) {m : Bool} → m ≡ listed a b → m ≡ true → Listed a b
unfolding listed has_row
listed-is a b w e =
    let both = (and-eq-true_iff _ _).0 (sym w ∙ e) in
    let left = (and-eq-true_iff _ _).0 both.0 in
    let right = (and-eq-true_iff _ _).0 both.1 in
    record {
      left_least = leb-true 1 a left.0;
      left_most = leb-true a 64 left.1;
      right_least = leb-true 1 b right.0;
      right_most = leb-true b 64 right.1;
    }

pub pairing-multiple-is : (s t : ℕ) → pairing_multiple s t ≡ lcm s t
unfolding pairing_multiple
pairing-multiple-is s t = go (listed s t) refl
  where
    go : (b : Bool) → listed s t ≡ b → elim b as (λ _. ℕ) [ true ↦ multiple_at s t | false ↦ lcm s t ] ≡ lcm s t
    go true e = multiple-is s t (listed-is s t refl e)
    go false e = refl
