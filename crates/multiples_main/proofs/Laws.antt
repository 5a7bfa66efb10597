-- The rows and their numbers, one after another, and the text that they come to.
use Prim.Native.Nat.{ℕ, zero, suc, ◌+◌, ◌-◌, ◌≤◌, ◌<◌}
use native.Mathlib.Numerals.{add-one}
use native.Mathlib.Omega.{arith}
use mathlib.Core.Path.{◌≡◌, refl, sym, ap, ◌∙◌}
use mathlib.Core.List.{List, [], ◌∷◌, ◌++◌, map, flat_map}
use lib.ListN.{length, take, length-map}
use lib.Seq.{append_snoc}
use Rattle.counting.specs.Lists.{up_from}
use Rattle.counting.proofs.Laws.Range.{length-up_from}
use Rattle.pairing.specs.Pairing.{gcd_within, gcd, lcm}
use Rattle.pairing.specs.Multiples.{multiple_rows}
use Rattle.orm.specs.Text.{separator, decimal_within, decimal, values_text}
use Rattle.orm.specs.MultiplesText.{multiples_text, line_numbers}
use Rattle.buffer.specs.Written.{WroteAll}
use Rattle.buffer.specs.Laws.{wrote-front, wrote-inside, wrote-counts}
use Rattle.guarantee.proofs.Multiples.Proof.{multiples_hold}
use Rattle.multiples_main.specs.Rows.{row_text, rows_text}
use Rattle.multiples_main.specs.Printed.{Printed}

-- ---- the numbers of a row

-- that of `b` comes next
pub row_more : (a b : ℕ) {m v : ℕ} → b < 65 → m ≡ 64 - b → v ≡ lcm a b
    → row_text a b (65 - b) ≡ (decimal v ++ separator m ∷ []) ++ row_text a (b + 1) (65 - (b + 1))
unfolding row_text up_from values_text
row_more a b {m} {v} h em ev =
    let n : ℕ = 65 - (b + 1) in
    let left : 65 - b ≡ suc n = omega arith in
    let e : m ≡ n = omega arith in
    let l : length (map (lcm a) (up_from (suc b) n)) ≡ n = length-map (up_from (suc b) n) (lcm a) ∙ length-up_from (suc b) n in
    rw left (rw (e, ev, l, add-one) (sym (append_snoc (decimal (lcm a b)) (separator (65 - suc b)) _)))

pub row-none : (a b n : ℕ) → n ≤ 0 → row_text a b n ≡ []
unfolding row_text up_from values_text
row-none a b zero h = refl
row-none a b (suc n) h = absurd (omega arith)

-- ---- the rows

pub rows_more : (a : ℕ) → a < 65 → rows_text a (65 - a) ≡ row_text a 1 64 ++ rows_text (a + 1) (65 - (a + 1))
unfolding rows_text row_text up_from flat_map
rows_more a h =
    let left : 65 - a ≡ suc (65 - (a + 1)) = omega arith in
    rw left (rw add-one refl)

pub rows_none : (a n : ℕ) → n ≤ 0 → rows_text a n ≡ []
unfolding rows_text up_from flat_map
rows_none a zero h = refl
rows_none a (suc n) h = absurd (omega arith)

-- ---- the text

rows-are-text : rows_text 1 64 ≡ multiples_text
unfolding rows_text multiples_text multiple_rows
rows-are-text = refl

text-length : length (rows_text 1 64) ≡ 16697
unfolding rows_text up_from flat_map gcd_within gcd lcm separator decimal_within decimal values_text
text-length = refl

module _ {o o' : List ℕ} {to : ℕ} (w : WroteAll o (rows_text 1 64) o' to) (enough : 16697 ≤ length o) where
  room : length (rows_text 1 64) ≤ length o
  room = omega (arith, text-length)

  pub printed : Printed (take to o')
  printed =
      let e : take to o' ≡ multiples_text = wrote-front w room ∙ rows-are-text in
      record { is = e; numbers = ap (line_numbers 64 64) e ∙ multiples_hold.output }

  pub printed-inside : to ≤ length o'
  printed-inside = wrote-inside w

  pub printed-counts : to ≡ length (take to o')
  printed-counts = wrote-counts w
