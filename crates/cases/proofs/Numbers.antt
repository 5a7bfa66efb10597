-- The numbers of a text, byte by byte.
use Prim.Native.Nat.{ℕ, ◌+◌, ◌*◌, ◌-◌, ◌%◌, ◌≤◌, ◌<◌}
use native.Mathlib.Numerals.{add-one}
use mathlib.Core.Path.{◌≡◌, refl, sym, ap, ◌∙◌}
use mathlib.Core.Bool.{Bool, true, false}
use mathlib.Core.List.{List, [], ◌∷◌, ◌++◌}
use lib.ListN.{length, get_or, drop, drop_of_length-le}
use lib.Seq.{drop-cons}
use Rattle.std.specs.Char.{is_ascii_digit}
use Rattle.orm.specs.Text.{is_digit}
use Rattle.buffer.specs.declared.output.Output.{Output}
use Rattle.buffer.specs.Written.{Wrote}
use Rattle.buffer.specs.Laws.{wrote_none}
use Rattle.cases.specs.Numbers.{going_on, ended, numbers_from}

-- ---- one byte

module _ {t : Bool} (v b : ℕ) (is : t ≡ is_ascii_digit b) where
  pub going-digit : {d r : ℕ} → t ≡ true → d ≡ b - 48 → r ≡ (v * 10 + d) % 4294967296 → r ≡ going_on v b
  unfolding going_on is_digit
  going-digit h e f = f ∙ rw (e, sym is ∙ h, going_on) refl

  pub going-other : t ≡ false → 0 ≡ going_on v b
  unfolding going_on is_digit
  going-other h = rw (sym is ∙ h, going_on) refl

  pub ended-digit : (o : Output ℕ) → t ≡ true → Wrote o (ended v b) o
  unfolding ended is_digit
  ended-digit o h = rw (sym is ∙ h, ended) (wrote_none o)

  pub ended-other : {o o' : Output ℕ} → t ≡ false → Wrote o (v ∷ []) o' → Wrote o (ended v b) o'
  unfolding ended is_digit
  ended-other h w = rw (sym is ∙ h, ended) w

-- ---- what is left

pub numbers_more : (text : List ℕ) (i v : ℕ) {b v' : ℕ} → i < length text → b ≡ get_or text i 0 → v' ≡ going_on v b
    → numbers_from v (drop i text) ≡ ended v b ++ numbers_from v' (drop (i + 1) text)
unfolding numbers_from
numbers_more text i v h e f = ap (numbers_from v) (drop-cons text i 0 h) ∙ rw (add-one, f, e) refl

pub numbers-none : (text : List ℕ) (i v : ℕ) → length text ≤ i → numbers_from v (drop i text) ≡ []
unfolding numbers_from
numbers-none text i v h = ap (numbers_from v) (drop_of_length-le text h)
