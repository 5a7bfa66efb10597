-- The part of a table that is lent to be written, from a position to its end.
use Prim.Native.Nat.{ℕ, zero, suc, ◌+◌, ◌-◌, ◌≤◌}
use native.Mathlib.Omega.{arith}
use mathlib.Core.Path.{◌≡◌, sym, ap, ◌∙◌, subst}
use mathlib.Core.Option.{Option, none, some}
use mathlib.Core.List.{List, [], ◌∷◌, ◌++◌, append_assoc, append-nil}
use lib.ListN.{length, take, drop, length-drop, drop_of_length-le}
use lib.Seq.{take_all, drop-drop, sets, sets-eq}
use borrow.Rule.Slice.PartMut.{mid_of, put_mid}
use Rattle.orm.specs.Diagram.{LineKind}
use Rattle.orm.specs.Form.{fields}
use Rattle.orm.specs.Text.{bytes, key, number, after, separator, Numeral, malformed, numeral}
use Rattle.lexer.specs.declared.Kind.{Kind}
use Rattle.lexer.specs.Cuts.{kind_of, fields_of, sound_numbers, line_numbers}
use Rattle.lexer.proofs.Fields.{fields-is}

sound-few : (n : ℕ) (t : List ℕ) → length (sound_numbers n t) ≤ n
unfolding sound_numbers
sound-few zero t = omega arith
sound-few (suc n) t = one (number t) (sound-few n)
  where
    two : (v : ℕ) (o : Option (List ℕ)) → ((t : List ℕ) → length (sound_numbers n t) ≤ n)
        → length {A = ℕ} (elim o as (λ _. List ℕ) [ none ↦ [] | some t₂ ↦ v ∷ sound_numbers n t₂ ]) ≤ suc n
    two v none ih = omega arith
    two v (some t₂) ih = omega (arith, ih t₂)

    one : (m : Numeral) → ((t : List ℕ) → length (sound_numbers n t) ≤ n)
        → length {A = ℕ} (elim m as (λ _. List ℕ) [
          | malformed ↦ []
          | numeral v t₁ ↦ elim (after (separator n ∷ []) t₁) [ none ↦ [] | some t₂ ↦ v ∷ sound_numbers n t₂ ]
        ]) ≤ suc n
    one malformed ih = omega arith
    one (numeral v t₁) ih = two v (after (separator n ∷ []) t₁) ih

kind-few : (k : LineKind) (t : List ℕ) → length (line_numbers k t) ≤ fields k
unfolding line_numbers
kind-few k t = go (after (bytes (key k) ++ 61 ∷ []) t)
  where
    go : (o : Option (List ℕ))
        → length {A = ℕ} (elim o as (λ _. List ℕ) [ none ↦ [] | some rest ↦ sound_numbers (fields k) rest ]) ≤ fields k
    go none = omega arith
    go (some rest) = sound-few (fields k) rest

line-few : (k : Kind) (t : List ℕ) → length (line_numbers (kind_of k) t) ≤ fields_of k
line-few k t = subst (λ (n : ℕ). length (line_numbers (kind_of k) t) ≤ n) (fields-is k) (kind-few (kind_of k) t)

put-sets : (xs : List ℕ) (end : ℕ) (ws : List ℕ) → end + length ws ≤ length xs
    → put_mid end (length xs - end) xs (sets (mid_of end (length xs - end) xs) 0 ws) ≡ sets xs end ws
put-sets xs end ws h =
    let all : length (drop end xs) ≤ length xs - end = omega (arith, length-drop end xs) in
    let room : 0 + length ws ≤ length (drop end xs) = omega (arith, length-drop end xs) in
    let e : end + (0 + length ws) ≡ end + length ws = omega arith in
    rw (take_all (length xs - end) (drop end xs) all, drop_of_length-le (drop end xs) all, append-nil (sets (drop end xs) 0 ws))
    (ap (λ (l : List ℕ). take end xs ++ l)
    (sets-eq ws (drop end xs) 0 room ∙ ap (λ (l : List ℕ). ws ++ l) (drop-drop (0 + length ws) end xs))
    ∙ rw e (sym (append_assoc (take end xs) ws (drop (end + length ws) xs)) ∙ sym (sets-eq ws xs end h)))

-- what the part holds afterwards, put back
pub put-line : (k : Kind) (t xs : List ℕ) (end : ℕ) {ys : List ℕ} → end + fields_of k ≤ length xs
    → ys ≡ sets (mid_of end (length xs - end) xs) 0 (line_numbers (kind_of k) t)
    → put_mid end (length xs - end) xs ys ≡ sets xs end (line_numbers (kind_of k) t)
put-line k t xs end h e =
    ap (put_mid end (length xs - end) xs) e ∙ put-sets xs end (line_numbers (kind_of k) t) (omega (arith, line-few k t))
