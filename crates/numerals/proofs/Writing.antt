-- A number in decimal digits, the numbers of a line, and lines of one kind, put together from what single functions write.
use Prim.Native.Nat.{ℕ, zero, suc, ◌+◌, ◌-◌, ◌/◌, ◌%◌, ◌≤◌, ◌<◌}
use native.Mathlib.Numerals.{add-one}
use native.Mathlib.Omega.{arith}
use mathlib.Core.Path.{◌≡◌, refl, sym, ap, ◌∙◌}
use mathlib.Core.List.{List, [], ◌∷◌, ◌++◌, append-nil}
use lib.ListN.{length, get_or, take, drop, set, length-set, length-drop, drop_of_length-le, get_or-eq_default}
use lib.Seq.{take_all, append_snoc, drop-drop, get_or-drop}
use Rattle.orm.specs.Text.{separator, decimal, values_text}
use Rattle.reading.specs.Decimal.{bound, decimal-small, decimal-large}
use Rattle.buffer.specs.declared.output.Output.{Output}
use Rattle.buffer.specs.Written.{Wrote, Writing}
use Rattle.buffer.specs.Laws.{wrote_then, wrote_as, writing_start}
use Rattle.numerals.specs.Lines.{numbers_from, keyed, keyed_lines}

-- ---- digits

-- Of `n` the digits from `from` on are written, and those of `left` are not
pub record Digits (n : ℕ) (out : List ℕ) (from left : ℕ) : Type 0 where
  pub some : 1 ≤ from
  pub inside : from ≤ length out
  pub small : left < bound from
  pub whole : decimal left ++ drop from out ≡ decimal n

pub digits-start : (n : ℕ) (out : List ℕ) → n < 18446744073709551616 → length out ≡ 20 → Digits n out 20 n
unfolding bound
digits-start n out h e =
    let all : length out ≤ 20 = omega arith in
    let none : drop 20 out ≡ [] = drop_of_length-le out all in
    record { some = omega arith; inside = omega arith; small = omega arith; whole = rw none (append-nil (decimal n)) }

stored : (out : List ℕ) (k d : ℕ) → k < length out → drop k (set out k d) ≡ d ∷ drop (suc k) out
stored [] k d h = absurd (omega arith)
stored (x ∷ out) zero d h = refl
stored (x ∷ out) (suc k) d h = stored out k d (omega arith)

some_left : (k left : ℕ) → 10 ≤ left → left < bound (suc k) → 1 ≤ k
unfolding bound
some_left zero left h l = absurd (omega arith)
some_left (suc k) left h l = omega arith

module _ (n : ℕ) (out : List ℕ) where
  pub digits_more : (from left : ℕ) {d : ℕ} → Digits n out from left → 10 ≤ left → d ≡ 48 + left % 10
      → Digits n (set out (from - 1) d) (from - 1) (left / 10)
  unfolding bound
  digits_more zero left w h is = absurd (omega (arith, w.some))
  digits_more (suc k) left {d} w h is =
      let e : suc k - 1 ≡ k = omega arith in
      let here : k < length out = omega (arith, w.inside) in
      let behind : List ℕ = drop (suc k) out in
      rw e
      (record {
        some = some_left k left h w.small;
        inside = simp length-set (omega arith);
        small = omega (arith, w.small);
        whole =
            ap (λ (l : List ℕ). decimal (left / 10) ++ l) (stored out k d here) ∙ sym (append_snoc (decimal (left / 10)) d behind)
            ∙ ap (λ (l : List ℕ). l ++ behind) (ap (λ (x : ℕ). decimal (left / 10) ++ x ∷ []) is ∙ sym (decimal-large left h))
            ∙ w.whole;
      })

  pub digits-all : (from left : ℕ) {d : ℕ} → Digits n out from left → left < 10 → d ≡ 48 + left % 10
      → drop (from - 1) (set out (from - 1) d) ≡ decimal n
  digits-all zero left w h is = absurd (omega (arith, w.some))
  digits-all (suc k) left {d} w h is =
      let e : suc k - 1 ≡ k = omega arith in
      let here : k < length out = omega (arith, w.inside) in
      let digit : d ≡ 48 + left = omega arith in
      let behind : List ℕ = drop (suc k) out in
      rw e
      (stored out k d here ∙ ap (λ (x : ℕ). x ∷ behind) digit ∙ ap (λ (l : List ℕ). l ++ behind) (sym (decimal-small left h))
      ∙ w.whole)

module _ {o o₁ : Output ℕ} (n : ℕ) where
  pub wrote-digit : {d : ℕ} → n < 10 → d ≡ 48 + n % 10 → Wrote o (d ∷ []) o₁ → Wrote o (decimal n) o₁
  wrote-digit {d} small is w =
      let e : d ≡ 48 + n = omega arith in
      wrote_as w (ap (λ (x : ℕ). x ∷ []) e ∙ sym (decimal-small n small))

  -- `space` has twenty bytes, of which those from `from` on are written
  pub wrote-digits : (space : List ℕ) (from : ℕ) → length space ≡ 20 → drop from space ≡ decimal n
      → Wrote o (take (20 - from) (drop from space)) o₁ → Wrote o (decimal n) o₁
  wrote-digits space from long e w =
      let all : length (drop from space) ≤ 20 - from = simp length-drop (omega arith) in
      wrote_as w (take_all (20 - from) (drop from space) all ∙ e)

-- ---- what follows a number

pub separator-last : (more : ℕ) → more ≡ 0 → 10 ≡ separator more
unfolding separator
separator-last more e = rw e refl

pub separator-other : (more : ℕ) → ((more ≡ 0) → ⊥) → 44 ≡ separator more
unfolding separator
separator-other zero n = absurd (n refl)
separator-other (suc more) n = refl

module _ {o o₁ o₂ : Output ℕ} where
  pub value-is : (x more : ℕ) {s : ℕ} → s ≡ separator more → Wrote o (decimal x) o₁ → Wrote o₁ (s ∷ []) o₂
      → Wrote o (decimal x ++ separator more ∷ []) o₂
  value-is x more e w v = wrote_as (wrote_then w v) (ap (λ (s : ℕ). decimal x ++ s ∷ []) e)

  -- a key and what stands behind it
  pub line-is : (k vs : List ℕ) → Wrote o k o₁ → Wrote o₁ (values_text vs) o₂ → Wrote o (keyed k vs) o₂
  unfolding keyed
  line-is k vs w v = wrote_then w v

  pub count-is : (k : List ℕ) (x : ℕ) → Wrote o k o₁ → Wrote o₁ (decimal x ++ separator 0 ∷ []) o₂
      → Wrote o (keyed k (x ∷ [])) o₂
  unfolding keyed values_text
  count-is k x w v = wrote_then w v

-- ---- a number by its position

module _ (xs : List ℕ) (p i : ℕ) {r : ℕ} (e : r ≡ length xs - p) where
  pub item_past : r ≤ i → 0 ≡ get_or (drop p xs) i 0
  item_past h = sym (get_or-eq_default (drop p xs) 0 {n = i} (omega (arith, length-drop p xs)))

  pub skip_past : r ≤ i → drop (length xs) xs ≡ drop (p + i) xs
  skip_past h =
      let all : length xs ≤ length xs = omega arith in
      let past : length xs ≤ p + i = omega arith in
      drop_of_length-le xs all ∙ sym (drop_of_length-le xs past)

pub item_here : (xs : List ℕ) (p i : ℕ) {x : ℕ} → x ≡ get_or xs (p + i) 0 → x ≡ get_or (drop p xs) i 0
item_here xs p i e = e ∙ sym (get_or-drop p xs i 0)

-- ---- the numbers of a line, one after another

numbers-length : (s : List ℕ) (i n : ℕ) → length (numbers_from s i n) ≡ n
unfolding numbers_from
numbers-length s i zero = refl
numbers-length s i (suc n) = ap suc (numbers-length s (suc i) n)

pub values-start : (o : Output ℕ) (s : List ℕ) (n : ℕ)
    → Writing o (values_text (numbers_from s 0 n)) o (values_text (numbers_from s 0 (n - 0)))
values-start o s n = let e : n - 0 ≡ n = omega arith in rw e (writing_start o (values_text (numbers_from s 0 n)))

values-cons : (s : List ℕ) (i n : ℕ)
    → values_text (numbers_from s i (suc n)) ≡ decimal (get_or s i 0) ++ separator n ∷ values_text (numbers_from s (suc i) n)
unfolding numbers_from values_text
values-cons s i n = ap (λ (m : ℕ). decimal (get_or s i 0) ++ separator m ∷ values_text (numbers_from s (suc i) n)) (numbers-length s (suc i) n)

module _ (s : List ℕ) (i n : ℕ) where
  pub values-more : {x : ℕ} → i < n → x ≡ get_or s i 0
      → values_text (numbers_from s i (n - i)) ≡ (decimal x ++ separator (n - i - 1) ∷ []) ++ values_text (numbers_from s (i + 1) (n - (i + 1)))
  values-more {x} h e =
      let m : ℕ = n - (i + 1) in
      let here : n - i ≡ suc m = omega arith in
      let more : n - i - 1 ≡ m = omega arith in
      let behind : List ℕ = values_text (numbers_from s (suc i) (n - suc i)) in
      ap (λ (k : ℕ). values_text (numbers_from s i k)) here
      ∙ values-cons s i m
      ∙ rw (e, more, add-one) (sym (append_snoc (decimal (get_or s i 0)) (separator (n - suc i)) behind))

  pub values-none : n ≤ i → values_text (numbers_from s i (n - i)) ≡ []
  unfolding numbers_from values_text
  values-none h = let none : n - i ≡ 0 = omega arith in rw none refl

-- ---- lines of one kind, one after another

-- `p` is where the next line starts, behind `i` of `count` lines
pub lines_more : (k : List ℕ) (n : ℕ) (t : List ℕ) (q count i p : ℕ) → i < count → drop p t ≡ drop (q + n) t
    → keyed_lines k n (count - i) (drop q t) ≡ keyed k (numbers_from (drop q t) 0 n) ++ keyed_lines k n (count - (i + 1)) (drop p t)
unfolding keyed_lines
lines_more k n t q count i p h e =
    let left : count - i ≡ suc (count - (i + 1)) = omega arith in
    rw left (rw (drop-drop n q t, e) refl)

pub lines_none : (k : List ℕ) (n left : ℕ) (s : List ℕ) → left ≤ 0 → keyed_lines k n left s ≡ []
unfolding keyed_lines
lines_none k n zero s h = refl
lines_none k n (suc left) s h = absurd (omega arith)
