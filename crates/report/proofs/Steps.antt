-- What is left to print, block by block.
use Prim.Native.Nat.{ℕ, zero, suc, ◌+◌, ◌*◌, ◌-◌, ◌≤◌, ◌<◌}
use native.Mathlib.Numerals.{add-one}
use native.Mathlib.Omega.{arith}
use native.Mathlib.Nat.{mul-le-mul}
use mathlib.Core.Path.{◌≡◌, refl, sym, ap, ap₂, ◌∙◌}
use mathlib.Core.List.{List, [], ◌∷◌, ◌++◌}
use lib.ListN.{length, get_or, drop}
use lib.Seq.{drop-drop}
use Rattle.orm.specs.Diagram.{Predicate}
use Rattle.orm.specs.Text.{bytes}
use Rattle.buffer.specs.declared.output.Output.{Output}
use Rattle.buffer.specs.Written.{Wrote, Writing}
use Rattle.buffer.specs.Laws.{wrote_then, writing_start}
use Rattle.table.specs.Positions.{pred_of, pred_length, preds_in, type_count, pred_count, first_pred_at, diagram_of}
use Rattle.table.specs.Laws.Walks.{preds_more, preds-none, role-count}
use Rattle.numerals.specs.Lines.{numbers_from, keyed, keyed_lines}
use Rattle.report.specs.Printed.{type_lines, types_end, pred_block, pred_lines, size_lines, cell_lines, printed}

pub product_small : (a b : ℕ) → a ≤ 4294967295 → b ≤ 999999 → a * b ≤ 4294967295 * 999999
product_small a b h k = mul-le-mul h k

-- ---- types, `i` of `n` passed

pub types_more : (s : List ℕ) (p n i : ℕ) {size : ℕ} → i < n → size ≡ get_or (drop p s) 0 0
    → type_lines (n - i) (drop p s)
    ≡ keyed (116 ∷ 121 ∷ 112 ∷ 101 ∷ 61 ∷ []) (numbers_from (drop (p + 1) s) 0 size) ++ type_lines (n - (i + 1)) (drop (p + (1 + size)) s)
unfolding type_lines bytes
types_more s p n i {size} h e =
    let left : n - i ≡ suc (n - (i + 1)) = omega arith in
    rw left (rw (← drop-drop 1 p s, ← drop-drop (1 + size) p s, e) refl)

pub types-none : (left : ℕ) (s : List ℕ) → left ≤ 0 → type_lines left s ≡ []
unfolding type_lines
types-none zero s h = refl
types-none (suc left) s h = absurd (omega arith)

pub end_more : (s : List ℕ) (p n i : ℕ) {size q r : ℕ} → i < n → size ≡ get_or (drop p s) 0 0 → q ≡ p + (1 + size) → types_end (n - i) p s ≡ r
    → types_end (n - (i + 1)) q s ≡ r
unfolding types_end
end_more s p n i h e f w =
    let left : n - i ≡ suc (n - (i + 1)) = omega arith in
    let w' = rw left at w in
    rw (f, e) w'

pub end_none : (s : List ℕ) (p left : ℕ) {r : ℕ} → left ≤ 0 → types_end left p s ≡ r → p ≡ r
unfolding types_end
end_none s p zero h e = e
end_none s p (suc left) h e = absurd (omega arith)

-- ---- predicates

pub pred-is : {o o₁ o₂ : Output ℕ} (number width size : ℕ) (s : List ℕ)
    → Wrote o (keyed (112 ∷ 114 ∷ 101 ∷ 100 ∷ 61 ∷ []) (number ∷ [])) o₁ → Wrote o₁ (keyed_lines (114 ∷ 111 ∷ 119 ∷ 61 ∷ []) width size s) o₂
    → Wrote o (pred_block number width size s) o₂
unfolding pred_block bytes
pred-is number width size s w v = wrote_then w v

pub preds-begin : (o : Output ℕ) (t s : List ℕ) (n q : ℕ) → n ≡ pred_count t → q ≡ first_pred_at t
    → Writing o (pred_lines 1 (diagram_of t).preds s) o (pred_lines (0 + 1) (preds_in (n - 0) (drop q t)) s)
unfolding diagram_of
preds-begin o t s n q e f =
    let all : n - 0 ≡ pred_count t = omega arith in
    rw (all, f) (writing_start o (pred_lines 1 (preds_in (pred_count t) (drop (first_pred_at t) t)) s))

-- `i` of `n` passed
pub pred-lines-more : (t s : List ℕ) (q p n i : ℕ) {e width f size m : ℕ} → i < n → width ≡ f → f ≡ get_or (drop q t) 2 0
    → size ≡ get_or (drop p s) 0 0 → m ≡ size * width → e ≡ q + pred_length (drop q t)
    → pred_lines (i + 1) (preds_in (n - i) (drop q t)) (drop p s)
    ≡ pred_block (i + 1) width size (drop (p + 1) s) ++ pred_lines (i + 1 + 1) (preds_in (n - (i + 1)) (drop e t)) (drop (p + (1 + m)) s)
unfolding pred_lines
pred-lines-more t s q p n i {e} {width} {f} {size} {m} h ef eq es em ee =
    let ew : width ≡ get_or (drop q t) 2 0 = ef ∙ eq in
    let number : ℕ = i + 1 in
    let x : List ℕ = drop q t in
    let long : length (pred_of x).roles ≡ width = role-count x ∙ sym ew in
    let less : n - i - 1 ≡ n - (i + 1) = omega arith in
    let rest : List Predicate = preds_in (n - (i + 1)) (drop e t) in
    ap (λ (l : List Predicate). pred_lines number l (drop p s))
    (preds_more t q (n - i) (omega arith) ee ∙ ap (λ (k : ℕ). pred_of x ∷ preds_in k (drop e t)) less)
    ∙ ap₂ (λ (w n : ℕ). pred_block number w n (drop 1 (drop p s)) ++ pred_lines (suc number) rest (drop (1 + n * w) (drop p s))) long (sym es)
    ∙ ap₂ (λ (a b : List ℕ). pred_block number width size a ++ pred_lines (suc number) rest b) (drop-drop 1 p s)
    (drop-drop (1 + size * width) p s)
    ∙ ap₂ (λ (k n : ℕ). pred_block number width size (drop (p + 1) s) ++ pred_lines k rest (drop (p + (1 + n)) s)) (sym (add-one number))
    (sym em)

pub pred-lines-none : (left number : ℕ) (t s : List ℕ) → left ≤ 0 → pred_lines number (preds_in left t) s ≡ []
unfolding pred_lines
pred-lines-none left number t s h = rw (preds-none left t h) refl

-- ---- the whole

module _ {o o₁ o₂ : Output ℕ} where
  pub sizes-is : {n : ℕ} (rounds : ℕ) (sizes : List ℕ) → n ≡ rounds
      → Wrote o (keyed (114 ∷ 111 ∷ 117 ∷ 110 ∷ 100 ∷ 115 ∷ 61 ∷ []) (n ∷ [])) o₁
      → Wrote o₁ (keyed_lines (115 ∷ 105 ∷ 122 ∷ 101 ∷ 61 ∷ []) 1 (length sizes) (drop 0 sizes)) o₂
      → Wrote o (size_lines rounds sizes) o₂
  unfolding size_lines bytes
  sizes-is rounds sizes e w v = rw (← e) (wrote_then w v)

  pub cells_is : {types e : ℕ} (t cells : List ℕ) → types ≡ type_count t → e ≡ types_end types 0 cells
      → Wrote o (type_lines types cells) o₁ → Wrote o₁ (pred_lines 1 (diagram_of t).preds (drop e cells)) o₂
      → Wrote o (cell_lines (diagram_of t) (type_count t) cells) o₂
  unfolding cell_lines
  cells_is t cells et ee w v = rw (← et) (wrote_then w (rw ee at v))

  pub report-is : (t : List ℕ) (rounds : ℕ) (sizes cells : List ℕ) → Wrote o (size_lines rounds sizes) o₁
      → Wrote o₁ (cell_lines (diagram_of t) (type_count t) cells) o₂
      → Wrote o (printed (diagram_of t) (type_count t) rounds sizes cells) o₂
  unfolding printed
  report-is t rounds sizes cells w v = wrote_then w v
