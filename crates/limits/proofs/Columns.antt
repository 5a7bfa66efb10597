-- A number for each type, or for each predicate, written in file order: what a turn of the loop writes and what it leaves; `i` of `n` are passed.
use Prim.Native.Nat.{ℕ, ◌+◌, ◌-◌, ◌≤◌, ◌<◌}
use native.Mathlib.Omega.{arith}
use mathlib.Core.Path.{◌≡◌, refl, ap, ◌∙◌}
use mathlib.Core.List.{List, [], ◌∷◌, ◌++◌, map}
use lib.ListN.{drop}
use Rattle.orm.specs.Diagram.{ObjectType, Predicate}
use Rattle.orm.specs.Form.{type_of}
use Rattle.buffer.specs.declared.output.Output.{Output}
use Rattle.buffer.specs.Written.{Writing}
use Rattle.buffer.specs.Laws.{writing_start}
use Rattle.table.specs.Positions.{types_in, pred_of, pred_length, preds_in, type_count, pred_count, first_pred_at, diagram_of}
use Rattle.table.specs.Laws.Walks.{each_more, each_none, preds_more, preds-none}

module _ (f : ObjectType → ℕ) (t : List ℕ) where
  pub types-start : (o : Output ℕ) {n : ℕ} → n ≡ type_count t
      → Writing o (map f (diagram_of t).types) o (map f (types_in (n - 0) (drop 2 t)))
  unfolding diagram_of
  types-start o {n} e =
      let all : n - 0 ≡ type_count t = omega arith in
      rw all (writing_start o (map f (types_in (type_count t) (drop 2 t))))

  pub types_more : (p n i : ℕ) {x : ℕ} → x ≡ f (type_of (drop p t)) → i < n
      → map f (types_in (n - i) (drop p t)) ≡ (x ∷ []) ++ map f (types_in (n - (i + 1)) (drop (p + 6) t))
  types_more p n i e h =
      let less : n - i - 1 ≡ n - (i + 1) = omega arith in
      ap (map f) (each_more type_of 6 t p (n - i) (omega arith)) ∙ rw (e, less) refl

  pub types-none : (p n : ℕ) → n ≤ 0 → map f (types_in n (drop p t)) ≡ []
  types-none p n h = ap (map f) (each_none type_of 6 n (drop p t) h)

module _ (f : Predicate → ℕ) (t : List ℕ) where
  pub preds-start : (o : Output ℕ) {p n : ℕ} → p ≡ first_pred_at t → n ≡ pred_count t
      → Writing o (map f (diagram_of t).preds) o (map f (preds_in (n - 0) (drop p t)))
  unfolding diagram_of
  preds-start o {n = n} ep en =
      let all : n - 0 ≡ pred_count t = omega arith in
      rw (ep, all) (writing_start o (map f (preds_in (pred_count t) (drop (first_pred_at t) t))))

  pub preds-next : (p n i : ℕ) {x q : ℕ} → x ≡ f (pred_of (drop p t)) → i < n → q ≡ p + pred_length (drop p t)
      → map f (preds_in (n - i) (drop p t)) ≡ (x ∷ []) ++ map f (preds_in (n - (i + 1)) (drop q t))
  preds-next p n i e h eq =
      let less : n - i - 1 ≡ n - (i + 1) = omega arith in
      ap (map f) (preds_more t p (n - i) (omega arith) eq) ∙ rw (e, less) refl

  pub preds-end : (p n : ℕ) → n ≤ 0 → map f (preds_in n (drop p t)) ≡ []
  preds-end p n h = ap (map f) (preds-none n (drop p t) h)
