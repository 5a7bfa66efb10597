-- The walk over the lines goes on from place to place.
use Prim.Native.Nat.{ℕ, zero, suc, ◌+◌}
use Rattle.std.proofs.Common.{arith, ◌∙◌}
use Rattle.std.proofs.Math.Numerals.{add-one}
use Rattle.std.proofs.Math.Path.{◌≡◌, refl, sym, ap}
use Rattle.std.specs.Prelude.{true, get_or, drop}
use mathlib.Core.List.{List, []}
use Rattle.std.proofs.Math.ListN.{length}
use Rattle.orm.specs.Diagram.{LineKind, types_line, type_line, preds_line, pred_line, freq_line, role_line_of}
use Rattle.orm.specs.Reader.{Cut}
use Rattle.orm.specs.Form.{Test, role_of, group_of, head_of, pred_tests, role_tests, group_tests}
use Rattle.reading.specs.Walk.{type_tests_at, roles_at, Walk, line_then, lines_then, from_end, groups_then, roles_then, from_preds, from_preds_line, from_types, from_types_line, from_start}
use Rattle.grammar.specs.declared.Counts.{Counts}
use Rattle.grammar.specs.declared.Block.{Block}
use Rattle.grammar.specs.declared.Awaited.{Awaited}
use Rattle.grammar.specs.declared.Awaited.TheVariants.{AtDiagram, AtTypes, AtType, AtPreds, AtPred, AtRole, AtFreq, AtEnd, Over}
use Rattle.grammar.specs.Awaited.{counts_of, totals_of, block_of, types_from, preds_left, groups_from, roles_from, kind_at, is_going}
use Rattle.grammar.specs.Step.{tests_at, next_at}
use Rattle.grammar.specs.Walk.{groups_of, roles_of, from}

module _ (next : LineKind → List ℕ → Cut) where
  -- tests that do not look at a line's number: where they are counted from is all the same
  lines_any : (k : LineKind) (tests : List ℕ → List ℕ → List Test) (i j left : ℕ) (then : Walk)
      → lines_then next k (λ i. tests) i left then ≡ lines_then next k (λ i. tests) j left then
  unfolding lines_then
  lines_any k tests i j zero then = refl
  lines_any k tests i j (suc left) then =
      ap (λ (w : Walk). λ (acc : List ℕ). line_then next k (tests acc) (λ v. w) acc) (lines_any k tests (suc i) (suc j) left then)

  from-types : (kind types own left : ℕ) → from next (types_from kind types own left) ≡ from_types next kind types own left
  unfolding from from_types lines_then
  from-types kind types own zero = refl
  from-types kind types own (suc left) = refl

  from-preds : (c : Counts) (left : ℕ) → c.left ≡ left → from next (preds_left c left) ≡ from_preds next c.kind (totals_of c) left
  unfolding from from_preds
  from-preds c zero e = refl
  from-preds c (suc left) e = refl

  from-groups : (b : Block) (own left : ℕ) → from next (groups_from b own left) ≡ groups_of next b own left
  unfolding from groups_then lines_then
  from-groups b own zero = from-preds b.counts b.counts.left refl
  from-groups b own (suc left) = refl

  from-roles : (b : Block) (own left : ℕ) → from next (roles_from b left) ≡ roles_of next b own left
  unfolding from roles_then lines_then
  from-roles b own zero = from-groups b 1 b.groups
  from-roles b own (suc left) =
      lines_any (role_line_of b.counts.kind) (λ acc v. role_tests b.counts.types b.groups (role_of b.counts.kind v)) 1 own (suc left) (groups_of next b 1 b.groups)

  -- The walk from a place asks for a line, and goes on from the next place
  pub goes : (p : Awaited) (acc : List ℕ) → is_going p ≡ true
      → from next p acc ≡ line_then next (kind_at p) (tests_at p acc) (λ v. from next (next_at p acc v)) acc
  unfolding from from_start from_types_line from_types groups_then roles_then lines_then from_preds from_end from_preds_line
  goes AtDiagram acc g = refl
  goes (AtTypes kind) acc g =
      ap (λ (w : List ℕ → Walk). line_then next types_line (λ v. []) w acc) (λ i v. sym (from-types kind (get_or v 0 0) 1 (get_or v 0 0)) i)
  goes (AtType kind types own left) acc g =
      ap (λ (w : Walk). line_then next type_line (type_tests_at own acc) (λ v. w) acc)
      (sym (from-types kind types (suc own) left) ∙ ap (λ (k : ℕ). from next (types_from kind types k left)) (sym (add-one own)))
  goes (AtPreds kind types) acc g =
      ap (λ (w : List ℕ → Walk). line_then next preds_line (λ v. []) w acc)
      (λ i v. sym (from-preds (counts_of kind types (get_or v 0 0)) (get_or v 0 0) refl) i)
  goes (AtPred c) acc g =
      ap (λ (w : List ℕ → Walk). line_then next pred_line (λ v. pred_tests c.roles c.groups (head_of v)) w acc)
      (λ i v. sym (from-roles (block_of c (length acc + length v) v) 1 (get_or v 2 0)) i)
  goes (AtRole b left) acc g =
      ap (λ (w : Walk). line_then next (role_line_of b.counts.kind) (λ v. role_tests b.counts.types b.groups (role_of b.counts.kind v)) (λ v. w) acc)
      (sym (from-roles b 2 left))
  goes (AtFreq b own left) acc g =
      ap (λ (w : Walk). line_then next freq_line (λ v. group_tests (roles_at b.counts.kind b.roles (drop b.first acc)) own (group_of v)) (λ v. w) acc)
      (sym (from-groups b (suc own) left) ∙ ap (λ (k : ℕ). from next (groups_from b k left)) (sym (add-one own)))
  goes (AtEnd c) acc g = refl
  goes (Over c) acc g = let z : ◌≡◌ {A = ℕ} 0 1 = cc in absurd (omega arith)
