-- The predicates one after another: what was noted and what the predicates left tell come to all.
use Prim.Native.Nat.{ℕ, ◌+◌, ◌-◌, ◌≤◌, ◌<◌}
use native.Mathlib.Numerals.{add-one}
use mathlib.Core.Path.{◌≡◌, refl}
use mathlib.Core.Bool.{Bool}
use mathlib.Core.List.{List}
use lib.ListN.{get_or, drop}
use Rattle.orm.specs.Constraints.{K5, K6, K9}
use Rattle.faults.specs.Faults.{unless, lowered, faults_of}
use Rattle.faults.specs.Passes.{pred_faults}
use Rattle.faults.specs.Laws.Lowest.{lowered-then}
use Rattle.table.specs.Positions.{pred_length, preds_in, type_count, pred_count, first_pred_at, diagram_of}
use Rattle.table.specs.Laws.Walks.{preds_more, preds-none}
use Rattle.columns.specs.declared.Rows.{Rows}
use Rattle.columns.specs.Differ.{rows_held}
use Rattle.blocks.specs.Places.{RowsHere}
use Rattle.blocks.specs.Blocks.{contents, pred_width, rows_in, population_at}
use Rattle.blocks.specs.Starts.{Populated, Located, starts-preds}
use Rattle.blocks.specs.Standing.{Standing, standing-start, standing-next, standing-more}
use Rattle.playing.specs.Places.{population_of, pred_at}
use Rattle.rows.specs.Tests.{Noted}
use Rattle.rows.proofs.Groups.{rows-held}

-- ---- one predicate

pub pred-told : (t s : List ℕ) (pred n : ℕ) (r : Rows) (e e₁ e₂ : List ℕ) {e₃ : List ℕ} {a b c : Bool}
    → e₁ ≡ lowered (unless a 5 n) e → e₂ ≡ lowered (unless b 6 n) e₁ → e₃ ≡ lowered (unless c 9 n) e₂
    → a ≡ K5 (pred_at t pred) (rows_held r) → b ≡ K6 (pred_at t pred) (rows_held r) → c ≡ K9 (pred_at t pred) (rows_held r)
    → Noted t s r pred n e e₃
unfolding pred_faults
pred-told t s pred n r e e₁ e₂ x y z a b c = record { is = rw (lowered-then, lowered-then, ← a, ← b, ← c, ← x, ← y) z }

-- ---- all predicates

module _ (t s starts e₀ : List ℕ) where
  -- `left` predicates are left from `pred` of the table on, the first of them with this number and its block at start k
  pub record Noting (e : List ℕ) (pred k own left : ℕ) : Type 0 where
    pub standing : Standing t s starts pred k left
    pub faults : lowered (faults_of (pred_faults (diagram_of t) (population_of t s)) own (preds_in left (drop pred t)) (rows_in (preds_in left (drop pred t)) (drop (get_or starts k 0) s))) e
        ≡ lowered (faults_of (pred_faults (diagram_of t) (population_of t s)) 1 (diagram_of t).preds (population_of t s).preds) e₀

  pub noting_start : {pred k left m : ℕ} → Populated t s → Located t s starts → pred ≡ first_pred_at t → left ≡ pred_count t
      → m ≡ type_count t → k ≡ m → Noting e₀ pred k 1 left
  unfolding diagram_of population_at
  noting_start {pred} {k} {left} j l p q e g =
      let z : drop (get_or starts (type_count t) 0) s ≡ _ = starts-preds l in
      record { standing = standing-start t s starts pred k left j l p q e g; faults = rw (p, q, g, e, z) }

  module _ (e : List ℕ) (pred k own left : ℕ) where
    pub noting_more : {e' : List ℕ} (r : Rows) {next k' own' left' : ℕ} → Noted t s r pred own e e'
        → RowsHere s (get_or starts k 0) (pred_width (pred_at t pred)) r → Noting e pred k own left → 0 < left
        → next ≡ pred + pred_length (drop pred t) → k' ≡ k + 1 → own' ≡ own + 1 → left' ≡ left - 1 → Noting e' next k' own' left'
    unfolding contents faults_of
    noting_more r n a i h q ek eo el = rw (ek, eo, el) (record {
      standing = standing-more t s starts pred k left i.standing h q refl refl;
      faults = rw (n.is, rows-held t s pred (get_or starts k 0) r a, add-one, standing-next t s starts pred k left i.standing h, ← lowered-then)
          (rw (preds_more t pred left h q) at i.faults);
    })

    pub noting_end : Noting e pred k own left → left ≤ 0 → e ≡ lowered (faults_of (pred_faults (diagram_of t) (population_of t s)) 1 (diagram_of t).preds (population_of t s).preds) e₀
    unfolding faults_of contents lowered
    noting_end i h = rw (preds-none left (drop pred t) h) at i.faults
