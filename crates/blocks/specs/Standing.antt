-- Predicates of a valid table whose blocks are there whole, by positions.
use Rattle.std.specs.Prelude.{ℕ, ◌+◌, ◌*◌, ◌-◌, ◌≤◌, ◌<◌, ◌≡◌, refl, List, length, get_or, drop}
use Rattle.std.proofs.Common.{arith, ◌∙◌, length-drop}
use Rattle.counting.specs.Terms.{Each, Each2}
use Rattle.counting.proofs.Laws.Members.{each-head, each_tail}
use Rattle.orm.specs.Diagram.{Predicate}
use Rattle.orm.specs.Meaning.{Rows}
use Rattle.orm.proofs.Laws.Cells.{population_in-iff}
use Rattle.table.specs.Positions.{pred_of, pred_length, preds_in, type_count, pred_count, first_pred_at, diagram_of}
use Rattle.table.specs.Laws.Walks.{preds_more}
use Rattle.table.specs.Laws.Valid.{valid-walkable}
use Rattle.columns.specs.Reached.{Reached}
use Rattle.columns.specs.Reach.{wide_room}
use Rattle.blocks.specs.Blocks.{block_length, contents, pred_width, rows_at, rows_in, population_at}
use Rattle.blocks.specs.Starts.{Populated, Located, Pending, pending-start, pending-here, pending-wide, pending-more, block-next, starts-preds}
use Rattle.blocks.specs.Places.{ColumnHere}

-- The predicate at `pred` of the table is there and has few roles, and its rows at `at` of the cells have a cell for each
pub record PredHere (t s : List ℕ) (pred at : ℕ) : Type 0 where
  pub inside : pred + pred_length (drop pred t) ≤ length t
  pub few : pred_width (pred_of (drop pred t)) ≤ 6
  pub wide : Each (λ (row : List ℕ). length row ≡ pred_width (pred_of (drop pred t))) (rows_at (pred_width (pred_of (drop pred t))) (drop at s))

-- So are the `n` predicates from `pred` of the table on, with their rows in the blocks from that with number `k` on
pub record Standing (t s starts : List ℕ) (pred k n : ℕ) : Type 0 where
  pub located : Located t s starts
  pub pending : Pending t pred k n
  pub few : Each (λ (p : Predicate). pred_width p ≤ 6) (preds_in n (drop pred t))
  pub wide : Each2 Rows (preds_in n (drop pred t)) (rows_in (preds_in n (drop pred t)) (drop (get_or starts k 0) s))

-- ---- the columns of such a predicate are there

pub column-reached : (t s : List ℕ) (pred at : ℕ) {start step count w : ℕ} → PredHere t s pred at → w ≡ pred_width (pred_of (drop pred t))
    → ColumnHere s at w start step count → Reached s start step count
column-reached t s pred at {start} {step} {count} {w} here e h =
    let few : w ≤ 6 = rw e here.few in
    let room : get_or (drop at s) 0 0 * pred_width (pred_of (drop pred t)) ≤ length (drop 1 (drop at s)) = wide_room _ _ _ here.wide in
    let size : count * step ≡ get_or (drop at s) 0 0 * pred_width (pred_of (drop pred t)) = rw (h.count, h.step, e) in
    record { apart = omega arith; narrow = omega arith; reach = omega (arith, length-drop 1 (drop at s), length-drop at s) }

-- ---- the predicates left have few roles and whole rows

module _ (t s starts : List ℕ) (pred k n : ℕ) (st : Standing t s starts pred k n) (h : 0 < n) where
  pub standing-inside : pred + pred_length (drop pred t) ≤ length t
  standing-inside = pending-here st.pending h

  pub standing_here : {at : ℕ} → at ≡ get_or starts k 0 → PredHere t s pred at
  unfolding contents
  standing_here e =
      let wide = rw (preds_more t pred n h refl) at st.wide in
      record {
        inside = standing-inside;
        few = each-head (λ (p : Predicate). pred_width p ≤ 6) (rw (preds_more t pred n h refl) at st.few);
        wide = rw e wide.0;
      }

  -- the next block starts where this one ends
  pub standing-next : drop (get_or starts (k + 1) 0) s
      ≡ drop (block_length (pred_width (pred_of (drop pred t))) (drop (get_or starts k 0) s)) (drop (get_or starts k 0) s)
  standing-next = block-next st.located k _ (pending-wide st.pending h refl)

  pub standing-more : {next k' n' : ℕ} → next ≡ pred + pred_length (drop pred t) → k' ≡ k + 1 → n' ≡ n - 1 → Standing t s starts next k' n'
  unfolding contents
  standing-more q e f =
      let wide = rw (preds_more t pred n h q) at st.wide in
      rw (e, f) (record {
        located = st.located;
        pending = pending-more st.pending h q;
        few = each_tail (λ (p : Predicate). pred_width p ≤ 6) (rw (preds_more t pred n h q) at st.few);
        wide = rw standing-next wide.1;
      })

-- `m` is the number of types, and `k` the same as an index
pub standing-start : (t s starts : List ℕ) (pred k n : ℕ) {m : ℕ} → Populated t s → Located t s starts → pred ≡ first_pred_at t → n ≡ pred_count t
    → m ≡ type_count t → k ≡ m → Standing t s starts pred k n
unfolding diagram_of population_at
standing-start t s starts pred k n j l e g q r =
    let f : k ≡ type_count t = r ∙ q in
    let shaped = ((population_in-iff (diagram_of t) s (population_at (diagram_of t) s)).0 j.whole).1 in
    let formed = j.valid.formed.preds in
    record {
      located = l;
      pending = pending-start t pred k n (valid-walkable j.valid) e g q r;
      few = rw (e, g) (λ p m. (formed p m).arity.1);
      wide = rw (e, g, f, starts-preds l) shaped.preds;
    }
