-- Where the blocks of cells start: a walk that writes it down, and what stands there, by the number of a type or predicate.
use Prim.Native.Nat.{ℕ, zero, suc, ◌+◌, ◌*◌, ◌-◌, ◌≤◌, ◌<◌}
use Rattle.std.proofs.Math.Numerals.{add-one}
use Rattle.std.proofs.Math.Nat.{add-zero}
use Rattle.std.proofs.Common.{arith, sym, ◌∙◌, length-append, length-drop, drop_at, drop-cons, drop-drop}
use Rattle.std.specs.Prelude.{◌≡◌, get_or, take, set}
use Rattle.std.proofs.Math.Path.{refl, ap}
use mathlib.Core.List.{List, [], ◌∷◌, ◌++◌, map}
use Rattle.std.proofs.Math.ListN.{length, drop, length-map, length-set}
use Rattle.std.proofs.lemmas.List.Edits.{sets, sets-eq}
use Rattle.std.proofs.Math.Seq.{length-sets, take-suc, take-append-le, take-append-add}
use Rattle.counting.proofs.Laws.Index.{at-get_or, at-below, below_at, at_map, at_append_left}
use Rattle.counting.specs.Index.{At}
use Rattle.orm.specs.Diagram.{ObjectType, Predicate}
use Rattle.orm.specs.Form.{type_of}
use Rattle.orm.specs.Outcome.{accepted}
use Rattle.orm.specs.Calls.{population_in}
use Rattle.table.specs.Positions.{pred_of, pred_length, preds_in, type_count, pred_count, first_pred_at, diagram_of, Walkable}
use Rattle.table.specs.Cursors.{Ahead}
use Rattle.table.specs.Valid.{Valid}
use Rattle.table.specs.Laws.Walks.{each-length, preds-length, preds_more, preds-none, ahead-start, ahead-here, ahead_more}
use Rattle.std.specs.Prelude.{Option, None}
use Rattle.blocks.specs.Blocks.{block_length, most_cells, members_at, rows_at, end_of, contents, type_width, pred_width, behind_types, population_at}
use Rattle.blocks.specs.Blocks.{extent_of, block_widths, starts_of}
use Rattle.blocks.specs.Cuts.{end_append}

-- The widths of the blocks of a table's diagram
abbrev pub widths_in : List ℕ → List ℕ
widths_in t = block_widths (diagram_of t)

-- A valid table, and cells that are cut whole
pub record Populated (t s : List ℕ) : Type 0 where
  pub valid : Valid t
  pub whole : population_in (diagram_of t) s ≡ accepted (population_at (diagram_of t) s)

-- `starts` holds where each block of the cells starts, which is where those before it end, and the end of all
pub record Located (t s starts : List ℕ) : Type 0 where
  pub first : get_or starts 0 0 ≡ 0
  pub each : (i : ℕ) → i ≤ length (widths_in t) → get_or starts i 0 ≡ end_of s (take i (widths_in t)) 0

-- ---- the blocks of a table

types-count : (t : List ℕ) → length (diagram_of t).types ≡ type_count t
unfolding diagram_of
types-count t = each-length type_of 6 (type_count t) (drop 2 t)

preds-count : (t : List ℕ) → length (diagram_of t).preds ≡ pred_count t
unfolding diagram_of
preds-count t = preds-length (pred_count t) (drop (first_pred_at t) t)

widths-count : (t : List ℕ) → length (widths_in t) ≡ type_count t + pred_count t
unfolding block_widths
widths-count t = simp (length-append, length-map, types-count t, preds-count t)

-- the type with number `i`
pub type_wide : (t : List ℕ) (i : ℕ) {n : ℕ} → n ≡ type_count t → i < n → At 1 (widths_in t) i
unfolding block_widths
type_wide t i e h = at_append_left _ (at_map type_width (below_at (diagram_of t).types i (omega (arith, types-count t))).1)

-- ---- the predicates left

-- The `n` predicates from `pred` of the table on stand there, and theirs are the blocks from that with number `k` on
pub record Pending (t : List ℕ) (pred k n : ℕ) : Type 0 where
  pub ahead : Ahead t pred n
  pub widths : drop k (widths_in t) ≡ map pred_width (preds_in n (drop pred t))

pub pending-start : (t : List ℕ) (pred k n : ℕ) {m : ℕ} → Walkable t → pred ≡ first_pred_at t → n ≡ pred_count t → m ≡ type_count t → k ≡ m → Pending t pred k n
unfolding block_widths diagram_of
pending-start t pred k n w e g f h =
    let long : length (map type_width (diagram_of t).types) ≡ k = rw length-map (omega (arith, types-count t)) in
    let behind : drop k (widths_in t) ≡ map pred_width (diagram_of t).preds = drop_at (map type_width (diagram_of t).types) _ k long in
    record { ahead = ahead-start t w e g; widths = rw (e, g) behind }

module _ {t : List ℕ} {pred k n : ℕ} (p : Pending t pred k n) (h : 0 < n) where
  -- the width of the block here, and of those behind it
  widths-here : (next : ℕ) → next ≡ pred + pred_length (drop pred t)
      → drop k (widths_in t) ≡ pred_width (pred_of (drop pred t)) ∷ map pred_width (preds_in (n - 1) (drop next t))
  widths-here next q = p.widths ∙ ap (map pred_width) (preds_more t pred n h q)

  pub pending-here : pred + pred_length (drop pred t) ≤ length t
  pending-here = ahead-here t pred n p.ahead h

  pub pending-wide : {w : ℕ} → w ≡ pred_width (pred_of (drop pred t)) → At w (widths_in t) k
  pending-wide e =
      let here = widths-here (pred + pred_length (drop pred t)) refl in
      let there : k < length (widths_in t) = omega (arith, length-drop k (widths_in t), ap length here) in
      let m = below_at (widths_in t) k there in
      let q : m.0 ≡ pred_width (pred_of (drop pred t)) = cc (drop-cons (widths_in t) k 0 there, here, at-get_or 0 m.1) in
      rw (e, ← q) m.1

  pub pending-more : {next : ℕ} → next ≡ pred + pred_length (drop pred t) → Pending t next (k + 1) (n - 1)
  pending-more {next} q =
      record { ahead = ahead_more t pred n p.ahead h q; widths = sym (drop-drop 1 k (widths_in t)) ∙ ap (drop 1) (widths-here next q) }

-- the same, up to block number `end`
module _ {t : List ℕ} {pred k : ℕ} (end : ℕ) (p : Pending t pred k (end - k)) (h : k < end) where
  pub next-inside : pred + pred_length (drop pred t) ≤ length t
  next-inside = pending-here p (omega arith)

  pub next-wide : {w : ℕ} → w ≡ pred_width (pred_of (drop pred t)) → At w (widths_in t) k
  next-wide = pending-wide p (omega arith)

  pub pending-next : {next : ℕ} → next ≡ pred + pred_length (drop pred t) → Pending t next (k + 1) (end - (k + 1))
  pending-next q = let e : end - (k + 1) ≡ end - k - 1 = omega arith in rw e (pending-more p (omega arith) q)

-- ---- the walk

-- A walk from block `k₀` at `at₀` has come to block `k` at `at`: the starts left come to the same list, and the end is the same
pub record Walk (t s starts₀ : List ℕ) (k₀ at₀ : ℕ) (starts : List ℕ) (k at : ℕ) : Type 0 where
  pub long : length starts ≡ 65
  pub near : at ≤ k * most_cells
  pub end : end_of s (drop k (widths_in t)) at ≡ end_of s (drop k₀ (widths_in t)) at₀
  pub rest : sets starts k (starts_of s (drop k (widths_in t)) at) ≡ sets starts₀ k₀ (starts_of s (drop k₀ (widths_in t)) at₀)

pub walk_start : (t s starts : List ℕ) (k at : ℕ) → length starts ≡ 65 → at ≤ k * most_cells → Walk t s starts k at starts k at
walk_start t s starts k at h n = record { long = h; near = n; end = refl; rest = refl }

module _ {t s starts₀ : List ℕ} {k₀ at₀ : ℕ} {starts : List ℕ} {k at : ℕ} (i : Walk t s starts₀ k₀ at₀ starts k at) where
  pub walk_more : {w next : ℕ} → next ≡ at + block_length w (drop at s) → next ≤ at + most_cells → At w (widths_in t) k
      → Walk t s starts₀ k₀ at₀ (set starts k at) (k + 1) next
  unfolding end_of starts_of
  walk_more {w} {next} q b h =
      let here : drop k (widths_in t) ≡ w ∷ drop (k + 1) (widths_in t) =
      rw add-one (rw (at-get_or 0 h) at (drop-cons (widths_in t) k 0 (at-below h))) in
      record {
        long = length-set starts k at ∙ i.long;
        near = omega arith;
        end = rw q (rw here at i.end);
        rest = rw (q, add-one k) (rw (here, add-one) at i.rest);
      }

  -- those of all types
  pub walk-types : {n : ℕ} → n ≡ type_count t → n ≤ k → k ≤ n → Walk t s starts₀ k₀ at₀ starts (type_count t) at
  walk-types e h l = let q : type_count t ≡ k = omega arith in rw q i

  -- another walk, from there
  pub walk_on : {m n : ℕ} → m ≡ k → n ≡ m → Walk t s starts k at starts n at
  walk_on e f = rw (f, e) (walk_start t s starts k at i.long i.near)

-- the types' blocks and then the predicates', of which none is left
module _ {t s starts₀ starts₁ starts : List ℕ} {at₁ k at pred n : ℕ} (p : Pending t pred k n) (h : n ≤ 0)
    (j : Walk t s starts₁ (type_count t) at₁ starts k at) (i : Walk t s starts₀ 0 0 starts₁ (type_count t) at₁) where
  none : drop k (widths_in t) ≡ []
  none = p.widths ∙ rw (preds-none n (drop pred t) h)

  pub all-ended : at ≡ end_of s (widths_in t) 0
  unfolding end_of
  all-ended = (rw none at j.end) ∙ i.end

  pub all-written : set starts k at ≡ sets starts₀ 0 (starts_of s (widths_in t) 0)
  unfolding starts_of
  all-written = (rw none at j.rest) ∙ i.rest

  pub all-long : length (set starts k at) ≡ length starts₀
  all-long = ap length all-written ∙ length-sets starts₀ 0 (starts_of s (widths_in t) 0)

-- ---- cells that are cut

module _ (s : List ℕ) where
  starts-each : (ws rest : List ℕ) (at i : ℕ) → i ≤ length ws → get_or (starts_of s ws at ++ rest) i 0 ≡ end_of s (take i ws) at
  unfolding starts_of end_of
  starts-each [] rest at zero h = refl
  starts-each [] rest at (suc i) h = absurd (omega arith)
  starts-each (w ∷ ws) rest at zero h = refl
  starts-each (w ∷ ws) rest at (suc i) h = starts-each ws rest (at + block_length w (drop at s)) i (omega arith)

  length-starts : (ws : List ℕ) (at : ℕ) → length (starts_of s ws at) ≡ suc (length ws)
  unfolding starts_of
  length-starts [] at = refl
  length-starts (w ∷ ws) at = ap suc (length-starts ws (at + block_length w (drop at s)))

module _ (t s : List ℕ) {r : Option ℕ} (v : Valid t) (p : population_in (diagram_of t) s ≡ extent_of (population_at (diagram_of t) s) r) (q : r ≡ None) where
  pub populated : Populated t s
  populated = record { valid = v; whole = p ∙ ap (extent_of (population_at (diagram_of t) s)) q }

pub located : (t s : List ℕ) (v : Walkable t) (old : List ℕ) {starts : List ℕ} → starts ≡ sets old 0 (starts_of s (widths_in t) 0) → length old ≡ 65
    → Located t s starts
unfolding end_of
located t s v old e h =
    let long = length-starts s (widths_in t) 0 in
    let few : 0 + length (starts_of s (widths_in t) 0) ≤ length old = omega (arith, widths-count t) in
    rw (e, sets-eq (starts_of s (widths_in t) 0) old 0 few)
    (record { first = starts-each s (widths_in t) _ 0 0 (omega arith); each = starts-each s (widths_in t) _ 0 })

-- ---- what stands at a start

-- the content of the block with a number
module _ (s : List ℕ) {X A : Type 0} (width : X → ℕ) (content : X → List ℕ → A) (x : X) (a : A) where
  content-at : (xs : List X) (at i : ℕ) → i < length xs
      → content (get_or xs i x) (drop (end_of s (take i (map width xs)) at) s) ≡ get_or (contents width content xs (drop at s)) i a
  unfolding contents end_of
  content-at [] at i h = absurd (omega arith)
  content-at (y ∷ ys) at zero h = refl
  content-at (y ∷ ys) at (suc i) h = rw (drop-drop _ at s) (content-at ys (at + block_length (width y) (drop at s)) i (omega arith))

module _ {t s starts : List ℕ} (l : Located t s starts) where
  -- the next block starts where this one ends
  pub block-next : (i w : ℕ) → At w (widths_in t) i
      → drop (get_or starts (i + 1) 0) s ≡ drop (block_length w (drop (get_or starts i 0) s)) (drop (get_or starts i 0) s)
  unfolding end_of
  block-next i w m =
      let h : i < length (widths_in t) = at-below m in
      rw (drop-drop, add-one, l.each (suc i) h, take-suc (widths_in t) i 0 h, end_append, at-get_or 0 m, l.each i (omega arith))

  pub type-next : (i : ℕ) → i < type_count t → drop (get_or starts (i + 1) 0) s ≡ drop (block_length 1 (drop (get_or starts i 0) s)) (drop (get_or starts i 0) s)
  type-next i h = block-next i 1 (type_wide t i refl h)

  -- the block of the type with a number
  pub type-block : (i : ℕ) → i < length (diagram_of t).types → members_at (drop (get_or starts i 0) s) ≡ get_or (population_at (diagram_of t) s).types i []
  unfolding population_at block_widths
  type-block i h =
      let k : i ≤ length (map type_width (diagram_of t).types) = rw length-map (omega arith) in
      rw (l.each i (omega (arith, widths-count t, types-count t)), take-append-le i (map type_width (diagram_of t).types) _ k)
      (content-at s type_width (λ (o : ObjectType). members_at) (type_of []) [] (diagram_of t).types 0 i h)

  start-pred : (i : ℕ) → i ≤ length (diagram_of t).preds
      → get_or starts (length (diagram_of t).types + i) 0 ≡ end_of s (take i (map pred_width (diagram_of t).preds)) (end_of s (map type_width (diagram_of t).types) 0)
  unfolding block_widths
  start-pred i h =
      l.each (length (diagram_of t).types + i) (omega (arith, widths-count t, types-count t, preds-count t))
      ∙ rw (← length-map (diagram_of t).types type_width, take-append-add, end_append)

  -- the block of the predicate with a number
  pub pred-block : (i : ℕ) (p : Predicate) → i < length (diagram_of t).preds
      → rows_at (pred_width (get_or (diagram_of t).preds i p)) (drop (get_or starts (length (diagram_of t).types + i) 0) s) ≡ get_or (population_at (diagram_of t) s).preds i []
  unfolding population_at behind_types
  pred-block i p h =
      rw (start-pred i (omega arith))
      (content-at s pred_width (λ (q : Predicate). rows_at (pred_width q)) p [] (diagram_of t).preds _ i h)

  -- the predicates' blocks stand behind the types'
  pub starts-preds : drop (get_or starts (type_count t) 0) s ≡ behind_types (diagram_of t) s
  unfolding behind_types end_of
  starts-preds = rw (← types-count t, ← add-zero (length (diagram_of t).types), start-pred 0 (omega arith))
