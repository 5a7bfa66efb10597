-- Cells are cut by where their blocks end: behind the last cell they end early, before it they run on.
use Rattle.std.specs.Prelude.{ℕ, zero, suc, ◌+◌, ◌*◌, ◌-◌, ◌≤◌, ◌<◌, ◌≡◌, Bool, true, false, leb, length, get_or, take, drop}
use Rattle.std.proofs.Common.{mul-one, suc-mul, add_comm, zero-add, suc-add, ◌∙◌, length-drop, drop_of_length-le, take-append-drop, drop-cons, drop-drop, take-take, length-take-le, leb-true, leb-false}
use native.Mathlib.Omega.{arith}
use Rattle.std.proofs.Math.Path.{refl, ap}
use mathlib.Core.List.{List, [], ◌∷◌, ◌++◌, map}
use Rattle.std.proofs.Math.Seq.{take-nil}
use Rattle.orm.specs.Diagram.{Diagram}
use Rattle.orm.specs.Reader.{Reading, rejected, read, Reader, ◌>>=◌, pure, for_each, at_end, broken, cut, exactly}
use Rattle.orm.specs.Population.{Block, block, rows_of, type_block, pred_block, blocks, cutting}
use Rattle.orm.proofs.Laws.Readers.{bind_read, bind_rejected, exactly_append}
use Rattle.orm.specs.Outcome.{outcome_of}
use Rattle.orm.specs.Calls.{population_in}
use Rattle.std.specs.Prelude.{Some, None}
use Rattle.blocks.specs.Blocks.{block_length, end_of, contents, type_width, pred_width, behind_types, population_at, block_widths, extent_of}

-- ---- one block

exactly-fits : (s : List ℕ) (n : ℕ) → n ≤ length s → exactly s n ≡ cut (take n s) (drop n s)
exactly-fits s n h = cc (exactly_append (take n s) (drop n s), take-append-drop n s, length-take-le n s h)

exactly-short : (s : List ℕ) (n : ℕ) → length s < n → exactly s n ≡ broken
unfolding exactly
exactly-short [] zero h = absurd (omega arith)
exactly-short [] (suc n) h = refl
exactly-short (x ∷ s) zero h = absurd (omega arith)
exactly-short (x ∷ s) (suc n) h = rw (exactly-short s n (omega arith), exactly)

-- The block that starts here
abbrev block_at : ℕ → List ℕ → Block
block_at w s = record { size = get_or s 0 0; content = take (get_or s 0 0 * w) (drop 1 s) }

block-short : (w n : ℕ) (s : List ℕ) → length s < block_length w s → block w n s ≡ rejected 9 (n + length s)
unfolding block
block-short w n [] h = ap (rejected 9) (omega arith)
block-short w n (k ∷ s) h = rw (exactly-short s (k * w) (omega arith), block)

block-whole : (w n : ℕ) (s : List ℕ) → block_length w s ≤ length s
    → block w n s ≡ read (block_at w s) (n + block_length w s) (drop (block_length w s) s)
unfolding block
block-whole w n [] h = absurd (omega arith)
block-whole w n (k ∷ s) h = rw (exactly-fits s (k * w) (omega arith), block)

rows_of-take : (k w : ℕ) (s : List ℕ) → rows_of k w (take (k * w) s) ≡ rows_of k w s
unfolding rows_of
rows_of-take zero w s = refl
rows_of-take (suc k) w s =
    let h : w ≤ w + k * w = omega arith in
    rw (suc-mul, add_comm (k * w) w, take-take w (w + k * w) s h, drop-take-add w (k * w) s, rows_of-take k w (drop w s))
  where
    drop-take-add : (a b : ℕ) (l : List ℕ) → drop a (take (a + b) l) ≡ take b (drop a l)
    drop-take-add zero b l = rw zero-add
    drop-take-add (suc a) b [] = simp take-nil
    drop-take-add (suc a) b (x ∷ l) = rw suc-add (drop-take-add a b l)

-- ---- readers that follow one another

-- What a reader answers that ends at `e`: `q` where that is among the cells; else they are refused at their count
record Reads {A : Type 0} (s : List ℕ) (q : Reading A) (e : ℕ) (r : Reading A) : Type 0 where
  whole : e ≤ length s → r ≡ q
  short : length s < e → r ≡ rejected 9 (length s)

-- `a` is read, from there up to `e`
abbrev Takes : {A : Type 0} → List ℕ → A → ℕ → Reading A → Type 0
Takes s a e r = Reads s (read a e (drop e s)) e r

module _ (s : List ℕ) where
  reads_here : {A : Type 0} {q r : Reading A} {e : ℕ} → r ≡ q → e ≤ length s → Reads s q e r
  reads_here p h = record { whole = λ _. p; short = λ k. absurd (omega arith) }

  reads_bind : {A B : Type 0} (m : Reader A) (f : A → Reader B) {n e to : ℕ} {l : List ℕ} {a : A} {q : Reading B} → Takes s a e (m n l)
      → e ≤ to → (e ≤ length s → Reads s q to (f a e (drop e s))) → Reads s q to ((m >>= f) n l)
  reads_bind m f {n} {e} {to} {l} {a} r h next =
      record {
        whole = λ k. bind_read m f n l a e (drop e s) (r.whole (omega arith)) ∙ (next (omega arith)).whole k;
        short = go (leb e (length s)) refl;
      }
    where
      go : (t : Bool) → leb e (length s) ≡ t → length s < to → (m >>= f) n l ≡ rejected 9 (length s)
      go true p k = let i : e ≤ length s = leb-true _ _ p in bind_read m f n l a e (drop e s) (r.whole i) ∙ (next i).short k
      go false p k = bind_rejected m f (r.short (leb-false _ _ p))

  -- a block of which `f` is read
  block_reads : {A : Type 0} (w at : ℕ) (f : Block → A) {a : A} → f (block_at w (drop at s)) ≡ a → at ≤ length s
      → Takes s a (at + block_length w (drop at s)) ((block w >>= λ b. pure (f b)) at (drop at s))
  block_reads w at f p h =
      let long : length (drop at s) ≡ length s - at = length-drop at s in
      reads_bind (block w) (λ b. pure (f b)) {a = block_at w (drop at s)}
      (record {
        whole = λ k. block-whole w at (drop at s) (omega arith) ∙ simp drop-drop;
        short = λ k. block-short w at (drop at s) (omega arith) ∙ ap (rejected 9) (omega arith);
      })
      (omega arith) (reads_here (rw p))

  end_later : (ws : List ℕ) (at : ℕ) → at ≤ end_of s ws at
  unfolding end_of
  end_later [] at = omega arith
  end_later (w ∷ ws) at = omega (arith, end_later ws (at + block_length w (drop at s)))

  module _ {X A : Type 0} (f : X → Reader A) (width : X → ℕ) (content : X → List ℕ → A)
      (each : (x : X) (at : ℕ) → at ≤ length s → Takes s (content x (drop at s)) (at + block_length (width x) (drop at s)) (f x at (drop at s))) where
    for_each-reads : (xs : List X) (at : ℕ) → at ≤ length s
        → Takes s (contents width content xs (drop at s)) (end_of s (map width xs) at) (for_each f xs at (drop at s))
    unfolding contents end_of for_each
    for_each-reads [] at h = reads_here refl h
    for_each-reads (x ∷ xs) at h =
        reads_bind (f x) _ (each x at h) (end_later (map width xs) _) λ k.
        reads_bind (for_each f xs) _ (for_each-reads xs _ k) (omega arith) (reads_here (rw drop-drop))

  pub end_append : (ws vs : List ℕ) (at : ℕ) → end_of s (ws ++ vs) at ≡ end_of s vs (end_of s ws at)
  unfolding end_of
  end_append [] vs at = refl
  end_append (w ∷ ws) vs at = end_append ws vs (at + block_length w (drop at s))

module _ (d : Diagram) (s : List ℕ) {to : ℕ} (e : to ≡ end_of s (block_widths d) 0) where
  all_read : Reads s ((at_end 9 >>= λ (end : Unit {0}). pure (population_at d s)) to (drop to s)) to (cutting d s)
  unfolding cutting blocks type_block pred_block population_at behind_types block_widths
  all_read =
      rw (e, end_append s (map type_width d.types) (map pred_width d.preds) 0)
      (reads_bind s (for_each type_block d.types) _
      (for_each-reads s type_block type_width _ (λ t at. block_reads s 1 at (λ b. b.content) (rw mul-one)) d.types 0 (omega arith))
      (end_later s _ _) λ h.
      reads_bind s (for_each pred_block d.preds) _
      (for_each-reads s pred_block pred_width _
      (λ p at. block_reads s (pred_width p) at (λ b. rows_of b.size (pred_width p) b.content) (rows_of-take _ _ _)) d.preds _ h)
      (omega arith) (reads_here s refl))

  pub cells-surplus : to < length s → population_in d s ≡ extent_of (population_at d s) (Some to)
  unfolding population_in outcome_of at_end
  cells-surplus l = ap outcome_of (rw (drop-cons s to 0 l, at_end) at (all_read.whole (omega arith)))

  pub cells-short : length s < to → population_in d s ≡ extent_of (population_at d s) (Some (length s))
  unfolding population_in outcome_of
  cells-short l = ap outcome_of (all_read.short l)

  pub cells_whole : length s ≤ to → to ≤ length s → population_in d s ≡ extent_of (population_at d s) None
  unfolding population_in outcome_of at_end
  cells_whole l k = ap outcome_of (rw (drop_of_length-le s l, at_end) at (all_read.whole k))
