-- How many members are met in a column, and what that tells of the column.
use Rattle.std.specs.Prelude.{Result, Ok, Err, ℕ, ◌+◌, ◌≤◌, ◌<◌, ◌≡◌, refl, Bool, true, false, List, ◌∷◌, ◌++◌, eqb, length, get_or, replicate}
use Rattle.std.proofs.Common.{arith, sym, ap, ◌∙◌, eq-eqb, eqb-true}
use Rattle.std.proofs.lemmas.Bool.{false≢true}
use Rattle.std.proofs.lemmas.List.{length-replicate, get_or-replicate}
use Rattle.counting.specs.Terms.{◌∈◌, ◌⊆◌, NoRepeats}
use Rattle.counting.specs.Distinct.{member, distinct, within}
use Rattle.counting.proofs.Laws.Members.{⊆_trans, cons_⊆, no_repeats_le}
use Rattle.counting.proofs.Laws.Distinct.{bool_ext, member_decides, within_decides, distinct_⊆, distinct_no_repeats}
use Rattle.counting.proofs.Laws.Instances.{eqb_decides}
use Rattle.counting.proofs.Laws.Sizes.{no_repeats_eq_distinct}
use Rattle.sorting.specs.Rising.{Rising}
use Rattle.sorting.proofs.Rising.{rising_no_repeats}
use Rattle.lookup.specs.declared.Met.{Met}
use Rattle.lookup.specs.Stamps.{stamped_if, among, all_met, Marked, met-then, among-all}

-- The members rise, there is a mark for each, and no stamp from k on was used; 0 is no stamp
pub record Fresh (ws ms : List ℕ) (k : ℕ) : Type 0 where
  pub marked : Marked ws ms
  pub some : 0 < k
  pub below : (i : ℕ) → i < length ms → get_or ms i 0 < k

-- The values `vs` were looked up among the members `ws` with stamp k: each mark then, whether all are members, and how many members were met
pub record Looking (ws ms₀ : List ℕ) (k : ℕ) (vs ms : List ℕ) (met : Met) : Type 0 where
  pub marked : Marked ws ms
  pub mark : (i : ℕ) → i < length ws → get_or ms i 0 ≡ stamped_if (member eqb (get_or ws i 0) vs) k (get_or ms₀ i 0)
  pub all : met.all ≡ within eqb vs ws
  pub count : met.count ≡ length (distinct eqb (among ws vs))

-- x is looked up too
pub record Next (ws : List ℕ) (k x : ℕ) (ms : List ℕ) (met : Met) (ms' : List ℕ) (met' : Met) : Type 0 where
  pub looked : (ms₀ vs : List ℕ) → Fresh ws ms₀ k → Looking ws ms₀ k vs ms met → Looking ws ms₀ k (x ∷ vs) ms' met'

-- How many members are met: as many as there are different values where all values are members, else as there are different members among them
abbrev pub members_met : List ℕ → List ℕ → Result ℕ ℕ
members_met ws vs = elim (within eqb vs ws) [ true ↦ Ok (length (distinct eqb vs)) | false ↦ Err (length (distinct eqb (among ws vs))) ]

-- All are looked up
pub record Looked (ws ms₀ : List ℕ) (k : ℕ) (vs ms : List ℕ) (r : Result ℕ ℕ) : Type 0 where
  pub marked : Marked ws ms
  pub mark : (i : ℕ) → i < length ws → get_or ms i 0 ≡ stamped_if (member eqb (get_or ws i 0) vs) k (get_or ms₀ i 0)
  pub met : r ≡ members_met ws vs

module _ {ws ms₀ : List ℕ} {k : ℕ} {vs ms : List ℕ} {met : Met} (l : Looking ws ms₀ k vs ms met) where
  pub looked-inside : met.all ≡ true → Looked ws ms₀ k vs ms (Ok met.count)
  looked-inside e =
      let q : within eqb vs ws ≡ true = sym l.all ∙ e in
      record { marked = l.marked; mark = l.mark; met = rw (members_met, q, l.count, among-all ws vs q) }

  pub looked-outside : met.all ≡ false → Looked ws ms₀ k vs ms (Err met.count)
  looked-outside e =
      let q : within eqb vs ws ≡ false = sym l.all ∙ e in
      record { marked = l.marked; mark = l.mark; met = rw (members_met, q, l.count) }

-- What that tells: how many members are met; whether every member is among values that all are members; which members are met then; and
-- the next stamp
pub record Meets (ws vs ms : List ℕ) (k : ℕ) (ms' : List ℕ) (r : Result ℕ ℕ) : Type 0 where
  pub met : r ≡ members_met ws vs
  pub fills : within eqb vs ws ≡ true → eqb (length (distinct eqb vs)) (length ws) ≡ within eqb ws vs
  pub marks : (us : List ℕ) → all_met ws ms' us ≡ all_met ws ms (vs ++ us)
  pub fresh : Fresh ws ms' (k + 1)

-- A higher stamp was not used either
pub fresh-later : {ws ms : List ℕ} {k : ℕ} (j : ℕ) → Fresh ws ms k → k ≤ j → Fresh ws ms j
fresh-later j f h = record { marked = f.marked; some = omega (arith, f.some); below = λ i l. omega (arith, f.below i l) }

-- No stamp was used yet
pub fresh_start : (ws ms : List ℕ) → Rising ws → ms ≡ replicate (length ws) 0 → Fresh ws ms 1
fresh_start ws ms r e = record {
  marked = record { rising = r; long = ap length e ∙ length-replicate (length ws) 0 };
  some = omega arith;
  below = rw (e, length-replicate) (λ i l. omega (arith, get_or-replicate {A = ℕ} (length ws) i 0 0 l));
}

-- ---- what the count tells

-- Of members that differ, and values that are members: every member is a value just if there are as many
module _ (ws vs : List ℕ) (n : NoRepeats ws) (s : vs ⊆ ws) where
  every : length (distinct eqb vs) ≡ length ws → ws ⊆ vs
  every e a m = go (member eqb a vs) refl
    where
      go : (b : Bool) → member eqb a vs ≡ b → a ∈ vs
      go true q = (member_decides eqb_decides a vs).0 q
      go false q =
          let new : ¬ (a ∈ distinct eqb vs) = λ j. false≢true (sym q ∙ (member_decides eqb_decides a vs).1 (distinct_⊆ eqb_decides vs a j)) in
          let one_more = (cons_⊆ a (distinct eqb vs) ws).0 (m, ⊆_trans (distinct_⊆ eqb_decides vs) s) in
          absurd (omega (arith, no_repeats_le (a ∷ distinct eqb vs) ws (new, distinct_no_repeats eqb_decides vs) one_more))

  as_many : eqb (length (distinct eqb vs)) (length ws) ≡ within eqb ws vs
  as_many = bool_ext _ _ (
    λ e. (within_decides eqb_decides ws vs).1 (every (eqb-true _ _ e)),
    λ e. eq-eqb _ _ (sym (no_repeats_eq_distinct eqb_decides ws vs n ((within_decides eqb_decides ws vs).0 e) s)),
  )

pub meets : {ws ms vs ms' : List ℕ} {k : ℕ} {met : Result ℕ ℕ} → Fresh ws ms k → Looked ws ms k vs ms' met → Meets ws vs ms k ms' met
meets {ws} {ms} {vs} {ms'} {k} {met} f l = record {
  met = l.met;
  fills = λ h. as_many ws vs (rising_no_repeats ws f.marked.rising) ((within_decides eqb_decides vs ws).0 h);
  marks = λ us. met-then k ws ms ms' vs us f.some f.marked.long l.marked.long l.mark;
  fresh = record { some = omega arith; marked = l.marked; below = λ i h. below i (omega (arith, l.marked.long)) };
}
  where
    below : (i : ℕ) → i < length ws → get_or ms' i 0 < k + 1
    below i h = rw (l.mark i h) (go (member eqb (get_or ws i 0) vs))
      where
        go : (b : Bool) → stamped_if b k (get_or ms i 0) < k + 1
        go true = omega arith
        go false = omega (arith, f.below i (omega (arith, f.marked.long)))
