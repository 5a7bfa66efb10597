-- What the functions answer, in the words of Limits.antt.
use Rattle.std.specs.Prelude.{ℕ, zero, suc, ◌≤◌, ◌≡◌, List, ◌++◌, length, take, drop, nat_lt, find, slice_index, Option, Some, None, Result, Ok, Err}
use Rattle.std.proofs.Math.Option as lowest
use Rattle.std.proofs.Math.Option.{none, some}
use Rattle.fixpoint.specs.Limits.{Limit, Verdict, unsatisfiable, fixpoint, first_below, round, upper_after, run}
use Rattle.buffer.specs.Written.{WroteAll}
use Rattle.lowering.specs.Coded.{limits_of}
use Rattle.lowering.specs.Closed.{Closed}
use Rattle.lowering.specs.declared.Limits.{Limits}
use Rattle.dependents.specs.Dependents.{Due, differing, links, operand_count}
use Rattle.dependents.specs.declared.Links.{Links}
use Rattle.rounds.specs.declared.Progress.{Progress}
use Rattle.rounds.specs.declared.Progress.TheVariants.{Emptied, Settled, Going}
use Rattle.rounds.specs.declared.Emptied as refusal
use Rattle.rounds.specs.declared.Rounds.{Rounds}

abbrev pub lowest_of : lowest.Option ℕ → Option ℕ
lowest_of (some i) = Some i
lowest_of none = None

-- The end of a round that emptied this set, or none, and lowered so many
abbrev pub step_from : Option ℕ → ℕ → Progress
step_from (Some s) k = Emptied s
step_from None zero = Settled
step_from None (suc k) = Going (suc k)

-- The sets that a round on the upper bounds c lowers
abbrev pub lowered_in : List Limit → List ℕ → List ℕ
lowered_in ls c = differing 0 c (round ls c)

-- What a round on the upper bounds c comes to
unfoldable pub step_of : List Limit → List ℕ → List ℕ → Progress
step_of ls lower c = step_from (lowest_of (first_below 0 lower (round ls c))) (length (lowered_in ls c))

-- A set that is emptied, and the round
abbrev pub emptied : ℕ → ℕ → refusal.Emptied
emptied s n = record { set = s; round = n }

abbrev pub outcome_of : Verdict → Result ℕ refusal.Emptied
outcome_of (unsatisfiable s n) = Err (emptied s n)
outcome_of (fixpoint n c) = Ok n

-- How many rounds were made
abbrev pub rounds_of : Verdict → ℕ
rounds_of (unsatisfiable s n) = n
rounds_of (fixpoint n c) = n

-- What the list of lowered sets holds after n rounds: those of each round were written to its front
unfoldable pub listed_after : List Limit → List ℕ → List ℕ → ℕ → List ℕ
listed_after ls start changed zero = changed
listed_after ls start changed (suc n) =
    let sets : List ℕ = lowered_in ls (upper_after ls start n) in
    sets ++ drop (length sets) (listed_after ls start changed n)

-- Scratch that a first round overwrites by x
abbrev pub scratch_after : ℕ → List ℕ → List ℕ → List ℕ
scratch_after zero before x = before
scratch_after (suc n) before x = x

-- Each list is still the slice that was lent
pub record SameSlices (old new : Rounds) : Type 0 where
  pub upper : new.upper.ghost_name ≡ old.upper.ghost_name
  pub next : new.next.ghost_name ≡ old.next.ghost_name
  pub changed : new.changed.ghost_name ≡ old.changed.ghost_name

pub record SameLinks (old new : Links) : Type 0 where
  pub last : new.last.ghost_name ≡ old.last.ghost_name
  pub uses : new.uses.ghost_name ≡ old.uses.ghost_name

-- The operands are linked; no operand names a set past the others, and `last` holds 0 there
pub record Linked_in (ls : List Limit) (old new : Links) : Type 0 where
  pub last : new.last.now ≡ (links (length old.last.now) old.uses.now ls).last
  pub uses : new.uses.now ≡ (links (length old.last.now) old.uses.now ls).uses.items

-- They are as they were
pub record Kept (old new : Links) : Type 0 where
  pub last : new.last.now ≡ old.last.now
  pub uses : new.uses.now ≡ old.uses.now

-- The operands are linked behind the first round, if another follows
abbrev pub LinksAfter : ℕ → List Limit → Links → Links → Type 0
LinksAfter zero ls old new = Kept old new
LinksAfter (suc n) ls old new = Linked_in ls old new

-- Behind round n the operands are linked, if it is the first
pub record Relinked (n : ℕ) (l : Limits) (old new : Links) : Type 0 where
  pub slices : SameLinks old new
  pub made : n ≡ 1 → Linked_in (limits_of l) old new
  pub kept : (n ≡ 1 → ⊥) → Kept old new

-- The outcome where the rounds ended at a set, or at none
abbrev pub end_of : Option ℕ → ℕ → Result ℕ refusal.Emptied
end_of (Some s) n = Err (emptied s n)
end_of None n = Ok n

-- The first of these sets whose upper bound is below its lower bound
abbrev pub first_in : List ℕ → List ℕ → List ℕ → Option ℕ
first_in lower c ss = find (λ s. nat_lt (slice_index c s) (slice_index lower s)) ss

-- What a run starts from: limits that are whole, as many lower as upper bounds, at most 208, the upper ones small
pub record Bounds (l : Limits) (lower upper : List ℕ) : Type 0 where
  pub closed : Closed (length upper) l
  pub paired : length lower ≡ length upper
  pub few : length upper ≤ 208
  pub small : (s : ℕ) → slice_index upper s ≤ 4096

-- Scratch for a round, and for the links
pub record Scratch (l : Limits) (r : Rounds) (k : Links) : Type 0 where
  pub next_room : length r.upper.now ≡ length r.next.now
  pub changed_room : length r.upper.now ≤ length r.changed.now
  pub last_room : length r.upper.now ≤ length k.last.now
  pub uses_room : operand_count (limits_of l) ≤ length k.uses.now

-- What any round starts from
pub record Standing (l : Limits) (lower : List ℕ) (r : Rounds) : Type 0 where
  pub closed : Closed (length r.upper.now) l
  pub paired : length lower ≡ length r.upper.now
  pub next_room : length r.upper.now ≡ length r.next.now
  pub changed_room : length r.upper.now ≤ length r.changed.now

-- What a round by the links starts from besides: the last round lowered the first `count` sets of the list, and none is below its lower bound
pub record Later (l : Limits) (lower : List ℕ) (k : Links) (r : Rounds) (count : ℕ) : Type 0 where
  pub due : Due (limits_of l) k.last.now k.uses.now (take count r.changed.now) r.upper.now
  pub within : count ≤ length r.changed.now
  pub same : r.next.now ≡ r.upper.now
  pub above : first_below 0 lower r.upper.now ≡ none

-- So does round n, unless it is the first
pub record Continued (n : ℕ) (l : Limits) (lower : List ℕ) (k : Links) (r : Rounds) (count : ℕ) : Type 0 where
  pub later : (n ≡ 1 → ⊥) → Later l lower k r count

-- A round came to p: the new upper bounds stand in both lists, and those lowered at the front of the third
pub record Advanced (l : Limits) (lower : List ℕ) (old : Rounds) (p : Progress) (new : Rounds) : Type 0 where
  pub slices : SameSlices old new
  pub came : p ≡ step_of (limits_of l) lower old.upper.now
  pub stands : new.upper.now ≡ round (limits_of l) old.upper.now
  pub same : new.next.now ≡ round (limits_of l) old.upper.now
  pub listed : WroteAll old.changed.now (lowered_in (limits_of l) old.upper.now) new.changed.now (length (lowered_in (limits_of l) old.upper.now))

-- The rounds have ended with this outcome
pub record Ended (l : Limits) (lower : List ℕ) (old : Rounds) (links₀ : Links) (r : Result ℕ refusal.Emptied) (new : Rounds) (links' : Links) : Type 0 where
  pub count : ℕ
  pub counted : rounds_of (run (limits_of l) lower old.upper.now) ≡ suc count
  pub slices : SameSlices old new
  pub links : SameLinks links₀ links'
  pub outcome : r ≡ outcome_of (run (limits_of l) lower old.upper.now)
  pub stands : new.upper.now ≡ upper_after (limits_of l) old.upper.now (suc count)
  pub same : new.next.now ≡ upper_after (limits_of l) old.upper.now (suc count)
  pub listed : new.changed.now ≡ listed_after (limits_of l) old.upper.now old.changed.now (suc count)
  pub linked : LinksAfter count (limits_of l) links₀ links'
