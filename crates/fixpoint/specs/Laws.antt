-- The laws of rounds, of `run` and of limits put to use in any order, over every list of limits. `Notions.antt` says what their words mean.
use Rattle.std.specs.Prelude.{ℕ, ◌≤◌, ◌<◌, ◌≡◌, ◌↔◌, true, false, List, map, length, get_or}
use Rattle.counting.specs.Lists.{up_from}
use Rattle.counting.specs.Totals.{sum_over}
use Rattle.counting.specs.Terms.{Each}
use Rattle.fixpoint.specs.Limits.{Limit, Expr, value_of, round, upper_after, unsatisfiable, fixpoint, run, step_at, lowers_at, any_lowers, steps_by}
use Rattle.fixpoint.specs.Notions.{◌≼◌, Satisfies, Solution, GreatestSolution, Unsatisfiable, Fixpoint, EndsUnsatisfiable, EndsFixpoint, Lowers, LowersTo, EachLowers, Stable, ComesBack}

pub record RoundLaws (ls : List Limit) : Type 0 where
  pub value_monotone : {a b : List ℕ} → a ≼ b → (e : Expr) → value_of a e ≤ value_of b e
  pub monotone : {a b : List ℕ} → a ≼ b → round ls a ≼ round ls b
  -- The length stays, and no entry is raised
  pub lowers : (c : List ℕ) → round ls c ≼ c
  -- Entry `s` becomes the greatest number that the old entry and each limit on `s` allow
  pub exact : (c : List ℕ) (s v : ℕ) → (v ≤ get_or (round ls c) s 0) ↔ ((v ≤ get_or c s 0) × Each (λ l. l.target ≡ s → v ≤ value_of c l.most) ls)
  -- Nothing is lowered just where each limit is satisfied
  pub same : (c : List ℕ) → (round ls c ≡ c) ↔ Satisfies ls c
  -- No round loses a solution
  pub sound : (start x : List ℕ) → Solution ls start x → (n : ℕ) → x ≼ upper_after ls start n

pub record RunLaws (ls : List Limit) (lower start : List ℕ) : Type 0 where
  pub at_unsatisfiable : {s n : ℕ} → run ls lower start ≡ unsatisfiable s n → Unsatisfiable ls lower start s n
  pub at_fixpoint : {n : ℕ} {c : List ℕ} → run ls lower start ≡ fixpoint n c → Fixpoint ls lower start n c
  -- `unsatisfiable` just where no solution is above the lower bounds
  pub unsatisfiable_iff : EndsUnsatisfiable ls lower start ↔ ((x : List ℕ) → Solution ls start x → ¬ (lower ≼ x))
  -- `fixpoint` just where the greatest solution is above the lower bounds, and with that solution
  pub fixpoint_iff : (c : List ℕ) → EndsFixpoint ls lower start c ↔ ((lower ≼ c) × GreatestSolution ls start c)

-- Limits put to use one at a time, by their numbers: a sequence of limits that each lower an entry comes to an end, and wherever no limit lowers any
-- the same stands, the greatest solution
pub record AnyOrderLaws (ls : List Limit) (start : List ℕ) : Type 0 where
  -- What the tests say, and what a limit does that lowers an entry
  pub says : (k : ℕ) (c : List ℕ) → (lowers_at ls k c ≡ true) ↔ Lowers ls k c
  pub idle : (k : ℕ) (c : List ℕ) → lowers_at ls k c ≡ false → step_at ls k c ≡ c
  pub none_lowers : (c : List ℕ) → (any_lowers ls c ≡ false) ↔ Stable ls c
  pub lowers_to : (k : ℕ) (c : List ℕ) → Lowers ls k c → LowersTo ls k c
  -- No sequence of such limits is longer than the sum of the entries; some sequence of them comes to its end; and so does, whether each of its limits
  -- lowers an entry or not, every sequence without end that comes back to each limit
  pub finite : (ks : List ℕ) → EachLowers ls ks start → length ks ≤ sum_over (λ x. x) start
  pub exist : (ks : List ℕ) × EachLowers ls ks start × Stable ls (steps_by ls ks start)
  pub reaches : (choice : ℕ → ℕ) → ComesBack (length ls) choice → (n : ℕ) × Stable ls (steps_by ls (map choice (up_from 0 n)) start)
  -- Every end is the same, and says how `run` ends
  pub greatest : (ks : List ℕ) → Stable ls (steps_by ls ks start) → GreatestSolution ls start (steps_by ls ks start)
  pub unique : (ks js : List ℕ) → Stable ls (steps_by ls ks start) → Stable ls (steps_by ls js start) → steps_by ls ks start ≡ steps_by ls js start
  pub unsatisfiable_iff : (ks : List ℕ) → Stable ls (steps_by ls ks start) → (lower : List ℕ) → length lower ≡ length start
      → EndsUnsatisfiable ls lower start ↔ ((i : ℕ) × (get_or (steps_by ls ks start) i 0 < get_or lower i 0))
  pub fixpoint_iff : (ks : List ℕ) → Stable ls (steps_by ls ks start) → (lower : List ℕ) → length lower ≡ length start
      → (c : List ℕ) → EndsFixpoint ls lower start c ↔ ((c ≡ steps_by ls ks start) × (lower ≼ steps_by ls ks start))
