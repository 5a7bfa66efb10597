-- Faults, the lowest number for each constraint in a list, and the first constraint with one.
use Rattle.std.specs.Prelude.{ℕ, zero, suc, Bool, true, false, ◌||◌, List, [], ◌∷◌, ◌++◌, eqb, ltb, get_or, set, replicate}
use Rattle.orm.specs.Constraints.{Answer, valid, breaks}
use Rattle.faults.specs.declared.Verdict.{Verdict}
use Rattle.faults.specs.declared.Verdict.TheVariants as verdicts

-- A constraint and the number of a type or predicate that breaks it
pub record Fault : Type 0 where
  pub constraint : ℕ
  pub number : ℕ

-- The fault, unless the constraint is kept
unfoldable pub unless : Bool → ℕ → ℕ → List Fault
unless true k n = []
unless false k n = record { constraint = k; number = n } ∷ []

-- Faults that are told only where a test holds
unfoldable pub given : Bool → List Fault → List Fault
given true fs = fs
given false fs = []

-- The faults of each element of two lists, with its number
module _ {X A : Type 0} (of : ℕ → X → A → List Fault) where
  unfoldable pub faults_of : ℕ → List X → List A → List Fault
  faults_of n [] os = []
  faults_of n (x ∷ xs) [] = []
  faults_of n (x ∷ xs) (a ∷ os) = of n x a ++ faults_of (suc n) xs os

-- A number is lower than an entry; 0 is no entry
unfoldable pub is_lower : ℕ → ℕ → Bool
is_lower n m = eqb m 0 || ltb n m

-- The entry of the constraint becomes the number, if that is lower
unfoldable pub noted : Fault → List ℕ → List ℕ
noted f e = elim (is_lower f.number (get_or e f.constraint 0)) [ true ↦ set e f.constraint f.number | false ↦ e ]

-- The entries after some faults
unfoldable pub lowered : List Fault → List ℕ → List ℕ
lowered [] e = e
lowered (f ∷ fs) e = lowered fs (noted f e)

-- No entries yet: one for each constraint, counted from 0, of which there is none
abbrev pub no_entries : List ℕ
no_entries = replicate 12 0

-- The first of the `n` constraints from k on that has an entry
unfoldable pub first_entry : ℕ → ℕ → List ℕ → Answer
first_entry k zero e = valid
first_entry k (suc n) e = elim (eqb (get_or e k 0) 0) [ true ↦ first_entry (suc k) n e | false ↦ breaks k (get_or e k 0) ]

abbrev pub answer_of : Verdict → Answer
answer_of verdicts.Valid = valid
answer_of (verdicts.Breaks constraint number) = breaks constraint number
