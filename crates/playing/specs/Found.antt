-- What the roles that a type plays tell of it: of one role, of some, and of those of all predicates.
use Rattle.std.specs.Prelude.{ℕ, ◌≡◌, Result, Ok, Err, true, false, not, ◌&&◌, eqb}
use mathlib.Core.List.{List, [], ◌++◌, map, flatten}
use Rattle.counting.specs.Distinct.{all}
use Rattle.orm.specs.Diagram.{Role, is_mandatory}
use Rattle.orm.specs.Form.{◌to◌, in_range}
use Rattle.orm.specs.Constraints.{Played, values_in_roles, all_played}
use Rattle.faults.specs.Faults.{Fault, unless, lowered, faults_of}
use Rattle.faults.specs.Passes.{role_faults, roles_faults}
use Rattle.table.specs.Positions.{diagram_of}
use Rattle.lookup.specs.Stamps.{all_met, is_set}
use Rattle.lookup.specs.Counts.{Fresh}
use Rattle.playing.specs.Places.{population_of}

-- A role with the values in its column
abbrev pub played_as : Role → List ℕ → Played
played_as r vs = record { role = r; values = vs }

-- K7, K8 and K11 of a role of the predicate with the number n, by how many of the `size` members of its type were met, and whether all values are members
unfoldable pub told_by : Role → Result ℕ ℕ → ℕ → ℕ → List Fault
told_by r (Err count) size n = unless false 7 n
told_by r (Ok count) size n =
    unless true 7 n ++ (unless (not (is_mandatory r && not (eqb count size))) 8 n ++ unless (in_range (r.rmin to r.rmax) count) 11 n)

-- The faults fs noted in the entries e, and the values vs met by the marks ms of the members `ws`, come to what all the faults fs₀ and all the
-- values vs₀ make of e₀ and ms₀; no stamp from k on was used
pub record Left (ws : List ℕ) (fs₀ : List Fault) (vs₀ ms₀ e₀ : List ℕ) (fs : List Fault) (vs ms e : List ℕ) (k : ℕ) : Type 0 where
  pub faults : lowered fs e ≡ lowered fs₀ e₀
  pub met : (us : List ℕ) → all_met ws ms (vs ++ us) ≡ all_met ws ms₀ (vs₀ ++ us)
  pub fresh : Fresh ws ms k

-- The roles xs of the predicate with the number n, of which those count that the type with this number plays: of them nothing is left
pub record Heard (number : ℕ) (ws : List ℕ) (n : ℕ) (xs : List Played) (ms e ms' e' : List ℕ) (k : ℕ) : Type 0 where
  pub all : Left ws (flatten (map (role_faults number ws n) xs)) (values_in_roles number xs) ms e [] [] ms' e' k

-- The faults of the roles that the type with this number and the members `ws` plays are noted, and the members in such a role are marked
pub record Found (t s : List ℕ) (number : ℕ) (ws ms e ms' e' : List ℕ) : Type 0 where
  pub faults : e' ≡ lowered (faults_of (roles_faults number ws) 1 (diagram_of t).preds (population_of t s).preds) e
  pub met : all is_set ms' ≡ all_met ws ms (values_in_roles number (all_played (diagram_of t) (population_of t s)))
