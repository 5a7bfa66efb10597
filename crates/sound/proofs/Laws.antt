-- The rounds are sound: the sizes of every population that meets the constraints of a well-formed diagram satisfy the diagram's limits, so that no
-- round brings an upper bound below them.
use Rattle.std.specs.Prelude.{ℕ, ◌≤◌, List}
use Rattle.std.proofs.Math.Nat.{zero-add}
use Rattle.counting.specs.Terms.{Each}
use Rattle.counting.proofs.Laws.Members.{each_append, of-flat_map}
use Rattle.counting.proofs.Laws.Index.{of-flatten-map_from}
use Rattle.fixpoint.specs.Notions.{◌≼◌, Holds, Satisfies, Solution}
use Rattle.fixpoint.proofs.Laws.{round-laws}
use Rattle.orm.specs.Diagram.{Diagram}
use Rattle.orm.specs.Sets.{upper, limits, limits_of_pred, limits_of_type, placed, upper_after_rounds, verdict_from}
use Rattle.orm.specs.Population.{Population}
use Rattle.orm.specs.Constraints.{sizes}
use Rattle.orm.specs.Meaning.{Meets, Shaped, ValidPopulation}
use Rattle.orm.specs.WellFormed.{WellFormed}
use Rattle.orm.proofs.Laws.Rounds.{inside-laws}
use Rattle.sound.specs.Laws.{SizesLaws}
use Rattle.sound.proofs.Positions.{predicate-found}
use Rattle.sound.proofs.Bounds.{lower_≼, ≼_upper}
use Rattle.sound.proofs.PredicateLimits.{predicate-limits}
use Rattle.sound.proofs.TypeLimits.{type-limits}
use Rattle.sound.proofs.Small.{population-small}

module _ (d : Diagram) (o : Population) (form : WellFormed d) (shaped : Shaped d o) (meets : Meets d o) where
  limits-satisfied : Satisfies (limits d) (sizes d o)
  unfolding limits
  limits-satisfied = each_append (Holds (sizes d o)) _ _
      (λ l m. let r = of-flat_map limits_of_pred (placed d) m in predicate-limits d o form shaped meets r.0 (predicate-found d o shaped r.1) l
      r.2)
      (λ l m. let r = of-flatten-map_from (limits_of_type d) 0 d.types m in type-limits d o form shaped meets r.2 l (rw zero-add at r.3))

  solution : Solution (limits d) (upper d) (sizes d o)
  solution = record { under = ≼_upper d o form shaped meets; limits = limits-satisfied }

  after : (n : ℕ) → sizes d o ≼ upper_after_rounds d n
  unfolding upper_after_rounds
  after n = (round-laws (limits d)).sound (upper d) (sizes d o) solution n

  -- Every population of the diagram's shape that meets the constraints
  pub sizes-laws : SizesLaws d (sizes d o)
  unfolding verdict_from upper_after_rounds
  sizes-laws = record {
    above = lower_≼ d o form shaped meets;
    solution = solution;
    rounds = after;
    satisfiable = λ i a b {s} {n} e. (inside-laws i).unsatisfiable_iff.0 (s, n, e) (sizes d o) (record { under = b; limits = limits-satisfied }) a;
    under_fixpoint = λ i b {n} {c} e. (((inside-laws i).fixpoint_iff c).0 (n, e)).1.greatest (sizes d o) (record { under = b; limits = limits-satisfied });
  }

-- Every list of cells that is a valid population of the diagram
module _ (d : Diagram) (form : WellFormed d) (s : List ℕ) (v : ValidPopulation d s) where
  pub valid-laws : SizesLaws d (sizes d v.population)
  valid-laws = sizes-laws d v.population form v.shaped v.meets

  pub valid-small : Each (◌≤ 999999) s
  valid-small = rw v.cells_of (population-small d v.population form v.shaped v.meets)
