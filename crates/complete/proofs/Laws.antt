-- Whatever solution of the limits is taken for the sizes, the population made from it meets the constraints and has these sizes.
-- The way there: `Solved` says what each bound and limit means for the sizes. `Types` makes K1 to K4 of that, and `Members` numbers a role's
-- members. `Parts`: the sizes of a predicate's parts fit the tuples made from them. `Indices`: in each row a part has one tuple (by `Lookup`),
-- and every member of a role stands in some row. `Rows`: rows and values differ as their indices do, K5 to K8 and K11. `Groups`: each combination
-- stands in an even share of the rows (by `Classes` of counting), K9. `Covered`: K10. `Sizes`: each set is as large as was wanted.
use Rattle.std.specs.Prelude.{ℕ, ◌≡◌, refl, List}
use Rattle.counting.specs.Terms.{◌∈◌}
use Rattle.fixpoint.specs.Limits.{fixpoint}
use Rattle.fixpoint.proofs.Laws.Order.{≼_trans}
use Rattle.orm.specs.Diagram.{Diagram, Predicate}
use Rattle.orm.specs.Meaning.{EachPred, Meets}
use Rattle.orm.specs.Populate.{population, rows}
use Rattle.orm.specs.Sets.{Placed, placed, verdict_from}
use Rattle.orm.proofs.Laws.Rounds.{inside-laws}
use Rattle.orm.specs.Inside.{Inside}
use Rattle.orm.proofs.Laws.Shape.{population-shaped}
use Rattle.orm.specs.WellFormed.{WellFormed}
use Rattle.complete.proofs.Place.{each-pred}
use Rattle.complete.proofs.Sizes.{sizes_again}
use Rattle.complete.specs.Laws.{PopulationLaws}
use Rattle.complete.specs.Solved.{Solved}
use Rattle.complete.proofs.Types
use Rattle.complete.proofs.Rows
use Rattle.complete.proofs.Groups
use Rattle.complete.proofs.Covered

module _ (d : Diagram) (c : List ℕ) (s : Solved d c) where
  each-pred-populated : (P : Predicate → List (List ℕ) → Type 0) → ((x : Placed) → x ∈ placed d → P x.predicate (rows d c x))
      → EachPred P d.preds (population d c).preds
  unfolding population placed
  each-pred-populated P h = each-pred P (rows d c) _ _ _ d.preds h

  keeps-all : Meets d (population d c)
  keeps-all = record {
    k1 = Types.k1 s;
    k2 = Types.k2 s;
    k3 = Types.k3 s;
    k4 = Types.k4 s;
    k5 = each-pred-populated _ (λ x m. Rows.k5 s m);
    k6 = each-pred-populated _ (λ x m. Rows.k6 s m);
    k7 = each-pred-populated _ (λ x m. Rows.k7 s m);
    k8 = each-pred-populated _ (λ x m. Rows.k8 s m);
    k9 = each-pred-populated _ (λ x m. Groups.k9 s m);
    k10 = Types.each-type-populated s _ (λ a t h. Covered.k10 s h);
    k11 = each-pred-populated _ (λ x m. Rows.k11 s m);
  }

  -- Whatever solution `c` is
  pub population-laws : PopulationLaws d c
  population-laws = record {
    valid = record { population = population d c; shaped = population-shaped d c; cells_of = refl; meets = keeps-all };
    exact = sizes_again s;
  }

-- The sizes that rounds from bounds inside the diagram's own end with are a solution
pub fixpoint-solved : {d : Diagram} {low high : List ℕ} {n : ℕ} {c : List ℕ} → WellFormed d → Inside d low high
    → verdict_from d low high ≡ fixpoint n c → Solved d c
unfolding verdict_from
fixpoint-solved {n = n} {c = c} form i e =
    let (above, g) = ((inside-laws i).fixpoint_iff c).0 (n, e) in
    record {
      form = form;
      above = ≼_trans i.lower_≼ above;
      below = ≼_trans g.solution.under i.≼_upper;
      satisfied = g.solution.limits;
    }
