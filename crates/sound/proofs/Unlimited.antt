-- In `diagram=1` K11 asks no more than K6: a role has at least one member and at most 4096, as its predicate has rows. So the validator answers as
-- without it.
use Rattle.std.specs.Prelude.{ℕ, ◌≡◌, refl, List, [], ◌∷◌, take}
use mathlib.Core.List.Memᴰ.{head as here}
use mathlib.Core.List.Memᴰ.{tail as there}
use Rattle.std.proofs.Common.{arith}
use Rattle.counting.specs.Lists.{column}
use Rattle.counting.specs.Terms.{Each}
use Rattle.counting.proofs.Laws.Members.{in_flat_map}
use Rattle.counting.proofs.Laws.Index.{at_in, of-map_from}
use Rattle.counting.proofs.Laws.Instances.{eqb_decides}
use Rattle.orm.specs.Diagram.{Predicate, Diagram, all_roles}
use Rattle.orm.specs.Population.{Population}
use Rattle.orm.specs.Constraints.{played, each_pred, K6, K11, constraints, first_broken, answer}
use Rattle.orm.specs.Meaning.{M6, M11, EachPred}
use Rattle.orm.proofs.Laws.Decided.{each-pred_decides, K6_decides, K11_decides, last-idle}
use Rattle.orm.specs.WellFormed.{PredForm, OfKind, WellFormed}
use Rattle.sound.specs.Unlimited.{Unlimited}
use Rattle.sound.proofs.Counts.{distinct-between}

pred-unlimited : (types : ℕ) (p : Predicate) (rows : List (List ℕ)) → PredForm types p → Each (OfKind 1) p.roles → M6 p rows → M11 p rows
unfolding played column
pred-unlimited types p rows f limits m x k =
    let (j, r, a, e) = of-map_from _ 0 p.roles k in
    let (fewest, most) = limits r (at_in a) refl in
    rw (e, fewest, most) (distinct-between eqb_decides _ rows 4096 (omega (arith, f.some, m.0), omega (arith, f.most, m.1)))

preds-unlimited : (types : ℕ) (ps : List Predicate) (os : List (List (List ℕ))) → Each (PredForm types) ps
    → Each (λ p. Each (OfKind 1) p.roles) ps → EachPred M6 ps os → EachPred M11 ps os
preds-unlimited types [] os f l m = tt
preds-unlimited types (p ∷ ps) [] f l m = tt
preds-unlimited types (p ∷ ps) (rows ∷ os) f l m = (
  pred-unlimited types p rows (f p (here refl)) (l p (here refl)) m.0,
  preds-unlimited types ps os (λ q k. f q (there k)) (λ q k. l q (there k)) m.1,
)

unlimited : (d : Diagram) (o : Population) → Unlimited d o
unfolding all_roles
unlimited d o w one m =
    preds-unlimited _ d.preds o.preds w.preds
    (λ p k r l e. w.limits r (in_flat_map (λ (p : Predicate). p.roles) k l) one) m

pub unlimited-answer : (d : Diagram) (o : Population) → WellFormed d → d.kind ≡ 1 → answer d o ≡ first_broken 1 (take 10 (constraints d o))
unfolding answer constraints
unlimited-answer d o w one =
    last-idle 1 (take 10 (constraints d o)) (each_pred K11 d.preds o.preds)
    (λ (k1, (k2, (k3, (k4, (k5, (k6, ks)))))). (each-pred_decides K11 K11_decides d.preds o.preds).1
    (unlimited d o w one ((each-pred_decides K6 K6_decides d.preds o.preds).0 k6)))
