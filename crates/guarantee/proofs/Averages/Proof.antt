-- The proof of S-14: the sizes that the rounds end with respect the limits of every group.
use Rattle.std.specs.Prelude.{ℕ, suc, ◌*◌, ◌/◌, ◌%◌, ◌≤◌, Bool, true, false, List, eqb}
use Rattle.std.proofs.Math.Path.{◌≡◌, refl, ap}
use Rattle.std.proofs.Common.{sym, ◌∙◌, le-div_iff_mul-le, mul_comm, arith, eqb-true}
use Rattle.std.proofs.Math.Nat.{mul-mod_left, mod-add-div'}
use Rattle.std.proofs.lemmas.Bool.{eqb-false}
use Rattle.std.specs.Float.{binary64}
use Rattle.std.specs.Float.Ieee.{round}
use Rattle.counting.specs.Terms.{◌∈◌}
use Rattle.counting.proofs.Laws.Index.{of-map_from, each-from-at}
use Rattle.counting.proofs.Laws.Members.{each-get_or, of-flat_map}
use Rattle.counting.proofs.Laws.Quotients.{rounds-once, rounded-number}
use Rattle.fixpoint.specs.Limits.{Verdict, unsatisfiable, fixpoint}
use Rattle.orm.specs.Diagram.{Diagram}
use Rattle.orm.specs.Text.{table_line}
use Rattle.orm.specs.Sets.{placed, upper, verdict, verdict_from}
use Rattle.orm.specs.Populate.{size}
use Rattle.orm.specs.Outcome.{Outcome, refused, accepted, ◌>>=◌, Sized}
use Rattle.orm.specs.Calls.{diagram_in, sizes_by, sizes_of, check_call}
use Rattle.orm.specs.Average.{PlacedGroup, groups_of_placed, placed_groups, group_in, Average, whole, fraction, float_quotient, average_of, average_call}
use Rattle.orm.specs.WellFormed.{GroupForm, WellFormed}
use Rattle.orm.proofs.Laws.Average.{no_number, numbers-are, frequencies-are, numbered-placed, is-group, no_group}
use Rattle.orm.proofs.Laws.Bounds.{upper-small}
use Rattle.orm.proofs.Laws.Rounds.{own-bounds}
use Rattle.reading.specs.Laws.{table-accepted-iff}
use Rattle.complete.proofs.Laws.{fixpoint-solved}
use Rattle.complete.specs.Solved.{Solved}
use Rattle.complete.proofs.Solved.{group-set, pred-form, group-positive, group-most, group-least}
use Rattle.guarantee.specs.Guarantee.{NoPopulation, RefusesEmptied}
use Rattle.guarantee.proofs.Inside.{none-emptied}
use Rattle.guarantee.proofs.Ends.{check-ends, settled-unsatisfiable}
use Rattle.guarantee.proofs.Guarantee.{none-fits, fault-of-form, guarantee}
use Rattle.guarantee.specs.Averages.{OwnPredicate, Says, Averaged, AverageIn, Averages}

-- ---- a group and its predicate

own-predicate : (d : Diagram) (g : PlacedGroup) → g ∈ placed_groups d → OwnPredicate d g
unfolding placed_groups groups_of_placed
own-predicate d g m =
    let (x, l, n) = of-flat_map groups_of_placed (placed d) m in
    let (k, f, at, e) = of-map_from _ x.groups x.predicate.groups n in
    rw e (record { of = x; among = l; place = k; same_group = at; same_set = sym (group-set x k); same_predicate = refl })

-- ---- the two sizes of a group

record Sizes (c : List ℕ) (g : PlacedGroup) : Type 0 where
  positive : 1 ≤ size c g.own
  least : g.frequency.fmin * size c g.own ≤ size c g.predicate
  most : size c g.predicate ≤ g.frequency.fmax * size c g.own

group-sizes : {d : Diagram} {c : List ℕ} → Solved d c → (g : PlacedGroup) → OwnPredicate d g → Sizes c g
group-sizes s g o =
    let some = (each-from-at (GroupForm o.of.predicate.roles) 1 (pred-form s o.among).groups o.same_group).some in
    rw (o.same_set, o.same_predicate)
    (record {
      positive = group-positive s o.among o.same_group;
      least = rw mul_comm ((le-div_iff_mul-le some).0 (group-least s o.among o.same_group));
      most = group-most s o.among o.same_group;
    })

-- ---- the average

says_of : (r q : ℕ) → 1 ≤ q → q ≤ 4096 → r ≤ 4096 → Says (average_of r q) r q
unfolding average_of float_quotient
says_of r q p h k = go (eqb (r % q) 0) refl
  where
    once : float_quotient r q ≡ round binary64 false r q
    once = rounds-once binary64 r q (omega arith) (omega arith) p

    go : (b : Bool) → eqb (r % q) 0 ≡ b → Says (elim b [ true ↦ whole (r / q) | false ↦ fraction (float_quotient r q) ]) r q
    go true e = omega (arith, eqb-true (r % q) 0 e, mod-add-div' r q)
    go false e = record {
      unevenly = λ n w. eqb-false (r % q) 0 e (rw w (mul-mod_left n q));
      divided = refl;
      nearest = once;
      number = λ z. rounded-number binary64 false r q (sym once ∙ z);
    }

-- ---- the call

module _ (t : List ℕ) (d : Diagram) (e : diagram_in table_line t ≡ accepted d) where
  form : WellFormed d
  form = ((table-accepted-iff t d).0 e).1

  other-number : (number : ℕ) → ((g : PlacedGroup) → g ∈ placed_groups d → ¬ (number ≡ suc g.own)) → average_call t number ≡ refused 10 number 0
  unfolding average_call
  other-number number n = rw (e, average_call, no_group d number (no_number number (placed_groups d) n)) refl

  module _ (g : PlacedGroup) (m : g ∈ placed_groups d) where
    abbrev then : Outcome Sized → Outcome Average
    then o = o >>= λ s. accepted (average_of (size s.result g.predicate) (size s.result g.own))

    in_groups : group_in d (suc g.own) ≡ accepted g
    in_groups = is-group d _ (numbered-placed d m)

    ends : average_call t (suc g.own) ≡ then (sizes_by 7 (verdict d))
    unfolding average_call sizes_of
    ends = rw (e, average_call, in_groups) refl

    -- it is refused with 7 just where the rounds end so, and the check is too
    of-refused : (v : Verdict) {place round : ℕ} → then (sizes_by 7 v) ≡ refused 7 place round → (s : ℕ) × (place ≡ suc s) × (v ≡ unsatisfiable s round)
    unfolding sizes_by
    of-refused (unsatisfiable s n) h = (s, (cc), (cc))
    of-refused (fixpoint n c) h = let z : ◌≡◌ {A = ℕ} 0 1 = cc in absurd (omega arith)

    as_check : {place round : ℕ} → average_call t (suc g.own) ≡ refused 7 place round → check_call t 0 ≡ refused 7 place round
    as_check {place} {round} h =
        let (s, p, v) = of-refused (verdict d) (sym ends ∙ h) in
        check-ends t d e 0 ∙ settled-unsatisfiable 7 (λ c. c) 0 v ∙ ap (λ (x : ℕ). refused 7 x round) (sym p)

    check : RefusesEmptied d (check_call t)
    check = (guarantee.of_table t d e).check_refuses

    emptied : NoPopulation d → (place : ℕ) × (round : ℕ) × (average_call t (suc g.own) ≡ refused 7 place round)
    unfolding verdict_from sizes_by
    emptied no_one =
        let (s, n, v) = none-emptied form (own-bounds d) ((none-fits d form).1 no_one) in
        (suc s, n, ends ∙ ap (λ w. then (sizes_by 7 w)) v)

    averaged : ¬ NoPopulation d → Averaged t d g
    unfolding verdict_from sizes_by
    averaged exists =
        let p = (guarantee.of_table t d e).otherwise exists in
        let c = p.settled in
        let v = p.settled_after.defined in
        let s = group-sizes (fixpoint-solved form (own-bounds d) v) g (own-predicate d g m) in
        let small : (k : ℕ) → size c k ≤ 4096 = λ k.
        omega (arith, p.settled_after.meaning.solution.under.entry k, each-get_or (◌≤ 4096) (upper d) 0 (upper-small d form) (omega arith) k) in
        record {
          populated = p;
          r = size c g.predicate;
          q = size c g.own;
          of_predicate = refl;
          of_group = refl;
          gives = ends ∙ ap (λ w. then (sizes_by 7 w)) v;
          says = says_of (size c g.predicate) (size c g.own) s.positive (small g.own) (small g.predicate);
          positive = s.positive;
          least = s.least;
          most = s.most;
        }

    average_in_lem : AverageIn t d g
    average_in_lem = record {
      refuses = (λ (place, round, h). (check.exactly_when 0).0 (place, round, as_check h), emptied);
      set_and_round = λ place round h. check.set_and_round 0 place round (as_check h);
      otherwise = averaged;
    }

pub averages : Averages
unfolding average_call
averages = record {
  of_table = average_in_lem;
  numbers = numbers-are;
  own_predicates = own-predicate;
  frequencies = frequencies-are;
  other_numbers = other-number;
  other_tables = λ t no_one number. fault-of-form table_line t _ no_one;
}
