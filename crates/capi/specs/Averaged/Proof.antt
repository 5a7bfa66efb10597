-- The proof of S-14 on running code: from the contract, by `guarantee: averages`; and that 7 is told precisely where there is no population.
use Rattle.std.specs.Prelude.{ℕ, suc, ◌≡◌, refl, ◌↔◌, List, [], ◌∷◌, Float}
use Rattle.std.proofs.Math.Decide.{ℕ_discrete}
use Rattle.std.proofs.Common.{arith, ap, subst, ◌∙◌, ⊎_elim}
use Rattle.std.proofs.Math.Path.{sym}
use Rattle.std.proofs.Math.Option.{Option, none, some}
use Rattle.counting.specs.Terms.{◌∈◌}
use Rattle.orm.specs.Diagram.{Diagram}
use Rattle.orm.specs.Outcome.{Outcome, refused, accepted}
use Rattle.orm.specs.Average.{PlacedGroup, placed_groups, group_numbered, Average, whole, fraction, average_of, average_call}
use Rattle.orm.proofs.Laws.Average.{numbered-one, numbered-none}
use Rattle.guarantee.specs.Guarantee.{NoPopulation, Populated}
use Rattle.guarantee.specs.Averages.{Says, Averaged, AverageIn}
use Rattle.guarantee.proofs.Averages.Proof.{averages}
use Rattle.populate.specs.Demand3.{TableOf}
use Rattle.populate.specs.Tied.{table-accepted}
use Rattle.capi.specs.Answers.{average_numbers, float_after}
use Rattle.capi.specs.Accepted.{same-diagram}
use Rattle.capi.specs.Ended.Laws.{table_or_fault}
use Rattle.capi.specs.Ended.{Divided, HasAveraged, RefusedWith}
use Rattle.capi.specs.Averaged as told
use Rattle.capi.specs.Averaged.{GroupOf, AverageTold}

module _ (t : List ℕ) (number : ℕ) {four : List ℕ} {before after : Float} (has : HasAveraged t number four before after) where
  divided : {o : Outcome Average} → average_call t number ≡ o → Divided o four before after
  divided e = subst (λ (o : Outcome Average). Divided o four before after) e has

  refused-with : {fault line : ℕ} → average_call t number ≡ refused fault line 0 → RefusedWith fault line four before after
  unfolding average_numbers float_after
  refused-with e = let w = divided e in record { answer = w.answer; kept = w.float }

  -- ---- the number of a group

  module _ (of : GroupOf t number) where
    abbrev d : Diagram
    d = of.table.diagram

    in_one : AverageIn t d of.group
    in_one = averages.of_table t d (table-accepted of.table) of.group of.among

    called : average_call t number ≡ average_call t (suc of.group.own)
    called = ap (average_call t) of.numbered

    is-emptied : {place round : ℕ} → average_call t number ≡ refused 7 place round → AverageTold t number four before after
    unfolding average_numbers float_after
    is-emptied {place} {round} e =
        let own : average_call t (suc of.group.own) ≡ refused 7 place round = sym called ∙ e in
        let w : Divided (refused 7 place round) four before after = divided e in
        told.emptied
        (record {
          of = of;
          none = in_one.refuses.0 (place, round, own);
          set = place;
          round = round;
          at = in_one.set_and_round place round own;
          answer = w.answer;
          kept = w.float;
        })

    is-averaged : Averaged t d of.group → AverageTold t number four before after
    unfolding average_numbers float_after
    is-averaged a = go (average_of a.r a.q) (divided (called ∙ a.gives)) a.says
      where
        go : (v : Average) → Divided (accepted v) four before after → Says v a.r a.q → AverageTold t number four before after
        go (whole n) w says = told.wholly (record { of = of; averaged = a; times = n; evenly = says; answer = w.answer; kept = w.float })
        go (fraction x) w says = told.nearly (record { of = of; averaged = a; rounded = rw w.float says; answer = w.answer })

    -- it is refused with 7 or accepted
    of_group : AverageTold t number four before after
    of_group = go (average_call t number) refl
      where
        accepts : ((place round : ℕ) → ¬ (average_call t number ≡ refused 7 place round)) → AverageTold t number four before after
        accepts never = is-averaged (in_one.otherwise (λ no_one. let (place, round, q) = in_one.refuses.1 no_one in never place round (called ∙ q)))

        go : (o : Outcome Average) → average_call t number ≡ o → AverageTold t number four before after
        go (refused c place round) e = by (ℕ_discrete c 7)
          where
            by : Dec (c ≡ 7) → AverageTold t number four before after
            by (yes q) = is-emptied (e ∙ ap (λ (n : ℕ). refused n place round) q)
            by (no n) = accepts (λ p k q. n (cc))
        go (accepted v) e = accepts (λ place round q. let z : ◌≡◌ {A = ℕ} 0 1 = cc in omega arith)

  -- ---- any number, any table

  of_table : TableOf t → AverageTold t number four before after
  of_table x = go (group_numbered number (placed_groups x.diagram)) refl
    where
      go : (o : Option PlacedGroup) → group_numbered number (placed_groups x.diagram) ≡ o → AverageTold t number four before after
      go (some g) e =
          let (among, numbered) = numbered-one number (placed_groups x.diagram) e in
          of_group (record { table = x; group = g; among = among; numbered = numbered })
      go none e =
          let no_one = numbered-none number (placed_groups x.diagram) e in
          told.no_group
          (record { of = x; none = no_one; refused = refused-with (averages.other_numbers t x.diagram (table-accepted x) number no_one) })

  pub average_told : AverageTold t number four before after
  average_told =
      ⊎_elim of_table told.faulty
      (table_or_fault (λ space. average_call t number) 0 (λ no_one. averages.other_tables t no_one number) (λ fault line e. refused-with e))

abbrev pub Seven : List ℕ → Type 0
Seven four = (set : ℕ) × (round : ℕ) × (four ≡ 7 ∷ set ∷ round ∷ 0 ∷ [])

-- 'then 7': of a group, precisely where the diagram has no population
pub seven-iff : {t : List ℕ} {number : ℕ} {four : List ℕ} {before after : Float} (x : GroupOf t number) → AverageTold t number four before after
    → Seven four ↔ NoPopulation x.table.diagram
seven-iff {t} {number} {four} {before} {after} x = go
  where
    other : {n : ℕ} {place round length : ℕ} → four ≡ n ∷ place ∷ round ∷ length ∷ [] → ¬ (n ≡ 7) → ¬ Seven four
    other e n (set, round, q) = n (cc)

    some_one : (y : TableOf t) → Populated t y.diagram → ¬ NoPopulation x.table.diagram
    some_one y p no_one = subst NoPopulation (same-diagram x.table y) no_one _ p.cells_meet

    go : AverageTold t number four before after → Seven four ↔ NoPopulation x.table.diagram
    go (told.wholly w) =
        (λ e. absurd (other w.answer (λ q. omega arith) e), λ no_one. absurd (some_one w.of.table w.averaged.populated no_one))
    go (told.nearly w) =
        (λ e. absurd (other w.answer (λ q. omega arith) e), λ no_one. absurd (some_one w.of.table w.averaged.populated no_one))
    go (told.emptied w) = (λ _. subst NoPopulation (same-diagram w.of.table x.table) w.none, λ _. (w.set, w.round, w.answer))
    go (told.no_group n) =
        absurd
        (n.none x.group (subst (λ (d : Diagram). x.group ∈ placed_groups d) (same-diagram x.table n.of) x.among) x.numbered)
    go (told.faulty f) = absurd (f.none x.table)
