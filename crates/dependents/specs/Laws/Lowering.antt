-- A round in the making: limits put to use one after another, until those that a changed set has as an operand have been.
use Rattle.std.specs.Prelude.{ℕ, ◌≤◌, ◌<◌, ◌≡◌, refl, ◌⊎◌, List, length, slice_index}
use Rattle.std.proofs.Common.{sym, ap, subst, ◌∙◌, inl, inr, le_refl, le_trans, arith}
use Rattle.std.proofs.Math.Path.{subst⁻¹}
use Rattle.counting.specs.Terms.{◌∈◌}
use Rattle.fixpoint.specs.Limits.{Limit, value_of, lowered, round}
use Rattle.fixpoint.specs.Notions.{◌≼◌}
use Rattle.fixpoint.proofs.Laws.Order.{≼_refl, ≼_trans, ≼_antisym}
use Rattle.fixpoint.proofs.Laws.Round.{le_lowered, le_round, round_≼, round-target}
use Rattle.lowering.specs.Closed.{operands_of}
use Rattle.lowering.specs.Laws.Lowered.{length-lowered, lowered-below}
use Rattle.dependents.specs.declared.Use.{Use}
use Rattle.dependents.specs.Dependents.{Lowering, Done, Served, Due}
use Rattle.dependents.specs.Laws.Values.{Differs, value_or}
use Rattle.dependents.specs.Laws.Differing.{Listed, differing-lists}

-- a limit put to use
module _ (old new : List ℕ) (l : Limit) {new' : List ℕ} (e : new' ≡ lowered old l new) where
  pub lowered_≼ : new' ≼ new
  lowered_≼ = rw e (record { sized = length-lowered old new l; entry = lowered-below old new l })

  pub lowering-more : {ls : List Limit} → l ∈ ls → Lowering ls old new → Lowering ls old new'
  lowering-more {ls} i w = record {
    above = rw e (record {
      sized = w.above.sized ∙ sym (length-lowered old new l);
      entry = λ j. (le_lowered old l new j (slice_index (round ls old) j)).1 (
        w.above.entry j,
        λ q. subst (λ (t : ℕ). slice_index (round ls old) t ≤ value_of old l.most) q (round-target ls old l i),
      );
    });
    below = ≼_trans lowered_≼ w.below;
  }

  pub lowered-done : Done old new' l
  lowered-done = rw e (record { is = ((le_lowered old l new l.target _).0 (le_refl _)).1 refl })

-- what is allowed stays so
pub done-since : {old new new' : List ℕ} {l : Limit} → new' ≼ new → Done old new l → Done old new' l
done-since {l = l} w d = record { is = le_trans (w.entry l.target) d.is }

module _ {ls : List Limit} {old : List ℕ} where
  pub lowering-start : {new : List ℕ} → new ≡ old → Lowering ls old new
  lowering-start e = rw e (record { above = round_≼ ls old; below = ≼_refl old })

  pub served-since : {new new' : List ℕ} {s : ℕ} → new' ≼ new → Served ls old new s → Served ls old new' s
  served-since w d = record { at = λ l i m. done-since w (d.at l i m) }

-- where the limits of every changed set have been put to use the round is made
module _ {ls : List Limit} {last : List ℕ} {uses : List Use} {sets old new : List ℕ} (d : Due ls last uses sets old) (w : Lowering ls old new)
    (served : (j : ℕ) → j < length sets → Served ls old new (slice_index sets j)) where
  allowed : (l : Limit) → l ∈ ls → slice_index new l.target ≤ value_of old l.most
  allowed l m = split (value_or d.before old l.most)
    where
      split : (value_of d.before l.most ≡ value_of old l.most) ⊎ Differs d.before old (operands_of l.most) → slice_index new l.target ≤ value_of old l.most
      split (inl e) =
          let made : slice_index old l.target ≤ value_of d.before l.most =
          subst⁻¹ (λ (c : List ℕ). slice_index c l.target ≤ value_of d.before l.most) d.made (round-target ls d.before l m) in
          omega (arith, w.below.entry l.target)
      split (inr q) = found (differing-lists d.before old (ap length d.made ∙ (round_≼ ls d.before).sized) q.operand q.apart)
        where
          found : Listed d.before old q.operand → slice_index new l.target ≤ value_of old l.most
          found f =
              let at : slice_index sets f.place ≡ q.operand = ap (λ (ss : List ℕ). slice_index ss f.place) d.listed ∙ f.is in
              ((served f.place (rw d.listed f.within)).at l m (subst⁻¹ (λ (s : ℕ). s ∈ operands_of l.most) at q.has)).is

  pub due-round : new ≡ round ls old
  due-round =
      ≼_antisym
      (record {
        sized = w.below.sized ∙ sym (round_≼ ls old).sized;
        entry = λ i. (le_round ls old i (slice_index new i)).1 (w.below.entry i, λ l m e. rw (← e) (allowed l m));
      })
      w.above
