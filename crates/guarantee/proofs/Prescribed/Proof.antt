-- The proof of S-1: the theorem of `Inside` at bounds that differ from the diagram's own at one set.
use Rattle.std.specs.Prelude.{ℕ, zero, suc, ◌≤◌, ◌<◌, ◌≡◌, ◌↔◌, ◌⊎◌, List, get_or}
use Rattle.std.proofs.Math.Path.{refl}
use Rattle.std.proofs.Common.{ap, sym, subst, ◌∙◌, inl, inr, le_antisymm, arith}
use Rattle.counting.proofs.Laws.Members.{get_or_in}
use Rattle.fixpoint.specs.Limits.{Verdict, unsatisfiable, fixpoint, upper_after}
use Rattle.fixpoint.specs.Notions.{◌≼◌}
use Rattle.fixpoint.proofs.Laws.Order.{≼_refl, ≼_antisym}
use Rattle.orm.specs.Diagram.{Diagram, index}
use Rattle.orm.specs.Text.{table_line}
use Rattle.orm.specs.Sets.{set_count, lower, upper, verdict_from}
use Rattle.orm.specs.Population.{cells}
use Rattle.orm.specs.Populate.{population}
use Rattle.orm.specs.Constraints.{sizes}
use Rattle.orm.specs.Outcome.{refused, accepted}
use Rattle.orm.specs.Calls.{diagram_in, settled_into}
use Rattle.orm.specs.Prescribe.{prescribe_call}
use Rattle.orm.specs.Meaning.{Between, ValidPopulation}
use Rattle.orm.specs.WellFormed.{WellFormed}
use Rattle.orm.proofs.Laws.Bounds.{lower-positive, bounds-paired, upper-sets}
use Rattle.orm.proofs.Laws.Prescribe.{above-raised, under_capped, prescribed-inside, is_set, no_set}
use Rattle.orm.proofs.Laws.Rounds.{inside-laws}
use Rattle.orm.specs.Inside.{Inside}
use Rattle.reading.specs.Laws.{table-accepted-iff}
use Rattle.sound.proofs.Laws.{valid-laws}
use Rattle.guarantee.specs.Inside.{Fits, NoneFits}
use Rattle.guarantee.proofs.Inside.{settled-greatest, some-settled}
use Rattle.guarantee.proofs.Ends.{settled-unsatisfiable, refuses-by, refuses-only, writes-made}
use Rattle.guarantee.specs.Guarantee.{Populated}
use Rattle.guarantee.proofs.Guarantee.{fault-of-form}
use Rattle.guarantee.specs.Prescribed.{Having, NoneHaving, lower_for, upper_for, Produced, PrescribedIn, Prescribed}

-- ---- the changed bounds

module _ (d : Diagram) (number wanted : ℕ) (numbered : Between 1 number (set_count d)) where
  abbrev low : List ℕ
  low = lower_for d number wanted

  abbrev high : List ℕ
  high = upper_for d number wanted

  among : index number < set_count d
  among = omega (arith, numbered.0, numbered.1)

  inside : Inside d low high
  inside = prescribed-inside d (index number) wanted among

  -- Sizes between the diagram's own bounds are between the changed ones just where that set has the wanted size
  fits_iff : (x : List ℕ) → lower d ≼ x → x ≼ upper d → Fits low high x ↔ (get_or x (index number) 0 ≡ wanted)
  fits_iff x a b = (
    λ f. le_antisymm ((under_capped d (index number) wanted among x).0 f.under).1 ((above-raised d (index number) wanted among x).0 f.above).1,
    λ e. record {
      above = (above-raised d (index number) wanted among x).1 (a, omega arith);
      under = (under_capped d (index number) wanted among x).1 (b, omega arith);
    },
  )

  module _ (form : WellFormed d) where
    having_iff : (s : List ℕ) (o : ValidPopulation d s) → Fits low high (sizes d o.population) ↔ (get_or (sizes d o.population) (index number) 0 ≡ wanted)
    having_iff s o = let l = valid-laws d form s o in fits_iff (sizes d o.population) l.above l.solution.under

    none-iff : NoneFits d low high ↔ NoneHaving d number wanted
    none-iff = (
      λ none s o. none s o.meets ((having_iff s o.meets).1 o.that_many),
      λ none s o f. none s (record { meets = o; that_many = (having_iff s o).0 f }),
    )

  -- A wanted size below the lower bound or above the upper bound leaves the set emptied at the start
  no_room : (wanted < get_or (lower d) (index number) 0) ⊎ (get_or (upper d) (index number) 0 < wanted) → ¬ (low ≼ high)
  no_room out p =
      let most = (under_capped d (index number) wanted among low).0 p in
      let least = (above-raised d (index number) wanted among low).0 (≼_refl _) in
      elim out [
        | inl l ↦ omega (arith, least.0.entry (index number), most.1)
        | inr l ↦ omega (arith, least.1, most.0.entry (index number))
      ]

-- Rounds from bounds that cross end at the start
crossed : {d : Diagram} {low high : List ℕ} → Inside d low high → ¬ (low ≼ high) → (s : ℕ) × (verdict_from d low high ≡ unsatisfiable s 0)
unfolding verdict_from upper_after
crossed {d} {low} {high} i n = go (verdict_from d low high) refl
  where
    go : (v : Verdict) → verdict_from d low high ≡ v → (s : ℕ) × (verdict_from d low high ≡ unsatisfiable s 0)
    go (unsatisfiable s zero) e = (s, e)
    go (unsatisfiable s (suc k)) e = absurd (n (((inside-laws i).at_unsatisfiable e).before 0 (omega arith)))
    go (fixpoint k c) e = absurd (n (((inside-laws i).at_fixpoint e).above 0 (omega arith)))

-- ---- the call

eleven : ¬ ◌≡◌ {A = ℕ} 11 8
eleven q = omega arith

module _ (t : List ℕ) (d : Diagram) (e : diagram_in table_line t ≡ accepted d) (number wanted : ℕ) where
  form : WellFormed d
  form = ((table-accepted-iff t d).0 e).1

  other-number : ¬ Between 1 number (set_count d) → (space : ℕ) → prescribe_call t number wanted space ≡ refused 10 number 0
  unfolding prescribe_call
  other-number n space = rw (e, prescribe_call, no_set d number n) refl

  module _ (h : Between 1 number (set_count d)) where
    ends : (space : ℕ) → prescribe_call t number wanted space
        ≡ settled_into 11 (λ c. cells (population d c)) (verdict_from d (lower_for d number wanted) (upper_for d number wanted)) space
    unfolding prescribe_call
    ends space = rw (e, prescribe_call, is_set d number h) refl

    i : Inside d (lower_for d number wanted) (upper_for d number wanted)
    i = inside d number wanted h

    produced : ¬ NoneHaving d number wanted → Produced t d number wanted
    unfolding verdict_from
    produced some =
        let (n, c, v) = some-settled form i (λ none. some ((none-iff d number wanted h form).0 none)) in
        let g = settled-greatest form i v in
        let m = g.made in
        record {
          rounds = n;
          settled = c;
          settled_after = record { defined = v; meaning = (inside-laws i).at_fixpoint v };
          writes = writes-made form i 11 eleven (prescribe_call t number wanted) _ ends v;
          cells_have = record { meets = m.valid; that_many = (having_iff d number wanted h form _ m.valid).0 (rw m.exact g.fits) };
          exact = m.exact;
          greatest = λ s o. g.greatest s o.meets ((having_iff d number wanted h form s o.meets).1 o.that_many);
        }

    left_out : (wanted < get_or (lower d) (index number) 0) ⊎ (get_or (upper d) (index number) 0 < wanted) → (space : ℕ)
        → (place : ℕ) × (prescribe_call t number wanted space ≡ refused 11 place 0)
    left_out out space = let (s, v) = crossed i (no_room d number wanted h out) in (suc s, ends space ∙ settled-unsatisfiable 11 _ space v)

    -- no set's lower bound is 0
    some : 1 ≤ get_or (lower d) (index number) 0
    some = lower-positive d form _ (get_or_in (lower d) (index number) 0 (omega (arith, among d number wanted h, bounds-paired d, upper-sets d)))

    -- the settled population has that many, and is the greatest of all
    as_populate : (p : Populated t d) → get_or p.settled (index number) 0 ≡ wanted → (q : Produced t d number wanted) × (q.settled ≡ p.settled)
    as_populate p w =
        let own : Having d number wanted (cells (population d p.settled)) = record { meets = p.cells_meet; that_many = ap (λ (c : List ℕ). get_or c (index number) 0) p.exact ∙ w } in
        let q : Produced t d number wanted = produced (λ none. none _ own) in
        let below : q.settled ≼ p.settled = subst (◌≼ p.settled) q.exact (p.greatest _ q.cells_have.meets) in
        let above : p.settled ≼ q.settled = subst (◌≼ q.settled) p.exact (q.greatest _ own) in
        (q, ≼_antisym below above)

    prescribed_in : PrescribedIn t d number wanted
    prescribed_in = record {
      refuses = refuses-by form i 11 eleven (prescribe_call t number wanted) _ ends (none-iff d number wanted h form);
      no_seven = λ space place round q. refuses-only 11 _ space _ (omega arith) (omega arith) (sym (ends space) ∙ q);
      emptied = λ none s o. none s o.meets;
      otherwise = produced;
      left_out = left_out;
      zero = λ z. left_out (inl (omega (arith, some)));
      as_populate = as_populate;
    }

pub prescribed : Prescribed
unfolding prescribe_call
prescribed = record {
  of_table = λ t d e number wanted h. prescribed_in t d e number wanted h;
  other_numbers = λ t d e number wanted n. other-number t d e number wanted n;
  other_tables = λ t none number wanted. fault-of-form table_line t _ none;
}
