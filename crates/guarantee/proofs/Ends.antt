-- How the calls end: reading by its diagram; those that run the rounds by the verdict.
use Rattle.std.specs.Prelude.{ℕ, suc, ◌≤◌, ◌↔◌, ◌⊎◌, Bool, List, ltb}
use Rattle.std.proofs.Math.Path.{◌≡◌, refl, ap}
use Rattle.std.proofs.Common.{sym, ◌∙◌, inl, inr}
use Rattle.std.proofs.Math.Bool.{true, false}
use Rattle.std.proofs.Math.Decide.{ℕ_discrete}
use native.Mathlib.Omega.{arith}
use Rattle.std.proofs.Math.ListN.{length}
use Rattle.fixpoint.specs.Limits.{Verdict, unsatisfiable, fixpoint}
use Rattle.orm.specs.Diagram.{Diagram, table}
use Rattle.orm.specs.Text.{text_line, table_line}
use Rattle.orm.specs.Sets.{verdict, verdict_from}
use Rattle.orm.specs.Population.{cells}
use Rattle.orm.specs.Populate.{population}
use Rattle.orm.specs.Outcome.{Outcome, refused, accepted, ◌>>=◌, buffer_after, fitted, Sized, written, handed_back}
use Rattle.orm.specs.Calls.{diagram_in, sizes_by, settled_into, read_call, check_call, populate_call}
use Rattle.orm.specs.WellFormed.{WellFormed}
use Rattle.orm.proofs.Laws.Rounds.{inside-laws}
use Rattle.orm.specs.Inside.{Inside}
use Rattle.reading.specs.Laws.{fits, does_not-fit}
use Rattle.guarantee.specs.Settling.{RefusesBy, Writes, sized}
use Rattle.guarantee.specs.Inside.{NoneFits}
use Rattle.guarantee.proofs.Inside.{emptied-none, none-emptied}

pub read-ends : (text : List ℕ) (d : Diagram) (space : ℕ) → diagram_in text_line text ≡ accepted d → read_call text space ≡ fitted space (table d)
unfolding read_call
read-ends text d space e = rw (e, read_call)

module _ (t : List ℕ) (d : Diagram) (e : diagram_in table_line t ≡ accepted d) where
  pub check-ends : (space : ℕ) → check_call t space ≡ settled_into 7 (λ c. c) (verdict d) space
  unfolding check_call
  check-ends space = rw (e, check_call)

  pub populate-ends : (space : ℕ) → populate_call t space ≡ settled_into 7 (λ c. cells (population d c)) (verdict d) space
  unfolding populate_call
  populate-ends space = rw (e, populate_call)

-- The verdict, and then what is made from the sizes
module _ (number : ℕ) (make : List ℕ → List ℕ) (space : ℕ) where
  pub settled-unsatisfiable : {v : Verdict} {s n : ℕ} → v ≡ unsatisfiable s n → settled_into number make v space ≡ refused number (suc s) n
  unfolding settled_into sizes_by
  settled-unsatisfiable e = rw e refl

  pub settled-fixpoint : {v : Verdict} {n : ℕ} {c : List ℕ} → v ≡ fixpoint n c → settled_into number make v space ≡ (fitted space (make c) >>= sized n)
  unfolding settled_into sizes_by
  settled-fixpoint e = rw e refl

  -- That refusal comes from the verdict alone: a buffer that is too short has another
  of-refused : ¬ (number ≡ 8) → (v : Verdict) {place round : ℕ} → settled_into number make v space ≡ refused number place round
      → (s : ℕ) × (place ≡ suc s) × (v ≡ unsatisfiable s round)
  of-refused other (unsatisfiable s n) {place} {round} h =
      let same : ◌≡◌ {A = Outcome Sized} (refused number (suc s) n) (refused number place round) = cc (settled-unsatisfiable {s = s} {n = n} refl) in
      (s, (cc), (cc))
  of-refused other (fixpoint n c) {place} {round} h = absurd (unfold fitted in by_test (ltb space (length (make c))) (sym (settled-fixpoint refl) ∙ h))
    where
      by_test : (b : Bool) → ¬ ((elim b [ true ↦ refused 8 (length (make c)) 0 | false ↦ accepted (make c) ] >>= sized n) ≡ refused number place round)
      by_test true q = other (cc)
      by_test false q = let z : ◌≡◌ {A = ℕ} 0 1 = cc in omega arith

  -- No other number is refused with but that and 8
  pub refuses-only : (v : Verdict) {other place round : ℕ} → ¬ (other ≡ number) → ¬ (other ≡ 8)
      → ¬ (settled_into number make v space ≡ refused other place round)
  refuses-only (unsatisfiable s n) {other} own short h =
      let z : other ≡ number = cc (settled-unsatisfiable {s = s} {n = n} refl) in
      own z
  refuses-only (fixpoint n c) {other} {place} {round} own short h =
      unfold fitted in by_test (ltb space (length (make c))) (sym (settled-fixpoint refl) ∙ h)
    where
      by_test : (b : Bool) → ¬ ((elim b [ true ↦ refused 8 (length (make c)) 0 | false ↦ accepted (make c) ] >>= sized n) ≡ refused other place round)
      by_test true q = short (cc)
      by_test false q = let z : ◌≡◌ {A = ℕ} 0 1 = cc in omega arith

-- A call that makes something of the sizes that rounds from bounds inside the diagram's own end with
module _ {d : Diagram} {low high : List ℕ} (form : WellFormed d) (i : Inside d low high) (number : ℕ) (other : ¬ (number ≡ 8))
    (call : ℕ → Outcome Sized) (make : List ℕ → List ℕ) (ends : (space : ℕ) → call space ≡ settled_into number make (verdict_from d low high) space) where
  pub refuses-by : {None : Type 0} → NoneFits d low high ↔ None → RefusesBy number d low high None call
  unfolding verdict_from
  refuses-by iff = record {
    exactly_when = λ space. (
      λ (place, round, r). let (s, e, v) = of-refused number make space other (verdict_from d low high) (sym (ends space) ∙ r) in
          iff.0 (emptied-none form i v),
      λ none. let (s, n, v) = none-emptied form i (iff.1 none) in (suc s, n, ends space ∙ settled-unsatisfiable number make space v),
    );
    set_and_round = λ space place round r.
        let (s, e, v) = of-refused number make space other (verdict_from d low high) (sym (ends space) ∙ r) in
        record { set = s; numbered = e; defined = v; meaning = (inside-laws i).at_unsatisfiable v };
  }

  pub writes-made : {n : ℕ} {c : List ℕ} → verdict_from d low high ≡ fixpoint n c → Writes call n (make c)
  unfolding buffer_after written
  writes-made {n} {c} v = record {
    writes = writes;
    front = λ buffer h. ap (λ o. buffer_after (written o) buffer) (writes (length buffer) h);
    hands_back = λ space h. ap handed_back (writes space h);
    too_short = λ space h. ends space ∙ settled-fixpoint number make space v ∙ ap (◌>>= sized n) (does_not-fit space (make c) h);
  }
    where
      writes : (space : ℕ) → length (make c) ≤ space → call space ≡ accepted (record { rounds = n; result = make c })
      writes space h = ends space ∙ settled-fixpoint number make space v ∙ ap (◌>>= sized n) (fits space (make c) h)

-- Refused by this number, at some place and round
abbrev RefusedBy : ℕ → Outcome Sized → Type 0
RefusedBy number o = (place : ℕ) × (round : ℕ) × (o ≡ refused number place round)

-- It is refused so, or there is one
module _ {number : ℕ} {d : Diagram} {low high : List ℕ} {None : Type 0} {call : ℕ → Outcome Sized} (r : RefusesBy number d low high None call)
    (space : ℕ) where
  pub refused_or_some : RefusedBy number (call space) ⊎ (¬ None)
  refused_or_some = go (call space) refl
    where
      some : ¬ RefusedBy number (call space) → RefusedBy number (call space) ⊎ (¬ None)
      some n = inr (λ none. n ((r.exactly_when space).1 none))

      go : (o : Outcome Sized) → call space ≡ o → RefusedBy number (call space) ⊎ (¬ None)
      go (accepted s) e = some λ (place, round, q). let z : ◌≡◌ {A = ℕ} 0 1 = cc in omega arith
      go (refused c place round) e = by_number (ℕ_discrete c number)
        where
          by_number : Dec (c ≡ number) → RefusedBy number (call space) ⊎ (¬ None)
          by_number (yes h) = inl (place, round, e ∙ ap (λ (n : ℕ). refused n place round) h)
          by_number (no h) = some λ (p, k, q). h (cc)
