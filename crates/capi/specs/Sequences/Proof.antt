-- The proof of S-13 on running code: from what the contracts ensure, by the statement over the definitions.
use Rattle.std.specs.Prelude.{ℕ, ◌+◌, ◌≤◌, ◌<◌, ◌≡◌, ◌↔◌, Bool, true, false, get_or, take}
use Rattle.std.proofs.Common.{zero-add, arith, subst, ◌∙◌, take-append-drop, length-take-le}
use Rattle.std.proofs.Math.Decide.{dec_le}
use Rattle.std.proofs.Math.Path.{refl, sym, ap}
use Rattle.std.proofs.Math.Logic.Iff
use mathlib.Core.List.{List, [], ◌∷◌, ◌++◌}
use Rattle.std.proofs.Math.ListN.{length, drop}
use Rattle.std.proofs.Math.Seq.{take-append_seam, drop-append_seam}
use Rattle.counting.specs.Totals.{bit, sum_over}
use Rattle.fixpoint.specs.Limits.{step_at, steps_by, lowers_at, any_lowers, fixpoint}
use Rattle.fixpoint.specs.Notions.{LowersTo, EachLowers, Stable}
use Rattle.fixpoint.proofs.Laws.AnyOrder.{steps_≼}
use Rattle.orm.specs.Diagram.{Diagram}
use Rattle.orm.specs.Text.{table_line}
use Rattle.orm.specs.Sets.{set_count, upper, limits, verdict}
use Rattle.orm.specs.Outcome.{refused, accepted, fitted, buffer_after}
use Rattle.orm.specs.Calls.{diagram_in}
use Rattle.orm.specs.SingleLimits.{start_call, lower_call, survey_call, bounds_of, found_of}
use Rattle.orm.specs.Meaning.{Between}
use Rattle.orm.proofs.Laws.Bounds.{upper-sets}
use Rattle.guarantee.specs.Guarantee.{NoPopulation}
use Rattle.guarantee.proofs.Guarantee.{guarantee}
use Rattle.guarantee.specs.Sequences.{SomeBelow, EndOf, OneLimit, SequencesOf}
use Rattle.guarantee.proofs.Sequences.Proof.{sequences}
use Rattle.populate.specs.Demand3.{TableOf, settled_sizes}
use Rattle.populate.specs.Tied.{table-accepted}
use Rattle.capi.specs.Answers.{found_numbers}
use Rattle.capi.specs.Told.{Told}
use Rattle.capi.specs.Accepted.{same-diagram, told-written}
use Rattle.capi.specs.Emptied.{emptied}
use Rattle.capi.specs.Ended.{HasStarted, HasLowered, HasSurveyed, RefusedWith}
use Rattle.capi.specs.Ended.Laws.{converted, converted-accepted}
use Rattle.capi.specs.Sequences.{Calls, stop, call, Caller, CarriesOn, LowersOne, SequencesTold}

said : {t : List ℕ} (x : TableOf t) → SequencesOf t x.diagram
said {t} x = sequences.of_table t x.diagram (table-accepted x)

bit-one : (v : Bool) → bit v ≡ 1 → v ≡ true
unfolding bit
bit-one true e = refl
bit-one false e = absurd (omega arith)

bit-none : (v : Bool) → bit v ≡ 0 → v ≡ false
unfolding bit
bit-none true e = absurd (omega arith)
bit-none false e = refl

-- ---- one call

refused-so : {t : List ℕ} {k : ℕ} {four a b : List ℕ} → HasLowered t k four a b → {number place : ℕ} → lower_call t k a ≡ refused number place 0
    → RefusedWith number place four a b
unfolding found_numbers buffer_after
refused-so {a = a} has e = record {
  answer = has.answer ∙ ap (λ o. found_numbers (found_of o)) e;
  kept = has.array ∙ ap (λ o. buffer_after (bounds_of o) a) e;
}

-- A limit that was put to use on the upper bounds c
record Put (d : Diagram) (k : ℕ) (c rest four b : List ℕ) : Type 0 where
  answer : four ≡ 0 ∷ 0 ∷ bit (lowers_at (limits d) k c) ∷ set_count d ∷ []
  bounds : b ≡ step_at (limits d) k c ++ rest

put : {t : List ℕ} (x : TableOf t) {k : ℕ} {c rest four b : List ℕ} → HasLowered t k four (c ++ rest) b → k < length (limits x.diagram)
    → length c ≡ set_count x.diagram → Put x.diagram k c rest four b
unfolding found_numbers buffer_after
put x {k} {c} {rest} has h n =
    let o : OneLimit _ x.diagram k c rest = (said x).one_limit k c rest h n in
    let z : length (step_at (limits x.diagram) k c) ≡ length c = o.as_many ∙ sym n in
    record {
      answer = has.answer ∙ ap (λ y. found_numbers (found_of y)) o.accepts ∙ ap (λ (m : ℕ). 0 ∷ 0 ∷ bit (lowers_at (limits x.diagram) k c) ∷ m ∷ []) o.as_many;
      bounds = has.array ∙ ap (λ y. buffer_after (bounds_of y) (c ++ rest)) o.accepts
          ∙ ap (step_at (limits x.diagram) k c ++◌) (ap (λ (m : ℕ). drop m (c ++ rest)) z ∙ drop-append_seam c rest);
    }

-- Any array, where the answer says that it was accepted
accepted-so : {t : List ℕ} (x : TableOf t) {k : ℕ} {four a b : List ℕ} → HasLowered t k four a b → {l n : ℕ} → four ≡ 0 ∷ 0 ∷ l ∷ n ∷ []
    → (n ≡ set_count x.diagram) × Put x.diagram k (take n a) (drop n a) four b
accepted-so {t} x {k} {four} {a} {b} has {l} {n} e =
    go (dec_le (length (limits x.diagram)) k) (dec_le (set_count x.diagram) (length a))
  where
    go : Dec (length (limits x.diagram) ≤ k) → Dec (set_count x.diagram ≤ length a)
        → (n ≡ set_count x.diagram) × Put x.diagram k (take n a) (drop n a) four b
    go (yes h) s =
        let q = (refused-so has ((said x).no_limit k a h)).answer in
        let z : ◌≡◌ {A = ℕ} 10 0 = cc in
        absurd (omega arith)
    go (no h) (no s) =
        let q = (refused-so has (((said x).too_short a (omega arith)).2 k (omega arith))).answer in
        let z : ◌≡◌ {A = ℕ} 8 0 = cc in
        absurd (omega arith)
    go (no h) (yes s) =
        let parts : a ≡ take (set_count x.diagram) a ++ drop (set_count x.diagram) a = sym (take-append-drop (set_count x.diagram) a) in
        let p : Put x.diagram k (take (set_count x.diagram) a) (drop (set_count x.diagram) a) four b =
        put x (subst (λ (y : List ℕ). HasLowered t k four y b) parts has) (omega arith) (length-take-le (set_count x.diagram) a s) in
        let q : four ≡ 0 ∷ 0 ∷ bit (lowers_at (limits x.diagram) k (take (set_count x.diagram) a)) ∷ set_count x.diagram ∷ [] = p.answer in
        let z : n ≡ set_count x.diagram = cc in
        (z, subst (λ (m : ℕ). Put x.diagram k (take m a) (drop m a) four b) (sym z) p)

-- ---- calls one after another

-- The upper bounds c, and what stands behind them, become b by limits that each lower one
record Reached (d : Diagram) (m : ℕ) (c rest b : List ℕ) : Type 0 where
  ks : List ℕ
  each : EachLowers (limits d) ks c
  counted : length ks ≡ m
  is : b ≡ steps_by (limits d) ks c ++ rest

module _ {t : List ℕ} (x : TableOf t) where
  no_more : (c rest : List ℕ) → Reached x.diagram 0 c rest (c ++ rest)
  unfolding steps_by
  no_more c rest = record { ks = []; each = tt; counted = refl; is = refl }

  -- a limit that lowers one, and the calls behind it
  and_then : (k : ℕ) {m : ℕ} {c rest b : List ℕ} → lowers_at (limits x.diagram) k c ≡ true → Reached x.diagram m (step_at (limits x.diagram) k c) rest b
      → Reached x.diagram (1 + m) c rest b
  unfolding steps_by
  and_then k {c = c} l r = record {
    ks = k ∷ r.ks;
    each = (((said x).says k c).0 l, r.each);
    counted = omega (arith, r.counted);
    is = r.is;
  }

  same-bounds : {m : ℕ} {c c' rest b : List ℕ} → c' ≡ c → Reached x.diagram m c' rest b → Reached x.diagram (0 + m) c rest b
  same-bounds {m} {c} {rest = rest} {b = b} e r =
      subst (λ (n : ℕ). Reached x.diagram n c rest b) (sym (zero-add m)) (subst (λ (y : List ℕ). Reached x.diagram m y rest b) e r)

  reach : {m : ℕ} {a b : List ℕ} → Calls t m a b → (c rest : List ℕ) → a ≡ c ++ rest → length c ≡ set_count x.diagram → Reached x.diagram m c rest b
  unfolding bit
  reach stop c rest e n = rw e (no_more c rest)
  reach (call {m = m} {number = k} {four = four} {a = a} {b = b} {c = b'} has more) c rest e n = go (dec_le (length (limits x.diagram)) k) (λ c rest e n. reach more c rest e n)
    where
      Behind : Type 0
      Behind = (c rest : List ℕ) → b ≡ c ++ rest → length c ≡ set_count x.diagram → Reached x.diagram m c rest b'

      counts : {j : ℕ} {i : ℕ} → four ≡ 0 ∷ 0 ∷ j ∷ i ∷ [] → Reached x.diagram (j + m) c rest b' → Reached x.diagram (get_or four 2 0 + m) c rest b'
      counts q r = subst (λ (f : List ℕ). Reached x.diagram (get_or f 2 0 + m) c rest b') (sym q) r

      by-limit : (v : Bool) → lowers_at (limits x.diagram) k c ≡ v → k < length (limits x.diagram) → Put x.diagram k c rest four b
          → Reached x.diagram m (step_at (limits x.diagram) k c) rest b' → Reached x.diagram (get_or four 2 0 + m) c rest b'
      by-limit true l h p r = counts (rw l at p.answer) (and_then k l r)
      by-limit false l h p r = counts (rw l at p.answer) (same-bounds ((said x).idle k c l) r)

      go : Dec (length (limits x.diagram) ≤ k) → Behind → Reached x.diagram (get_or four 2 0 + m) c rest b'
      go (yes h) behind =
          let r = refused-so has ((said x).no_limit k a h) in
          subst (λ (f : List ℕ). Reached x.diagram (get_or f 2 0 + m) c rest b') (sym r.answer) (same-bounds refl (behind c rest (r.kept ∙ e) n))
      go (no h) behind =
          let l : k < length (limits x.diagram) = omega arith in
          let p = put x (subst (λ (y : List ℕ). HasLowered t k four y b) e has) l n in
          by-limit (lowers_at (limits x.diagram) k c) refl l p
          (behind (step_at (limits x.diagram) k c) rest p.bounds ((said x).one_limit k c rest l n).as_many)

-- ---- a caller

-- The upper bounds at its end, by limits that each lower one, and what stands behind them in the array
record Ends (d : Diagram) (m : ℕ) (end last : List ℕ) : Type 0 where
  ks : List ℕ
  each : EachLowers (limits d) ks (upper d)
  counted : length ks ≡ m
  is : end ≡ steps_by (limits d) ks (upper d)
  rest : List ℕ
  array : last ≡ end ++ rest
  long : length end ≡ set_count d

-- What it started from
record Starts (d : Diagram) (n : ℕ) (first : List ℕ) : Type 0 where
  sets : n ≡ length (upper d)
  rest : List ℕ
  array : first ≡ upper d ++ rest

module _ {t : List ℕ} (x : TableOf t) where
  starts : {n : ℕ} {before first : List ℕ} → HasStarted t (0 ∷ 0 ∷ 0 ∷ n ∷ []) before first → Starts x.diagram n first
  unfolding start_call
  starts {before = before} s =
      let e : start_call t (length before) ≡ fitted (length before) (upper x.diagram) = rw (table-accepted x, start_call) in
      let w = converted-accepted (converted e s) refl in
      record { sets = w.0; rest = drop (length (upper x.diagram)) before; array = w.1.front }

  ends : {m : ℕ} {end : List ℕ} (c : Caller t m end) → Ends x.diagram m end c.last
  ends {m} {end} c =
      let s = starts c.started in
      let r = reach x c.calls (upper x.diagram) s.rest s.array (upper-sets x.diagram) in
      let u : List ℕ = steps_by (limits x.diagram) r.ks (upper x.diagram) in
      let long : length u ≡ length (upper x.diagram) = (steps_≼ (limits x.diagram) r.ks (upper x.diagram)).sized in
      let is : end ≡ u =
      c.front ∙ ap (take c.n) r.is ∙ ap (λ (k : ℕ). take k (u ++ s.rest)) (s.sets ∙ sym long) ∙ take-append_seam u s.rest in
      record {
        ks = r.ks;
        each = r.each;
        counted = r.counted;
        is = is;
        rest = s.rest;
        array = r.is ∙ ap (◌++ s.rest) (sym is);
        long = ap length is ∙ long ∙ upper-sets x.diagram;
      }

  stable : {m : ℕ} {end : List ℕ} → CarriesOn t m end → Stable (limits x.diagram) end
  unfolding found_numbers
  stable {end = end} c =
      let e = ends c.caller in
      let s : found_numbers (survey_call t (end ++ e.rest)) ≡ 0 ∷ 0 ∷ 0 ∷ c.count ∷ [] =
      ap (λ (y : List ℕ). found_numbers (survey_call t y)) (sym e.array) ∙ sym c.surveyed in
      let q : found_numbers (accepted (record { lowers = any_lowers (limits x.diagram) end; count = length (limits x.diagram) })) ≡ 0 ∷ 0 ∷ 0 ∷ c.count ∷ [] =
      ap found_numbers (sym ((said x).survey end e.rest e.long)) ∙ s in
      ((said x).none_lowers end).0 (bit-none (any_lowers (limits x.diagram) end) (cc))

  end_of : {m : ℕ} {end : List ℕ} → CarriesOn t m end → EndOf t x.diagram end
  end_of {end = end} c =
      let e = ends c.caller in
      subst (EndOf t x.diagram) (sym e.is) ((said x).end e.ks (subst (Stable (limits x.diagram)) e.is (stable c)))

  same : {m k : ℕ} {end other : List ℕ} → CarriesOn t m end → CarriesOn t k other → end ≡ other
  same c b =
      let e = ends c.caller in
      let f = ends b.caller in
      let on = subst (Stable (limits x.diagram)) e.is (stable c) in
      let off = subst (Stable (limits x.diagram)) f.is (stable b) in
      e.is ∙ (said x).same_end e.ks f.ks on off ∙ sym f.is

  within : {m : ℕ} {end : List ℕ} → Caller t m end → m ≤ sum_over (λ s. s) (upper x.diagram)
  within c = let e = ends c in omega (arith, e.counted, (said x).finite e.ks e.each)

  none-iff : {m : ℕ} {end : List ℕ} → CarriesOn t m end → NoPopulation x.diagram ↔ SomeBelow x.diagram end
  none-iff c =
      Iff.trans (Iff.symm ((guarantee.of_table t x.diagram (table-accepted x)).check_refuses.exactly_when 0)) ((end_of c).check_refuses.exactly_when 0)

-- ---- what check says

settled : {t : List ℕ} {m : ℕ} {end four before after : List ℕ} → TableOf t → CarriesOn t m end → Told t settled_sizes four before after
    → {rounds n : ℕ} → four ≡ 0 ∷ 0 ∷ rounds ∷ n ∷ [] → take n after ≡ end
settled {t} {end = end} {before = before} {after = after} x c told {n = n} e =
    let w = told-written told e in
    let z : x.diagram ≡ w.of.diagram = same-diagram x w.of in
    let some : ¬ SomeBelow w.of.diagram end = λ below. (none-iff w.of c).1 below _ w.populated.cells_meet in
    let (p, q) = (end_of w.of c).otherwise some in
    let a : verdict w.of.diagram ≡ fixpoint p.rounds p.settled = p.settled_after.defined in
    let b : verdict w.of.diagram ≡ fixpoint w.populated.rounds w.populated.settled = w.populated.settled_after.defined in
    let same-sizes : w.populated.settled ≡ p.settled = cc in
    ap (take n) w.front ∙ ap (λ (k : ℕ). take k (w.populated.settled ++ drop n before)) w.length_written
    ∙ take-append_seam w.populated.settled (drop n before) ∙ same-sizes ∙ q

-- ---- one limit

lowers-one : {t : List ℕ} {number : ℕ} {four before after : List ℕ} (x : TableOf t) → HasLowered t number four before after
    → {n : ℕ} → four ≡ 0 ∷ 0 ∷ 1 ∷ n ∷ [] → LowersOne x.diagram number n before after
lowers-one {number = k} {before = before} x has {n} e =
    let (z, p) = accepted-so x has e in
    let q = p.answer in
    let l : bit (lowers_at (limits x.diagram) k (take n before)) ≡ 1 = cc in
    let w : LowersTo (limits x.diagram) k (take n before) =
    (said x).lowers_to k (take n before) (((said x).says k (take n before)).0 (bit-one _ l)) in
    record { limit = w.limit; numbered = w.numbered; above = w.above; to = p.bounds ∙ ap (◌++ drop n before) w.lowered_to }

lowers-none : {t : List ℕ} {number : ℕ} {four before after : List ℕ} → TableOf t → HasLowered t number four before after
    → {n : ℕ} → four ≡ 0 ∷ 0 ∷ 0 ∷ n ∷ [] → after ≡ before
lowers-none {number = k} {before = before} x has {n} e =
    let (z, p) = accepted-so x has e in
    let q = p.answer in
    let l : bit (lowers_at (limits x.diagram) k (take n before)) ≡ 0 = cc in
    p.bounds ∙ ap (◌++ drop n before) ((said x).idle k (take n before) (bit-none _ l)) ∙ take-append-drop n before

-- ---- how many limits there are

counts : {t : List ℕ} (sizes : List ℕ) {four : List ℕ} (x : TableOf t) → HasSurveyed t sizes four → {k n : ℕ} → four ≡ 0 ∷ 0 ∷ k ∷ n ∷ [] → n ≡ length (limits x.diagram)
unfolding found_numbers
counts {t} sizes {four} x has {k} {n} e = go (dec_le (set_count x.diagram) (length sizes))
  where
    go : Dec (set_count x.diagram ≤ length sizes) → n ≡ length (limits x.diagram)
    go (no s) =
        let q : four ≡ 8 ∷ set_count x.diagram ∷ 0 ∷ 0 ∷ [] = has ∙ ap found_numbers ((said x).too_short sizes (omega arith)).1 in
        let z : ◌≡◌ {A = ℕ} 8 0 = cc in
        absurd (omega arith)
    go (yes s) =
        let m : ℕ = set_count x.diagram in
        let parts : take m sizes ++ drop m sizes ≡ sizes = take-append-drop m sizes in
        let q : four ≡ 0 ∷ 0 ∷ bit (any_lowers (limits x.diagram) (take m sizes)) ∷ length (limits x.diagram) ∷ [] =
        has ∙ ap (λ (y : List ℕ). found_numbers (survey_call t y)) (sym parts)
        ∙ ap found_numbers ((said x).survey (take m sizes) (drop m sizes) (length-take-le m sizes s)) in
        cc

-- ---- a fault of form

faulty : {t : List ℕ} {number : ℕ} {four before after : List ℕ} → (TableOf t → ⊥) → HasLowered t number four before after
    → (fault : ℕ) × (line : ℕ) × Between 1 fault 6 × RefusedWith fault line four before after
faulty {t} {number} {before = before} not has =
    let other : (d : Diagram) → ¬ (diagram_in table_line t ≡ accepted d) = λ d e.
    let w = (guarantee.accepted_tables t d).0 e in not (record { diagram = d; same_table = w.0; well_formed = w.1 }) in
    let f = ((sequences.other_tables t other).1 number before).0 in
    (f.number, f.place, f.of_form, refused-so has (f.refuses 0))

pub sequences-told : SequencesTold
sequences-told = record {
  lowers = lowers-one;
  idle = lowers-none;
  finite = λ x c. within x c;
  carried_on = λ x c. stable x c;
  same_end = λ x c b. same x c b;
  emptied = λ x c told. Iff.trans (emptied x told) (none-iff x c);
  settled = settled;
  no_limit = λ x has h. refused-so has ((said x).no_limit _ _ h);
  too_short = λ x has h s. refused-so has (((said x).too_short _ s).2 _ h);
  counted = counts;
  faults = faulty;
}
