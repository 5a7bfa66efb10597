-- Rounds lower the sizes, so that a run ends, and each turn of the loop is a step of `run`.
use Rattle.std.specs.Prelude.{◌≡◌, refl, true, false, [], ◌∷◌, ℕ, zero, suc, ◌+◌, ◌*◌, ◌-◌, ◌≤◌, ◌<◌, List, eqb, length, take, drop, slice_index_or, nat_lt, position, zip, slice_index, All, Option, Some, None, Result, Err}
use Rattle.std.proofs.Common.{sym, ap, ◌∙◌, subst, arith, add-one, eq-eqb, ne_eqb, Fits, w32}
use Rattle.std.proofs.Math.Option as lowest
use Rattle.std.proofs.Math.Option.{none, some}
use Rattle.std.proofs.Math.Seq.{take-append_seam}
use Rattle.counting.specs.Terms.{Each}
use Rattle.counting.specs.Lists.{same}
use Rattle.counting.proofs.Laws.Distinct.{apart-of-false}
use Rattle.counting.proofs.Laws.Instances.{same_decides}
use Rattle.fixpoint.specs.Limits.{Limit, Verdict, unsatisfiable, fixpoint, round, upper_after, first_below, slack, run_from, run}
use Rattle.fixpoint.proofs.Laws.Round.{round_≼}
use Rattle.fixpoint.proofs.Laws.Tests.{Found, first_below-found, slack_less}
use Rattle.buffer.specs.Written.{WroteAll}
use Rattle.buffer.specs.Laws.{wrote-whole, wrote-end, wrote-long}
use Rattle.lowering.specs.Coded.{limits_of}
use Rattle.lowering.specs.Closed.{Closed, Fed, Inside}
use Rattle.lowering.specs.declared.Most.{Most}
use Rattle.lowering.specs.declared.Most.TheVariants.{Size, Product, Sum, Times, Quotient}
use Rattle.lowering.specs.Laws.Limits.{closed-inside}
use Rattle.lowering.specs.declared.Limits.{Limits}
use Rattle.dependents.specs.Dependents.{Linked, differing}
use Rattle.dependents.specs.declared.Links.{Links}
use Rattle.dependents.specs.Laws.Building.{links-linked, links-sized}
use Rattle.dependents.specs.Laws.Differing.{differing-below, differing-long, none_differ}
use Rattle.rounds.specs.declared.Progress.{Progress}
use Rattle.rounds.specs.declared.Progress.TheVariants.{Emptied, Settled, Going}
use Rattle.rounds.specs.declared.Emptied as refusal
use Rattle.rounds.specs.declared.Rounds.{Rounds}
use Rattle.rounds.specs.Answer.{lowest_of, step_from, lowered_in, step_of, emptied, outcome_of, rounds_of, end_of, first_in, listed_after, scratch_after, Linked_in, LinksAfter}
use Rattle.rounds.specs.Answer.{SameSlices, SameLinks, Bounds, Scratch, Standing, Continued, Advanced, Relinked, Ended}
use Rattle.rounds.specs.Scan.{position_is, changed_first}

-- ---- what a round comes to

any_default : (xs : List ℕ) (k d : ℕ) → k < length xs → slice_index_or xs k d ≡ slice_index xs k
any_default [] k d h = absurd (omega arith)
any_default (x ∷ xs) zero d h = refl
any_default (x ∷ xs) (suc k) d h = any_default xs k d (omega arith)

-- the round was made, and the sets that it lowered are listed
module _ (ls : List Limit) (c changed : List ℕ) {changed' : List ℕ} {k : ℕ} (w : WroteAll changed (lowered_in ls c) changed' k)
    (room : length c ≤ length changed) where
  sized : length (round ls c) ≡ length c
  sized = (round_≼ ls c).sized

  fits : length (lowered_in ls c) ≤ length changed
  fits = omega (arith, differing-long 0 c (round ls c), sized)

  pub listed-wrote : WroteAll changed (lowered_in ls c) changed' (length (lowered_in ls c))
  listed-wrote = subst (WroteAll changed (lowered_in ls c) changed') (wrote-end w fits) w

  pub listed-within : k ≤ length changed'
  listed-within = omega (arith, wrote-end w fits, wrote-long w, fits)

  pub listed-is : take k changed' ≡ lowered_in ls c
  listed-is = rw (wrote-end w fits, wrote-whole w fits) (take-append_seam (lowered_in ls c) (drop (length (lowered_in ls c)) changed))

  pub listed_below : (lower : List ℕ) → length lower ≡ length c → All (λ s. s < length lower) (take k changed')
  listed_below lower e = rw listed-is (λ i d h. below i d h)
    where
      below : (i d : ℕ) → i < length (lowered_in ls c) → slice_index_or (lowered_in ls c) i d < length lower
      below i d h =
          let same : slice_index_or (lowered_in ls c) i d ≡ slice_index (lowered_in ls c) i = any_default (lowered_in ls c) i d h in
          omega (arith, differing-below 0 c (round ls c) i h, sized)

  module _ (lower : List ℕ) {c' : List ℕ} {r : Progress} {p : Option ℕ} (e : c' ≡ round ls c) (er : r ≡ step_from p k) where
    from-lowest : p ≡ lowest_of (first_below 0 lower c') → r ≡ step_of ls lower c
    unfolding step_of
    from-lowest ep = rw (er, ep, e, wrote-end w fits)

    pub step_is : p ≡ position (λ (p : ℕ × ℕ). nat_lt p.1 p.0) (zip lower c') → r ≡ step_of ls lower c
    step_is ep = from-lowest (ep ∙ position_is lower c')

    pub changed-is : p ≡ first_in lower c' (take k changed') → length lower ≡ length c → first_below 0 lower c ≡ none → r ≡ step_of ls lower c
    changed-is ep paired above =
        from-lowest (ep ∙ ap (first_in lower c') (listed-is ∙ ap (differing 0 c) (sym e)) ∙ changed_first lower c c' paired (sym (ap length e ∙ sized)) above)

pub step-paired : {l : Limits} {lower upper : List ℕ} {r : Rounds} → Standing l lower r
    → upper ≡ round (limits_of l) r.upper.now → length lower ≡ length upper
step-paired {l} {r = r} w e = w.paired ∙ sym (ap length e ∙ (round_≼ (limits_of l) r.upper.now).sized)

-- ---- the run

slack-small : (f c : List ℕ) → ((s : ℕ) → slice_index c s ≤ 4096) → slack f c ≤ 4096 * length c
unfolding slack
slack-small [] c s = omega arith
slack-small (f ∷ fs) [] s = omega arith
slack-small (f ∷ fs) (x ∷ xs) s = omega (arith, s 0, slack-small fs xs (λ k. s (suc k)))

none_of : (x : lowest.Option ℕ) {r : Option ℕ} → r ≡ None → r ≡ lowest_of x → x ≡ none
none_of (some j) p e = cc
none_of none p e = refl

found_of : (x : lowest.Option ℕ) {r : Option ℕ} (i : ℕ) → r ≡ Some i → r ≡ lowest_of x → x ≡ some i
found_of (some j) i p e = cc
found_of none i p e = cc

-- the three ends of a round
emptied-of : (x : lowest.Option ℕ) (k : ℕ) {r : Progress} (s : ℕ) → r ≡ Emptied s → r ≡ step_from (lowest_of x) k → x ≡ some s
emptied-of (some j) k s p e = cc
emptied-of none zero s p e = cc
emptied-of none (suc k) s p e = cc

settled-of : (x : lowest.Option ℕ) (k : ℕ) {r : Progress} → r ≡ Settled → r ≡ step_from (lowest_of x) k → (x ≡ none) × (k ≡ 0)
settled-of (some j) k p e = let z : ◌≡◌ {A = ℕ} 0 1 = cc in absurd (omega arith)
settled-of none zero p e = (refl, refl)
settled-of none (suc k) p e = let z : ◌≡◌ {A = ℕ} 0 1 = cc in absurd (omega arith)

going_of : (x : lowest.Option ℕ) (k m : ℕ) {r : Progress} → r ≡ Going m → r ≡ step_from (lowest_of x) k → (x ≡ none) × (k ≡ m) × (0 < k)
going_of (some j) k m p e = let z : ◌≡◌ {A = ℕ} 0 1 = cc in absurd (omega arith)
going_of none zero m p e = let z : ◌≡◌ {A = ℕ} 0 1 = cc in absurd (omega arith)
going_of none (suc k) m p e = (refl, (let q : suc k ≡ m = cc in q), omega arith)

-- After `n` rounds the sizes are `c`, and the run goes on from there
pub record Running (ls : List Limit) (lower start : List ℕ) (n : ℕ) (c : List ℕ) : Type 0 where
  pub fuel : ℕ
  pub enough : slack lower c < fuel
  pub counted : n + slack lower c ≤ slack lower start
  pub rest : run_from fuel ls lower n c ≡ run ls lower start

module _ (ls : List Limit) (lower start : List ℕ) where
  begin : first_below 0 lower start ≡ none → Running ls lower start 0 start
  unfolding run
  begin e = record { fuel = suc (slack lower start); enough = omega arith; counted = omega arith; rest = sym (rw (e, run)) }

  -- a round from `c`
  module _ {n : ℕ} {c : List ℕ} (w : Running ls lower start n c) where
    below-is : {s : ℕ} → first_below 0 lower (round ls c) ≡ some s → run ls lower start ≡ unsatisfiable s (suc n)
    unfolding run_from
    below-is {s} e = go w.fuel w.enough w.rest
      where
        go : (k : ℕ) → slack lower c < k → run_from k ls lower n c ≡ run ls lower start → run ls lower start ≡ unsatisfiable s (suc n)
        go zero h t = absurd (omega arith)
        go (suc k) h t = sym t ∙ rw (e, run_from)

    module _ (e : first_below 0 lower (round ls c) ≡ none) where
      same-is : same (round ls c) c ≡ true → run ls lower start ≡ fixpoint (suc n) (round ls c)
      unfolding run_from
      same-is t = go w.fuel w.enough w.rest
        where
          go : (k : ℕ) → slack lower c < k → run_from k ls lower n c ≡ run ls lower start → run ls lower start ≡ fixpoint (suc n) (round ls c)
          go zero h u = absurd (omega arith)
          go (suc k) h u = sym u ∙ rw (e, t, run_from)

      module _ (t : same (round ls c) c ≡ false) (paired : length lower ≡ length c) where
        falls : slack lower (round ls c) < slack lower c
        falls =
            let found : Found 0 lower (round ls c) (first_below 0 lower (round ls c)) =
            first_below-found 0 lower (round ls c) (paired ∙ sym (round_≼ ls c).sized) in
            slack_less (subst (Found 0 lower (round ls c)) e found) (round_≼ ls c) (apart-of-false same_decides (round ls c) c t)

        more : Running ls lower start (suc n) (round ls c)
        unfolding run_from
        more = go w.fuel w.enough w.rest
          where
            go : (k : ℕ) → slack lower c < k → run_from k ls lower n c ≡ run ls lower start → Running ls lower start (suc n) (round ls c)
            go zero h u = absurd (omega arith)
            go (suc k) h u = record {
              fuel = k;
              enough = omega (arith, falls);
              counted = omega (arith, falls, w.counted);
              rest = rw (e, t, run_from) at u;
            }

-- ---- the loop: after `n` rounds the upper bounds are those of `r`, and the next round can be made

pub record Turning (l : Limits) (lower : List ℕ) (r₀ : Rounds) (k₀ : Links) (n count : ℕ) (r : Rounds) (k : Links) : Type 0 where
  pub slices : SameSlices r₀ r
  pub links : SameLinks k₀ k
  pub bounds : Bounds l lower r₀.upper.now
  pub scratch : Scratch l r₀ k₀
  pub running : Running (limits_of l) lower r₀.upper.now n r.upper.now
  pub standing : Standing l lower r
  pub continued : Continued (n + 1) l lower k r count
  pub stands : r.upper.now ≡ upper_after (limits_of l) r₀.upper.now n
  pub listed : r.changed.now ≡ listed_after (limits_of l) r₀.upper.now r₀.changed.now n
  pub linked : LinksAfter n (limits_of l) k₀ k
  pub long : length r.upper.now ≡ length r₀.upper.now
  pub last_long : length k.last.now ≡ length k₀.last.now

same-slices : {a b c : Rounds} → SameSlices a b → SameSlices b c → SameSlices a c
same-slices v w = record { upper = w.upper ∙ v.upper; next = w.next ∙ v.next; changed = w.changed ∙ v.changed }

same-links : {a b c : Links} → SameLinks a b → SameLinks b c → SameLinks a c
same-links v w = record { last = w.last ∙ v.last; uses = w.uses ∙ v.uses }

-- Limits that are whole for n sets are so for more
fed-wider : {n m : ℕ} → n ≤ m → (ops : List ℕ) (x : Most) → Fed n ops x → Fed m ops x
fed-wider h ops (Size set) w = omega (arith, w)
fed-wider h ops (Product from to) w = record { order = w.order; inside = w.inside; each = λ k d b. omega (arith, w.each k d b) }
fed-wider h ops (Sum from to) w = record { order = w.order; inside = w.inside; each = λ k d b. omega (arith, w.each k d b) }
fed-wider h ops (Times factor set) w = omega (arith, w)
fed-wider h ops (Quotient set divisor) w = omega (arith, w)

closed-wider : {n m : ℕ} → n ≤ m → (l : Limits) → Closed n l → Closed m l
closed-wider h l c = λ k d b. let w = c k d b in record { target = omega (arith, w.target); most = fed-wider h l.operands.now _ w.most }

-- the links behind the next round
relinked : (n : ℕ) (l : Limits) (k₀ k k' : Links) → LinksAfter n (limits_of l) k₀ k → Relinked (n + 1) l k k' → Linked_in (limits_of l) k₀ k'
relinked zero l k₀ k k' w r =
    let m = r.made refl in
    record { last = rw (← w.last, ← w.uses) m.last; uses = rw (← w.last, ← w.uses) m.uses }
relinked (suc n) l k₀ k k' w r =
    let s = r.kept (λ e. absurd (omega arith)) in
    record { last = s.last ∙ w.last; uses = s.uses ∙ w.uses }

module _ {l : Limits} {lower : List ℕ} {r₀ : Rounds} {k₀ : Links} where
  pub turn_start : Bounds l lower r₀.upper.now → Scratch l r₀ k₀ → first_below 0 lower r₀.upper.now ≡ none → Turning l lower r₀ k₀ 0 0 r₀ k₀
  unfolding upper_after listed_after
  turn_start b s above = record {
    slices = record { upper = refl; next = refl; changed = refl };
    links = record { last = refl; uses = refl };
    bounds = b;
    scratch = s;
    running = begin (limits_of l) lower r₀.upper.now above;
    standing = record { closed = b.closed; paired = b.paired; next_room = s.next_room; changed_room = s.changed_room };
    continued = record { later = λ n. absurd (n refl) };
    stands = refl;
    listed = refl;
    linked = record { last = refl; uses = refl };
    long = refl;
    last_long = refl;
  }

  module _ {n count : ℕ} {r : Rounds} {k : Links} (w : Turning l lower r₀ k₀ n count r k) where
    abbrev ls : List Limit
    ls = limits_of l

    abbrev c : List ℕ
    c = r.upper.now

    abbrev start : List ℕ
    start = r₀.upper.now

    pub count_fits : Fits w32 (n + 1)
    count_fits = record { fits = omega (arith, w.running.counted, w.bounds.few, slack-small lower start w.bounds.small) }

    pub turn_closed : Closed (length k.last.now) l
    turn_closed = closed-wider (omega (arith, w.last_long, w.long, w.scratch.last_room)) l w.standing.closed

    -- the round was made
    module _ {p : Progress} {r' : Rounds} (a : Advanced l lower r p r') where
      as_long : length r'.upper.now ≡ length c
      as_long = ap length a.stands ∙ (round_≼ ls c).sized

      stood : r'.upper.now ≡ upper_after ls start (suc n)
      unfolding upper_after
      stood = a.stands ∙ ap (round ls) w.stands

      long : length (lowered_in ls c) ≤ length r.changed.now
      long = fits ls c r.changed.now a.listed w.standing.changed_room

      lists : r'.changed.now ≡ listed_after ls start r₀.changed.now (suc n)
      unfolding listed_after
      lists = wrote-whole a.listed long ∙ rw (w.listed, w.stands)

      told : p ≡ step_from (lowest_of (first_below 0 lower (round ls c))) (length (lowered_in ls c))
      unfolding step_of
      told = a.came

      counts : eqb 0 (length (lowered_in ls c)) ≡ same (round ls c) c
      counts = none_differ 0 c (round ls c) (sym (round_≼ ls c).sized)

      over : (v : Verdict) {o : Result ℕ refusal.Emptied} → run ls lower start ≡ v → rounds_of v ≡ suc n → o ≡ outcome_of v
          → Ended l lower r₀ k₀ o r' k
      over v is e q = record {
        count = n;
        counted = ap rounds_of is ∙ e;
        slices = same-slices w.slices a.slices;
        links = w.links;
        outcome = q ∙ ap outcome_of (sym is);
        stands = stood;
        same = a.same ∙ sym a.stands ∙ stood;
        listed = lists;
        linked = w.linked;
      }

      module _ {end : Option ℕ} {m : ℕ} {o : Result ℕ refusal.Emptied} (em : m ≡ n + 1) (eo : o ≡ end_of end m) where
        pub turn_emptied : (s : ℕ) → p ≡ Emptied s → end ≡ Some s → Ended l lower r₀ k₀ o r' k
        turn_emptied s e ee =
            over (unsatisfiable s (suc n))
            (below-is ls lower start w.running (emptied-of (first_below 0 lower (round ls c)) (length (lowered_in ls c)) s e told))
            refl (rw (eo, ee, em, add-one))

        pub turn_settled : p ≡ Settled → end ≡ None → Ended l lower r₀ k₀ o r' k
        turn_settled e ee =
            let both = settled-of (first_below 0 lower (round ls c)) (length (lowered_in ls c)) e told in
            over (fixpoint (suc n) (round ls c))
            (same-is ls lower start w.running both.0 (sym counts ∙ eq-eqb 0 (length (lowered_in ls c)) (sym both.1)))
            refl (rw (eo, ee, em, add-one))

      module _ (m : ℕ) (e : p ≡ Going m) where
        parts : (first_below 0 lower (round ls c) ≡ none) × (length (lowered_in ls c) ≡ m) × (0 < length (lowered_in ls c))
        parts = going_of (first_below 0 lower (round ls c)) (length (lowered_in ls c)) m e told

        differ : same (round ls c) c ≡ false
        differ = sym counts ∙ ne_eqb 0 (length (lowered_in ls c)) (λ z. omega (arith, parts.2))

        pub turn_falls : slack lower r'.upper.now < slack lower c
        turn_falls = rw a.stands (falls ls lower start w.running parts.0 differ w.standing.paired)

        pub turn_more : {k' : Links} → Relinked (n + 1) l k k' → Turning l lower r₀ k₀ (n + 1) m r' k'
        turn_more {k'} re =
            let made : Linked_in ls k₀ k' = relinked n l k₀ k k' w.linked re in
            let inside : Each (Inside (length k₀.last.now)) ls =
            closed-inside l (closed-wider w.scratch.last_room l w.bounds.closed) in
            let linked : Linked ls k'.last.now k'.uses.now =
            rw (made.last, made.uses) (links-linked (length k₀.last.now) k₀.uses.now ls inside w.scratch.uses_room) in
            let long : length k'.last.now ≡ length k₀.last.now = ap length made.last ∙ links-sized (length k₀.last.now) k₀.uses.now ls in
            record {
              slices = same-slices w.slices a.slices;
              links = same-links w.links re.slices;
              bounds = w.bounds;
              scratch = w.scratch;
              running = rw (a.stands, add-one) (more ls lower start w.running parts.0 differ w.standing.paired);
              standing = record {
                closed = rw as_long w.standing.closed;
                paired = w.standing.paired ∙ sym as_long;
                next_room = ap length (a.stands ∙ sym a.same);
                changed_room = omega (arith, as_long, w.standing.changed_room, wrote-long a.listed);
              };
              continued = record {
                later = λ _. record {
                  due = record {
                    linked = linked;
                    heads = omega (arith, long, w.scratch.last_room, w.long, as_long);
                    before = c;
                    made = a.stands;
                    listed = rw (← parts.1, a.stands) (listed-is ls c r.changed.now a.listed w.standing.changed_room);
                  };
                  within = rw (← parts.1) (listed-within ls c r.changed.now a.listed w.standing.changed_room);
                  same = a.same ∙ sym a.stands;
                  above = rw a.stands parts.0;
                };
              };
              stands = rw add-one stood;
              listed = rw add-one lists;
              linked = rw add-one made;
              long = as_long ∙ w.long;
              last_long = long;
            }

-- ---- the start

pub start_none : (lower upper : List ℕ) {p : Option ℕ} → p ≡ None → p ≡ position (λ (p : ℕ × ℕ). nat_lt p.1 p.0) (zip lower upper) → first_below 0 lower upper ≡ none
start_none lower upper p q = none_of (first_below 0 lower upper) p (q ∙ position_is lower upper)

-- the search at the start has found a set
module _ (ls : List Limit) (lower start : List ℕ) {p : Option ℕ} (s : ℕ) (q : p ≡ position (λ (p : ℕ × ℕ). nat_lt p.1 p.0) (zip lower start)) (e : p ≡ Some s) where
  start_is : run ls lower start ≡ unsatisfiable s 0
  unfolding run
  start_is = rw (found_of (first_below 0 lower start) s e (q ∙ position_is lower start), run)

  pub start-outcome : Err (emptied s 0) ≡ outcome_of (run ls lower start)
  start-outcome = ap outcome_of (sym start_is)

  pub start-upper : start ≡ upper_after ls start (rounds_of (run ls lower start))
  unfolding upper_after
  start-upper = rw start_is

  pub start-next : (next x : List ℕ) → next ≡ scratch_after (rounds_of (run ls lower start)) next x
  start-next next x = rw start_is

  pub start-listed : (changed : List ℕ) → changed ≡ listed_after ls start changed (rounds_of (run ls lower start))
  unfolding listed_after
  start-listed changed = rw start_is

  pub start-links : (k : Links) → LinksAfter (rounds_of (run ls lower start) - 1) ls k k
  start-links k = rw start_is (record { last = refl; uses = refl })

-- the rounds have ended
module _ {l : Limits} {lower : List ℕ} {r₀ : Rounds} {k₀ : Links} {o : Result ℕ refusal.Emptied} {r : Rounds} {k : Links} (w : Ended l lower r₀ k₀ o r k) where
  pub ended-upper : r.upper.now ≡ upper_after (limits_of l) r₀.upper.now (rounds_of (run (limits_of l) lower r₀.upper.now))
  ended-upper = rw w.counted w.stands

  pub ended-next : (next₀ : List ℕ) → r.next.now ≡ scratch_after (rounds_of (run (limits_of l) lower r₀.upper.now)) next₀ r.upper.now
  ended-next next₀ = rw w.counted (w.same ∙ sym w.stands)

  pub ended-listed : r.changed.now ≡ listed_after (limits_of l) r₀.upper.now r₀.changed.now (rounds_of (run (limits_of l) lower r₀.upper.now))
  ended-listed = rw w.counted w.listed

  pub ended-links : LinksAfter (rounds_of (run (limits_of l) lower r₀.upper.now) - 1) (limits_of l) k₀ k
  ended-links =
      let z : rounds_of (run (limits_of l) lower r₀.upper.now) - 1 ≡ w.count = omega (arith, w.counted) in
      rw z w.linked
