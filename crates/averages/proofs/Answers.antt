-- How a call ends: the quotient of two sizes, the settled sizes of a valid table, the number of a group or of none, and any table.
use Prim.Native.Nat.{ℕ, suc, ◌-◌, ◌%◌, ◌/◌, ◌≤◌, ◌<◌}
use native.Mathlib.Omega.{arith}
use borrow.Author.Tests.{eq-eqb, ne_eqb}
use mathlib.Core.Path.{◌≡◌, refl, sym, ap, ◌∙◌}
use mathlib.Core.Option.{Option, none, some, some-injective, none-ne-some, some-ne-none}
use mathlib.Core.List.{List}
use lib.IntN.{pos}
use lib.Ieee.{binary64, div, of_int}
use lib.ListN.{length, get_or, drop, take, get_or-append}
use Rattle.fixpoint.specs.Limits.{fixpoint}
use Rattle.orm.specs.Text.{table_line}
use Rattle.orm.specs.Sets.{set_count, verdict}
use Rattle.orm.specs.Outcome.{accepted, buffer_after}
use Rattle.orm.specs.Calls.{diagram_in, sizes_by, sizes_of}
use Rattle.orm.specs.Average.{PlacedGroup, placed_groups, group_numbered, float_quotient, average_of, average_call}
use Rattle.orm.proofs.Laws.Bounds.{upper-few, upper-sets}
use Rattle.orm.proofs.Laws.Rounds.{own-bounds}
use Rattle.orm.proofs.Laws.Average.{numbered-one, group-among, is-group, no_group}
use Rattle.std.specs.Prelude.{Result, Ok, Err, Some, None}
use Rattle.std.specs.Prelude as std
use Rattle.refusals.specs.declared.Refusal.{Refusal}
use Rattle.refusals.specs.declared.Refusal.TheVariants.{Emptied, NoSuch}
use Rattle.table.specs.Positions.{diagram_of}
use Rattle.widening.specs.Answer.{acceptance_of, described, widened}
use Rattle.widening.specs.Laws.Accepts.{accepted-refused, accepted_as}
use Rattle.widening.specs.declared.Widened.{Widened}
use Rattle.limits.specs.Prepared.{most_sets, ValidTotals}
use Rattle.bounds.specs.Answer.{Answered as Ended, checked}
use Rattle.bounds.specs.Laws.Starts.{starts-own}
use Rattle.bounds.specs.Laws.Ends.{Ends, emptied, settled, ends}
use Rattle.bounds.specs.Laws.Sizes.{sizes-all, sizes-positive}
use Rattle.bounds.specs.declared.Start.TheVariants.{Own}
use Rattle.bounds.specs.declared.Written.{Written}
use Rattle.averages.specs.Answer.{Answered, average_value, settled_average, average_in}
use Rattle.averages.specs.Owner.{owner_of, predicate_of}
use Rattle.averages.specs.declared.AverageUse.{AverageUse}
use Rattle.averages.specs.declared.AverageUse.TheVariants.{Whole, Fraction}

-- ---- the quotient

module _ (r q : ℕ) where
  pub divides : r % q ≡ 0 → average_value (Whole (r / q)) ≡ average_of r q
  unfolding average_of
  divides e = rw (eq-eqb (r % q) 0 e, average_of) refl

  pub divides-not : ¬ (r % q ≡ 0) → average_value (Fraction (div binary64 (of_int binary64 (pos r)) (of_int binary64 (pos q)))) ≡ average_of r q
  unfolding average_of float_quotient
  divides-not n = rw (ne_eqb (r % q) 0 n, average_of) refl

-- ---- the settled sizes of a valid table

module _ (t before : List ℕ) {after : List ℕ} {roles groups : ℕ} (s : Result Written Refusal) (known : ValidTotals t roles groups) (room : length before ≡ most_sets)
    (h : Ended (checked Own t (length before)) s before after) where
  ending : Ends Own t before after s
  ending = ends Own t before after known.valid starts-own room s h

  pub is-emptied : (r q : ℕ) {f : Refusal} → s ≡ Err f → Answered (settled_average (diagram_of t) r q) (Err f)
  unfolding sizes_of sizes_by
  is-emptied r q {f} p = go ending
    where
      go : Ends Own t before after s → Answered (settled_average (diagram_of t) r q) (Err f)
      go (emptied k n v e) =
          let same : f ≡ Emptied (suc k) n = cc in
          rw (same, v, sizes_of) (record { is = refl })
      go (settled n c y w e) = let z : ◌≡◌ {A = ℕ} 0 1 = cc in absurd (omega arith)

  -- where no set is emptied
  record Sizes : Type 0 where
    sizes : List ℕ
    rounds : ℕ
    ended : verdict (diagram_of t) ≡ fixpoint rounds sizes
    at : (k : ℕ) → k < set_count (diagram_of t) → get_or after k 0 ≡ get_or sizes k 0

  module _ {w : Written} (whole : s ≡ Ok w) where
    here : Sizes
    here = go ending
      where
        go : Ends Own t before after s → Sizes
        go (emptied k n v e) = let z : ◌≡◌ {A = ℕ} 0 1 = cc in absurd (omega arith)
        go (settled n c y w e) = record {
          sizes = c;
          rounds = n;
          ended = y.ended;
          at = λ k l. rw w (get_or-append c (drop (length c) before) 0 k
              (omega (arith, sizes-all (diagram_of t) known.valid.formed (own-bounds (diagram_of t)) y.ended)));
        }

    pub some_size : {q : ℕ} → q < set_count (diagram_of t) → 1 ≤ get_or after q 0
    some_size {q} l = rw (here.at q l) (sizes-positive (diagram_of t) known.valid.formed (own-bounds (diagram_of t)) here.ended q l)

    pub is-settled : (r q : ℕ) {a : AverageUse} → r < set_count (diagram_of t) → q < set_count (diagram_of t)
        → average_value a ≡ average_of (get_or after r 0) (get_or after q 0) → Answered (settled_average (diagram_of t) r q) (Ok a)
    unfolding sizes_of sizes_by
    is-settled r q lr lq w = rw (here.ended, sizes_of) (record { is = ap accepted (rw (here.at r lr, here.at q lq) at w) })

pub few-sets : {t : List ℕ} {roles groups k : ℕ} → ValidTotals t roles groups → k < set_count (diagram_of t) → k < most_sets
few-sets {t} known l = omega (arith, upper-few (diagram_of t) known.valid.formed, upper-sets (diagram_of t))

-- ---- the number of a group, or of none

record Found (t : List ℕ) (number own : ℕ) : Type 0 where
  group : PlacedGroup
  is : group_numbered number (placed_groups (diagram_of t)) ≡ some group
  of_predicate : group.predicate ≡ own

module _ (t : List ℕ) (number : ℕ) {w : std.Option ℕ} (h : owner_of w ≡ predicate_of (group_numbered number (placed_groups (diagram_of t)))) where
  pub no_owner : w ≡ None → Answered (average_in (diagram_of t) number) (Err (NoSuch number))
  no_owner p = go (group_numbered number (placed_groups (diagram_of t))) refl
    where
      go : (o : Option PlacedGroup) → group_numbered number (placed_groups (diagram_of t)) ≡ o → Answered (average_in (diagram_of t) number) (Err (NoSuch number))
      go none e = rw (no_group (diagram_of t) number e) (record { is = refl })
      go (some g) e = let z : ◌≡◌ {A = Option ℕ} none (some g.predicate) = rw (p, e) at h in absurd (none-ne-some g.predicate z)

  module _ {own : ℕ} (p : w ≡ Some own) where
    found : Found t number own
    found = go (group_numbered number (placed_groups (diagram_of t))) refl
      where
        go : (o : Option PlacedGroup) → group_numbered number (placed_groups (diagram_of t)) ≡ o → Found t number own
        go none e = let z : ◌≡◌ {A = Option ℕ} (some own) none = rw (p, e) at h in absurd (some-ne-none own z)
        go (some g) e =
            let z : ◌≡◌ {A = Option ℕ} (some own) (some g.predicate) = rw (p, e) at h in
            record { group = g; is = e; of_predicate = sym (some-injective own g.predicate z) }

    among : (found.group.predicate < set_count (diagram_of t)) × (found.group.own < set_count (diagram_of t))
    among = group-among (diagram_of t) (numbered-one number (placed_groups (diagram_of t)) found.is).0

    numbers : number ≡ suc found.group.own
    numbers = (numbered-one number (placed_groups (diagram_of t)) found.is).1

    pub number-some : {x : ℕ} → x ≡ number → 1 ≤ x
    number-some e = omega (arith, numbers)

    pub owner-among : {r : ℕ} → r ≡ own → r < set_count (diagram_of t)
    owner-among e = omega (arith, among.0, found.of_predicate)

    pub group-among-sets : {x : ℕ} → x ≡ number → x - 1 < set_count (diagram_of t)
    group-among-sets e = omega (arith, among.1, numbers)

    pub of_owner : {r x : ℕ} {a : Result AverageUse Refusal} → r ≡ own → x ≡ number → Answered (settled_average (diagram_of t) r (x - 1)) a
        → Answered (average_in (diagram_of t) number) a
    of_owner {r} {x} er ex w =
        let eq : x - 1 ≡ found.group.own = omega (arith, numbers) in
        let ep : r ≡ found.group.predicate = er ∙ sym found.of_predicate in
        rw (is-group (diagram_of t) number found.is) (rw (ep, eq) at w)

-- ---- any table

module _ (t : List ℕ) (number : ℕ) {r : Result Widened Refusal} {f : Refusal} (p : r ≡ Err f)
    (e : acceptance_of r ≡ described (diagram_in table_line t)) where
  pub table-refused : Answered (average_call t number) (Err f)
  unfolding average_call
  table-refused = rw (accepted-refused t p e, average_call) (record { is = refl })

module _ (t w : List ℕ) (number : ℕ) {w' : List ℕ} {r : Result Widened Refusal} {v : Widened}
    (p : r ≡ Ok v) (e : acceptance_of r ≡ described (diagram_in table_line t))
    (ew : w' ≡ buffer_after (widened t) w) where
  pub table_average : {a : Result AverageUse Refusal} → Answered (average_in (diagram_of (take v.length w')) number) a → Answered (average_call t number) a
  unfolding average_call
  table_average h = rw ((accepted_as t w p e ew).reads, average_call) h
