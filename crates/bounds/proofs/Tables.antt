-- The check of a table: what accepting it says, and what a valid one leads to.
use Prim.Native.Nat.{ℕ, ◌≤◌}
use native.Mathlib.Omega.{arith}
use mathlib.Core.Path.{◌≡◌, refl, sym, ap, ◌∙◌}
use mathlib.Core.List.{List}
use lib.ListN.{length, take}
use lib.Seq.{length-take-le}
use Rattle.orm.specs.Text.{table_line}
use Rattle.orm.specs.Sets.{set_count, lower, upper, limits, verdict_from}
use Rattle.orm.specs.Outcome.{buffer_after, written}
use Rattle.orm.specs.Calls.{diagram_in, settled_into, check_call}
use Rattle.fixpoint.specs.Limits.{run}
use Rattle.std.specs.Prelude.{Result, Ok, Err}
use Rattle.refusals.specs.declared.Refusal.{Refusal}
use Rattle.widening.specs.Answer.{acceptance_of, described, widened, Accepted}
use Rattle.widening.specs.Laws.Accepts.{accepted-refused, accepted_as}
use Rattle.widening.specs.declared.Widened.{Widened}
use Rattle.rounds.specs.Answer.{Bounds}
use Rattle.std.specs.Borrow.{MutBor}
use Rattle.lowering.specs.Coded.{limits_of}
use Rattle.lowering.specs.declared.Limit.{Limit}
use Rattle.lowering.specs.declared.Limits.{Limits}
use Rattle.dependents.specs.Dependents.{operand_count}
use Rattle.dependents.specs.declared.Use.{Use}
use Rattle.limits.specs.Encoded.{Both, Begins}
use Rattle.limits.specs.declared.writer.Writer.{Writer}
use Rattle.buffer.specs.Laws.{wrote-end, wrote-front, wrote-inside}
use Rattle.table.specs.Positions.{diagram_of}
use Rattle.table.specs.Valid.{Valid}
use Rattle.reading.specs.WideTable.{wide_table}
use Rattle.table.specs.Laws.Valid.{sets-few}
use Rattle.orm.proofs.Laws.Bounds.{length-lower, upper-sets, bounds-paired, lower-few}
use Rattle.limits.specs.Prepared.{most_sets, most_limits, most_operands, most_uses, ValidTotals, Roomy, Prepared}
use Rattle.limits.specs.Laws.Room.{limits-fit, operands-fit, uses-fit, few-limits-fit, few-operands-fit, few-uses-fit}
use Rattle.limits.specs.Laws.Start.{start-bounds, written-within, written-limits, written-closed}
use Rattle.bounds.specs.Answer.{Answered, unchanged, checked, Takes, Space}
use Rattle.bounds.specs.Start.{lower_by, upper_by, Starts, Posed}
use Rattle.bounds.specs.Laws.Starts.{starts-inside}
use Rattle.bounds.specs.declared.Start.{Start}
use Rattle.bounds.specs.declared.Start.TheVariants.{Own}
use Rattle.bounds.specs.declared.Problem.{Problem}
use Rattle.bounds.specs.declared.Written.{Written}

-- ---- what accepting the table says

module _ (t b : List ℕ) {r : Result Widened Refusal} {x : Refusal} (p : r ≡ Err x)
    (e : acceptance_of r ≡ described (diagram_in table_line t)) where
  pub table-refused : Answered (check_call t (length b)) (Err x) b b
  unfolding check_call written buffer_after
  table-refused = rw (accepted-refused t p e, check_call) (record { handed = refl; buffer = refl })

module _ (t w : List ℕ) {w' : List ℕ} {r : Result Widened Refusal} {v : Widened} (p : r ≡ Ok v)
    (e : acceptance_of r ≡ described (diagram_in table_line t)) (ew : w' ≡ buffer_after (widened t) w) where
  known : Accepted t (take v.length w') v.types v.preds v.roles v.groups
  known = accepted_as t w p e ew

  pub table-checked : {o o' : List ℕ} {x : Result Written Refusal} → Answered (checked Own (take v.length w') (length o)) x o o' → Answered (check_call t (length o)) x o o'
  unfolding check_call
  table-checked h = rw (known.reads, check_call) h

-- ---- a valid table

pub front-count : (l : List ℕ) (m : ℕ) → m ≤ length l → m ≡ length (take m l)
front-count l m h = sym (length-take-le m l h)

-- the scratch of a table, `next` first for the types of its roles
module _ {t low up next changed last : List ℕ} {uses : List Use} {out : Writer} (space : Space t out low up next changed last uses) where
  pub space_roomy : Roomy t next low up
  space_roomy = record {
    types_room = omega (arith, space.next_room, length-lower (diagram_of t));
    lower_room = space.lower_room;
    upper_room = space.upper_room;
  }

  module _ {n : ℕ} {next' low' up' : List ℕ} {out' : Writer} (p : Prepared t next out low up n next' out' low' up') where
    upper_fits : length (upper (diagram_of t)) ≤ length up
    upper_fits = omega (arith, bounds-paired (diagram_of t), space.upper_room)

    sets : n ≡ length (lower (diagram_of t))
    sets = wrote-end p.lower_are space.lower_room

    pub lower-within : n ≤ length low'
    lower-within = wrote-inside p.lower_are

    pub upper-within : n ≤ length up'
    upper-within = wrote-inside p.upper_are

    pub next-within : length next' ≡ length next → n ≤ length next'
    next-within e = omega (arith, sets, space.next_room)

    pub last-within : n ≤ length last
    last-within = omega (arith, sets, space.last_room)

    pub changed-within : length (take n up') ≤ length changed
    changed-within = omega (arith, length-take-le n up' upper-within, sets, space.changed_room)

    lower-front : take n low' ≡ lower (diagram_of t)
    lower-front = wrote-front p.lower_are space.lower_room

    upper-front : take n up' ≡ upper (diagram_of t)
    upper-front = wrote-front p.upper_are upper_fits

    pub next-long : length next' ≡ length next → length (take n up') ≡ length (take n next')
    next-long e = length-take-le n up' upper-within ∙ sym (length-take-le n next' (next-within e))

    pub last-long : length (take n last) ≡ length (take n up')
    last-long = length-take-le n last last-within ∙ sym (length-take-le n up' upper-within)

    module _ {q : Problem} (posed : Posed t q) where
      v : Valid t
      v = posed.totals.valid

      pub limits_within : out'.limits.at ≤ length out'.limits.buffer.now
      limits_within = written-within (diagram_of t) v.formed p.limits_are space.fresh

      pub check-starts : Starts q.start (length (take n up'))
      check-starts = let e : length (upper (diagram_of t)) ≡ set_count (diagram_of t) = upper-sets (diagram_of t) in rw (upper-front, e) posed.starts

      module _ (l : Limits) (el : l.limits.now ≡ take out'.limits.at out'.limits.buffer.now) (eo : l.operands.now ≡ out'.operands.buffer.now) where
        limits-are : limits_of l ≡ limits (diagram_of t)
        limits-are = written-limits (diagram_of t) v.formed p.limits_are space.fresh l el eo

        pub check-bounds : Bounds l (lower_by q.start (take n low')) (upper_by q.start (take n up'))
        check-bounds =
            rw (lower-front, upper-front)
            (start-bounds (diagram_of t) v.formed l (starts-inside q.start (diagram_of t) posed.starts)
            (written-closed (diagram_of t) v.formed p.limits_are space.fresh l el eo))

        pub check-uses : operand_count (limits_of l) ≤ length uses
        check-uses = rw limits-are space.uses_room

        pub check-is : {o o' : List ℕ} {a : Result Written Refusal}
            → Answered
            (settled_into 7 unchanged
            (run (limits_of l) (lower_by q.start (take n low')) (upper_by q.start (take n up'))) (length o)) a o o'
            → Answered (checked q.start t (length o)) a o o'
        unfolding verdict_from
        check-is h = rw (limits-are, lower-front, upper-front) at h

-- ---- scratch that is set aside

pub takes_any : {t : List ℕ} → Valid t → Takes t most_limits most_operands most_sets most_uses
takes_any {t} v = record {
  limits_are = limits-fit (diagram_of t) v.formed;
  operands_are = operands-fit (diagram_of t) v.formed;
  few = omega arith;
  sets_are = lower-few (diagram_of t) v.formed;
  uses_are = uses-fit (diagram_of t) v.formed;
}

pub takes_short : {t : List ℕ} → Valid t → length t ≤ 64 → Takes t 96 192 32 256
takes_short {t} v h =
    let short : length (wide_table (diagram_of t)) ≤ 64 = omega (arith, ap length v.is) in
    record {
      limits_are = few-limits-fit (diagram_of t) v.formed short;
      operands_are = few-operands-fit (diagram_of t) v.formed short;
      few = omega arith;
      sets_are = omega (arith, sets-few t v, bounds-paired (diagram_of t));
      uses_are = few-uses-fit (diagram_of t) v.formed short;
    }

pub space_so : {t low up next changed last : List ℕ} {uses : List Use} {codes : MutBor (List Limit)} {operands : MutBor (List ℕ)} {out : Writer} {a b c d : ℕ}
    → Takes t a b c d → Begins codes operands out → length codes.now ≡ a → length operands.now ≡ b → length low ≡ c → length up ≡ c → length next ≡ c
    → length changed ≡ c → length last ≡ c → length uses ≡ d → Space t out low up next changed last uses
space_so {t} k b ea eb el eu en ec es ed = record {
  fresh = record {
    limits_at = ap (λ (s : Both). s.limits.at) b.is;
    operands_at = ap (λ (s : Both). s.operands.at) b.is;
    limits_room = omega (arith, k.limits_are, ap (λ (s : Both). length s.limits.items) b.is);
    operands_room = omega (arith, k.operands_are, ap (λ (s : Both). length s.operands.items) b.is);
  };
  lower_room = omega (arith, k.sets_are);
  upper_room = omega (arith, k.sets_are);
  next_room = omega (arith, k.sets_are);
  changed_room = omega (arith, k.sets_are);
  last_room = omega (arith, k.sets_are);
  uses_room = omega (arith, k.uses_are);
}

-- ---- what is to be settled

pub posed_so : {t : List ℕ} {roles groups r g : ℕ} {x : Start} → ValidTotals t roles groups → Starts x (set_count (diagram_of t)) → r ≡ roles → g ≡ groups
    → Posed t (record { roles = r; groups = g; start = x })
posed_so known starts er eg = record { totals = rw (er, eg) known; starts = starts }
