-- The limits of a table's diagram: the scratch that they take, and what a caller has of them.
use Prim.Native.Nat.{ℕ, ◌+◌, ◌≤◌}
use native.Mathlib.Omega.{arith}
use mathlib.Core.Path.{◌≡◌, refl, ap₂, subst⁻¹, ◌∙◌}
use mathlib.Core.List.{List}
use lib.ListN.{length, take}
use Rattle.orm.specs.Diagram.{Diagram, all_roles}
use Rattle.orm.specs.Text.{table_line}
use Rattle.orm.specs.Sets.{upper, limits}
use Rattle.orm.specs.Outcome.{Outcome, accepted, fitted, buffer_after}
use Rattle.orm.specs.Calls.{diagram_in}
use Rattle.orm.specs.SingleLimits.{start_call}
use Rattle.orm.proofs.Laws.Bounds.{upper-sets}
use Rattle.refusals.specs.Refusal.{refusal_of}
use Rattle.refusals.specs.declared.Refusal.{Refusal}
use Rattle.widening.specs.Answer.{acceptance_of, described, widened, Accepted}
use Rattle.widening.specs.Laws.Accepts.{accepted-refused, accepted_as}
use Rattle.widening.specs.Laws.Counts.{accepted-roles, accepted-groups, accepted-sets}
use Rattle.widening.specs.declared.Widened.{Widened}
use Rattle.table.specs.Positions.{diagram_of}
use Rattle.table.specs.Laws.Valid.{valid-walkable}
use Rattle.std.specs.Prelude.{map, All, Result, Ok, Err}
use Rattle.lowering.specs.Coded.{limit_of, limits_of}
use Rattle.lowering.specs.Sizes.{largest}
use Rattle.lowering.specs.Closed.{Within, Closed}
use Rattle.lowering.specs.declared.Limits.{Limits}
use Rattle.limits.specs.Encoded.{Fresh, Encoded, written_count}
use Rattle.limits.specs.Prepared.{most_sets, Listable}
use Rattle.limits.specs.Laws.Inside.{limits-inside}
use Rattle.limits.specs.Laws.Read.{read-within, read-limits, read-whole}
use Rattle.limits.specs.Laws.Room.{limits-fit, operands-fit}
use Rattle.limits.specs.declared.writer.Writer.{Writer}
use Rattle.propagation.specs.Answer.{Converted}
use Rattle.propagation.specs.Posed.{Counted, Bounded, Roomy, Stated, Posed}

-- ---- a valid table

module _ {t : List ℕ} {roles sets : ℕ} (known : Counted t roles sets) where
  pub known-listable : (types : List ℕ) {count : ℕ} → length types ≡ most_sets → count ≡ roles → Listable t count types
  known-listable types et e =
      let few : length (all_roles (diagram_of t)) ≤ 96 = known.valid.formed.role_count in
      record {
        walkable = valid-walkable known.valid;
        counted = e ∙ known.roles_are;
        few = omega (arith, known.roles_are, few);
        room = omega (arith, few);
      }

  pub limits_posed : {o out : Writer} → Encoded o (limits (diagram_of t)) out → Roomy o → Posed (accepted (diagram_of t)) (Ok sets) out
  limits_posed {o} w f =
      let d : Diagram = diagram_of t in
      let fits = limits-fit d known.valid.formed in
      let operands = operands-fit d known.valid.formed in
      let fresh : Fresh o (length (limits d)) (written_count (limits d)) = record {
        limits_at = f.limits_at;
        operands_at = f.operands_at;
        limits_room = omega (arith, f.limits_room);
        operands_room = omega (arith, f.operands_room);
      } in
      let few : written_count (limits d) ≤ largest = omega (arith, operands) in
      record {
        poses = record {
          of = d;
          reads = refl;
          limits_within = read-within w fresh few;
          limits_are = read-limits w fresh few;
          whole = read-whole w fresh few sets (rw known.sets_are (rw (upper-sets d) at (limits-inside d known.valid.formed)));
          sets_are = known.sets_are;
        };
      }

-- ---- any table

module _ (t : List ℕ) {r : Result Widened Refusal} (e : acceptance_of r ≡ described (diagram_in table_line t)) where
  pub posed_refused : {f : Refusal} (l : Writer) → r ≡ Err f → Posed (diagram_in table_line t) (Err f) l
  posed_refused l p = record { poses = accepted-refused t p e }

  module _ (w : List ℕ) {w' : List ℕ} {v : Widened} (p : r ≡ Ok v)
      (ew : w' ≡ buffer_after (widened t) w) where
    known : Accepted t (take v.length w') v.types v.preds v.roles v.groups
    known = accepted_as t w p e ew

    pub table_counted : {sets : ℕ} → sets ≡ v.types + v.preds + v.roles + v.groups → Counted (take v.length w') v.roles sets
    table_counted q = record { valid = known.valid; roles_are = accepted-roles t w p e ew; sets_are = accepted-sets t w p e ew q }

    pub table-bounded : {sets : ℕ} → sets ≡ v.types + v.preds + v.roles + v.groups → Bounded (take v.length w') v.groups sets
    table-bounded q = record { valid = known.valid; groups_are = accepted-groups t w p e ew; sets_are = accepted-sets t w p e ew q }

    pub posed_widened : {x : Result ℕ Refusal} {l : Writer} → Posed (accepted (diagram_of (take v.length w'))) x l → Posed (diagram_in table_line t) x l
    posed_widened h = rw known.reads h

    -- and what the table's call makes of it
    pub start-widened : {b b' : List ℕ} {x : Result ℕ Refusal} → Converted (fitted (length b) (upper (diagram_of (take v.length w')))) x b b'
        → Converted (start_call t (length b)) x b b'
    unfolding start_call
    start-widened h = rw (known.reads, start_call) h

  pub start-refused : {f : Refusal} (b : List ℕ) → r ≡ Err f → Converted (start_call t (length b)) (Err f) b b
  unfolding start_call buffer_after
  start-refused b p = rw (accepted-refused t p e, start_call) (record { handed = refl; buffer = refl })

-- ---- what a caller has

module _ {o : Outcome Diagram} {r : Result ℕ Refusal} {out : Writer} (w : Posed o r out) where
  pub problem_refused : {f : Refusal} → r ≡ Err f → o ≡ refusal_of f
  problem_refused p = rw p at w.poses

  module _ {n : ℕ} (p : r ≡ Ok n) where
    pub stated : Stated o n out
    stated = rw p at w.poses

    pub limits_within : out.limits.at ≤ length out.limits.buffer.now
    limits_within = stated.limits_within

    module _ (l : Limits) (el : l.limits.now ≡ take out.limits.at out.limits.buffer.now) (eo : l.operands.now ≡ out.operands.buffer.now) where
      pub limits_are : limits_of l ≡ limits stated.of
      limits_are = ap₂ (λ ops xs. map (limit_of ops) xs) eo el ∙ stated.limits_are

      pub limits-closed : Closed n l
      limits-closed =
          subst⁻¹ (λ ops. All (Within n ops) l.limits.now) eo (subst⁻¹ (All (Within n out.operands.buffer.now)) el stated.whole)
