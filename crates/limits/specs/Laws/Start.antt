-- What the rounds of a well-formed diagram start from: its own limits, and bounds inside its own.
use Rattle.std.specs.Prelude.{ℕ, ◌≤◌, ◌≡◌, List, length, take, map, All}
use Rattle.std.proofs.Common.{arith, sym, ap₂, ◌∙◌}
use Rattle.std.proofs.Math.Path.{subst⁻¹}
use Rattle.counting.proofs.Laws.Members.{each-get_or}
use Rattle.orm.specs.Diagram.{Diagram}
use Rattle.orm.specs.WellFormed.{WellFormed}
use Rattle.orm.specs.Sets.{upper, limits}
use Rattle.orm.proofs.Laws.Bounds.{bounds-paired, upper-few, upper-small}
use Rattle.orm.specs.Inside.{Inside}
use Rattle.lowering.specs.Coded.{limit_of, limits_of}
use Rattle.lowering.specs.Closed.{Within, Closed}
use Rattle.lowering.specs.declared.Limits.{Limits}
use Rattle.rounds.specs.Answer.{Bounds}
use Rattle.limits.specs.Encoded.{Encoded, Fresh, written_count}
use Rattle.limits.specs.Laws.Inside.{limits-inside}
use Rattle.limits.specs.Laws.Read.{read-within, read-limits, read-whole}
use Rattle.limits.specs.Laws.Room.{operands-fit}
use Rattle.lowering.specs.Sizes.{largest}
use Rattle.limits.specs.declared.writer.Writer.{Writer}

pub start-bounds : (d : Diagram) → WellFormed d → (l : Limits) {low high : List ℕ} → Inside d low high → Closed (length (upper d)) l → Bounds l low high
start-bounds d w l {low} {high} i c = record {
  closed = rw i.≼_upper.sized c;
  paired = sym i.lower_≼.sized ∙ bounds-paired d ∙ sym i.≼_upper.sized;
  few = omega (arith, i.≼_upper.sized, upper-few d w);
  small = λ s. omega (arith, i.≼_upper.entry s, each-get_or (◌≤ 4096) (upper d) 0 (upper-small d w) (omega arith) s);
}

-- The limits that were written are the diagram's, and are whole
module _ (d : Diagram) (w : WellFormed d) {o n : Writer} (e : Encoded o (limits d) n) (f : Fresh o (length (limits d)) (written_count (limits d))) where
  operands-few : written_count (limits d) ≤ largest
  operands-few = omega (arith, operands-fit d w)

  pub written-within : n.limits.at ≤ length n.limits.buffer.now
  written-within = read-within e f operands-few

  module _ (l : Limits) (el : l.limits.now ≡ take n.limits.at n.limits.buffer.now) (eo : l.operands.now ≡ n.operands.buffer.now) where
    pub written-limits : limits_of l ≡ limits d
    written-limits = ap₂ (λ ops xs. map (limit_of ops) xs) eo el ∙ read-limits e f operands-few

    pub written-closed : Closed (length (upper d)) l
    written-closed =
        subst⁻¹ (λ ops. All (Within (length (upper d)) ops) l.limits.now) eo
        (subst⁻¹ (All (Within (length (upper d)) n.operands.buffer.now)) el (read-whole e f operands-few (length (upper d)) (limits-inside d w)))
