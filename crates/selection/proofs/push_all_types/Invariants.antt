use Rattle.buffer.specs.Written.{Wrote}
use Rattle.selection.specs.Selected.{Passed}
use Rattle.selection.specs.Laws.Types.{types_within}
use Rattle.selection.specs.Laws.Upto.{first_preds}
use Rattle.selection.proofs.push_all_types.Given as goal

abbrev pub invariant-loop : goal.invariant-loop
invariant-loop l = record { passed : Passed l.t l.q l.counter; wrote : Wrote l.initial.out (types_within (first_preds l.counter l.t)) l.out }
