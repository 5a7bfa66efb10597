-- `lines_main::push_report` meets its contract. The loop's invariant: what is written, and what the calls to come tell, is the report.
use Prim.Native.Nat.{◌-◌}
use lib.ListN.{length}
use Rattle.lines_main.proofs.Reporting.{Reporting}
use Rattle.lines_main.proofs.push_report.Given as goal

abbrev pub invariant-loop-start : goal.invariant-loop-start
invariant-loop-start l = Reporting l.text l.initial.out l.out l.offset

abbrev pub decreases-loop-start : goal.decreases-loop-start
decreases-loop-start l = length l.text - l.offset
