-- `prescription::prescribe_valid` meets its contract. No set has the number, or one has.
use mathlib.Core.Logic.{inl, inr}
use Rattle.prescription.proofs.Answers.{numbered-none, numbered-past, numbered-set, between}
use Rattle.std.proofs.Common.{rules}
use Rattle.prescription.proofs.prescribe_valid.Goals as goal

pub returns-then-asked-eq0 : goal.returns-then-asked-eq0
returns-then-asked-eq0 c =
    elim c.then-asked-eq0.either [
      | inl none ↦ numbered-none c.args.t.now c.args.number c.args.wanted c.args.cells.now none
      | inr past ↦ numbered-past c.args.t.now c.args.number c.args.wanted c.args.cells.now c.requires.sets_value past.1
    ]

pub keep-requires : goal.keep-requires
keep-requires c = search (rules, between)

pub returns : goal.returns
returns c =
    numbered-set c.args.t.now c.args.number c.args.wanted c.args.cells.now c.requires.sets_value c.if-asked-eq0.false c.if-sets-asked.false c.keep.ensures
