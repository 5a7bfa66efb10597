-- Cells are refused with 9, or cut whole: then the constraints answer.
use Rattle.blocks.specs.Starts.{populated, located}
use Rattle.validator.proofs.Calls.{cells-end, told}
use Rattle.std.proofs.Common.{rules}
use Rattle.validator.proofs.validate_cells.Goals as goal

pub returns-in-Some : goal.returns-in-Some
returns-in-Some c = search (rules, cells-end)

pub invariant_of-blocks : goal.invariant_of-blocks
invariant_of-blocks c = record {
  walkable = c.requires.walkable;
  located = located _ _ c.requires.walkable _ c.cut.ensures.starts_after c.requires.starts_len;
}

pub first_broken-requires : goal.first_broken-requires
first_broken-requires c = populated _ _ c.requires.valid c.cut.ensures.cells_value c.in_default.is

pub returns : goal.returns
returns c = told _ _ (populated _ _ c.requires.valid c.cut.ensures.cells_value c.in_default.is) _ c.first_broken.ensures
