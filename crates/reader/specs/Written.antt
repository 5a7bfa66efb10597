-- The numbers that reading a text writes to the table.
use Rattle.std.specs.Prelude.{ℕ, zero, suc, true, false, List, [], ◌++◌}
use Rattle.reading.specs.WideTable.{most_numbers}
use Rattle.orm.specs.Text.{text_line}
use Rattle.lexer.specs.Cuts.{line_numbers}
use Rattle.grammar.specs.declared.Awaited.{Awaited}
use Rattle.grammar.specs.declared.Awaited.TheVariants.{AtDiagram}
use Rattle.grammar.specs.Awaited.{kind_at, is_going}
use Rattle.reader.specs.Reach.{halted, reached, line_step}

-- Of up to so many lines from a place on, `acc` being the numbers before them: those of each line, and of the line that is
-- refused those before its fault
unfoldable pub written_from : ℕ → Awaited → List ℕ → List ℕ → List ℕ
written_from zero p acc s = []
written_from (suc n) p acc s =
    elim (is_going p) [
      | false ↦ []
      | true ↦
          line_numbers (kind_at p) s
          ++ elim (line_step text_line p acc s) [ halted c ↦ [] | reached q acc' e rest ↦ written_from n q acc' rest ]
    ]

-- Of a whole text: a table has at most so many numbers, and a line at least one
unfoldable pub written : List ℕ → List ℕ
written s = written_from most_numbers AtDiagram [] s
