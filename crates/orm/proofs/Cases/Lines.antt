-- Worked examples of the line reader: from any position, past the end too.
use Rattle.std.specs.Prelude.{◌≡◌, refl, [], ◌∷◌, map}
use Rattle.orm.specs.Text.{bytes}
use Rattle.orm.specs.LineReader.{no_line, line_at, next_line, position_after}
use Rattle.orm.proofs.Cases.All.{everything}

lines-given : map (next_line (bytes "ab\n\nc")) (0 ∷ 1 ∷ 3 ∷ 4 ∷ 9 ∷ []) ≡ line_at 0 2 ∷ line_at 1 1 ∷ line_at 3 0 ∷ no_line ∷ no_line ∷ []
unfolding everything
lines-given = refl

positions-after :
    position_after (line_at 0 2) 0 ∷ position_after (line_at 3 0) 3 ∷ position_after no_line 4 ∷ position_after no_line 9 ∷ []
    ≡ 3 ∷ 4 ∷ 4 ∷ 9 ∷ []
unfolding everything
positions-after = refl
