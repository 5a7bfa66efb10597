-- What is written of a line: an entry, part after part.
use Prim.Native.Nat.{ℕ}
use mathlib.Core.List.{List, [], ◌∷◌, ◌++◌, append_assoc}
use Rattle.orm.specs.Text.{decimal, separator, values_text}
use Rattle.buffer.specs.declared.output.Output.{Output}
use Rattle.buffer.specs.Written.{Wrote}
use Rattle.buffer.specs.Laws.{wrote_then, wrote_as}
use Rattle.lines_main.specs.Report.{entry}

pub wrote-entry : (start n : ℕ) {key : List ℕ} {o o₁ o₂ o₃ o₄ : Output ℕ}
    → Wrote o key o₁ → Wrote o₁ (61 ∷ []) o₂ → Wrote o₂ (decimal start ++ separator 1 ∷ []) o₃
    → Wrote o₃ (decimal n ++ separator 0 ∷ []) o₄ → Wrote o (entry key start n) o₄
unfolding entry values_text separator
wrote-entry start n a b c d =
    wrote_then a (wrote_then b (wrote_as (wrote_then c d) (append_assoc (decimal start) (44 ∷ []) (decimal n ++ 10 ∷ []))))
