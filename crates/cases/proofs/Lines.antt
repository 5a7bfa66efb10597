-- The words of a comparison.
use Rattle.std.specs.Prelude.{ℕ, Bool, true, false, List, [], ◌∷◌, ◌≡◌}
use Rattle.orm.specs.Text.{bytes}
use Rattle.buffer.specs.declared.output.Output.{Output}
use Rattle.buffer.specs.Written.{Wrote}
use Rattle.cases.specs.Lines.{comparison}

module _ {o o' : Output ℕ} (t : Bool) where
  pub same_word : t ≡ true → Wrote o (115 ∷ 97 ∷ 109 ∷ 101 ∷ []) o' → Wrote o (comparison t) o'
  unfolding comparison bytes
  same_word h w = rw h w

  pub differs_word : t ≡ false → Wrote o (100 ∷ 105 ∷ 102 ∷ 102 ∷ 101 ∷ 114 ∷ 115 ∷ []) o' → Wrote o (comparison t) o'
  unfolding comparison bytes
  differs_word h w = rw h w
