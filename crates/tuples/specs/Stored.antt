-- Numbers stored into a buffer from an index on, in any order; those that would go past its end are not stored.
use Rattle.std.specs.Prelude.{ℕ, ◌≡◌, List}
use Rattle.std.proofs.lemmas.List.Edits.{sets}

-- The buffer `o` with `xs` stored from the index `at` on is `o'`
pub record Stored (o : List ℕ) (at : ℕ) (xs o' : List ℕ) : Type 0 where
  pub is : o' ≡ sets o at xs
