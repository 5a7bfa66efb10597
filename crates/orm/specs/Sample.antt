-- The sample, and other diagrams of the same shape, as lines.
use Rattle.std.specs.Prelude.{ℕ, List, [], ◌∷◌, ◌++◌}
use Prim.Native.String.{String}
use mathlib.Core.List.{flat_map}
use Rattle.orm.specs.Text.{bytes}

-- Lines, each ended by a line feed
unfoldable pub text : List String → List ℕ
text ls = flat_map (λ (l : String). bytes l ++ 10 ∷ []) ls

-- The sample with these lines for its types
unfoldable pub sample_with : List String → List String
sample_with types = "diagram=1" ∷ types ++ "preds=1" ∷ "pred=1,100,2,1" ∷ "role=1,1,1" ∷ "role=2,0,0" ∷ "freq=1,2" ∷ "end=2" ∷ []

unfoldable pub sample : List String
sample = sample_with ("types=2" ∷ "type=1,3,1,9,0,0" ∷ "type=1,2,1,2,0,0" ∷ [])
