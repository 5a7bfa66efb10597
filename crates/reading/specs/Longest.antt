-- Well-formed diagrams whose text has 4,553 bytes, or 3,593 in `diagram=1`, and whose table has 900 numbers, or 708: no smaller number bounds them.
use Rattle.std.specs.Prelude.{ℕ, ◌≡◌, refl, length}
use mathlib.Core.List.{[], ◌∷◌, ◌++◌, map, replicate}
use Rattle.counting.specs.Lists.{up_from}
use Rattle.orm.specs.Diagram.{ObjectType, Role, Frequency, Predicate, Diagram, table}
use Rattle.orm.specs.Text.{render}
use Rattle.orm.specs.WellFormed.{WellFormed}
use Rattle.orm.proofs.Cases.All.{everything}
use Rattle.reading.specs.Laws.{well_formed-iff-accepted}

-- 32 types, each the supertype of the next and with its range; 16 predicates of three roles in two groups, 16 in one
unfoldable pub longest : ℕ → ℕ → Diagram
longest kind rmin =
    let t : ℕ → ObjectType = λ super. record { min = 4096; max = 4096; first = 100000; last = 999999; super = super; indep = 1 } in
    let r : ℕ → Role = λ group. record { type = 32; mand = 1; group = group; rmin = rmin; rmax = 4096 } in
    let f : Frequency = record { fmin = 4096; fmax = 4096 } in
    let p : Predicate = record { min = 4096; max = 4096; roles = r 1 ∷ r 1 ∷ r 1 ∷ []; groups = f ∷ [] } in
    let q : Predicate = record { min = 4096; max = 4096; roles = r 1 ∷ r 2 ∷ r 2 ∷ []; groups = f ∷ f ∷ [] } in
    record { kind = kind; types = map t (up_from 0 32); preds = replicate 16 p ++ replicate 16 q }

pub longest-formed : WellFormed (longest 2 4096) × WellFormed (longest 1 1)
unfolding everything longest
longest-formed = ((well_formed-iff-accepted (longest 2 4096)).1 refl, (well_formed-iff-accepted (longest 1 1)).1 refl)

pub longest-text : length (render (longest 2 4096)) ∷ length (render (longest 1 1)) ∷ [] ≡ 4553 ∷ 3593 ∷ []
unfolding everything longest
longest-text = refl

pub longest-table : length (table (longest 2 4096)) ∷ length (table (longest 1 1)) ∷ [] ≡ 900 ∷ 708 ∷ []
unfolding everything longest
longest-table = refl
