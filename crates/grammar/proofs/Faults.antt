-- The ranges of a role line.
use Rattle.std.specs.Prelude.{ℕ, ◌≡◌, refl, Bool, true, false, List, [], ◌∷◌, length}
use Rattle.std.proofs.Common.{arith}
use Rattle.orm.specs.Diagram.{LineKind, role_line, limited_role_line, limits_roles, role_line_of}
use Rattle.orm.specs.Form.{ranges, in_ranges}
use Rattle.grammar.specs.Awaited.{role_fields_of}

-- the ranges of a role line with RMIN and RMAX start with those of one without them
ranged-first : (v : List ℕ) → length v ≡ 3 → in_ranges (ranges limited_role_line) v ≡ in_ranges (ranges role_line) v
unfolding ranges in_ranges
ranged-first [] e = refl
ranged-first (a ∷ []) e = refl
ranged-first (a ∷ b ∷ []) e = refl
ranged-first (a ∷ b ∷ c ∷ []) e = refl
ranged-first (a ∷ b ∷ c ∷ d ∷ v) e = absurd (omega arith)

pub role_ranged : (kind : ℕ) (v : List ℕ) → length v ≡ role_fields_of kind → in_ranges (ranges limited_role_line) v ≡ in_ranges (ranges (role_line_of kind)) v
unfolding role_line_of
role_ranged kind v e = go (limits_roles kind) e
  where
    go : (b : Bool) → length v ≡ elim b as (λ _. ℕ) [ true ↦ 5 | false ↦ 3 ]
        → in_ranges (ranges limited_role_line) v ≡ in_ranges (ranges (elim b as (λ _. LineKind) [ true ↦ limited_role_line | false ↦ role_line ])) v
    go true h = refl
    go false h = ranged-first v h
