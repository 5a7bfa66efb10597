-- S-2, 'Subtypes that have no table of their own' (document 02), on running code, as one statement over the calls for C, with its one proof in
-- `Subtypes/Proof`. `Told` and `HasValidated` are what the contracts of check, populating and validating ensure of the four numbers.
use Rattle.std.specs.Prelude.{ℕ, suc, min, ◌≤◌, ◌≡◌, List, [], ◌∷◌}
use Rattle.counting.specs.Index.{At}
use Rattle.orm.specs.Diagram.{ObjectType, index}
use Rattle.orm.specs.Sets.{upper_of_type}
use Rattle.orm.specs.Populate.{size}
use Rattle.orm.specs.Meaning.{MustPlay}
use Rattle.guarantee.specs.Subtypes.{FreeSubtype, RolelessRoot}
use Rattle.populate.specs.Demand3.{TableOf, Making, settled_sizes}
use Rattle.capi.specs.Told.{Told}
use Rattle.capi.specs.Ended.{HasValidated}
pub mod Proof

-- Of every table of a well-formed diagram
pub record SubtypesTold : Type 0 where
  -- 'a non-independent subtype that plays no role is free of the sum limit': check writes for it the smaller of its starting upper
  -- bound and its supertype's size
  pub settles : {t four before after : List ℕ} (x : TableOf t) → Told t settled_sizes four before after
      → {rounds n : ℕ} → four ≡ 0 ∷ 0 ∷ rounds ∷ n ∷ [] → {a : ℕ} {type : ObjectType} → At type x.diagram.types a → FreeSubtype x.diagram (suc a) type
      → size after a ≡ min (upper_of_type type) (size after (index type.super))
  -- 'and of K10': validating names with it a type that must play, and no other
  pub validated : {t : List ℕ} (cells : List ℕ) {four : List ℕ} (x : TableOf t) → HasValidated t cells four → {number : ℕ} → four ≡ 0 ∷ 0 ∷ 10 ∷ number ∷ []
      → (a : ℕ) × (type : ObjectType) × At type x.diagram.types a × (number ≡ suc a) × MustPlay x.diagram number type
  -- 'A non-independent root without roles is refused as before', by check and by populating, in round 1 at the latest; the array is as it was
  pub roots : {t four before after : List ℕ} {make : Making} (x : TableOf t) → Told t make four before after
      → {a : ℕ} {type : ObjectType} → At type x.diagram.types a → RolelessRoot x.diagram (suc a) type
      → (set : ℕ) × (round : ℕ) × (round ≤ 1) × (four ≡ 7 ∷ set ∷ round ∷ 0 ∷ []) × (after ≡ before)
