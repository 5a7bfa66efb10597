-- The types above a type, as propositions.
use Rattle.std.specs.Prelude.{ℕ, ◌≤◌, ◌≡◌, Bool, true, false, List}
use Rattle.orm.specs.Diagram.{ObjectType, index}
use Rattle.orm.specs.Supertypes.{super_at}

-- 'SUPER is below the type's own number': of each of these types
abbrev pub Supers : List ObjectType → Type 0
Supers ts = (a : ℕ) → super_at ts a ≤ a

-- The climb from a type ends there, or where that from its supertype does
pub data Reached (ends : ℕ → Bool) (ts : List ObjectType) : ℕ → ℕ → Type 0 where
  itself : {a : ℕ} → ends a ≡ true → Reached ends ts a a
  above : {a b : ℕ} → ends a ≡ false → Reached ends ts (index (super_at ts a)) b → Reached ends ts a b
