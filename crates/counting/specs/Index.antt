-- What stands at an index of a list.
use Rattle.std.specs.Prelude.{ℕ, suc, ◌≡◌, List, ◌∷◌}

module _ {A : Type 0} where
  -- `a` stands at this index of the list
  pub data At (a : A) : List A → ℕ → Type 0 where
    first : {x : A} {xs : List A} → a ≡ x → At a (x ∷ xs) 0
    later : {x : A} {xs : List A} {i : ℕ} → At a xs i → At a (x ∷ xs) (suc i)
