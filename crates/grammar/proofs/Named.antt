-- The roles of a predicate in the table, one after the other: those passed are not in the group; and the limits on a role line.
use Prim.Native.Nat.{ℕ, ◌+◌, ◌-◌, ◌≤◌, ◌<◌}
use native.Mathlib.Omega.{arith}
use mathlib.Core.Path.{◌≡◌, refl, sym, ◌∙◌}
use mathlib.Core.Bool.{Bool, true, false}
use mathlib.Core.List.{List}
use lib.Dec.{leb}
use lib.ListN.{get_or, drop}
use lib.Seq.{get_or-drop}
use borrow.Author.Tests.{eq-eqb, ne_eqb}
use Rattle.counting.proofs.Laws.Lines.{each_more, each_none}
use Rattle.orm.specs.Diagram.{limits_roles, role_line_of}
use Rattle.orm.specs.Form.{fields, role_of, named}
use Rattle.reading.specs.Walk.{roles_at}
use Rattle.grammar.specs.Awaited.{role_fields_of}
use Rattle.grammar.specs.Laws.Room.{role-fields, role-few}

-- ---- the roles left decide as all do

module _ (group kind : ℕ) (s : List ℕ) (count i at : ℕ) {whole : Bool} (w : named group (roles_at kind (count - i) (drop at s)) ≡ whole) where
  pub named_end : count ≤ i → false ≡ whole
  unfolding named
  named_end h = rw (each_none (role_of kind) (fields (role_line_of kind)) (count - i) (drop at s) (omega arith)) at w

  module _ {x : ℕ} (h : i < count) (e : x ≡ get_or s (at + 2) 0) where
    own : x ≡ get_or (drop at s) 2 0
    own = e ∙ sym (get_or-drop at s 2 0)

    pub named_here : x ≡ group → true ≡ whole
    unfolding named
    named_here q = rw (each_more (role_of kind) (fields (role_line_of kind)) s at (count - i) (omega arith), eq-eqb (get_or (drop at s) 2 0) group (sym own ∙ q)) at w

    pub named_more : {n m : ℕ} → (x ≡ group → ⊥) → n ≡ m → m ≡ role_fields_of kind → named group (roles_at kind (count - (i + 1)) (drop (at + n) s)) ≡ whole
    unfolding named
    named_more n en em =
        let k : count - (i + 1) ≡ count - i - 1 = omega arith in
        rw (k, en, em, ← role-fields kind)
        (rw (each_more (role_of kind) (fields (role_line_of kind)) s at (count - i) (omega arith), ne_eqb (get_or (drop at s) 2 0) group (λ m. n (own ∙ m))) at w)

-- ---- RMIN and RMAX

module _ (kind : ℕ) (v : List ℕ) where
  pub limits-given : kind ≡ 2 → leb (get_or v 3 0) (get_or v 4 0) ≡ leb (role_of kind v).rmin (role_of kind v).rmax
  unfolding limits_roles
  limits-given e = rw (e, role_of)

  pub limits-none : (kind ≡ 2 → ⊥) → true ≡ leb (role_of kind v).rmin (role_of kind v).rmax
  unfolding limits_roles
  limits-none n = rw (ne_eqb kind 2 n, role_of)

-- ---- the numbers of a role line in a diagram of this kind

module _ (kind : ℕ) {n : ℕ} (e : n ≡ role_fields_of kind) where
  pub limited_long : kind ≡ 2 → n ≡ 5
  unfolding limits_roles
  limited_long h = e ∙ rw (h, role_fields_of) refl

  pub role_long : 2 < n
  role_long = omega (arith, (role-few kind).0)
