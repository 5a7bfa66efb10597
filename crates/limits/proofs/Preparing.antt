-- What is prepared for the rounds, with room for all of it.
use Prim.Native.Nat.{ℕ, ◌≤◌}
use native.Mathlib.Omega.{arith}
use mathlib.Core.Path.{◌≡◌, sym, ap, subst, ◌∙◌}
use mathlib.Core.List.{List, ◌++◌}
use lib.ListN.{length, take, drop, length-map}
use lib.Seq.{length-take-le}
use Rattle.orm.specs.Diagram.{Role, all_roles}
use Rattle.orm.specs.Sets.{lower, upper}
use Rattle.orm.proofs.Laws.Bounds.{bounds-paired}
use Rattle.buffer.specs.Written.{WroteAll}
use Rattle.buffer.specs.Laws.{wrote-end, wrote-front, wrote-inside, wrote-whole}
use Rattle.table.specs.Positions.{diagram_of}
use Rattle.selection.specs.Selected.{types_of, Types}
use Rattle.limits.specs.Prepared.{ValidTotals, Listable, types_in, Roomy}

-- ---- the types of the roles

module _ {t types : List ℕ} {roles : ℕ} (l : Listable t roles types) where
  as_many : length (types_of (all_roles (diagram_of t))) ≡ length (all_roles (diagram_of t))
  as_many = length-map (all_roles (diagram_of t)) (λ (r : Role). r.type)

  module _ {types' : List ℕ} {n : ℕ} (w : WroteAll types (types_of (all_roles (diagram_of t))) types' n) where
    fits : length (types_of (all_roles (diagram_of t))) ≤ length types
    fits = omega (arith, as_many, l.room)

    pub types-within : n ≤ length types'
    types-within = wrote-inside w

    pub types-count : n ≡ length (take n types')
    types-count = sym (length-take-le n types' types-within)

    pub types-known : Types t (take n types')
    types-known =
        let e : take n types' ≡ types_of (all_roles (diagram_of t)) = wrote-front w fits in
        record { are = e; few = rw e (omega (arith, as_many, l.counted, l.few)) }

    pub types-front : types' ≡ types_in t types
    types-front = wrote-whole w fits ∙ ap (λ (k : ℕ). types_of (all_roles (diagram_of t)) ++ drop k types) as_many

-- ---- all that the rounds start from

module _ {t types low up : List ℕ} (room : Roomy t types low up) where
  pub listable : {roles groups : ℕ} → ValidTotals t roles groups → Listable t roles types
  listable v = record {
    walkable = v.walkable;
    counted = v.counted.roles_are;
    few = omega (arith, v.counted.roles_are, v.valid.formed.role_count);
    room = room.types_room;
  }

  -- as many lower as upper bounds
  pub lower-counted : {low' up' : List ℕ} {n k : ℕ} → WroteAll low (lower (diagram_of t)) low' n → WroteAll up (upper (diagram_of t)) up' k
      → WroteAll low (lower (diagram_of t)) low' k
  lower-counted {low'} wl wu =
      let paired : length (lower (diagram_of t)) ≡ length (upper (diagram_of t)) = bounds-paired (diagram_of t) in
      subst (WroteAll low (lower (diagram_of t)) low')
      (wrote-end wl room.lower_room ∙ paired ∙ sym (wrote-end wu (omega (arith, paired, room.upper_room)))) wl
