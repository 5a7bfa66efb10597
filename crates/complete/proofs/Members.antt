-- The members of a role: different values of its type, in turn.
use Rattle.std.specs.Prelude.{ℕ, suc, ◌+◌, ◌-◌, ◌%◌, ◌≤◌, ◌<◌, ◌≡◌}
use Rattle.std.proofs.Math.Path.{refl}
use Rattle.std.proofs.Common.{sym, add_comm, mod-lt, eqb-true, eq-eqb, ne_eqb}
use mathlib.Core.List.Memᴰ.{head as here}
use mathlib.Core.List.Memᴰ.{tail as there}
use mathlib.Core.List.{List, [], ◌∷◌}
use Rattle.std.proofs.Math.Nat.{mod-eq_of_lt}
use Rattle.std.proofs.Math.Decide.{dec_le}
use native.Mathlib.Omega.{arith}
use Rattle.counting.proofs.Laws.Members.{apart}
use Rattle.counting.specs.Terms.{NoRepeats, ◌∈◌}
use Rattle.counting.specs.Totals.{sum_over}
use Rattle.pairing.proofs.Laws.Mod.{add-right_mod_cancel}
use Rattle.pairing.proofs.Laws.Walks.{once_turned}
use Rattle.orm.specs.Diagram.{Diagram, Role, index}
use Rattle.orm.specs.Supertypes.{first_value}
use Rattle.orm.specs.Populate.{member_of, size, taken_before, type_values}
use Rattle.orm.specs.Sets.{roles_of_type}
use Rattle.complete.proofs.Types.{values-iff}

module _ (d : Diagram) (c : List ℕ) (p : ℕ) (r : Role) where
  abbrev player : ℕ
  player = index r.type

  abbrev taken : ℕ
  taken = taken_before c p (roles_of_type d r.type)

  member-shift : (j : ℕ) → member_of d c p r j ≡ first_value d.types player + (j + taken) % size c player
  unfolding member_of
  member-shift j = rw (add_comm j taken)

  -- Each member is a value of the type
  pub member_in_type : (j : ℕ) → 0 < size c player → member_of d c p r j ∈ type_values d c player
  member_in_type j h =
      (values-iff d c player (member_of d c p r j)).1 (omega (arith, member-shift j), omega (arith, member-shift j, mod-lt (j + taken) h))

  -- Members by different indices differ
  pub member-differ : (i j : ℕ) → i < size c player → j < size c player → member_of d c p r i ≡ member_of d c p r j → i ≡ j
  member-differ i j h l e =
      let n = size c player in
      let same : (i + taken) % n ≡ (j + taken) % n = omega (arith, member-shift i, member-shift j) in
      cc (mod-eq_of_lt h, mod-eq_of_lt l, add-right_mod_cancel n taken i j same)

  -- Every value of the type is a member, by an index below the size of the type
  pub member-onto : (v : ℕ) → v ∈ type_values d c player → (j : ℕ) × (j < size c player) × (member_of d c p r j ≡ v)
  member-onto v m =
      let b = (values-iff d c player v).0 m in
      let o = once_turned (size c player) taken (v - first_value d.types player) (omega arith) in
      let hit = eqb-true (v - first_value d.types player) ((o.place + taken) % size c player) o.hit in
      (o.place, o.below, omega (arith, member-shift o.place, hit))

-- ---- the roles of a type take its members onward from where the previous one stopped

module _ (c : List ℕ) where
  -- Of the numbers below the sum of the roles' sizes, each is taken by one of the roles
  pub taken-by : (ss : List ℕ) → NoRepeats ss → (n : ℕ) → n < sum_over (size c) ss
      → (p : ℕ) × (p ∈ ss) × (taken_before c p ss ≤ n) × (n < taken_before c p ss + size c p)
  unfolding sum_over taken_before
  taken-by [] u n h = absurd (omega arith)
  taken-by (s ∷ ss) u n h = go (dec_le (suc n) (size c s)) (taken-by ss u.1 (n - size c s))
    where
      go : Dec (n < size c s)
          → (n - size c s < sum_over (size c) ss
          → (p : ℕ) × (p ∈ ss) × (taken_before c p ss ≤ n - size c s) × (n - size c s < taken_before c p ss + size c p))
          → (p : ℕ) × (p ∈ s ∷ ss) × (taken_before c p (s ∷ ss) ≤ n) × (n < taken_before c p (s ∷ ss) + size c p)
      go (yes l) rest =
          let e : taken_before c s (s ∷ ss) ≡ 0 = rw (eq-eqb s s refl, taken_before) in
          (s, here refl, omega arith, omega arith)
      go (no l) rest =
          let (p, m, low, high) = rest (omega arith) in
          let e : taken_before c p (s ∷ ss) ≡ size c s + taken_before c p ss = rw (ne_eqb s p (λ q. apart u.0 m (sym q)), taken_before) in
          (p, there m, omega arith, omega arith)

  -- The member that is taken as number o of the type at index a
  pub member-taken : (d : Diagram) (p : ℕ) (r : Role) (a o k : ℕ) → r.type ≡ suc a → taken_before c p (roles_of_type d (suc a)) + k ≡ o → o < size c a
      → member_of d c p r k ≡ first_value d.types a + o
  unfolding member_of
  member-taken d p r a o k t e h =
      let same : index (suc a) ≡ a = omega arith in
      rw (t, e, same, mod-eq_of_lt h)
