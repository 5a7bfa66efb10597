-- One type: its constraints by its members in order.
use Prim.Native.Nat.{ℕ, ◌≤◌, ◌<◌}
use native.Mathlib.Omega.{arith}
use mathlib.Core.Path.{◌≡◌, refl, sym, ap, ap₂, ◌∙◌}
use mathlib.Core.Bool.{Bool, true, false, not, ◌&&◌, ◌||◌}
use mathlib.Core.List.{List}
use lib.Dec.{eqb, ltb}
use lib.ListN.{length, get_or, take, drop, replicate, length-take, length-drop}
use borrow.Author.Tests.{eq-eqb, ne_eqb, not-true, not-false}
use Rattle.counting.specs.Distinct.{all, within, all_differ}
use Rattle.orm.specs.Diagram.{ObjectType, Diagram, must_play}
use Rattle.orm.specs.Form.{type_of, ◌to◌, in_range}
use Rattle.orm.specs.Population.{Population}
use Rattle.orm.specs.Constraints.{values_in_roles, all_played, K1, K2, K3, K10}
use Rattle.orm.proofs.Laws.Decided.{in_range_decides}
use Rattle.faults.specs.Faults.{unless, given, lowered, faults_of}
use Rattle.faults.specs.Passes.{subtype_faults, member_faults, type_faults}
use Rattle.faults.specs.Laws.Lowest.{lowered-then}
use Rattle.sorting.specs.Order.{sorted}
use Rattle.sorting.specs.Rising.{rising, Rising}
use Rattle.sorting.proofs.Rising.{rising-sorted}
use Rattle.table.specs.Positions.{diagram_of}
use Rattle.columns.specs.declared.column.Column.{Column}
use Rattle.columns.specs.Values.{values_in, length-spaced}
use Rattle.order.specs.Parts.{part-is}
use Rattle.lookup.specs.Stamps.{is_set, all_met, met_start}
use Rattle.lookup.specs.Counts.{Fresh, fresh_start}
use Rattle.blocks.specs.Blocks.{members_at}
use Rattle.playing.specs.Places.{population_of}
use Rattle.playing.specs.Found.{Found}
use Rattle.types.specs.Members.{Room, Sized, Paired, Noted, roles_told}
use Rattle.types.proofs.Ordered.{members-order}

-- ---- K4

module _ (t s : List ℕ) (number line at n : ℕ) (ws e : List ℕ) {v : ℕ} (f : v ≡ get_or (drop line t) 4 0) where
  pub below-not : (v ≡ number → ⊥) → e ≡ lowered (subtype_faults number ws n (type_of (drop line t)) (members_at (drop at s))) e
  unfolding subtype_faults given lowered
  below-not h = rw (subtype_faults, ← f, ne_eqb v number h)

  pub below-is : {b : Bool} {e' : List ℕ} (c : Column) → v ≡ number → values_in c ≡ members_at (drop at s) → b ≡ within eqb (values_in c) ws
      → e' ≡ lowered (unless b 4 n) e → e' ≡ lowered (subtype_faults number ws n (type_of (drop line t)) (members_at (drop at s))) e
  unfolding subtype_faults given
  below-is c h q p g = rw (subtype_faults, ← f, eq-eqb v number h, ← q, ← p) g

-- ---- the roles of a type, and K10

module _ (d : Diagram) (n : ℕ) (t : ObjectType) (met : Bool) {must : Bool} (m : must ≡ must_play d n t) where
  pub plays-free : not must ≡ true → true ≡ (not (must_play d n t) || met)
  plays-free h = rw (← m, not-true must h)

  pub plays-all : {b : Bool} → not must ≡ false → b ≡ met → b ≡ (not (must_play d n t) || met)
  plays-all h e = rw (← m, not-false must h) e

module _ (ws marks : List ℕ) {ms : List ℕ} (w : Paired ws marks) (z : ms ≡ replicate (length marks) 0) where
  none-met : ms ≡ replicate (length ws) 0
  none-met = z ∙ ap (λ (n : ℕ). replicate n 0) w.even

  pub roles-fresh : Fresh ws ms 1
  roles-fresh = fresh_start ws ms w.rising none-met

  pub roles-told : (t s : List ℕ) (number line : ℕ) (ms' e e₁ : List ℕ) {kept : Bool} {e₂ : List ℕ} → Found t s number ws ms e ms' e₁
      → kept ≡ (not (must_play (diagram_of t) number (type_of (drop line t))) || all is_set ms') → e₂ ≡ lowered (unless kept 10 number) e₁
      → e₂ ≡ roles_told (diagram_of t) (population_of t s) number (type_of (drop line t)) ws e
  unfolding roles_told K10
  roles-told t s number line ms' e e₁ f k q =
      q ∙ ap₂ (λ x y. lowered (unless x 10 number) y) (k ∙ go (must_play (diagram_of t) number (type_of (drop line t)))) f.faults
    where
      vs : List ℕ
      vs = values_in_roles number (all_played (diagram_of t) (population_of t s))

      go : (b : Bool) → (not b || all is_set ms') ≡ elim b [ true ↦ within eqb ws vs | false ↦ true ]
      go true = f.met ∙ ap (λ (l : List ℕ). all_met ws l vs) none-met ∙ met_start ws vs
      go false = refl

-- ---- the rest of a type

pub paired-rising : (ws marks : List ℕ) → Paired ws marks → Rising ws
paired-rising ws marks p = p.rising

pub members-told : (t s : List ℕ) (number : ℕ) (ty : ObjectType) (ws e₀ e₁ e₂ : List ℕ) {ranged : Bool} {e₃ : List ℕ} → ranged ≡ K3 ty ws
    → e₁ ≡ lowered (unless ranged 3 number) e₀
    → e₂ ≡ lowered (faults_of (subtype_faults number ws) 1 (diagram_of t).types (population_of t s).types) e₁
    → e₃ ≡ roles_told (diagram_of t) (population_of t s) number ty ws e₂
    → e₃ ≡ lowered (member_faults (diagram_of t) (population_of t s) number ty ws) e₀
unfolding member_faults roles_told
members-told t s number ty ws e₀ e₁ e₂ r a b q = rw (lowered-then, lowered-then, lowered-then, ← r, ← a, ← b) q

-- ---- K1 and K2 first

pub size-noted : (t : List ℕ) (line n size : ℕ) (differ : Bool) (e e₁ : List ℕ) {e₂ : List ℕ} {low high : ℕ} {sized b : Bool} → low ≡ get_or (drop line t) 0 0
    → high ≡ get_or (drop line t) 1 0 → sized ≡ in_range (low to high) size → e₁ ≡ lowered (unless differ 1 n) e → e₂ ≡ lowered (unless sized 2 n) e₁
    → b ≡ (differ && sized) → Noted (type_of (drop line t)) n size differ e e₂ b
size-noted t line n size differ e e₁ l h z p q r =
    record { faults = rw (lowered-then, ← p, ← l, ← h, ← z) q; kept = rw (← l, ← h, ← z) r }

module _ (c : Column) {differ : Bool} (k : differ ≡ all_differ eqb (values_in c)) (n : ℕ) (t : ObjectType) (e e₁ : List ℕ) (b : Bool)
    (w : Noted t n c.count differ e e₁ b) where
  module _ (d : Diagram) (o : Population) where
    told : {e₂ : List ℕ} → e₂ ≡ lowered (given b (member_faults d o n t (values_in c))) e₁ → e₂ ≡ lowered (type_faults d o n t (values_in c)) e
    unfolding type_faults K1 K2
    told q = rw (lowered-then, ← k, length-spaced c.count c.step (drop c.start c.cells.now), ← w.faults, ← w.kept) q

    pub told-broken : b ≡ false → e₁ ≡ lowered (type_faults d o n t (values_in c)) e
    unfolding given lowered
    told-broken h = told (rw h)

    pub told-kept : {e₂ : List ℕ} (ws : List ℕ) → b ≡ true → ws ≡ sorted ltb (values_in c) → e₂ ≡ lowered (member_faults d o n t ws) e₁
        → e₂ ≡ lowered (type_faults d o n t (values_in c)) e
    unfolding given
    told-kept ws h q g = told (rw (h, ← members-order (values_in c) d o n t, ← q) g)

  -- those that are sorted
  pub sorted-paired : (list spare ws marks : List ℕ) → b ≡ true → ws ≡ sorted ltb (values_in c) → length spare ≡ length list → length ws ≡ length list
      → length marks ≡ length spare → Paired ws marks
  sorted-paired list spare ws marks h q z l m =
      record { rising = record { so = ap rising q ∙ rising-sorted (values_in c) ∙ sym k ∙ go differ (sym w.kept ∙ h) }; even = omega arith }
    where
      go : (x : Bool) → (x && in_range (t.min to t.max) c.count) ≡ true → x ≡ true
      go true f = refl
      go false f = f

-- ---- members that are not

pub spare_room : {n : ℕ} (s list spare : List ℕ) → Room s list spare → n ≤ length list → n ≤ length spare
spare_room s list spare r h = omega (arith, r.even)

module _ (s : List ℕ) (c : Column) (at : ℕ) (list spare : List ℕ) (room : Room s list spare) (v : values_in c ≡ members_at (drop at s)) where
  pub part-sized : {n : ℕ} → n ≡ c.count → n ≤ length list → Sized c (take n list) (take n spare)
  part-sized {n} e h =
      let l : length (take n list) ≡ n = part-is list n h in
      let k : n ≤ length spare = omega (arith, room.even) in
      let m : length (take n spare) ≡ n = part-is spare n k in
      record { scratch = record { few = omega (arith, room.scratch.few); long = omega arith }; long = omega arith; even = omega arith }

  count-is : c.count ≡ length (members_at (drop at s))
  count-is = sym (length-spaced c.count c.step (drop c.start c.cells.now)) ∙ ap length v

  many : (t : ObjectType) → t.max ≤ 4096 → length list < c.count → in_range (t.min to t.max) c.count ≡ false
  many t m h =
      let l : length (members_at (drop at s)) ≤ length s =
      omega (arith, length-take (get_or (drop at s) 0 0) (drop 1 (drop at s)), length-drop 1 (drop at s), length-drop at s) in
      no_more (in_range (t.min to t.max) c.count) refl (omega (arith, room.enough, count-is))
    where
      no_more : (b : Bool) → in_range (t.min to t.max) c.count ≡ b → 4096 < c.count → b ≡ false
      no_more true e g = absurd (omega (arith, ((in_range_decides t.min c.count t.max).0 e).1))
      no_more false e g = refl

  pub sorted-told : (d : Diagram) (o : Population) (n : ℕ) (t : ObjectType) (e : List ℕ) {e₁ : List ℕ}
      → e₁ ≡ lowered (type_faults d o n t (values_in c)) e → e₁ ≡ lowered (type_faults d o n t (members_at (drop at s))) e
  sorted-told d o n t e q = rw (← v) q

  pub many-told : (d : Diagram) (o : Population) (n : ℕ) (t : ObjectType) (e e₁ : List ℕ) {differ : Bool} (b : Bool) → Noted t n c.count differ e e₁ b
      → differ ≡ all_differ eqb (values_in c) → t.max ≤ 4096 → length list < c.count → e₁ ≡ lowered (type_faults d o n t (members_at (drop at s))) e
  many-told d o n t e e₁ {differ} b w k m h =
      sorted-told d o n t e (told-broken c k n t e e₁ b w d o (w.kept ∙ ap (λ (x : Bool). differ && x) (many t m h) ∙ and_none differ))
    where
      and_none : (x : Bool) → (x && false) ≡ false
      and_none true = refl
      and_none false = refl
