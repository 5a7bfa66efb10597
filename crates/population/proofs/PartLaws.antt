-- The parts of a predicate as lists of numbers, and how long these are.
use Prim.Native.Nat.{ℕ, zero, suc, ◌+◌, ◌*◌, ◌-◌, min, ◌≤◌, ◌<◌}
use native.Mathlib.Nat.{add-zero}
use native.Mathlib.Omega.{arith}
use mathlib.Core.Path.{◌≡◌, refl, sym, ap, ap₂, ◌∙◌}
use mathlib.Core.Bool.{Bool, true, false}
use mathlib.Core.List.{List, [], ◌∷◌, ◌++◌, map, map-append, map-map, map-id, flat_map, append-nil}
use lib.Dec.{eqb}
use borrow.Author.Tests.{eqb-true}
use lib.ListN.{length, get_or, drop, take, replicate, length-append, length-map}
use Rattle.std.specs.Prelude.{sum}
use Rattle.std.proofs.lemmas.List.{take_more}
use Rattle.std.proofs.lemmas.List.Sums.{sum_by-cons}
use Rattle.counting.specs.Lists.{up_from}
use Rattle.counting.proofs.Laws.Range.{length-up_from}
use Rattle.counting.proofs.Laws.Maps.{flat_map_append, flat_map-map, flat_map-single}
use Rattle.orm.specs.Diagram.{Role}
use Rattle.orm.specs.Sets.{Placed, Part, parts, group_part, role_part, group_set, group_roles, roles_in_group, select}
use Rattle.orm.specs.Populate.{size}
use Rattle.table.specs.Positions.{role_width, roles_in, roles_start}
use Rattle.table.specs.Laws.Walks as walks
use Rattle.table.specs.Cursors.{placed_at}
use Rattle.table.specs.declared.Cursor.{Cursor}
use Rattle.selection.specs.Laws.Upto.{up_from_more, in_group_none, in_group_more, in_group_same}
use Rattle.population.specs.Plan.{order, counts, owns, sizes_of, SmallArity}

-- ---- group by group

module _ (x : Placed) (a n : ℕ) where
  abbrev pub grouped : List ℕ
  grouped = flat_map (group_roles x) (up_from a n)

module _ (x : Placed) (n : ℕ) where
  pub grouped_more : grouped x 1 (n + 1) ≡ grouped x 1 n ++ group_roles x (n + 1)
  unfolding flat_map
  grouped_more =
      let e : 1 + n ≡ n + 1 = omega arith in
      ap (flat_map (group_roles x)) (up_from_more 1 n) ∙ flat_map_append (group_roles x) (up_from 1 n) ((1 + n) ∷ [])
      ∙ ap (λ l. grouped x 1 n ++ l) (append-nil (group_roles x (1 + n)) ∙ ap (group_roles x) e)

  abbrev pub group_counts : List ℕ
  group_counts = map (λ (g : ℕ). length (group_roles x g)) (up_from 1 n)

module _ (x : Placed) where
  pub grouped_none : grouped x 1 0 ≡ []
  unfolding up_from flat_map
  grouped_none = refl

  pub group_counts_none : group_counts x 0 ≡ []
  unfolding up_from
  group_counts_none = refl

  pub group_counts_more : (n : ℕ) {k : ℕ} → k ≡ length (group_roles x (n + 1)) → group_counts x (n + 1) ≡ group_counts x n ++ k ∷ []
  group_counts_more n {k} ek =
      let e : 1 + n ≡ n + 1 = omega arith in
      ap (map (λ (g : ℕ). length (group_roles x g))) (up_from_more 1 n)
      ∙ map-append (λ (g : ℕ). length (group_roles x g)) (up_from 1 n) ((1 + n) ∷ [])
      ∙ ap (λ m. group_counts x n ++ m ∷ []) (ap (λ g. length (group_roles x g)) e ∙ sym ek)

-- ---- all parts

ones : (ps : List ℕ) → map {B = ℕ} (λ (p : ℕ). 1) ps ≡ replicate (length ps) 1
ones [] = refl
ones (p ∷ ps) = ap {B = List ℕ} (λ l. 1 ∷ l) (ones ps)

up-sets : (b a n : ℕ) → map (λ (g : ℕ). b + (g - 1)) (up_from (suc a) n) ≡ up_from (b + a) n
unfolding up_from
up-sets b a zero = refl
up-sets b a (suc n) =
    let e : suc a - 1 ≡ a = omega arith in
    let e' : b + suc a ≡ suc (b + a) = omega arith in
    ap₂ {C = List ℕ} (λ y ys. y ∷ ys) (ap (λ (m : ℕ). b + m) e) (up-sets b (suc a) n ∙ ap (λ (m : ℕ). up_from m n) e')

module _ (x : Placed) where
  abbrev group_count : ℕ
  group_count = length x.predicate.groups

  order-parts : order x ≡ grouped x 1 group_count ++ group_roles x 0
  unfolding order parts group_part role_part
  order-parts = simp (flat_map_append, flat_map-map) (ap (λ (l : List ℕ). grouped x 1 group_count ++ l) (flat_map-single (group_roles x 0)))

  counts-parts : counts x ≡ group_counts x group_count ++ replicate (length (group_roles x 0)) 1
  unfolding counts parts group_part role_part
  counts-parts = simp (map-append, map-map) (ap (λ (l : List ℕ). group_counts x group_count ++ l) (ones (group_roles x 0)))

  own-parts : map (λ (b : Part). b.own) (parts x) ≡ up_from x.groups group_count ++ group_roles x 0
  unfolding parts group_part role_part group_set
  own-parts =
      simp (map-append, map-map)
      (ap₂ {C = List ℕ} (λ y z. y ++ z) (up-sets x.groups 0 group_count ∙ ap (λ (m : ℕ). up_from m group_count) (add-zero x.groups))
      (map-id (group_roles x 0)))

  pub parts-length : length (parts x) ≡ group_count + length (group_roles x 0)
  unfolding parts
  parts-length =
      length-append (map (group_part x) (up_from 1 group_count)) (map role_part (group_roles x 0))
      ∙ ap₂ {C = ℕ} (λ m n. m + n) (length-map (up_from 1 group_count) (group_part x) ∙ length-up_from 1 group_count)
      (length-map (group_roles x 0) role_part)

-- how long they are
select-few : (test : Role → Bool) (i : ℕ) (rs : List Role) → length (select test i rs) ≤ length rs
unfolding select
select-few test i [] = omega arith
select-few test i (r ∷ rs) = go (test r) (select-few test (suc i) rs)
  where
    go : (b : Bool) → length (select test (suc i) rs) ≤ length rs
        → length {A = ℕ} (elim b as (λ _. List ℕ) [ true ↦ i ∷ select test (suc i) rs | false ↦ select test (suc i) rs ]) ≤ suc (length rs)
    go true h = omega arith
    go false h = omega arith

-- how many roles have a group's number from `a` on; each role has one number, so that the groups together have no more roles than there are
unfoldable grouped_from : ℕ → List Role → ℕ
grouped_from a [] = 0
grouped_from a (r ∷ rs) = min 1 (suc r.group - a) + grouped_from a rs

this_or_later : (a i : ℕ) (rs : List Role) → length (roles_in_group a i rs) + grouped_from (suc a) rs ≤ grouped_from a rs
unfolding select roles_in_group grouped_from
this_or_later a i [] = omega arith
this_or_later a i (r ∷ rs) = go (eqb r.group a) refl (this_or_later a (suc i) rs)
  where
    go : (b : Bool) → eqb r.group a ≡ b → length (roles_in_group a (suc i) rs) + grouped_from (suc a) rs ≤ grouped_from a rs
        → length {A = ℕ} (elim b as (λ _. List ℕ) [ true ↦ i ∷ roles_in_group a (suc i) rs | false ↦ roles_in_group a (suc i) rs ])
        + (min 1 (suc r.group - suc a) + grouped_from (suc a) rs) ≤ min 1 (suc r.group - a) + grouped_from a rs
    go true e h = let same : r.group ≡ a = eqb-true r.group a e in omega arith
    go false e h = omega arith

grouped-from-few : (a : ℕ) (rs : List Role) → grouped_from a rs ≤ length rs
unfolding grouped_from
grouped-from-few a [] = omega arith
grouped-from-few a (r ∷ rs) = omega (arith, grouped-from-few a rs)

grouped-at-most : (x : Placed) (a n : ℕ) → length (grouped x a n) ≤ grouped_from a x.predicate.roles
unfolding up_from flat_map
grouped-at-most x a zero = omega arith
grouped-at-most x a (suc n) =
    let here : length (group_roles x a) + grouped_from (suc a) x.predicate.roles ≤ grouped_from a x.predicate.roles =
    unfold group_roles in this_or_later a x.roles x.predicate.roles in
    omega (arith, length-append (group_roles x a) (grouped x (suc a) n), here, grouped-at-most x (suc a) n)

module _ (t : List ℕ) (x : Cursor) where
  pub group-count : length (placed_at t x).predicate.groups ≡ get_or (drop x.at t) 3 0
  unfolding placed_at
  group-count = walks.group-count (drop x.at t)

  pub role-count : length (placed_at t x).predicate.roles ≡ get_or (drop x.at t) 2 0
  unfolding placed_at
  role-count = walks.role-count (drop x.at t)

  group-few : (g : ℕ) → SmallArity t x → length (group_roles (placed_at t x) g) ≤ 6
  unfolding group_roles roles_in_group
  group-few g f = omega
      (arith, select-few (λ (r : Role). eqb r.group g) (placed_at t x).roles (placed_at t x).predicate.roles, role-count, f.roles)

  pub order-few : SmallArity t x → length (order (placed_at t x)) ≤ 6
  order-few f =
      let px : Placed = placed_at t x in
      let long : length (order px) ≡ length (grouped px 1 (group_count px)) + length (group_roles px 0) =
      ap length (order-parts px) ∙ length-append (grouped px 1 (group_count px)) (group_roles px 0) in
      let none : length (group_roles px 0) + grouped_from 1 px.predicate.roles ≤ grouped_from 0 px.predicate.roles =
      unfold group_roles in this_or_later 0 px.roles px.predicate.roles in
      omega (arith, long, none, grouped-at-most px 1 (group_count px), grouped-from-few 0 px.predicate.roles, role-count, f.roles)

  pub parts-few : SmallArity t x → length (parts (placed_at t x)) ≤ 12
  parts-few f =
      omega (arith, parts-length (placed_at t x), group-few 0 f, group-count, f.groups)

  pub counts-few : SmallArity t x → length (counts (placed_at t x)) ≤ 12
  unfolding counts
  counts-few f = rw length-map (parts-few f)

  -- ---- what is written

  module _ {n : ℕ} (en : n ≡ get_or (drop x.at t) 3 0) where
    as-many : n ≡ length (placed_at t x).predicate.groups
    as-many = en ∙ sym group-count

    pub order_is : order (placed_at t x) ≡ grouped (placed_at t x) 1 n ++ group_roles (placed_at t x) 0
    order_is = rw as-many (order-parts (placed_at t x))

    pub counts_is : {k : ℕ} → k ≡ length (group_roles (placed_at t x) 0) → counts (placed_at t x) ≡ group_counts (placed_at t x) n ++ replicate k 1
    counts_is ek = rw (as-many, ek) (counts-parts (placed_at t x))

    pub owns_is : (c : List ℕ) {m q : ℕ} → m ≡ get_or (drop x.at t) 2 0 → q ≡ x.at + roles_start
        → owns c (placed_at t x) ≡ sizes_of c (up_from x.groups n) ++ sizes_of c (roles_in_group 0 x.roles (roles_in m (drop q t)))
    unfolding owns group_roles placed_at
    owns_is c em eq =
        sym (map-map (size c) (λ (b : Part). b.own) (parts (placed_at t x)))
        ∙ ap (sizes_of c) (own-parts (placed_at t x) ∙ ap (λ (k : ℕ). up_from x.groups k ++ group_roles (placed_at t x) 0) (sym as-many))
        ∙ map-append (size c) (up_from x.groups n) (group_roles (placed_at t x) 0)
        ∙ ap (λ rs. sizes_of c (up_from x.groups n) ++ sizes_of c (roles_in_group 0 x.roles rs)) (sym (walks.roles-here t x.at em eq))

  module _ (f : SmallArity t x) (s : List ℕ) where
    pub order-room : length s ≡ 6 → length (order (placed_at t x)) ≤ length s
    order-room e = omega (arith, order-few f, e)

    pub counts-room : length s ≡ 12 → length (counts (placed_at t x)) ≤ length s
    counts-room e = omega (arith, counts-few f, e)

    pub owns-room : (c : List ℕ) → length s ≡ 12 → length (owns c (placed_at t x)) ≤ length s
    unfolding owns
    owns-room c e = omega (arith, length-map (parts (placed_at t x)) (λ (b : Part). size c b.own), parts-few f, e)

-- how many roles the parts have together
counted : (bs : List Part) → sum (map (λ (b : Part). length b.roles) bs) ≡ length (flat_map (λ (b : Part). b.roles) bs)
unfolding flat_map
counted [] = refl
counted (b ∷ bs) =
    omega (
      arith,
      sum_by-cons (λ x. x) (length b.roles) (map (λ (b : Part). length b.roles) bs),
      length-append b.roles (flat_map (λ (b : Part). b.roles) bs),
      counted bs,
    )

pub counts-order : (x : Placed) → sum (counts x) ≡ length (order x)
unfolding counts order
counts-order x = counted (parts x)

-- ---- the sizes of some sets

module _ (c : List ℕ) where
  pub sizes_up_none : (a : ℕ) → sizes_of c (up_from a 0) ≡ []
  unfolding up_from
  sizes_up_none a = refl

  pub sizes_up_more : (a n : ℕ) {k : ℕ} → k ≡ get_or c (a + n) 0 → sizes_of c (up_from a (n + 1)) ≡ sizes_of c (up_from a n) ++ k ∷ []
  sizes_up_more a n ek = ap (sizes_of c) (up_from_more a n) ∙ map-append (size c) (up_from a n) ((a + n) ∷ []) ∙ ap (λ m. sizes_of c (up_from a n) ++ m ∷ []) (sym ek)

  pub sizes_more : (sets : List ℕ) (i : ℕ) {k : ℕ} → i < length sets → k ≡ get_or c (get_or sets i 0) 0
      → sizes_of c (take (i + 1) sets) ≡ sizes_of c (take i sets) ++ k ∷ []
  sizes_more sets i h ek =
      ap (sizes_of c) (take_more sets i 0 h) ∙ map-append (size c) (take i sets) (get_or sets i 0 ∷ []) ∙ ap (λ m. sizes_of c (take i sets) ++ m ∷ []) (sym ek)

  module _ (t : List ℕ) (q first : ℕ) where
    abbrev alone : ℕ → List ℕ
    alone n = sizes_of c (roles_in_group 0 first (roles_in n (drop q t)))

    pub alone_none : alone 0 ≡ []
    alone_none = ap (sizes_of c) (in_group_none t q 0 first)

    module _ (n : ℕ) {v : ℕ} (e : v ≡ get_or (drop (q + role_width * n) t) 2 0) where
      pub alone_more : {k : ℕ} → v ≡ 0 → k ≡ get_or c (first + n) 0 → alone (n + 1) ≡ alone n ++ k ∷ []
      alone_more h ek =
          ap (sizes_of c) (in_group_more t q 0 first n e h)
          ∙ map-append (size c) (roles_in_group 0 first (roles_in n (drop q t))) ((first + n) ∷ [])
          ∙ ap (λ m. alone n ++ m ∷ []) (sym ek)

      pub alone_same : (v ≡ 0 → ⊥) → alone (n + 1) ≡ alone n
      alone_same h = ap (sizes_of c) (in_group_same t q 0 first n e h)
