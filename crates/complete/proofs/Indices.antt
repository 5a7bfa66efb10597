-- The rows of a predicate by indices: of the tuples of its parts, and of the members of its roles.
use Rattle.std.specs.Prelude.{ℕ, ◌+◌, ◌<◌, ◌≡◌, List, map, get_or}
use Rattle.std.proofs.Math.Path.{sym}
use Rattle.std.proofs.Common.{ap, ◌∙◌, le_refl, eqb-true, ext_get_or}
use Rattle.std.proofs.Math.ListN.{length, length-map}
use Rattle.counting.proofs.Laws.Count.{count-pos}
use Rattle.counting.proofs.Laws.Index.{at-below, at-get_or, at_in, at_map, below_at, in_at}
use Rattle.counting.specs.Index.{At}
use Rattle.counting.specs.Terms.{◌∈◌}
use Rattle.pairing.specs.Notions.{EvenShare, Fits, hits}
use Rattle.pairing.proofs.Laws.{tuples-below, tuples-cover, tuples-differ, tuples-even, tuples-length}
use Rattle.orm.specs.Diagram.{Diagram, Role}
use Rattle.orm.specs.Populate.{index_in_row, part_tuple, parts_of_row, size}
use Rattle.orm.specs.Sets.{Part, Placed, parts, placed}
use Rattle.complete.proofs.Lookup.{lookup-part}
use Rattle.complete.proofs.Parts.{part-fits, parts_no_repeats, role-part, rows_fit}
use Rattle.complete.specs.Solved.{Solved}

-- In row i, the index of the tuple of part k
abbrev pub part_index : List ℕ → Placed → ℕ → ℕ → ℕ
part_index c x k i = get_or (parts_of_row c (parts x) x.own i) k 0

module _ {d : Diagram} {c : List ℕ} (s : Solved d c) {x : Placed} (m : x ∈ placed d) where
  parts-length : (i : ℕ) → i < size c x.own → length (parts x) ≡ length (parts_of_row c (parts x) x.own i)
  unfolding parts_of_row
  parts-length i l = sym (tuples-length _ _ (rows_fit s m) i l ∙ length-map (parts x) (λ (b : Part). size c b.own))

  module _ {k : ℕ} {b : Part} (h : At b (parts x) k) where
    -- ---- a part

    in_range_lem : k < length (map (λ (b : Part). size c b.own) (parts x))
    in_range_lem = rw length-map (at-below h)

    part-size : get_or (map (λ (b : Part). size c b.own) (parts x)) k 0 ≡ size c b.own
    part-size = at-get_or {A = ℕ} 0 (at_map (λ (b : Part). size c b.own) h)

    pub part-below : (i : ℕ) → i < size c x.own → part_index c x k i < size c b.own
    unfolding parts_of_row
    part-below i l = rw part-size at (tuples-below _ _ (rows_fit s m) k i in_range_lem l)

    pub part-even : (y : ℕ) → y < size c b.own → EvenShare (size c x.own) (size c b.own) (hits (size c x.own) (part_index c x k) y)
    unfolding parts_of_row
    part-even y l = rw part-size at (tuples-even _ _ (rows_fit s m) k (size c x.own) y in_range_lem (le_refl _) (rw part-size l))

    pub part-onto : (y : ℕ) → y < size c b.own → (i : ℕ) × (i < size c x.own) × (part_index c x k i ≡ y)
    unfolding parts_of_row
    part-onto y l =
        let (i, n, e) = count-pos _ (size c x.own) (tuples-cover _ _ (rows_fit s m) k y in_range_lem (rw part-size l)) in
        (i, n, sym (eqb-true y _ e))

    -- ---- its tuples

    fits : Fits (size c b.own) (map (size c) b.roles)
    fits = part-fits s m b (at_in h)

    pub tuple_differ : (t u : ℕ) → t < size c b.own → u < size c b.own → part_tuple c b t ≡ part_tuple c b u → t ≡ u
    unfolding part_tuple
    tuple_differ = tuples-differ _ _ fits

    tuple_length : (t : ℕ) → t < size c b.own → length b.roles ≡ length (part_tuple c b t)
    unfolding part_tuple
    tuple_length t l = sym (tuples-length _ _ fits t l ∙ length-map b.roles (size c))

    module _ {n p : ℕ} (l : At p b.roles n) where
      role-size : get_or (map (size c) b.roles) n 0 ≡ size c p
      role-size = at-get_or {A = ℕ} 0 (at_map (size c) l)

      tuple_below : (t : ℕ) → t < size c b.own → get_or (part_tuple c b t) n 0 < size c p
      unfolding part_tuple
      tuple_below t h' = rw role-size at (tuples-below _ _ fits n t (rw length-map (at-below l)) h')

      tuple_onto : (y : ℕ) → y < size c p → (t : ℕ) × (t < size c b.own) × (get_or (part_tuple c b t) n 0 ≡ y)
      unfolding part_tuple
      tuple_onto y h' =
          let (t, o, e) = count-pos _ (size c b.own) (tuples-cover _ _ fits n y (rw length-map (at-below l)) (rw role-size h')) in
          (t, o, sym (eqb-true y _ e))

  -- In a row, the indices of the members of a part's roles are the part's tuple
  pub part_tuple_lem : {k : ℕ} {b : Part} → At b (parts x) k → (i : ℕ) → i < size c x.own
      → map (index_in_row c x i) b.roles ≡ part_tuple c b (part_index c x k i)
  unfolding index_in_row
  part_tuple_lem h i l =
      lookup-part (part_tuple c) (parts x) (parts_of_row c (parts x) x.own i) (parts_no_repeats x)
      (parts-length i l, λ k b n. tuple_length n _ (part-below n i l)) h

  -- Different rows have different tuples of some part
  pub parts-differ : (i j : ℕ) → i < size c x.own → j < size c x.own
      → ((k : ℕ) (b : Part) → At b (parts x) k → part_index c x k i ≡ part_index c x k j) → i ≡ j
  unfolding parts_of_row
  parts-differ i j h l same = tuples-differ _ _ (rows_fit s m) i j h l (ext_get_or 0 _ _ (sym (parts-length i h) ∙ parts-length j l) at_part)
    where
      at_part : (k : ℕ) → k < length (parts_of_row c (parts x) x.own i) → part_index c x k i ≡ part_index c x k j
      at_part k n = let (b, o) = below_at (parts x) k (rw (parts-length i h) n) in same k b o

  -- ---- a role

  module _ {j : ℕ} {a : Role} (h : At a x.predicate.roles j) where
    -- Its part, by number, its number in the part, and its index in a row by the part's tuple
    place : (k : ℕ) × (b : Part) × At b (parts x) k × (n : ℕ) × At (x.roles + j) b.roles n
    place =
        let (b, o, l) = role-part s m h in
        let (k, o') = in_at o in
        let (n, l') = in_at l in
        (k, b, o', n, l')

    index-entry : (i : ℕ) → i < size c x.own
        → index_in_row c x i (x.roles + j) ≡ get_or (part_tuple c place.1 (part_index c x place.0 i)) place.3 0
    index-entry i l =
        let (k, b, o, n, l') = place in
        sym (at-get_or {A = ℕ} 0 (at_map (index_in_row c x i) l')) ∙ ap (λ t. get_or t n 0) (part_tuple_lem o i l)

    pub index_below : (i : ℕ) → i < size c x.own → index_in_row c x i (x.roles + j) < size c (x.roles + j)
    index_below i l =
        let (k, b, o, n, l') = place in
        rw (index-entry i l) (tuple_below o l' _ (part-below o i l))

    pub index-onto : (y : ℕ) → y < size c (x.roles + j) → (i : ℕ) × (i < size c x.own) × (index_in_row c x i (x.roles + j) ≡ y)
    index-onto y l =
        let (k, b, o, n, l') = place in
        let (t, u, e) = tuple_onto o l' y l in
        let (i, v, e') = part-onto o t u in
        (i, v, index-entry i v ∙ cc)
