-- Where the sets of a diagram stand in the sizes of a population, and what they are the sizes of.
use Prim.Native.Nat.{ℕ, suc, ◌+◌, ◌-◌, ◌<◌}
use Rattle.std.specs.Prelude.{◌≡◌, refl, get_or}
use Rattle.std.proofs.Common.{sym, ap₂, ◌∙◌, arith, length-append}
use Rattle.std.proofs.Math.Path.{ap}
use mathlib.Core.List.Memᴰ
use mathlib.Core.List.Memᴰ.{head as here}
use mathlib.Core.List.Memᴰ.{tail as there}
use mathlib.Core.List.{List, [], ◌∷◌, ◌++◌, map, map-append, flat_map, flatten, zip_with}
use Rattle.std.proofs.Math.Nat.{zero-add}
use Rattle.std.proofs.Math.ListN.{length, length-map}
use Rattle.counting.specs.Lists.{map_from, same, column, combination}
use Rattle.counting.specs.Distinct.{distinct}
use Rattle.counting.specs.Terms.{◌∈◌, NoRepeats, Each2}
use Rattle.counting.proofs.Laws.Index.{below_at, at-get_or, at-map_from, length-map_from, each2_length}
use Rattle.counting.specs.Index.{At, first, later}
use Rattle.orm.specs.Diagram.{Role, Frequency, Predicate, Diagram, index, all_roles, all_groups}
use Rattle.orm.specs.Sets.{first_pred, first_role, first_group, roles_in_group, group_set, Placed, placed_from, placed}
use Rattle.orm.specs.Population.{Population}
use Rattle.orm.specs.Constraints.{Played, member_count, Grouped, played, grouped, all_played, all_grouped, sizes, members_of}
use Rattle.orm.specs.Meaning.{Between, M1, EachType, Rows, Shaped}
use Rattle.sound.proofs.Each.{each-type}
use Rattle.sound.proofs.Counts.{column_size, combination_size}
use Rattle.sound.proofs.Segments.{Segment, whole, before, behind, size-at, head-size, tail, left, right}

abbrev pub grouped_size : Grouped → ℕ
grouped_size x = length (distinct same x.combinations)

-- ---- the sets of a predicate

module _ (p : Predicate) (rows : List (List ℕ)) where
  pub played-at : {r : Role} {j : ℕ} → At r p.roles j → At (record { role = r; values = column j rows }) (played p rows) j
  unfolding played
  played-at {j = j} a = at-map_from _ 0 a (zero-add j)

  pub grouped-at : {f : Frequency} {k g : ℕ} → At f p.groups k → 1 + k ≡ g
      → At (record { frequency = f; combinations = map (combination (roles_in_group g 0 p.roles)) rows }) (grouped p rows) k
  unfolding grouped
  grouped-at a e = at-map_from _ 1 a e

  played-length : length (played p rows) ≡ length p.roles
  unfolding played
  played-length = length-map_from _ 0 p.roles

  grouped-length : length (grouped p rows) ≡ length p.groups
  unfolding grouped
  grouped-length = length-map_from _ 1 p.groups

-- In the sizes `c` stand the sizes that these rows of the predicate have
pub record Located (c : List ℕ) (x : Placed) (rows : List (List ℕ)) : Type 0 where
  pub own : get_or c x.own 0 ≡ length rows
  pub role : (j : ℕ) → j < length x.predicate.roles → get_or c (x.roles + j) 0 ≡ column_size rows j
  pub group : (g : ℕ) → Between 1 g (length x.predicate.groups)
      → get_or c (group_set x g) 0 ≡ combination_size rows (roles_in_group g 0 x.predicate.roles)

-- A predicate among `ps`, its rows among `os`, and its sets in the sizes `c`
pub record Found (c : List ℕ) (ps : List Predicate) (os : List (List (List ℕ))) (x : Placed) : Type 0 where
  pub rows : List (List ℕ)
  pub index : ℕ
  pub predicate_at : At x.predicate ps index
  pub rows_at : At rows os index
  pub located : Located c x rows

module _ (c : List ℕ) where
  located-first : (x : Placed) (rows : List (List ℕ)) (os : List (List (List ℕ))) (ys : List Played) (zs : List Grouped)
      → Segment length c x.own (rows ∷ os) → Segment member_count c x.roles (played x.predicate rows ++ ys)
      → Segment grouped_size c x.groups (grouped x.predicate rows ++ zs) → Located c x rows
  unfolding group_set
  located-first x rows os ys zs o p g = record {
    own = head-size length o;
    role = λ j h. size-at member_count (left member_count _ ys p) (played-at _ rows (below_at x.predicate.roles j h).1);
    group =
        λ n h. size-at grouped_size (left grouped_size _ zs g)
        (grouped-at _ rows (below_at x.predicate.groups (n - 1) (omega arith)).1 (omega arith));
  }

  -- The walk over the predicates: `r`, `p` and `q` are the sets of the next predicate, role and group
  found : (ps : List Predicate) (os : List (List (List ℕ))) (r p q : ℕ) → Each2 Rows ps os → Segment length c r os
      → Segment member_count c p (flatten (zip_with played ps os)) → Segment grouped_size c q (flatten (zip_with grouped ps os)) → {x : Placed}
      → x ∈ placed_from r p q ps → Found c ps os x
  unfolding placed_from flatten zip_with
  found [] os r p q h o ss gs m = absurd (Memᴰ.not-nil m)
  found (y ∷ ps) [] r p q h o ss gs m = absurd h
  found (y ∷ ps) (rows ∷ os) r p q h o ss gs (here e) =
      rw e (record { rows = rows; index = 0; predicate_at = first refl; rows_at = first refl; located = located-first _ rows os _ _ o ss gs })
  found (y ∷ ps) (rows ∷ os) r p q h o ss gs (there m) =
      let f =
      found ps os (suc r) (p + length y.roles) (q + length y.groups) h.1 (tail length o)
      (right member_count (played y rows) _ (played-length y rows) ss) (right grouped_size (grouped y rows) _ (grouped-length y rows) gs) m in
      record { rows = f.rows; index = suc f.index; predicate_at = later f.predicate_at; rows_at = later f.rows_at; located = f.located }

-- ---- the sets of a diagram

-- A list for each predicate and its rows, all in one, is by `h` the list for each predicate alone
flatten-zip_with : {X Y : Type 0} (f : Predicate → List (List ℕ) → List X) (g : Predicate → List Y) (h : X → Y)
    → ((p : Predicate) (rows : List (List ℕ)) → map h (f p rows) ≡ g p) → (ps : List Predicate) (os : List (List (List ℕ))) → Each2 Rows ps os
    → map h (flatten (zip_with f ps os)) ≡ flat_map g ps
unfolding flatten zip_with flat_map
flatten-zip_with f g h e [] [] r = refl
flatten-zip_with f g h e [] (o ∷ os) r = absurd r
flatten-zip_with f g h e (p ∷ ps) [] r = absurd r
flatten-zip_with f g h e (p ∷ ps) (o ∷ os) r =
    map-append h (f p o) (flatten (zip_with f ps os)) ∙ ap₂ ◌++◌ (e p o) (flatten-zip_with f g h e ps os r.1)

-- `h` undoes `f`
map_from-back : {A B : Type 0} (f : ℕ → A → B) (h : B → A) → ((n : ℕ) (a : A) → h (f n a) ≡ a) → (n : ℕ) (xs : List A)
    → map h (map_from f n xs) ≡ xs
unfolding map_from
map_from-back f h e n [] = refl
map_from-back f h e n (x ∷ xs) = ap₂ ◌∷◌ (e n x) (map_from-back f h e (suc n) xs)

module _ (d : Diagram) (o : Population) (shaped : Shaped d o) where
  pub roles-played : map (λ (x : Played). x.role) (all_played d o) ≡ all_roles d
  unfolding all_played all_roles played
  roles-played = flatten-zip_with played _ (λ x. x.role) (λ p rows. map_from-back _ _ (λ n r. refl) 0 p.roles) d.preds o.preds shaped.preds

  groups-grouped : map (λ (x : Grouped). x.frequency) (all_grouped d o) ≡ all_groups d
  unfolding all_grouped all_groups grouped
  groups-grouped =
      flatten-zip_with grouped _ (λ x. x.frequency) (λ p rows. map_from-back _ _ (λ n r. refl) 1 p.groups) d.preds o.preds shaped.preds

  pub preds-length : length o.preds ≡ length d.preds
  preds-length = each2_length _ d.preds o.preds shaped.preds

  pub roles-length : length (all_played d o) ≡ length (all_roles d)
  roles-length = sym (length-map (all_played d o) (λ (x : Played). x.role)) ∙ ap length roles-played

  pub groups-length : length (all_grouped d o) ≡ length (all_groups d)
  groups-length = sym (length-map (all_grouped d o) (λ (x : Grouped). x.frequency)) ∙ ap length groups-grouped

  abbrev type_sizes : List ℕ
  type_sizes = map length o.types

  abbrev pred_sizes : List ℕ
  pred_sizes = map length o.preds

  abbrev role_sizes : List ℕ
  role_sizes = map member_count (all_played d o)

  abbrev group_sizes : List ℕ
  group_sizes = map grouped_size (all_grouped d o)

  pub types_segment : Segment length (sizes d o) 0 o.types
  unfolding sizes
  types_segment = before length group_sizes (before length role_sizes (before length pred_sizes (whole length o.types)))

  preds_segment : Segment length (sizes d o) (first_pred d) o.preds
  unfolding sizes first_pred
  preds_segment =
      before length group_sizes (before length role_sizes (behind length type_sizes (rw length-map (omega arith)) (whole length o.preds)))

  pub roles_segment : Segment member_count (sizes d o) (first_role d) (all_played d o)
  unfolding sizes first_pred first_role
  roles_segment =
      before member_count group_sizes
      (behind member_count (type_sizes ++ pred_sizes) (simp (length-append, length-map) (omega (arith, preds-length)))
      (whole member_count (all_played d o)))

  groups_segment : Segment grouped_size (sizes d o) (first_group d) (all_grouped d o)
  unfolding sizes first_pred first_role first_group
  groups_segment =
      behind grouped_size (type_sizes ++ pred_sizes ++ role_sizes) (simp (length-append, length-map) (omega (arith, preds-length, roles-length)))
      (whole grouped_size (all_grouped d o))

  -- The type with this number
  pub size-of-type : (number : ℕ) → Between 1 number (length d.types) → get_or (sizes d o) (index number) 0 ≡ length (members_of o number)
  unfolding members_of
  size-of-type number h =
      let a = below_at o.types (index number) (omega (arith, shaped.types)) in
      rw zero-add at (size-at length types_segment a.1) ∙ ap length (sym (at-get_or [] a.1))

  pub predicate-found : {x : Placed} → x ∈ placed d → Found (sizes d o) d.preds o.preds x
  unfolding placed all_played all_grouped
  predicate-found m = found (sizes d o) d.preds o.preds _ _ _ shaped.preds preds_segment roles_segment groups_segment m

  pub members-differ : (number : ℕ) → Between 1 number (length d.types) → EachType (M1) 1 d.types o.types
      → NoRepeats (members_of o number)
  unfolding members_of
  members-differ number h k1 =
      let t = below_at d.types (index number) (omega arith) in
      let vs = below_at o.types (index number) (omega (arith, shaped.types)) in
      rw (at-get_or [] vs.1) (each-type (M1) 1 k1 t.1 vs.1)
