-- No cell of a population that meets the constraints is above 999999.
use Rattle.std.specs.Prelude.{ℕ, zero, suc, ◌+◌, ◌≤◌, ◌<◌, ◌≡◌, length}
use Rattle.std.proofs.Common.{sym, inl, lt-suc_self, arith}
use mathlib.Core.List.Memᴰ
use mathlib.Core.List.{List, []}
use Rattle.std.proofs.Math.Decide.{ℕ_discrete}
use Rattle.std.proofs.Math.ListN.{get_or}
use Rattle.counting.specs.Lists.{column}
use Rattle.counting.specs.Terms.{◌∈◌, ◌⊆◌, Each}
use Rattle.counting.proofs.Laws.Members.{each_append, each-cons, of-flat_map}
use Rattle.counting.proofs.Laws.Index.{at_in, in_at, at-get_or, at-below, below_at, of-flatten, each-from-at, each2_at}
use Rattle.counting.specs.Index.{At}
use Rattle.orm.specs.Diagram.{ObjectType, Predicate, Diagram, index}
use Rattle.orm.specs.Population.{Population, cells_of_type, cells_of_pred, cells}
use Rattle.orm.specs.Constraints.{members_of}
use Rattle.orm.specs.Meaning.{Between, M2, M3, M4, M6, M7, Meets, Rows, Shaped}
use Rattle.orm.specs.WellFormed.{WellFormed, TypeForm}
use Rattle.sound.proofs.Each.{each-type, each-pred}
use Rattle.sound.proofs.Positions.{played-at, preds-length}

module _ (d : Diagram) (o : Population) (form : WellFormed d) (shaped : Shaped d o) (meets : Meets d o) where
  -- A root's values are in its range, a subtype's are its supertype's; the first argument is above the type's index
  values-small : (k a : ℕ) (t : ObjectType) (vs : List ℕ) → a < k → At t d.types a → At vs o.types a → Each (◌≤ 999999) vs
  values-small zero a t vs h p q = absurd (omega arith)
  values-small (suc k) a t vs h p q = go (ℕ_discrete t.super 0) (values-small k (index t.super))
    where
      type-form : TypeForm d.types (1 + a) t
      type-form = each-from-at (TypeForm d.types) 1 form.types p

      go : Dec (t.super ≡ 0)
          → ((u : ObjectType) (us : List ℕ) → index t.super < k → At u d.types (index t.super) → At us o.types (index t.super)
          → Each (◌≤ 999999) us) → Each (◌≤ 999999) vs
      go (yes e) rest v m = omega (arith, each-type M3 1 meets.k3 p q (inl e) v m, type-form.largest)
      go (no n) rest v m =
          let above = type-form.above in
          let (u, p') = below_at d.types (index t.super) (omega (arith, at-below p)) in
          let (us, q') = below_at o.types (index t.super) (omega (arith, at-below q)) in
          let in-super : vs ⊆ members_of o t.super = each-type (M4 o) 1 meets.k4 p q n in
          rest u us (omega arith) p' q' v (unfold members_of in rw (at-get_or [] q') at (in-super v m))

  type-of : {vs : List ℕ} {a : ℕ} → At vs o.types a → (t : ObjectType) × At t d.types a
  type-of {a = a} q = below_at d.types a (omega (arith, at-below q, shaped.types))

  members-small : (number : ℕ) → Between 1 number (length d.types) → Each (◌≤ 999999) (members_of o number)
  unfolding members_of
  members-small number h =
      let (vs, q) = below_at o.types (index number) (omega (arith, shaped.types)) in
      rw (at-get_or [] q) (values-small (suc (index number)) (index number) _ vs (lt-suc_self _) (type-of q).1 q)

  -- A row's values are members of types
  row_small : {p : Predicate} {rows : List (List ℕ)} {i : ℕ} → At p d.preds i → At rows o.preds i → (row : List ℕ) → row ∈ rows
      → Each (◌≤ 999999) row
  row_small {p} {rows} at_p at_rows row m v l =
      let (j, h) = in_at l in
      let wide : length row ≡ length p.roles = each2_at Rows shaped.preds at_p at_rows row m in
      let (r, g) = below_at p.roles j (omega (arith, at-below h)) in
      let player = ((form.preds p (at_in at_p)).roles r (at_in g)).player in
      let in-column : v ∈ column j rows = unfold column in Memᴰ.cast (sym (at-get_or 0 h)) (Memᴰ.map (λ (row : List ℕ). get_or row j 0) m) in
      members-small r.type player v (each-pred (M7 o) meets.k7 at_p at_rows _ (at_in (played-at p rows g)) v in-column)

  type-cells-small : (vs : List ℕ) → vs ∈ o.types → Each (◌≤ 999999) (cells_of_type vs)
  unfolding cells_of_type
  type-cells-small vs m =
      let (a, q) = in_at m in
      let (t, p) = type-of q in
      let most = (each-from-at (TypeForm d.types) 1 form.types p).most in
      each-cons _ (omega (arith, each-type M2 1 meets.k2 p q)) (values-small (suc a) a t vs (lt-suc_self a) p q)

  pred-cells-small : (rows : List (List ℕ)) → rows ∈ o.preds → Each (◌≤ 999999) (cells_of_pred rows)
  unfolding cells_of_pred
  pred-cells-small rows m =
      let (i, q) = in_at m in
      let (p, h) = below_at d.preds i (omega (arith, at-below q, preds-length d o shaped)) in
      let most = (form.preds p (at_in h)).most in
      each-cons _ (omega (arith, each-pred M6 meets.k6 h q)) (λ v l. let (row, k, l') = of-flatten rows l in row_small h q row k v l')

  pub population-small : Each (◌≤ 999999) (cells o)
  unfolding cells
  population-small =
      each_append _ _ _ (λ v m. let (vs, k, l) = of-flat_map cells_of_type o.types m in type-cells-small vs k v l)
      (λ v m. let (rows, k, l) = of-flat_map cells_of_pred o.preds m in pred-cells-small rows k v l)
