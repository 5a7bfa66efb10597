-- The cells of the predicates: what is prepared is small and has room, and its rows are those of the definition.
use Prim.Native.Nat.{ℕ, zero, suc, ◌+◌, ◌*◌, ◌-◌, ◌≤◌, ◌<◌}
use native.Mathlib.Numerals.{add-one}
use native.Mathlib.Omega.{arith}
use mathlib.Core.Path.{◌≡◌, refl, sym, ap, ap₂, ◌∙◌}
use mathlib.Core.Bool.{Bool, true, false}
use mathlib.Core.List.Memᴰ.{head as here}
use mathlib.Core.List.Memᴰ.{tail as there}
use mathlib.Core.List.{List, [], ◌∷◌, ◌++◌, map, map-append, flat_map, flatten, append-nil}
use lib.Dec.{eqb}
use lib.ListN.{length, get_or, drop, take, length-append, length-map}
use lib.Seq.{take_all}
use Rattle.std.specs.Prelude.{sum, All}
use Rattle.std.proofs.lemmas.List.{take-append-drop}
use Rattle.std.proofs.lemmas.List.Elements.{All-cons, All-nil}
use Rattle.std.proofs.Common.{drop-drop}
use Rattle.std.proofs.lemmas.List.Sums.{sum_by-cons}
use Rattle.tuples.specs.declared.Step.{Step}
use Rattle.counting.specs.Lists.{up_from, map_from}
use Rattle.counting.specs.Terms.{Each}
use Rattle.counting.proofs.Laws.Range.{length-up_from}
use Rattle.counting.proofs.Laws.Maps.{flat_map_append}
use Rattle.orm.specs.Diagram.{Role, Predicate, Diagram, index, all_roles}
use Rattle.orm.specs.Sets.{Placed, Part, parts, placed, first_role}
use Rattle.orm.specs.Population.{cells_of_type, cells_of_pred, cells}
use Rattle.orm.specs.Populate.{size, taken_before, row, rows, type_values, population}
use Rattle.table.specs.Positions.{preds_in, pred_of, pred_count, pred_length, diagram_of, Walkable}
use Rattle.table.specs.Laws.Walks.{preds_more}
use Rattle.selection.specs.Selected.{types_of, Types}
use Rattle.table.specs.Cursors.{placed_at, placed_left, first_cursor, next_cursor, Reach, Here}
use Rattle.table.specs.Laws.Cursors.{placed-start, placed-more, placed-none, reach-start, reach-more, reach_here}
use Rattle.table.specs.Valid.{Valid}
use Rattle.table.specs.Laws.Valid.{valid-walkable}
use Rattle.table.specs.declared.Cursor.{Cursor}
use Rattle.tuples.specs.Steps.{padded, steps, Small}
use Rattle.tuples.specs.StepsLaws.{length-steps, length-padded}
use Rattle.tuples.specs.Nested.{steps_of_each}
use Rattle.population.specs.Plan.{cells_at, order, counts, owns, sizes_of, played, column_of, row_by, Narrow, Wants, Planned, SmallArity, AtPredicate}
use Rattle.population.specs.declared.rows.Plan.{Plan}
use Rattle.population.proofs.TypeLaws.{first_small}
use Rattle.population.proofs.PartLaws.{order-few, parts-few, role-count, group-count, counts-few, counts-order}
use Rattle.population.proofs.RoleLaws.{columns_from}
use Rattle.population.proofs.RowCells.{outer, many-parts, outer-long, inner-long, row-by}
use Rattle.population.proofs.RowLaws.{rows_to}

-- ---- columns are narrow

played-few : (number i : ℕ) (ys : List ℕ) → length (played number i ys) ≤ length ys
unfolding played
played-few number i [] = omega arith
played-few number i (y ∷ ys) = go (eqb y number) (played-few number (suc i) ys)
  where
    go : (b : Bool) → length (played number (suc i) ys) ≤ length ys
        → length {A = ℕ} (elim b as (λ _. List ℕ) [ true ↦ i ∷ played number (suc i) ys | false ↦ played number (suc i) ys ]) ≤ suc (length ys)
    go true h = omega arith
    go false h = omega arith

taken-small : (c : List ℕ) (p : ℕ) (ss : List ℕ) → Small c → taken_before c p ss ≤ 4096 * length ss
unfolding taken_before
taken-small c p [] h = omega arith
taken-small c p (s ∷ ss) h = go (eqb s p) (taken-small c p ss h)
  where
    go : (b : Bool) → taken_before c p ss ≤ 4096 * length ss
        → elim b as (λ _. ℕ) [ true ↦ 0 | false ↦ size c s + taken_before c p ss ] ≤ 4096 * suc (length ss)
    go true l = omega arith
    go false l = omega (arith, h.at s)

module _ (t c types roles : List ℕ) (w : Walkable t) (h : Small c) (few : length types ≤ 96) where
  columns-narrow : (p : ℕ) (rs : List Role) → All Narrow (columns_from (diagram_of t) c types roles p rs)
  unfolding map_from
  columns-narrow p [] = All-nil Narrow
  columns-narrow p (r ∷ rs) =
      let d : Diagram = diagram_of t in
      let pl : List ℕ = played r.type (first_role d) types in
      All-cons Narrow (column_of d c types roles p r) (columns_from d c types roles (suc p) rs)
      (record { first = first_small t (index r.type) w; start = omega (arith, taken-small c p pl h, played-few r.type (first_role d) types, few) })
      (columns-narrow (suc p) rs)

-- ---- what is small

map-small : {A : Type 0} (f : A → ℕ) (xs : List A) → ((a : A) → f a ≤ 4096) → (k : ℕ) → get_or (map f xs) k 0 ≤ 4096
map-small f [] h k = omega arith
map-small f (x ∷ xs) h zero = h x
map-small f (x ∷ xs) h (suc k) = map-small f xs h k

pub sizes-small : (c sets : List ℕ) → Small c → Small (sizes_of c sets)
sizes-small c sets h = record { at = map-small (size c) sets (λ s. h.at s) }

module _ (t c : List ℕ) (x : Cursor) (ready : AtPredicate t c x) where
  px : Placed
  px = placed_at t x

  pub owns-small : Small (owns c (placed_at t x))
  unfolding owns
  owns-small = record { at = map-small (λ (b : Part). size c b.own) (parts (placed_at t x)) (λ b. ready.sizes.at b.own) }

  owns-long : length (owns c (placed_at t x)) ≡ length (parts (placed_at t x))
  unfolding owns
  owns-long = length-map (parts (placed_at t x)) (λ (b : Part). size c b.own)

  pub owns-few : length (owns c (placed_at t x)) ≤ 12
  owns-few = omega (arith, owns-long, parts-few t x ready.few)

  pub wanted : Wants (owns c (placed_at t x)) (counts (placed_at t x)) (sizes_of c (order (placed_at t x)))
  wanted =
      let long : length (sizes_of c (order (placed_at t x))) ≡ length (order (placed_at t x)) = length-map (order (placed_at t x)) (size c) in
      record {
        wanted = owns-small;
        counted = owns-long ∙ sym (many-parts c (placed_at t x));
        sized = counts-order (placed_at t x) ∙ sym long;
        few = omega (arith, long, order-few t x ready.few);
      }

each-long : (ws ks s : List ℕ) → length ws ≡ length ks → length (steps_of_each ws ks s) ≡ sum ks
unfolding steps_of_each
each-long [] [] s e = refl
each-long [] (k ∷ ks) s e = absurd (omega arith)
each-long (w ∷ ws) [] s e = absurd (omega arith)
each-long (w ∷ ws) (k ∷ ks) s e =
    omega (
      arith,
      sum_by-cons (λ x. x) k ks,
      length-append (steps w (padded k s)) (steps_of_each ws ks (drop k s)),
      length-steps w (padded k s),
      length-padded k s,
      each-long ws ks (drop k s) (omega arith),
    )

pub each-room : {ws ks sizes : List ℕ} → Wants ws ks sizes → (s : List Step) → length s ≡ 6 → length (steps_of_each ws ks sizes) ≤ length s
each-room {ws} {ks} {sizes} w s e = omega (arith, each-long ws ks sizes w.counted, w.sized, w.few)

pub steps-room : (n : ℕ) (sizes : List ℕ) → length sizes ≤ 12 → (s : List Step) → length s ≡ 12 → length (steps n sizes) ≤ length s
steps-room n sizes h s e = omega (arith, length-steps n sizes)

-- ---- what is prepared

-- The plan of the predicate at `x`
pub record Ready (t c types : List ℕ) (x : Cursor) (p : Plan) : Type 0 where
  pub columns : p.columns.now ≡ columns_from (diagram_of t) c types (order (placed_at t x)) x.roles (placed_at t x).predicate.roles
  pub outer_steps : p.outer.now ≡ steps (get_or c x.own 0) (owns c (placed_at t x))
  pub role_counts : p.counts.now ≡ counts (placed_at t x)
  pub inner_steps : p.inner.now ≡ steps_of_each (owns c (placed_at t x)) (counts (placed_at t x)) (sizes_of c (order (placed_at t x)))

pub ready : (t c types : List ℕ) (x : Cursor) {p : Plan} {roles sizes ks : List ℕ} {n : ℕ}
    → roles ≡ order (placed_at t x) → sizes ≡ owns c (placed_at t x) → ks ≡ counts (placed_at t x) → n ≡ get_or c x.own 0
    → p.columns.now ≡ columns_from (diagram_of t) c types roles x.roles (placed_at t x).predicate.roles
    → p.outer.now ≡ steps n sizes → p.counts.now ≡ ks → p.inner.now ≡ steps_of_each sizes ks (sizes_of c roles) → Ready t c types x p
ready t c types x er es ek en ec eo eks ei = record {
  columns = ec ∙ ap (λ l. columns_from (diagram_of t) c types l x.roles (placed_at t x).predicate.roles) er;
  outer_steps = eo ∙ ap₂ {C = List Step} steps en es;
  role_counts = eks ∙ ek;
  inner_steps = ei ∙ rw (er, es, ek) refl;
}

module _ {t c types : List ℕ} {x : Cursor} (at_x : AtPredicate t c x) (typed : Types t types) {p : Plan} (r : Ready t c types x p) where
  outer-is : p.outer.now ≡ outer c (placed_at t x)
  unfolding placed_at
  outer-is = r.outer_steps

  pub planned : Planned p
  planned = record {
    few = omega (arith, ap length r.role_counts, counts-few t x at_x.few);
    stepped = omega (arith, ap length outer-is, ap length r.role_counts, outer-long c (placed_at t x), many-parts c (placed_at t x));
    there = omega (arith, ap sum r.role_counts, ap length r.inner_steps, inner-long c (placed_at t x), counts-order (placed_at t x));
    enough = omega (arith, ap sum r.role_counts, counts-order (placed_at t x), order-few t x at_x.few);
    narrow = rw r.columns
        (columns-narrow t c types (order (placed_at t x)) at_x.walk at_x.sizes typed.few x.roles (placed_at t x).predicate.roles);
  }

  row_made : (i : ℕ) → row_by p i ≡ row (diagram_of t) c (placed_at t x) i
  unfolding placed_at
  row_made i =
      let same : (placed_at t x).roles ≡ x.roles = unfold placed_at in refl in
      let few : length (outer c (placed_at t x)) ≤ length (counts (placed_at t x)) =
      omega (arith, outer-long c (placed_at t x), many-parts c (placed_at t x)) in
      let all : take (length (counts (placed_at t x))) (outer c (placed_at t x)) ≡ outer c (placed_at t x) =
      take_all (length (counts (placed_at t x))) (outer c (placed_at t x)) few in
      rw (r.columns, outer-is, r.role_counts, r.inner_steps, all, ← same) (row-by (diagram_of t) c (placed_at t x) typed.are i)

  flat_rows : (is : List ℕ) → flat_map (row_by p) is ≡ flatten (map (row (diagram_of t) c (placed_at t x)) is)
  unfolding flat_map flatten
  flat_rows [] = refl
  flat_rows (i ∷ is) = ap₂ {C = List ℕ} (λ a b. a ++ b) (row_made i) (flat_rows is)

  -- the size, then the rows
  pub pred-is : {n : ℕ} → n ≡ get_or c x.own 0 → cells_at t c x ≡ (n ∷ []) ++ rows_to p n
  unfolding cells_of_pred rows
  pred-is {n} en =
      let own : size c (placed_at t x).own ≡ n = unfold placed_at in sym en in
      let many : length (map (row (diagram_of t) c (placed_at t x)) (up_from 0 (size c (placed_at t x).own))) ≡ n =
      length-map (up_from 0 (size c (placed_at t x).own)) (row (diagram_of t) c (placed_at t x))
      ∙ length-up_from 0 (size c (placed_at t x).own) ∙ own in
      ap₂ {C = List ℕ} (λ k l. k ∷ l) many
      (ap (λ (k : ℕ). flatten (map (row (diagram_of t) c (placed_at t x)) (up_from 0 k))) own ∙ sym (flat_rows (up_from 0 n)))

take_suc : {A : Type 0} (xs : List A) (k : ℕ) {a : A} {rest : List A} → drop k xs ≡ a ∷ rest → take (suc k) xs ≡ take k xs ++ a ∷ []
take_suc xs zero e = ap (take 1) e
take_suc [] (suc k) e = absurd (omega (arith, ap length e))
take_suc (x ∷ xs) (suc k) e = ap (λ l. x ∷ l) (take_suc xs k e)

take_next : {A : Type 0} (xs : List A) (k : ℕ) {a : A} {rest : List A} → drop k xs ≡ a ∷ rest → take (k + 1) xs ≡ take k xs ++ a ∷ []
take_next xs k e = rw add-one (take_suc xs k e)

-- ---- the walk

-- The first `k` predicates were passed, and the next is at `x`
pub record Walking (t : List ℕ) (x : Cursor) (k : ℕ) : Type 0 where
  pub left : placed_left (pred_count t - k) t x ≡ drop k (placed (diagram_of t))
  pub reach : Reach t x (pred_count t - k)

module _ (t c : List ℕ) where
  abbrev pub pred_cells : List Placed → List ℕ
  pred_cells ys = flat_map cells_of_pred (map (rows (diagram_of t) c) ys)

  -- of the first `k`
  abbrev pub cells_to : ℕ → List ℕ
  cells_to k = pred_cells (take k (placed (diagram_of t)))

  pub walking_start : {x : Cursor} → Walkable t → x ≡ first_cursor t → Walking t x 0
  walking_start w ex =
      let e : pred_count t - 0 ≡ pred_count t = omega arith in
      record { left = placed-start t ex e; reach = reach-start t w ex e }

  pub cells_none : cells_to 0 ≡ []
  unfolding flat_map
  cells_none = refl

  module _ {x : Cursor} {k : ℕ} (w : Walking t x k) {n : ℕ} (en : n ≡ pred_count t) (h : k < n) where
    pub walking-here : Here t x
    walking-here = reach_here t x (pred_count t - k) w.reach (omega arith)

    pub walking_more : {y : Cursor} → y ≡ next_cursor t x → Walking t y (k + 1)
    walking_more {y} ey =
        let e : pred_count t - k - 1 ≡ pred_count t - (k + 1) = omega arith in
        let opened : drop k (placed (diagram_of t)) ≡ placed_at t x ∷ placed_left (pred_count t - k - 1) t y =
        sym w.left ∙ placed-more t x (pred_count t - k) (omega arith) ey in
        let behind : drop (k + 1) (placed (diagram_of t)) ≡ placed_left (pred_count t - k - 1) t y =
        sym (drop-drop 1 k (placed (diagram_of t))) ∙ ap (drop 1) opened in
        record {
          left = rw (← e) (sym behind);
          reach = rw (← e) (reach-more t x (pred_count t - k) w.reach (omega arith) ey);
        }

    pub cells_more : cells_to (k + 1) ≡ cells_to k ++ cells_at t c x
    unfolding flat_map
    cells_more =
        let opened : drop k (placed (diagram_of t)) ≡ placed_at t x ∷ placed_left (pred_count t - k - 1) t (next_cursor t x) =
        sym w.left ∙ placed-more t x (pred_count t - k) (omega arith) refl in
        ap pred_cells (take_next (placed (diagram_of t)) k opened)
        ∙ ap (flat_map cells_of_pred) (map-append (rows (diagram_of t) c) (take k (placed (diagram_of t))) (placed_at t x ∷ []))
        ∙ flat_map_append cells_of_pred (map (rows (diagram_of t) c) (take k (placed (diagram_of t)))) (rows (diagram_of t) c (placed_at t x) ∷ [])
        ∙ ap (λ l. cells_to k ++ l) (append-nil (cells_at t c x))

  pub cells_all : {x : Cursor} {n : ℕ} → Walking t x n → n ≡ pred_count t → pred_cells (placed (diagram_of t)) ≡ cells_to n
  cells_all {x} {n} w en =
      let none : drop n (placed (diagram_of t)) ≡ [] = sym w.left ∙ placed-none t x (pred_count t - n) (omega arith) in
      let whole : placed (diagram_of t) ≡ take n (placed (diagram_of t)) =
      sym (take-append-drop n (placed (diagram_of t))) ∙ ap (λ l. take n (placed (diagram_of t)) ++ l) none ∙ append-nil (take n (placed (diagram_of t))) in
      ap pred_cells whole

-- ---- few roles and groups

pub record FewLeft (t : List ℕ) (x : Cursor) (n : ℕ) : Type 0 where
  pub each : Each (λ (p : Predicate). (length p.roles ≤ 6) × (length p.groups ≤ 6)) (preds_in n (drop x.at t))

pub few-start : {t : List ℕ} {x : Cursor} {n : ℕ} → Valid t → x ≡ first_cursor t → n ≡ pred_count t → FewLeft t x n
few-start v ex en = record { each = rw (ex, en) (unfold diagram_of in (λ p m. ((v.formed.preds p m).arity.1, (v.formed.preds p m).few))) }

module _ {t : List ℕ} {x : Cursor} {n : ℕ} (f : FewLeft t x n) (h : 0 < n) where
  split : Each (λ (p : Predicate). (length p.roles ≤ 6) × (length p.groups ≤ 6))
      (pred_of (drop x.at t) ∷ preds_in (n - 1) (drop (x.at + pred_length (drop x.at t)) t))
  split = rw (preds_more t x.at n h refl) at f.each

  pub few-here : SmallArity t x
  unfolding placed_at
  few-here = let e = split (pred_of (drop x.at t))
      (here refl) in record { roles = omega (arith, role-count t x, e.0); groups = omega (arith, group-count t x, e.1) }

  pub few-more : {y : Cursor} → y ≡ next_cursor t x → FewLeft t y (n - 1)
  few-more e = record { each = rw e (λ p m. split p (there m)) }

module _ {t c : List ℕ} (v : Valid t) (s : Small c) {n k : ℕ} (en : n ≡ pred_count t) (h : k < n) where
  pub ready_here : {x : Cursor} → Walking t x k → FewLeft t x (n - k) → AtPredicate t c x
  ready_here w f = record { walk = valid-walkable v; sizes = s; here = walking-here t c w en h; few = few-here f (omega arith) }

  pub few_next : {x y : Cursor} → FewLeft t x (n - k) → y ≡ next_cursor t x → FewLeft t y (n - (k + 1))
  few_next f e = let m : n - k - 1 ≡ n - (k + 1) = omega arith in rw (← m) (few-more f (omega arith) e)

pub few_start : {t : List ℕ} {x : Cursor} {n : ℕ} → Valid t → x ≡ first_cursor t → n ≡ pred_count t → FewLeft t x (n - 0)
few_start {n = n} v ex en = let e : n - 0 ≡ n = omega arith in rw e (few-start v ex en)

-- ---- all cells

pub types-room : {t : List ℕ} → Valid t → (s : List ℕ) → length s ≡ 96 → length (types_of (all_roles (diagram_of t))) ≤ length s
types-room v s e = rw length-map (omega (arith, v.formed.role_count, e))

pub types-listed : {t : List ℕ} → Valid t → {xs : List ℕ} → xs ≡ types_of (all_roles (diagram_of t)) → Types t xs
types-listed {t} v {xs} e =
    record { are = e; few = omega (arith, ap length e, length-map (all_roles (diagram_of t)) (λ (r : Role). r.type), v.formed.role_count) }

pub cells_is : (t c : List ℕ)
    → cells (population (diagram_of t) c)
    ≡ flat_map cells_of_type (map (type_values (diagram_of t) c) (up_from 0 (length (diagram_of t).types))) ++ pred_cells t c (placed (diagram_of t))
unfolding cells population
cells_is t c = refl
