-- The tests of the predicate at `pred` in the table: K5, and K9 of one group and of all.
use Prim.Native.Nat.{ℕ, ◌+◌, ◌*◌, ◌-◌, ◌≤◌, ◌<◌}
use native.Mathlib.Numerals.{add-one}
use native.Mathlib.Omega.{arith}
use mathlib.Core.Path.{◌≡◌, refl, sym, ap, ◌∙◌}
use mathlib.Core.Bool.{Bool, true, false, not}
use mathlib.Core.List.Memᴰ
use mathlib.Core.List.{List, ◌++◌}
use lib.ListN.{length, get_or, take, drop, length-append}
use lib.Seq.{take_at}
use borrow.Author.Tests.{not-true, not-false}
use Rattle.counting.specs.Lists.{map_from, up_from}
use Rattle.counting.specs.Terms.{Each}
use Rattle.counting.specs.Distinct.{all}
use Rattle.counting.proofs.Laws.Members.{each_append, no_repeats_le}
use Rattle.counting.proofs.Laws.Index.{at-below}
use Rattle.counting.proofs.Laws.Range.{length-up_from, in_below-iff}
use Rattle.orm.specs.Diagram.{Role, Frequency, Predicate}
use Rattle.orm.specs.Form.{group_of, ◌to◌, in_range}
use Rattle.orm.specs.Sets.{roles_in_group}
use Rattle.orm.specs.Constraints.{grouped, K5, K6, K9}
use Rattle.orm.proofs.Laws.Cells.{rows_of-length}
use Rattle.orm.proofs.Laws.Select.{of-select, select_no_repeats}
use Rattle.std.proofs.lemmas.List.Sums.{fold-append}
use Rattle.buffer.specs.Written.{Place, place, put, puts, WroteAll}
use Rattle.buffer.specs.Laws.{wrote-end, wrote-whole}
use Rattle.table.specs.Positions.{roles_start, groups_start, roles_in, groups_in}
use Rattle.table.specs.Laws.Walks.{each_more, each_none, role-count, roles-here, groups-here}
use Rattle.columns.specs.declared.Rows.{Rows}
use Rattle.columns.specs.Values.{keys_of, keys_in, occurring}
use Rattle.columns.specs.Differ.{rows_held, rows-differ}
use Rattle.columns.specs.Keyed.{Keyed}
use Rattle.columns.specs.Reach.{rows-keyed}
use Rattle.blocks.specs.Blocks.{pred_width}
use Rattle.blocks.specs.Places.{RowsHere}
use Rattle.blocks.specs.Standing.{PredHere, Standing, standing_here}
use Rattle.playing.specs.Places.{pred_at, rows_here}
use Rattle.rows.specs.declared.Group.{Group}
use Rattle.rows.specs.Tests.{PredRows, GroupHere, group_test, group_kept, groups_test}

-- ---- the columns of a group

module _ (g : ℕ) (rs : List Role) where
  group-below : Each (λ (j : ℕ). j < length rs) (roles_in_group g 0 rs)
  unfolding roles_in_group
  group-below j m = let (k, _, at, e, _) = of-select _ 0 rs m in omega (arith, at-below at)

  group-few : length (roles_in_group g 0 rs) ≤ length rs
  unfolding roles_in_group
  group-few =
      rw (length-up_from 0 (length rs))
      at (no_repeats_le _ (up_from 0 (length rs)) (select_no_repeats _ 0 rs) (λ j m. (in_below-iff (length rs) j).1 (group-below j m)))

-- written into `js`: first the columns of the group, which leaves the place `p`, and then all
pub group-here : (t : List ℕ) (pred g line : ℕ) (js js' : List ℕ) (p : Place ℕ) (role width : ℕ) {all low high : ℕ}
    → p ≡ puts (place js 0) (roles_in_group g 0 (roles_in width (drop role t))) → place js' all ≡ puts p (up_from 0 width)
    → width ≡ get_or (drop pred t) 2 0 → role ≡ pred + roles_start → pred_width (pred_at t pred) ≤ 6 → length js ≡ 12
    → low ≡ get_or (drop line t) 0 0 → high ≡ get_or (drop line t) 1 0
    → GroupHere (pred_at t pred) g (group_of (drop line t)) (take all js') (record { own = p.at; all = all; low = low; high = high })
group-here t pred g line js js' p role width {all} w v e f few long l h =
    let wide : pred_width (pred_at t pred) ≡ width = role-count (drop pred t) ∙ sym e in
    let ks : List ℕ = roles_in_group g 0 (pred_at t pred).roles in
    let w' : WroteAll js ks p.items p.at = record { is = w ∙ ap (λ rs. puts (place js 0) (roles_in_group g 0 rs)) (roles-here t pred e f) } in
    let v' : WroteAll js (ks ++ up_from 0 width) js' all =
    record { is = v ∙ ap (λ q. puts q (up_from 0 width)) w'.is ∙ sym (fold-append put (place js 0) ks (up_from 0 width)) } in
    let room : length (ks ++ up_from 0 width) ≤ length js = simp (length-append, length-up_from) (omega (arith, group-few g (pred_at t pred).roles)) in
    let at : p.at ≡ length ks = wrote-end w' (omega (arith, length-append ks (up_from 0 width))) in
    let end : all ≡ length (ks ++ up_from 0 width) = wrote-end v' room in
    let front : take all js' ≡ ks ++ up_from 0 width =
    ap (take all) (wrote-whole v' room) ∙ take_at _ (drop (length (ks ++ up_from 0 width)) js) all (sym end) in
    record {
      columns = rw wide front;
      own = at;
      fits = rw front (simp length-append (omega arith));
      all = end ∙ ap length (sym front);
      few = omega arith;
      low = l;
      high = h;
    }

own_is : {p : Predicate} {g : ℕ} {f : Frequency} {js : List ℕ} {x : Group} → GroupHere p g f js x → take x.own js ≡ roles_in_group g 0 p.roles
own_is {p} {x = x} c = rw c.columns (take_at _ (up_from 0 (pred_width p)) x.own (sym c.own))

-- ---- the rows

module _ (t s : List ℕ) (pred at : ℕ) (r : Rows) (h : RowsHere s at (pred_width (pred_at t pred)) r) where
  pub rows-held : rows_held r ≡ rows_here t s pred at
  rows-held = rw (h.cells, h.start, h.wide, h.count)

  pub pred-rows : (starts : List ℕ) (k left : ℕ) → Standing t s starts pred k left → 0 < left → at ≡ get_or starts k 0 → PredRows t pred r
  pred-rows starts k left st l e =
      let p : PredHere t s pred at = standing_here t s starts pred k left st l e in
      record { inside = p.inside; few = p.few; width = h.wide; start = rw h.cells h.inside; wide = record { each = rw (rows-held, h.wide) p.wide } }

pub k6-is : (t : List ℕ) (pred : ℕ) (r : Rows) {b : Bool} {low high : ℕ} → low ≡ get_or (drop pred t) 0 0 → high ≡ get_or (drop pred t) 1 0
    → b ≡ in_range (low to high) r.count → b ≡ K6 (pred_at t pred) (rows_held r)
unfolding K6
k6-is t pred r l h e = rw (rows_of-length, ← l, ← h) e

module _ (t : List ℕ) (pred g line : ℕ) (r : Rows) (js : List ℕ) (x : Group) (h : PredRows t pred r)
    (c : GroupHere (pred_at t pred) g (group_of (drop line t)) js x) where
  keyed : (ks : List ℕ) → Each (λ (j : ℕ). j < pred_width (pred_at t pred)) ks → Keyed r ks
  keyed ks e = rows-keyed r ks (rw h.width h.few) h.start h.wide (record { each = rw h.width e })

  pub own-keyed : Keyed r (take x.own js)
  own-keyed = rw (own_is c) (keyed _ (group-below g (pred_at t pred).roles))

  pub all-keyed : Keyed r js
  all-keyed =
      rw c.columns
      (keyed _ (each_append _ _ _ (group-below g (pred_at t pred).roles) (λ j. (in_below-iff (pred_width (pred_at t pred)) j).0)))

  pub k5-is : {b : Bool} → b ≡ occurring 1 1 (keys_in r js) (keys_in r js) → b ≡ K5 (pred_at t pred) (rows_held r)
  unfolding K5
  k5-is e =
      rows-differ r js
      (record { each = λ j l. rw c.columns (Memᴰ.append_right (roles_in_group g 0 (pred_at t pred).roles) ((in_below-iff _ j).1 (rw h.width at l))) })
      h.wide e

-- the line of the group is at `line`
pub group-is : (t : List ℕ) (pred g at line : ℕ) (r : Rows) (js : List ℕ) (x : Group) {b : Bool}
    → GroupHere (pred_at t pred) g (group_of (drop at t)) js x → at ≡ line
    → b ≡ occurring x.low x.high (keys_in r (take x.own js)) (keys_in r (take x.own js)) → b ≡ group_kept t r pred g line
unfolding group_test keys_of
group-is t pred g at line r js x c q e = rw (own_is c, c.low, c.high, q) at e

-- ---- all groups

-- the test of those left comes to the whole test
pub record GroupsLeft (t : List ℕ) (pred : ℕ) (r : Rows) (line g left : ℕ) : Type 0 where
  pub rest : groups_test (pred_at t pred) (rows_held r) g (groups_in left (drop line t)) ≡ K9 (pred_at t pred) (rows_held r)
  pub inside : line + 2 * left ≤ length t
  pub few : g + left ≤ 1000000

module _ (t : List ℕ) (pred : ℕ) (r : Rows) {line g left : ℕ} (i : GroupsLeft t pred r line g left) where
  pub groups_none : left ≤ 0 → true ≡ K9 (pred_at t pred) (rows_held r)
  unfolding groups_test all map_from
  groups_none h = rw (each_none group_of 2 left (drop line t) h) at i.rest

  module _ {b : Bool} (h : 0 < left) (e : b ≡ group_kept t r pred g line) where
    pub groups-not : not b ≡ true → false ≡ K9 (pred_at t pred) (rows_held r)
    unfolding groups_test all map_from
    groups-not n = rw (each_more group_of 2 t line left h, groups_test, ← e, not-true b n) at i.rest

    pub groups-more : {line' g' left' : ℕ} → not b ≡ false → line' ≡ line + 2 → g' ≡ g + 1 → left' ≡ left - 1 → GroupsLeft t pred r line' g' left'
    unfolding groups_test all map_from
    groups-more n el eg ef = rw (el, eg, ef) (record {
      rest = rw add-one (rw (each_more group_of 2 t line left h, groups_test, ← e, not-false b n) at i.rest);
      inside = omega (arith, i.inside);
      few = omega (arith, i.few);
    })

-- the first by itself
module _ (t : List ℕ) (pred : ℕ) (r : Rows) {count : ℕ} (h : PredRows t pred r) (c : count ≡ get_or (drop pred t) 3 0) (few : count ≤ 999999) where
  all-groups : GroupsLeft t pred r (pred + groups_start (drop pred t)) 1 count
  unfolding K9 grouped groups_test group_test occurring
  all-groups = record {
    rest = ap (groups_test (pred_at t pred) (rows_held r) 1) (groups-here t pred c refl);
    inside = omega (arith, h.inside);
    few = omega arith;
  }

  pub k9-none : count ≡ 0 → true ≡ K9 (pred_at t pred) (rows_held r)
  k9-none z = groups_none t pred r all-groups (omega arith)

  module _ {first : Bool} (n : count ≡ 0 → ⊥) (f : first ≡ group_kept t r pred 1 (pred + groups_start (drop pred t))) where
    pub k9-not : not first ≡ true → false ≡ K9 (pred_at t pred) (rows_held r)
    k9-not = groups-not t pred r all-groups (omega arith) f

    pub k9-rest : {line' : ℕ} → not first ≡ false → line' ≡ pred + groups_start (drop pred t) + 2 → GroupsLeft t pred r line' 2 (count - 1)
    k9-rest m l = groups-more t pred r all-groups (omega arith) f m l refl refl
