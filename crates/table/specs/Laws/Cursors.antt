-- The laws of a walk over the predicates that knows their sets.
use Prim.Native.Nat.{ℕ, ◌+◌, ◌-◌, ◌≤◌, ◌<◌}
use Rattle.std.proofs.Math.Numerals.{add-one}
use Rattle.std.proofs.Common.{arith}
use Rattle.std.specs.Prelude.{◌≡◌, get_or}
use Rattle.std.proofs.Math.Path.{refl}
use mathlib.Core.List.{List, [], ◌∷◌}
use Rattle.std.proofs.Math.ListN.{length, drop}
use Rattle.orm.specs.Diagram.{all_roles, all_groups}
use Rattle.orm.specs.Form.{type_of}
use Rattle.orm.specs.Sets.{placed_from, placed, first_pred, first_role, first_group}
use Rattle.table.specs.Positions.{types_in, preds_in, pred_length, type_count, pred_count, first_pred_at, diagram_of, Walkable}
use Rattle.table.specs.Cursors.{placed_at, next_cursor, first_cursor, Reach, Here, placed_left}
use Rattle.table.specs.Laws.Walks.{each-length, role-count, group-count, preds_more, preds-none, preds-length, ahead-start, ahead-here, ahead_more}
use Rattle.table.specs.Laws.Walks.{roles-ahead, groups-ahead}
use Rattle.table.specs.declared.Cursor.{Cursor}

module _ (t : List ℕ) {x : Cursor} {n : ℕ} where
  pub placed-start : x ≡ first_cursor t → n ≡ pred_count t → placed_left n t x ≡ placed (diagram_of t)
  unfolding placed diagram_of
  placed-start ex en = rw (ex, en)

  pub reach-start : Walkable t → x ≡ first_cursor t → n ≡ pred_count t → Reach t x n
  unfolding first_pred first_role first_group all_roles all_groups diagram_of
  reach-start w ex en =
      let types : length (types_in (type_count t) (drop 2 t)) ≤ 32 = rw (each-length type_of 6 (type_count t) (drop 2 t)) w.few_types in
      let preds : length (preds_in (pred_count t) (drop (first_pred_at t) t)) ≤ 32 =
      rw (preds-length (pred_count t) (drop (first_pred_at t) t)) w.few_preds in
      rw (ex, en)
      (record {
        ahead = ahead-start t w refl refl;
        own = omega (arith, w.few_preds);
        roles = omega (arith, w.few_roles);
        groups = omega (arith, w.few_roles, w.few_groups);
      })

module _ (t : List ℕ) (x : Cursor) (n : ℕ) where
  pub placed-none : n ≤ 0 → placed_left n t x ≡ []
  unfolding placed_from
  placed-none h = rw (preds-none n (drop x.at t) h)

  module _ {y : Cursor} where
    pub placed-more : 0 < n → y ≡ next_cursor t x → placed_left n t x ≡ placed_at t x ∷ placed_left (n - 1) t y
    unfolding placed_from placed_at
    placed-more h e =
        let s : List ℕ = drop x.at t in
        rw (
          e,
          preds_more t x.at n h refl,
          role-count s,
          group-count s,
          add-one,
        )

    pub reach-more : Reach t x n → 0 < n → y ≡ next_cursor t x → Reach t y (n - 1)
    reach-more r h e =
        rw e
        (record {
          ahead = ahead_more t x.at n r.ahead h refl;
          own = omega arith;
          roles = omega (arith, roles-ahead t x.at n h refl);
          groups = omega (arith, groups-ahead t x.at n h refl);
        })

  pub reach_here : Reach t x n → 0 < n → Here t x
  reach_here r h =
      record {
        inside = ahead-here t x.at n r.ahead h;
        own = omega arith;
        roles = omega (arith, roles-ahead t x.at n h refl);
        groups = omega (arith, groups-ahead t x.at n h refl);
      }

-- ---- a cursor put together from the numbers that were read

pub next-is : (t : List ℕ) (x : Cursor) {a f g : ℕ} → a ≡ x.at + pred_length (drop x.at t) → f ≡ get_or (drop x.at t) 2 0
    → g ≡ get_or (drop x.at t) 3 0 → (record { at = a; own = x.own + 1; roles = x.roles + f; groups = x.groups + g }) ≡ next_cursor t x
next-is t x ea ef eg = rw (ea, ef, eg)

pub first-role-is : (t : List ℕ) {o p : ℕ} → o ≡ type_count t → p ≡ pred_count t → o + p ≡ first_role (diagram_of t)
unfolding first_role first_pred diagram_of
first-role-is t eo ep = rw (eo, ep, each-length type_of 6 (type_count t) (drop 2 t), preds-length (pred_count t) (drop (first_pred_at t) t))

pub first-is : (t : List ℕ) {a o p r : ℕ} → a ≡ first_pred_at t → o ≡ type_count t → p ≡ first_role (diagram_of t)
    → r ≡ length (all_roles (diagram_of t)) → (record { at = a; own = o; roles = p; groups = p + r }) ≡ first_cursor t
unfolding first_pred first_group diagram_of
first-is t ea eo ep er = rw (ea, eo, ep, er, each-length type_of 6 (type_count t) (drop 2 t))
