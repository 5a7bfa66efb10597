-- The roles: how many members are taken before a role, where a role stands among the parts, and the columns.
use Prim.Native.Nat.{ℕ, suc, ◌+◌, ◌*◌, ◌≤◌, ◌<◌}
use native.Mathlib.Numerals.{add-one}
use native.Mathlib.Omega.{arith}
use mathlib.Core.Path.{◌≡◌, sym, ap, ◌∙◌}
use mathlib.Core.List.{List, [], ◌∷◌, ◌++◌}
use borrow.Author.Tests.{eq-eqb, ne_eqb}
use lib.ListN.{length, get_or, drop, drop_of_length-le}
use lib.Seq.{drop-cons}
use Rattle.counting.specs.Lists.{map_from}
use Rattle.counting.proofs.Laws.Index.{length-map_from}
use Rattle.orm.specs.Diagram.{Role, Diagram}
use Rattle.orm.specs.Populate.{taken_before}
use Rattle.table.specs.Positions.{role_width, wide_role, roles_in, roles_start}
use Rattle.table.specs.Laws.Walks.{each-length, roles-here, role-count}
use Rattle.table.specs.Cursors.{placed_at}
use Rattle.table.specs.declared.Cursor.{Cursor}
use Rattle.selection.specs.Laws.Upto.{roles_none, roles_next}
use Rattle.population.specs.Plan.{position, played, column_of, SmallArity}
use Rattle.population.specs.declared.rows.Column.{Column}

-- ---- members taken before a role

module _ (c : List ℕ) (number p : ℕ) where
  -- what was taken, and what is taken before `p` among the roles from index `i` on, come to the whole
  pub record Taking (types : List ℕ) (first i set sum : ℕ) : Type 0 where
    pub is : sum + taken_before c p (played number set (drop i types)) ≡ taken_before c p (played number first types)

  pub taking_start : (types : List ℕ) (first : ℕ) → Taking types first 0 (first + 0) 0
  taking_start types first = let e : first + 0 ≡ first = omega arith in record { is = rw e (omega arith) }

  module _ (types : List ℕ) (first i sum : ℕ) (w : Taking types first i (first + i) sum) where
    abbrev set : ℕ
    set = first + i

    abbrev left : List ℕ
    left = played number (suc set) (drop (suc i) types)

    module _ (h : i < length types) where
      opened : taken_before c p (played number set (drop i types)) ≡ taken_before c p (played number set (get_or types i 0 ∷ drop (suc i) types))
      opened = ap (λ (l : List ℕ). taken_before c p (played number set l)) (drop-cons types i 0 h)

      module _ (e : get_or types i 0 ≡ number) where
        own : played number set (get_or types i 0 ∷ drop (suc i) types) ≡ set ∷ left
        unfolding played
        own = rw (eq-eqb (get_or types i 0) number e, played)

        pub taken_here : set ≡ p → sum ≡ taken_before c p (played number first types)
        unfolding taken_before
        taken_here f =
            let none : taken_before c p (set ∷ left) ≡ 0 = rw (eq-eqb set p f, taken_before) in
            omega (arith, w.is, opened, ap (taken_before c p) own, none)

        pub taken_more : {s : ℕ} → (set ≡ p → ⊥) → s ≡ get_or c set 0 → Taking types first (i + 1) (first + (i + 1)) (sum + s)
        unfolding taken_before
        taken_more {s} f es =
            let more : taken_before c p (set ∷ left) ≡ get_or c set 0 + taken_before c p left = rw (ne_eqb set p f, taken_before) in
            let n : first + suc i ≡ suc set = omega arith in
            record { is = rw (add-one i, n) (omega (arith, w.is, opened, ap (taken_before c p) own, more, es)) }

      pub taken_same : (get_or types i 0 ≡ number → ⊥) → Taking types first (i + 1) (first + (i + 1)) sum
      unfolding played
      taken_same e =
          let other : played number set (get_or types i 0 ∷ drop (suc i) types) ≡ left = rw (ne_eqb (get_or types i 0) number e, played) in
          let n : first + suc i ≡ suc set = omega arith in
          record { is = rw (add-one i, n) (omega (arith, w.is, opened, ap (taken_before c p) other)) }

    pub taken_all : length types ≤ i → sum ≡ taken_before c p (played number first types)
    unfolding played taken_before
    taken_all h =
        let none : taken_before c p (played number set (drop i types)) ≡ 0 = ap (λ (l : List ℕ). taken_before c p (played number set l))
        (drop_of_length-le types h) in
        omega (arith, w.is, none)

-- ---- where a role stands

module _ (p : ℕ) (list : List ℕ) (i : ℕ) {total : ℕ} (w : i + position p (drop i list) ≡ total) where
  pub position_here : i < length list → get_or list i 0 ≡ p → i ≡ total
  unfolding position
  position_here h e = let none : position p (drop i list) ≡ 0 = ap (position p) (drop-cons list i 0 h) ∙ rw
      (eq-eqb (get_or list i 0) p e, position) in omega (arith, w, none)

  pub position_more : i < length list → (get_or list i 0 ≡ p → ⊥) → (i + 1) + position p (drop (i + 1) list) ≡ total
  unfolding position
  position_more h e = let more : position p (drop i list) ≡ suc (position p (drop (suc i) list)) = ap (position p) (drop-cons list i 0 h) ∙ rw
      (ne_eqb (get_or list i 0) p e, position) in rw (add-one i) (omega (arith, w, more))

  pub position_all : length list ≤ i → i ≤ length list → length list ≡ total
  unfolding position
  position_all h l = let none : position p (drop i list) ≡ 0 = ap (position p) (drop_of_length-le list h) in omega (arith, w, none)

pub position_start : (p : ℕ) (list : List ℕ) → 0 + position p (drop 0 list) ≡ position p list
position_start p list = omega arith

-- ---- columns

map_from-last : {A B : Type 0} (f : ℕ → A → B) (n : ℕ) (xs : List A) (x : A) → map_from f n (xs ++ x ∷ []) ≡ map_from f n xs ++ f (n + length xs) x ∷ []
unfolding map_from
map_from-last f n [] x = let e : n ≡ n + 0 = omega arith in ap (λ k. f k x ∷ []) e
map_from-last f n (y ∷ xs) x =
    let e : suc n + length xs ≡ n + suc (length xs) = omega arith in
    ap (λ l. f n y ∷ l) (map_from-last f (suc n) xs x ∙ ap (λ k. map_from f (suc n) xs ++ f k x ∷ []) e)

module _ (d : Diagram) (c types roles : List ℕ) where
  abbrev pub columns_from : ℕ → List Role → List Column
  columns_from p rs = map_from (column_of d c types roles) p rs

  module _ (t : List ℕ) (q p : ℕ) where
    pub columns_none : columns_from p (roles_in 0 (drop q t)) ≡ []
    unfolding map_from
    columns_none = ap (columns_from p) (roles_none t q)

    pub columns_more : (n : ℕ) {k : Column} → k ≡ column_of d c types roles (p + n) (wide_role (drop (q + role_width * n) t))
        → columns_from p (roles_in (n + 1) (drop q t)) ≡ columns_from p (roles_in n (drop q t)) ++ k ∷ []
    columns_more n {k} ek =
        let line : Role = wide_role (drop (q + role_width * n) t) in
        ap (columns_from p) (roles_next t q n) ∙ map_from-last (column_of d c types roles) p (roles_in n (drop q t)) line
        ∙ ap (λ m. columns_from p (roles_in n (drop q t)) ++ column_of d c types roles (p + m) line ∷ [])
        (each-length wide_role role_width n (drop q t))
        ∙ ap (λ y. columns_from p (roles_in n (drop q t)) ++ y ∷ []) (sym ek)

  module _ (t : List ℕ) (x : Cursor) where
    pub columns_all : {m q : ℕ} → m ≡ get_or (drop x.at t) 2 0 → q ≡ x.at + roles_start
        → columns_from x.roles (placed_at t x).predicate.roles ≡ columns_from x.roles (roles_in m (drop q t))
    unfolding placed_at
    columns_all em eq = ap (columns_from x.roles) (sym (roles-here t x.at em eq))

    pub columns-room : (s : List Column) → SmallArity t x → length s ≡ 6 → length (columns_from x.roles (placed_at t x).predicate.roles) ≤ length s
    unfolding placed_at
    columns-room s f e = omega (arith, length-map_from (column_of d c types roles) x.roles (placed_at t x).predicate.roles, role-count (drop x.at t), f.roles, e)
