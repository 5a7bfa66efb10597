-- The types above a type: its root, and the nearest that gives FIRST and LAST (document 01, 'The diagram file'; document 02, S-5).
use Rattle.std.specs.Prelude.{ℕ, zero, suc, Bool, true, false, not, ◌&&◌, ◌||◌, List, map, eqb, get_or}
use Rattle.orm.specs.Diagram.{ObjectType, is_root, index}

-- SUPER, FIRST and LAST of the type at an index
unfoldable pub super_at : List ObjectType → ℕ → ℕ
super_at ts a = get_or (map (λ (t : ObjectType). t.super) ts) a 0

unfoldable pub first_at : List ObjectType → ℕ → ℕ
first_at ts a = get_or (map (λ (t : ObjectType). t.first) ts) a 0

unfoldable pub last_at : List ObjectType → ℕ → ℕ
last_at ts a = get_or (map (λ (t : ObjectType). t.last) ts) a 0

-- The first type at which a test holds, from the type at an index on upward; `k` bounds the steps
unfoldable pub climb : (ℕ → Bool) → List ObjectType → ℕ → ℕ → ℕ
climb ends ts zero a = a
climb ends ts (suc k) a = elim (ends a) [ true ↦ a | false ↦ climb ends ts k (index (super_at ts a)) ]

-- The root of the type at an index, itself if it is one; 'SUPER is below the type's own number', so that `a` steps are enough
unfoldable pub is_root_at : List ObjectType → ℕ → Bool
is_root_at ts a = eqb (super_at ts a) 0

unfoldable pub root : List ObjectType → ℕ → ℕ
root ts a = climb (is_root_at ts) ts a a

-- The first value of the type at an index: 'the FIRST of its root'
unfoldable pub first_value : List ObjectType → ℕ → ℕ
first_value ts a = first_at ts (root ts a)

-- The type gives FIRST and LAST: a root does; 'A pair 0,0 on a subtype still means none, also under a root whose FIRST is 0'
unfoldable pub has_range : ObjectType → Bool
has_range t = is_root t || not (eqb t.first 0 && eqb t.last 0)

unfoldable pub has_range_at : List ObjectType → ℕ → Bool
has_range_at ts a = get_or (map has_range ts) a true

-- The nearest type that gives them, from the type at an index on upward
unfoldable pub nearest : List ObjectType → ℕ → ℕ
nearest ts a = climb (has_range_at ts) ts a a

-- 'the LAST of the nearest type .. that gives one'
unfoldable pub last_value : List ObjectType → ℕ → ℕ
last_value ts a = last_at ts (nearest ts a)
