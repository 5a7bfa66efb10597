-- The numbers of a type by its index, and whether it gives FIRST and LAST.
use Rattle.std.specs.Prelude.{ℕ, suc, ◌+◌, ◌*◌, ◌≤◌, ◌<◌, ◌≡◌, refl, Bool, false, List, map, eqb, ltb, drop}
use Rattle.std.proofs.Math.Decide.{dec_le}
use Rattle.std.proofs.Common.{arith, ◌∙◌, drop-drop, get_or-drop}
use Rattle.std.proofs.Math.Path.{sym, ap}
use Rattle.std.proofs.Math.Bool.{true, not}
use borrow.Author.Tests.{eq-eqb, ne_eqb, lt-ltb, le-ltb}
use Rattle.std.proofs.Math.ListN.{get_or, get_or-eq_default}
use Rattle.std.proofs.lemmas.List.{length-map}
use Rattle.counting.proofs.Laws.Index.{at-get_or, at_map}
use Rattle.counting.proofs.Laws.Lines.{each-length, each_at}
use Rattle.orm.specs.Diagram.{ObjectType, is_root}
use Rattle.orm.specs.Form.{type_of}
use Rattle.orm.specs.Supertypes.{super_at, first_at, last_at, root, first_value, has_range, has_range_at}
use Rattle.reading.specs.Walk.{types_in}
use Rattle.supertypes.specs.Entries.{entry_at}

-- ---- by position

module _ (t : List ℕ) (count a i : ℕ) where
  pub entry_past : count ≤ a → 0 ≡ entry_at t count a i
  unfolding entry_at
  entry_past h = rw (le-ltb a count h, entry_at)

  pub entry-there : {p r : ℕ} → a < count → p ≡ 2 + 6 * a → r ≡ get_or (drop p t) i 0 → r ≡ entry_at t count a i
  unfolding entry_at
  entry-there h ep er = rw (lt-ltb a count h, entry_at) (er ∙ ap (λ (p : ℕ). get_or (drop p t) i 0) ep)

-- no larger than every number of the table
pub entry-small : (t : List ℕ) (count a i : ℕ) {b : ℕ} → ((k : ℕ) → get_or t k 0 ≤ b) → entry_at t count a i ≤ b
unfolding entry_at
entry-small t count a i {b} small = go (ltb a count)
  where
    go : (there : Bool) → elim there [ true ↦ get_or (drop (2 + 6 * a) t) i 0 | false ↦ 0 ] ≤ b
    go true = rw (get_or-drop (2 + 6 * a) t i 0) (small (2 + 6 * a + i))
    go false = omega arith

module _ (t : List ℕ) (count a : ℕ) where
  abbrev types : List ObjectType
  types = types_in count (drop 2 t)

  -- a function of the type at an index
  module _ {A : Type 0} (f : ObjectType → A) (none : A) where
    past : count ≤ a → get_or (map f types) a none ≡ none
    past h = get_or-eq_default (map f types) none (rw (length-map, each-length type_of 6 count (drop 2 t)) h)

    there : a < count → get_or (map f types) a none ≡ f (type_of (drop (2 + 6 * a) t))
    there h = at-get_or none (at_map f (each_at type_of 6 count (drop 2 t) a h)) ∙ ap (λ (s : List ℕ). f (type_of s)) (drop-drop (6 * a) 2 t)

  -- one of its numbers
  number : (i : ℕ) (f : ObjectType → ℕ) → ((s : List ℕ) → f (type_of s) ≡ get_or s i 0) → entry_at t count a i ≡ get_or (map f types) a 0
  number i f e = go (dec_le (suc a) count)
    where
      go : Dec (a < count) → entry_at t count a i ≡ get_or (map f types) a 0
      go (yes h) = sym (there f 0 h ∙ e (drop (2 + 6 * a) t) ∙ entry-there t count a i h refl refl)
      go (no h) = sym (past f 0 (omega arith) ∙ entry_past t count a i (omega arith))

  pub super-is : entry_at t count a 4 ≡ super_at types a
  unfolding super_at
  super-is = number 4 (λ (x : ObjectType). x.super) (λ s. refl)

  pub first-is : entry_at t count a 2 ≡ first_at types a
  unfolding first_at
  first-is = number 2 (λ (x : ObjectType). x.first) (λ s. refl)

  pub last-is : entry_at t count a 3 ≡ last_at types a
  unfolding last_at
  last-is = number 3 (λ (x : ObjectType). x.last) (λ s. refl)

  pub range_past : count ≤ a → true ≡ has_range_at types a
  unfolding has_range_at
  range_past h = sym (past has_range true h)

  pub range_there : {p : ℕ} {r : Bool} → a < count → p ≡ 2 + 6 * a → r ≡ has_range (type_of (drop p t)) → r ≡ has_range_at types a
  unfolding has_range_at
  range_there h ep er = er ∙ ap (λ (p : ℕ). has_range (type_of (drop p t))) ep ∙ sym (there has_range true h)

-- the first value is a number of the root's line
pub first-value-entry : (t : List ℕ) (count a : ℕ) → first_value (types_in count (drop 2 t)) a ≡ entry_at t count (root (types_in count (drop 2 t)) a) 2
unfolding first_value
first-value-entry t count a = sym (first-is t count (root (types_in count (drop 2 t)) a))

-- ---- of the numbers of a line

module _ (s : List ℕ) {super : ℕ} (e : super ≡ get_or s 4 0) where
  pub range_root : super ≡ 0 → true ≡ has_range (type_of s)
  unfolding has_range is_root
  range_root z = rw (eq-eqb (get_or s 4 0) 0 (sym e ∙ z))

  module _ (n : super ≡ 0 → ⊥) {first : ℕ} (f : first ≡ get_or s 2 0) where
    pub range_first : (first ≡ 0 → ⊥) → true ≡ has_range (type_of s)
    unfolding has_range is_root
    range_first m = rw (ne_eqb (get_or s 4 0) 0 (λ z. n (e ∙ z)), ne_eqb (get_or s 2 0) 0 (λ z. m (f ∙ z)))

    pub range_last : {last : ℕ} {r : Bool} → first ≡ 0 → last ≡ get_or s 3 0 → r ≡ not (eqb last 0) → r ≡ has_range (type_of s)
    unfolding has_range is_root
    range_last z l w =
        rw (ne_eqb (get_or s 4 0) 0 (λ z. n (e ∙ z)), eq-eqb (get_or s 2 0) 0 (sym f ∙ z)) (w ∙ ap (λ (x : ℕ). not (eqb x 0)) l)
