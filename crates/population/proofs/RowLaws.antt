-- A row from what is prepared: its indices are small, and there is room for them.
use Prim.Native.Nat.{ℕ, suc, ◌+◌, ◌*◌, ◌≤◌}
use native.Mathlib.Omega.{arith}
use mathlib.Core.Path.{◌≡◌, refl, sym, ap, ◌∙◌}
use mathlib.Core.List.{List, [], ◌∷◌, ◌++◌, map, flat_map, append-nil}
use lib.ListN.{length, drop, take}
use lib.Seq.{take_all}
use Rattle.std.specs.Prelude.{sum}
use Rattle.std.proofs.Common.{length-take-le}
use Rattle.std.proofs.lemmas.List.{take-take}
use Rattle.std.proofs.lemmas.List.Sums.{sum_by-take-le}
use Rattle.counting.specs.Lists.{up_from}
use Rattle.counting.proofs.Laws.Maps.{flat_map_append}
use Rattle.table.specs.Valid.{Under}
use Rattle.table.specs.Laws.Valid.{under_nil, under-cons, under_append}
use Rattle.selection.specs.Laws.Upto.{up_from_more}
use Rattle.tuples.specs.Steps.{tuple_of, first_row, entries}
use Rattle.tuples.specs.StepsLaws.{length-tuple_of, entry-small, first_row-small}
use Rattle.tuples.specs.Stored.{Stored}
use Rattle.tuples.specs.StoredLaws.{stored-front, stored-long}
use Rattle.tuples.specs.Nested.{tuples_in, Indices}
use Rattle.tuples.specs.NestedLaws.{tuples_all}
use Rattle.tuples.specs.declared.Step.{Step}
use Rattle.population.specs.Plan.{cell_of, row_by, Planned}
use Rattle.population.specs.declared.rows.Plan.{Plan}

-- ---- indices are small: a row's is at most 4096, and a pairing at most doubles it, for the parts of the row and for the roles of a part

under_weaken : {b b' : ℕ} {xs : List ℕ} → b ≤ b' → Under b xs → Under b' xs
under_weaken h u = record { at = λ k. omega (arith, u.at k) }

entries-under : (s : List Step) (i : ℕ) → Under (2 * i) (entries s i)
unfolding entries
entries-under [] i = under_nil (2 * i)
entries-under (a ∷ s) i = under-cons (omega (arith, entry-small a (first_row s i), first_row-small s i)) (entries-under s i)

tuple_under : (s : List Step) (i : ℕ) → Under (2 * i) (tuple_of s i)
unfolding tuple_of
tuple_under [] i = under_nil (2 * i)
tuple_under (a ∷ s) i = under-cons (omega (arith, first_row-small s i)) (entries-under s i)

tuples-under : (s : List Step) (ks is : List ℕ) → Under 8192 is → Under 16384 (tuples_in s ks is)
unfolding tuples_in
tuples-under s ks [] u = under_nil 16384
tuples-under s [] (i ∷ is) u = under_nil 16384
tuples-under s (k ∷ ks) (i ∷ is) u =
    under_append (tuple_of (take k s) i) (tuples_in (drop k s) ks is)
    (under_weaken (omega (arith, u.at 0)) (tuple_under (take k s) i))
    (tuples-under (drop k s) ks is (record { at = λ k. u.at (suc k) }))

sum-within : (ks : List ℕ) (n : ℕ) → sum (take n ks) ≤ sum ks
sum-within ks n = sum_by-take-le (λ x. x) ks n

-- ---- the row, through scratch

module _ {p : Plan} (planned : Planned p) (stepped : length p.outer.now ≡ length p.counts.now) {i : ℕ} (small : i ≤ 4096) {is is' : List ℕ} (room : length is ≡ 12)
    (w : Stored is 0 (tuple_of p.outer.now i) is') where
  abbrev pub rows : List ℕ
  rows = take (length p.counts.now) is'

  long : length (tuple_of p.outer.now i) ≡ length p.counts.now
  long = length-tuple_of p.outer.now i ∙ stepped

  rows-are : rows ≡ tuple_of p.outer.now i
  rows-are = ap (λ m. take m is') (sym long) ∙ stored-front w (omega (arith, long, planned.few, room))

  pub rows-within : length p.counts.now ≤ length is'
  rows-within = omega (arith, planned.few, room, stored-long w)

  rows-under : Under 8192 rows
  rows-under = rw rows-are (under_weaken (omega (arith, small)) (tuple_under p.outer.now i))

  pub rows-indices : Indices rows
  rows-indices = record { at = λ k. omega (arith, rows-under.at k) }

  pub rows-counted : length rows ≤ length p.counts.now
  rows-counted = omega (arith, ap length rows-are, long)

  pub rows-stepped : sum (take (length rows) p.counts.now) ≤ length p.inner.now
  rows-stepped = omega (arith, sum-within p.counts.now (length rows), planned.there)

  pub rows_roomy : (fs : List ℕ) → length fs ≡ 6 → sum (take (length rows) p.counts.now) ≤ length fs
  rows_roomy fs e = omega (arith, sum-within p.counts.now (length rows), planned.enough)

  module _ {fs fs' : List ℕ} {n : ℕ} (space : length fs ≡ 6) (v : Stored fs 0 (tuples_in p.inner.now p.counts.now rows) fs')
      (en : n ≡ length (tuples_in p.inner.now p.counts.now rows)) where
    few : n ≤ 6
    few =
        let all : sum (take (length rows) p.counts.now) ≡ length (tuples_in p.inner.now p.counts.now rows) =
        tuples_all p.inner.now p.counts.now rows refl (omega arith) (omega arith) rows-counted rows-stepped in
        omega (arith, en, all, sum-within p.counts.now (length rows), planned.enough)

    pub flat-within : n ≤ length fs'
    flat-within = omega (arith, few, space, stored-long v)

    pub flat-count : n ≡ length (take n fs')
    flat-count = sym (length-take-le n fs' flat-within)

    flat-are : take n fs' ≡ tuples_in p.inner.now p.counts.now rows
    flat-are = rw en (stored-front v (omega (arith, few, en, space)))

    pub flat-under : Under 16384 (take n fs')
    flat-under = rw flat-are (tuples-under p.inner.now p.counts.now rows rows-under)

    pub row-is : row_by p i ≡ map (cell_of (take n fs')) p.columns.now
    row-is =
        let all : take (length p.counts.now) p.outer.now ≡ p.outer.now = take_all (length p.counts.now) p.outer.now (omega (arith, stepped)) in
        sym (ap (λ flat. map (cell_of flat) p.columns.now)
        (flat-are ∙ ap (tuples_in p.inner.now p.counts.now) (rows-are ∙ ap (λ s. tuple_of s i) (sym all))))

-- ---- all rows

module _ (p : Plan) where
  abbrev pub rows_to : ℕ → List ℕ
  rows_to n = flat_map (row_by p) (up_from 0 n)

  pub rows_none : rows_to 0 ≡ []
  unfolding up_from flat_map
  rows_none = refl

  pub rows_more : (n : ℕ) → rows_to (n + 1) ≡ rows_to n ++ row_by p n
  unfolding flat_map
  rows_more n =
      ap (flat_map (row_by p)) (up_from_more 0 n) ∙ flat_map_append (row_by p) (up_from 0 n) ((0 + n) ∷ [])
      ∙ ap (λ l. rows_to n ++ l) (append-nil (row_by p (0 + n)))
      ∙ (let e : 0 + n ≡ n = omega arith in ap (λ k. rows_to n ++ row_by p k) e)

-- The same without the steps that stand behind those of the parts: its rows are the same
abbrev pub shortened : Plan → Plan
shortened p = record {
  columns = p.columns;
  outer = record { ref_ptr = p.outer.ref_ptr; now = take (length p.counts.now) p.outer.now };
  counts = p.counts;
  inner = p.inner;
}

pub rows_shortened : (p : Plan) (n : ℕ) → rows_to p n ≡ rows_to (shortened p) n
rows_shortened p n =
    ap (λ (s : List Step). flat_map (λ i. map (cell_of (tuples_in p.inner.now p.counts.now (tuple_of s i))) p.columns.now) (up_from 0 n))
    (sym (take-take (length p.counts.now) (length p.counts.now) p.outer.now (omega arith)))
