-- Cells and populations of a diagram's shape: a population's cells are cut into it again, what is cut has the shape, and so has the
-- population that is made from sizes.
use Rattle.std.specs.Prelude.{ℕ, zero, suc, ◌+◌, ◌*◌, ◌≡◌, refl, take, drop}
use Rattle.std.proofs.Common.{sym, ap, ap₂, ◌∙◌, subst, arith, mul-one, zero-add, add_assoc, suc-mul, length-drop, length-take-le}
use mathlib.Core.List.{List, [], ◌∷◌, ◌++◌, map, flat_map, flatten, append_assoc, append-nil}
use Rattle.std.proofs.Math.Nat.{add-zero, suc_inj}
use Rattle.std.proofs.Math.ListN.{length, length-append, length-map}
use Rattle.std.proofs.Math.Seq.{take-append_seam, drop-append_seam}
use Rattle.counting.specs.Lists.{up_from}
use Rattle.counting.specs.Terms.{Each, Each2}
use Rattle.counting.proofs.Laws.Members.{each_nil, each-cons, each-head, each_tail}
use Rattle.counting.proofs.Laws.Range.{length-up_from}
use Rattle.counting.proofs.Laws.Index.{length-map_from, each2_length}
use Rattle.orm.specs.Diagram.{ObjectType, Predicate, Diagram}
use Rattle.orm.specs.Reader.{Reading, rejected, read, Reader, for_each, at_end, Cut, broken, cut, exactly}
use Rattle.orm.specs.Sets.{Placed, placed_from, placed}
use Rattle.orm.specs.Population.{Population, cells_of_type, cells_of_pred, cells, Block, block, rows_of, type_block, pred_block, blocks, cutting}
use Rattle.orm.specs.Populate.{size, type_values, row, rows, population}
use Rattle.orm.specs.Meaning.{Rows, Shaped}
use Rattle.orm.proofs.Laws.Readers.{bind_read, bind_cases, for_each-each, exactly_append, exactly-cut}

-- every row has so many cells
abbrev Wide : ℕ → List (List ℕ) → Type 0
Wide w rows = Each (λ row. length row ≡ w) rows

block-cells : (w n k : ℕ) (v rest : List ℕ) → length v ≡ k * w
    → block w n (k ∷ (v ++ rest)) ≡ read (record { size = k; content = v }) (n + suc (k * w)) rest
unfolding block
block-cells w n k v rest l =
    let e : exactly (v ++ rest) (k * w) ≡ cut v rest = subst (λ (m : ℕ). exactly (v ++ rest) m ≡ cut v rest) l (exactly_append v rest) in
    rw (e, block)

pub flatten-length : (w : ℕ) (os : List (List ℕ)) → Wide w os → length (flatten os) ≡ length os * w
unfolding flatten
flatten-length w [] h = omega arith
flatten-length w (r ∷ os) h =
    length-append r (flatten os) ∙ ap₂ (λ (a b : ℕ). a + b) (each-head _ h) (flatten-length w os (each_tail _ h)) ∙ sym
    (suc-mul (length os) w ∙ omega arith)

rows_of-flatten : (w : ℕ) (os : List (List ℕ)) → Wide w os → rows_of (length os) w (flatten os) ≡ os
unfolding rows_of flatten
rows_of-flatten w [] h = refl
rows_of-flatten w (r ∷ os) h =
    let first : take w (r ++ flatten os) ≡ r = rw (← each-head _ h) (take-append_seam r (flatten os)) in
    let others : drop w (r ++ flatten os) ≡ flatten os = rw (← each-head _ h) (drop-append_seam r (flatten os)) in
    rw (first, others, rows_of-flatten w os (each_tail _ h))

type-cells : (t : ObjectType) (n : ℕ) (vs rest : List ℕ) → type_block t n (cells_of_type vs ++ rest) ≡ read vs (n + length (cells_of_type vs)) rest
unfolding type_block cells_of_type
type-cells t n vs rest =
    bind_read (block 1) _ n (length vs ∷ (vs ++ rest)) _ _ _ (block-cells 1 n (length vs) vs rest (sym (mul-one (length vs)))) ∙ rw mul-one

pred-cells : (p : Predicate) (n : ℕ) (os : List (List ℕ)) (rest : List ℕ) → Wide (length p.roles) os
    → pred_block p n (cells_of_pred os ++ rest) ≡ read os (n + length (cells_of_pred os)) rest
unfolding pred_block cells_of_pred
pred-cells p n os rest h =
    bind_read (block (length p.roles)) _ n (length os ∷ (flatten os ++ rest)) _ _ _
    (block-cells (length p.roles) n (length os) (flatten os) rest (flatten-length _ os h))
    ∙ ap₂ {C = Reading (List (List ℕ))} (λ (a : List (List ℕ)) (m : ℕ). read a (n + suc m) rest) (rows_of-flatten _ os h) (sym (flatten-length _ os h))

-- one reader after another, each over its own cells
module _ {X A : Type 0} (f : X → Reader A) (w : A → List ℕ) where
  cells_again : (xs : List X) (os : List A) (n : ℕ) (rest : List ℕ)
      → Each2 (λ (x : X) (a : A). (m : ℕ) (tail : List ℕ) → f x m (w a ++ tail) ≡ read a (m + length (w a)) tail) xs os
      → for_each f xs n (flat_map w os ++ rest) ≡ read os (n + length (flat_map w os)) rest
  unfolding for_each flat_map
  cells_again [] [] n rest h = rw add-zero
  cells_again [] (a ∷ os) n rest h = absurd h
  cells_again (x ∷ xs) [] n rest h = absurd h
  cells_again (x ∷ xs) (a ∷ os) n rest h =
      rw (append_assoc, length-append, ← add_assoc)
      (bind_read (f x) _ n (w a ++ (flat_map w os ++ rest)) a _ (flat_map w os ++ rest) (h.0 n (flat_map w os ++ rest))
      ∙ bind_read (for_each f xs) _ (n + length (w a)) (flat_map w os ++ rest) os _ rest (cells_again xs os (n + length (w a)) rest h.1))

types-each : (ts : List ObjectType) (os : List (List ℕ)) → length os ≡ length ts
    → Each2 (λ (t : ObjectType) (vs : List ℕ). (m : ℕ) (tail : List ℕ)
    → type_block t m (cells_of_type vs ++ tail) ≡ read vs (m + length (cells_of_type vs)) tail) ts os
types-each [] [] h = tt
types-each [] (o ∷ os) h = omega arith
types-each (t ∷ ts) [] h = omega arith
types-each (t ∷ ts) (o ∷ os) h = (λ m tail. type-cells t m o tail, types-each ts os (suc_inj h))

preds-each : (ps : List Predicate) (os : List (List (List ℕ))) → Each2 Rows ps os
    → Each2 (λ (p : Predicate) (rows : List (List ℕ)). (m : ℕ) (tail : List ℕ)
    → pred_block p m (cells_of_pred rows ++ tail) ≡ read rows (m + length (cells_of_pred rows)) tail) ps os
preds-each [] [] h = tt
preds-each [] (o ∷ os) h = h
preds-each (p ∷ ps) [] h = h
preds-each (p ∷ ps) (o ∷ os) h = (λ m tail. pred-cells p m o tail h.0, preds-each ps os h.1)

-- The cells of a population are cut into that population
pub cells_cut : (d : Diagram) (o : Population) → Shaped d o → cutting d (cells o) ≡ read o (length (cells o)) []
unfolding cutting blocks cells at_end
cells_cut d o h =
    let t : List ℕ = flat_map cells_of_type o.types in
    let p : List ℕ = flat_map cells_of_pred o.preds in
    let types-read : for_each type_block d.types 0 (t ++ p) ≡ read o.types (0 + length t) p =
    cells_again type_block cells_of_type d.types o.types 0 p (types-each d.types o.types h.types) in
    let preds-read : for_each pred_block d.preds (0 + length t) (p ++ []) ≡ read o.preds (0 + length t + length p) [] =
    cells_again pred_block cells_of_pred d.preds o.preds (0 + length t) [] (preds-each d.preds o.preds h.preds) in
    bind_read (for_each type_block d.types) _ 0 (t ++ p) o.types (0 + length t) p types-read
    ∙ bind_read (for_each pred_block d.preds) _ (0 + length t) p o.preds (0 + length t + length p) [] (rw append-nil at preds-read)
    ∙ ap (λ (m : ℕ). read o m []) (simp (length-append, zero-add))

-- ---- the population that is made has that shape

module _ (d : Diagram) (c : List ℕ) where
  rows-wide : (x : Placed) → Wide (length x.predicate.roles) (rows d c x)
  unfolding row rows
  rows-wide x = go (up_from 0 (size c x.own))
    where
      go : (is : List ℕ) → Wide (length x.predicate.roles) (map (row d c x) is)
      go [] = each_nil _
      go (i ∷ is) = each-cons _ (length-map_from _ _ _) (go is)

  rows_for : (r p q : ℕ) (ps : List Predicate) → Each2 Rows ps (map (rows d c) (placed_from r p q ps))
  unfolding placed_from
  rows_for r p q [] = tt
  rows_for r p q (x ∷ ps) =
      (rows-wide (record { predicate = x; own = r; roles = p; groups = q }), rows_for (suc r) (p + length x.roles) (q + length x.groups) ps)

  -- Whatever the sizes
  pub population-shaped : Shaped d (population d c)
  unfolding population placed
  population-shaped = record {
    types = length-map (up_from 0 (length d.types)) (type_values d c) ∙ length-up_from 0 (length d.types);
    preds = rows_for _ _ _ d.preds;
  }

-- ---- what is cut has that shape

pub block_read : (w n : ℕ) (s : List ℕ) {b : Block} {k : ℕ} {rest : List ℕ} → block w n s ≡ read b k rest
    → (length b.content ≡ b.size * w) × (s ≡ b.size ∷ (b.content ++ rest))
unfolding block
block_read w n [] e = let z : ◌≡◌ {A = ℕ} 0 1 = cc in absurd (omega arith)
block_read w n (m ∷ s) {b} {k} {rest} e = go (exactly s (m * w)) refl e
  where
    go : (r : Cut) → exactly s (m * w) ≡ r
        → elim r [ broken ↦ rejected 9 (n + suc (length s)) | cut v t ↦ read (record { size = m; content = v }) (n + suc (m * w)) t ] ≡ read b k rest
        → (length b.content ≡ b.size * w) × (m ∷ s ≡ b.size ∷ (b.content ++ rest))
    go broken h q = let z : ◌≡◌ {A = ℕ} 0 1 = cc in absurd (omega arith)
    go (cut v t) h q =
        let j : b ≡ record { size = m; content = v } = cc in
        let i : t ≡ rest = cc in
        let (l, f) = exactly-cut s (m * w) v t h in
        rw (j, ← i) (l, ap (λ (u : List ℕ). m ∷ u) f)

rows_of-wide : (k w : ℕ) (s : List ℕ) → length s ≡ k * w → Wide w (rows_of k w s)
unfolding rows_of
rows_of-wide zero w s e = each_nil _
rows_of-wide (suc k) w s e =
    let q : length s ≡ k * w + w = e ∙ suc-mul k w in
    each-cons _ (length-take-le w s (omega arith)) (rows_of-wide k w (drop w s) (rw length-drop (omega arith)))

pred-wide : (p : Predicate) (n : ℕ) (s : List ℕ) (rows : List (List ℕ)) (k : ℕ) (rest : List ℕ) → pred_block p n s ≡ read rows k rest
    → Wide (length p.roles) rows
unfolding pred_block
pred-wide p n s rows k rest e =
    let w : ℕ = length p.roles in
    bind_cases (block w) _ n s e λ b i t h q.
    let z : rows ≡ rows_of b.size w b.content = cc in
    rw z (rows_of-wide b.size w b.content (block_read w n s h).0)

-- Cells that can be cut are cut into a population of the diagram's shape
pub cut-shaped : (d : Diagram) (s : List ℕ) {o : Population} {n : ℕ} {rest : List ℕ} → cutting d s ≡ read o n rest → Shaped d o
unfolding cutting blocks
cut-shaped d s {o} e =
    bind_cases (for_each type_block d.types) _ 0 s e λ ts i t p e'.
    bind_cases (for_each pred_block d.preds) _ i t e' λ ps j u q e''.
    bind_cases (at_end 9) _ j u e'' λ end k v r e'''.
    let z : o ≡ record { types = ts; preds = ps } = cc in
    rw z (record {
      types = each2_length _ d.types ts (for_each-each type_block (λ t vs. Unit {0}) (λ x n s a k rest h. tt) d.types 0 s p);
      preds = for_each-each pred_block Rows pred-wide d.preds i t q;
    })
