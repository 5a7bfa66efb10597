-- Of the cells of a population of the diagram's shape, what is printed is document 01's report.
use Rattle.std.specs.Prelude.{ℕ, zero, suc, ◌+◌, ◌*◌, ◌≡◌, refl, length, get_or, drop}
use Rattle.std.proofs.Common.{arith, sym, ap, ap₂, ◌∙◌, drop-drop, drop_at}
use mathlib.Core.List.{List, [], ◌∷◌, ◌++◌, flat_map, flatten, append_assoc, append-nil}
use Rattle.counting.specs.Lists.{map_from}
use Rattle.counting.specs.Terms.{Each, Each2}
use Rattle.counting.proofs.Laws.Members.{each-head, each_tail}
use Rattle.orm.specs.Diagram.{Predicate, Diagram}
use Rattle.orm.specs.Text.{bytes, line_text}
use Rattle.orm.specs.Population.{Population, cells_of_type, cells_of_pred, cells}
use Rattle.orm.specs.Meaning.{Rows, Shaped}
use Rattle.orm.specs.Program.{pred_text, report}
use Rattle.orm.proofs.Laws.Shape.{flatten-length}
use Rattle.numerals.specs.Lines.{numbers_from, keyed, keyed_lines}
use Rattle.report.specs.Printed.{type_lines, types_end, pred_block, pred_lines, size_lines, cell_lines, printed}

-- ---- the numbers of a line

numbers-later : (x : ℕ) (s : List ℕ) (i n : ℕ) → numbers_from (x ∷ s) (suc i) n ≡ numbers_from s i n
unfolding numbers_from
numbers-later x s i zero = refl
numbers-later x s i (suc n) = ap (get_or s i 0 ∷◌) (numbers-later x s (suc i) n)

-- Numbers that are there
numbers-front : (vs rest : List ℕ) → numbers_from (vs ++ rest) 0 (length vs) ≡ vs
unfolding numbers_from
numbers-front [] rest = refl
numbers-front (v ∷ vs) rest = ap (v ∷◌) (numbers-later v (vs ++ rest) 0 (length vs) ∙ numbers-front vs rest)

-- ---- lines of equally many numbers

rows-printed : (k : List ℕ) (w : ℕ) (rows : List (List ℕ)) (rest : List ℕ) → Each (λ row. length row ≡ w) rows
    → keyed_lines k w (length rows) (flatten rows ++ rest) ≡ flat_map (keyed k) rows
unfolding keyed_lines flatten flat_map
rows-printed k w [] rest h = refl
rows-printed k w (row ∷ rows) rest h =
    let long : length row ≡ w = each-head _ h in
    let front : numbers_from (row ++ (flatten rows ++ rest)) 0 w ≡ row = rw (← long) (numbers-front row (flatten rows ++ rest)) in
    rw append_assoc
    (ap₂ ◌++◌ (ap (keyed k) front)
    (ap (keyed_lines k w (length rows)) (drop_at row (flatten rows ++ rest) w long) ∙ rows-printed k w rows rest (each_tail _ h)))

sizes-printed : (k sizes : List ℕ) → keyed_lines k 1 (length sizes) sizes ≡ flat_map (λ (s : ℕ). keyed k (s ∷ [])) sizes
unfolding keyed_lines numbers_from flat_map
sizes-printed k [] = refl
sizes-printed k (x ∷ sizes) = ap (keyed k (x ∷ []) ++◌) (sizes-printed k sizes)

-- ---- the cells of types, and what follows them

type-rest : (vs rest : List ℕ) → drop (1 + length vs) (cells_of_type vs ++ rest) ≡ rest
unfolding cells_of_type
type-rest vs rest = let e : suc (length vs) ≡ 1 + length vs = omega arith in drop_at (length vs ∷ vs) rest (1 + length vs) e

type-step : (n : ℕ) (vs more : List ℕ)
    → type_lines (suc n) (cells_of_type vs ++ more) ≡ keyed (bytes "type=") vs ++ type_lines n more
unfolding type_lines cells_of_type
type-step n vs more = ap₂ (λ (a b : List ℕ). keyed (bytes "type=") a ++ type_lines n b) (numbers-front vs more) (type-rest vs more)

types-printed : (ts : List (List ℕ)) (rest : List ℕ) → type_lines (length ts) (flat_map cells_of_type ts ++ rest) ≡ flat_map (keyed (bytes "type=")) ts
unfolding type_lines flat_map
types-printed [] rest = refl
types-printed (vs ∷ ts) rest =
    ap (type_lines (suc (length ts))) (append_assoc (cells_of_type vs) (flat_map cells_of_type ts) rest)
    ∙ type-step (length ts) vs (flat_map cells_of_type ts ++ rest)
    ∙ ap (keyed (bytes "type=") vs ++◌) (types-printed ts rest)

end_step : (n p : ℕ) (s vs more : List ℕ) → drop p s ≡ cells_of_type vs ++ more → types_end (suc n) p s ≡ types_end n (p + (1 + length vs)) s
unfolding types_end cells_of_type
end_step n p s vs more e = ap (λ (l : List ℕ). types_end n (p + (1 + get_or l 0 0)) s) e

types-end : (ts : List (List ℕ)) (p : ℕ) (s rest : List ℕ) → drop p s ≡ flat_map cells_of_type ts ++ rest → drop (types_end (length ts) p s) s ≡ rest
unfolding types_end flat_map
types-end [] p s rest e = e
types-end (vs ∷ ts) p s rest e =
    let more : List ℕ = flat_map cells_of_type ts ++ rest in
    let whole : drop p s ≡ cells_of_type vs ++ more = e ∙ append_assoc (cells_of_type vs) (flat_map cells_of_type ts) rest in
    let behind : drop (p + (1 + length vs)) s ≡ more =
    sym (drop-drop (1 + length vs) p s) ∙ ap (drop (1 + length vs)) whole ∙ type-rest vs more in
    ap (λ (q : ℕ). drop q s) (end_step (length ts) p s vs more whole) ∙ types-end ts (p + (1 + length vs)) s rest behind

-- ---- the cells of predicates

pred-rest : (w : ℕ) (rows : List (List ℕ)) (rest : List ℕ) → Each (λ row. length row ≡ w) rows
    → drop (1 + length rows * w) (cells_of_pred rows ++ rest) ≡ rest
unfolding cells_of_pred
pred-rest w rows rest h =
    let e : suc (length (flatten rows)) ≡ 1 + length rows * w = omega (arith, flatten-length w rows h) in
    drop_at (length rows ∷ flatten rows) rest (1 + length rows * w) e

pred-step : (k : ℕ) (p : Predicate) (ps : List Predicate) (rows : List (List ℕ)) (more : List ℕ) → Rows p rows
    → pred_lines k (p ∷ ps) (cells_of_pred rows ++ more) ≡ pred_text k rows ++ pred_lines (suc k) ps more
unfolding pred_lines pred_block pred_text cells_of_pred line_text keyed bytes
pred-step k p ps rows more h =
    ap₂ (λ (a b : List ℕ). line_text "pred" (k ∷ []) ++ a ++ pred_lines (suc k) ps b)
    (rows-printed (bytes "row=") (length p.roles) rows more h) (pred-rest (length p.roles) rows more h)

preds-printed : (k : ℕ) (ps : List Predicate) (os : List (List (List ℕ))) (rest : List ℕ) → Each2 Rows ps os
    → pred_lines k ps (flat_map cells_of_pred os ++ rest) ≡ flatten (map_from pred_text k os)
unfolding pred_lines flat_map flatten map_from
preds-printed k [] [] rest h = refl
preds-printed k [] (o ∷ os) rest h = absurd h
preds-printed k (p ∷ ps) [] rest h = absurd h
preds-printed k (p ∷ ps) (rows ∷ os) rest h =
    ap (pred_lines k (p ∷ ps)) (append_assoc (cells_of_pred rows) (flat_map cells_of_pred os) rest)
    ∙ pred-step k p ps rows (flat_map cells_of_pred os ++ rest) h.0
    ∙ ap (pred_text k rows ++◌) (preds-printed (suc k) ps os rest h.1)

-- ---- the whole

pub printed-report : (d : Diagram) (rounds : ℕ) (sizes : List ℕ) (o : Population) → Shaped d o
    → printed d (length d.types) rounds sizes (cells o) ≡ report rounds sizes o
unfolding printed size_lines cell_lines report cells line_text keyed bytes
printed-report d rounds sizes o h =
    let P : List ℕ = flat_map cells_of_pred o.preds in
    let s : List ℕ = flat_map cells_of_type o.types ++ P in
    let types : type_lines (length d.types) s ≡ flat_map (line_text "type") o.types =
    ap (λ (n : ℕ). type_lines n s) (sym h.types) ∙ types-printed o.types P in
    let preds : pred_lines 1 d.preds (drop (types_end (length d.types) 0 s) s) ≡ flatten (map_from pred_text 1 o.preds) =
    ap (λ (n : ℕ). pred_lines 1 d.preds (drop (types_end n 0 s) s)) (sym h.types)
    ∙ ap (pred_lines 1 d.preds) (types-end o.types 0 s P refl ∙ sym (append-nil P))
    ∙ preds-printed 1 d.preds o.preds [] h.preds in
    let size_lines' : keyed_lines (bytes "size=") 1 (length sizes) sizes ≡ flat_map (λ (s : ℕ). line_text "size" (s ∷ [])) sizes =
    sizes-printed (bytes "size=") sizes in
    let head : List ℕ = line_text "rounds" (rounds ∷ []) ++ flat_map (λ (s : ℕ). line_text "size" (s ∷ [])) sizes in
    ap₂ (λ (a b : List ℕ). line_text "rounds" (rounds ∷ []) ++ a ++ b) size_lines' (ap₂ ◌++◌ types preds)
    ∙ sym (append_assoc head (flat_map (line_text "type") o.types) (flatten (map_from pred_text 1 o.preds)))
