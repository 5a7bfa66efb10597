-- The walk over types, each tested against those before it, reads what their reader reads, and adds their numbers to those so far.
use Prim.Native.Nat.{ℕ, zero, suc, ◌-◌}
use native.Mathlib.Omega.{arith}
use Rattle.std.proofs.Math.Path.{◌≡◌, refl, ap}
use Rattle.std.proofs.Common.{sym, ap₂, ◌∙◌, length-append}
use mathlib.Core.List.{List, [], ◌∷◌, ◌++◌, map, map-append, flat_map, append_assoc, append-nil}
use Rattle.std.proofs.Math.ListN.{length}
use Rattle.counting.specs.Lists.{each}
use Rattle.orm.specs.Diagram.{ObjectType, LineKind, type_line, line_of_type}
use Rattle.orm.specs.Reader.{Reading, rejected, read, pure, Cut}
use Rattle.orm.specs.Form.{type_of, type_tests, line, types_after}
use Rattle.reading.specs.Exact.{written, written_append}
use Rattle.reading.specs.Lines.{Cuts}
use Rattle.reading.specs.Cutting.{table_form}
use Rattle.reading.specs.Spelling.{type-spelling}
use Rattle.reading.specs.Walk.{Summary, Walk, types_in, type_tests_at, lines_then}
use Rattle.reading.specs.Walks.Lines.{resume, numbers_of, one_line}

-- The types stand in their numbers
types-back : (ts : List ObjectType) → types_in (length ts) (numbers_of (map line_of_type ts)) ≡ ts
unfolding each written flat_map line_of_type
types-back [] = refl
types-back (t ∷ ts) = ap (λ (l : List ObjectType). t ∷ l) (types-back ts)

-- `first` and `count` are the numbers of the two lines before the types
module _ {form : LineKind → List ℕ → List ℕ} (next : LineKind → List ℕ → Cut) (cuts : Cuts form next) (then : Walk) (first count : ℕ) where
  abbrev up_to : List ObjectType → List ℕ
  up_to ts = first ∷ count ∷ numbers_of (map line_of_type ts)

  one_more : (before : List ObjectType) (t : ObjectType) → up_to before ++ (line_of_type t).values ≡ up_to (before ++ t ∷ [])
  unfolding written flat_map
  one_more before t =
      ap (λ (l : List ℕ). first ∷ count ∷ l)
      (sym (ap numbers_of (map-append line_of_type before (t ∷ [])) ∙ written_append table_form (map line_of_type before) (line_of_type t ∷ [])
      ∙ ap (λ (l : List ℕ). numbers_of (map line_of_type before) ++ l) (append-nil _)))

  before_back : (before : List ObjectType) (v : List ℕ)
      → type_tests_at (suc (length before)) (up_to before) v ≡ type_tests (suc (length before)) before (type_of v)
  unfolding type_tests_at
  before_back before v =
      let own : suc (length before) - 1 ≡ length before = omega arith in
      ap (λ (l : List ObjectType). type_tests (suc (length before)) l (type_of v))
      (ap (λ (n : ℕ). types_in n (numbers_of (map line_of_type before))) own ∙ types-back before)

  -- The walk over so many types comes to their reading
  abbrev Same : ℕ → Type 0
  Same left = (before : List ObjectType) (n : ℕ) (s : List ℕ)
      → lines_then next type_line type_tests_at (suc (length before)) left then (up_to before) n s
      ≡ resume (types_after next before left n s) (λ ts. then (up_to (before ++ ts)))

  pub types_same : (left : ℕ) → Same left
  unfolding lines_then types_after
  types_same zero before n s = ap (λ (l : List ObjectType). then (up_to l) n s) (sym (append-nil before))
  types_same (suc left) before n s =
      one_line next cuts type_line type_of line_of_type type-spelling (type_tests (suc (length before)) before)
      (type_tests_at (suc (length before)) (up_to before)) (λ v. lines_then next type_line type_tests_at (suc (suc (length before))) left then)
      (up_to before) n s (before_back before)
      ∙ go (line next type_line type_of (type_tests (suc (length before)) before) n s) (λ t. types_same left (before ++ t ∷ []))
    where
      joined : (t : ObjectType) (o : Reading (List ObjectType))
          → ◌≡◌ {A = Reading Summary} (resume o (λ ts. then (up_to ((before ++ t ∷ []) ++ ts))))
          (resume (resume o (λ ts. pure (t ∷ ts))) (λ ts. then (up_to (before ++ ts))))
      joined t (rejected c at) = refl
      joined t (read ts m r) = ap (λ (l : List ObjectType). then (up_to l) m r) (append_assoc before (t ∷ []) ts)

      go : (o : Reading ObjectType)
          → ((t : ObjectType) (m : ℕ) (r : List ℕ)
          → lines_then next type_line type_tests_at (suc (length (before ++ t ∷ []))) left then (up_to (before ++ t ∷ [])) m r
          ≡ resume (types_after next (before ++ t ∷ []) left m r) (λ ts. then (up_to ((before ++ t ∷ []) ++ ts))))
          → ◌≡◌ {A = Reading Summary}
          (resume o (λ t. lines_then next type_line type_tests_at (suc (suc (length before))) left then (up_to before ++ (line_of_type t).values)))
          (resume (resume o (λ t m r. resume (types_after next (before ++ t ∷ []) left m r) (λ ts. pure (t ∷ ts)))) (λ ts. then (up_to (before ++ ts))))
      go (rejected c at) ih = refl
      go (read t m r) ih =
          ap₂ (λ (i : ℕ) (l : List ℕ). lines_then next type_line type_tests_at (suc i) left then l m r)
          (sym (length-append before (t ∷ []) ∙ omega arith)) (one_more before t)
          ∙ ih t m r ∙ joined t (types_after next (before ++ t ∷ []) left m r)
