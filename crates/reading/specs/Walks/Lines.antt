-- A walk over lines of one kind reads what their reader reads, and adds their numbers to those so far.
use Prim.Native.Nat.{ℕ, zero, suc}
use Rattle.std.specs.Prelude.{◌≡◌}
use Rattle.std.proofs.Math.Path.{refl, ap}
use Rattle.std.proofs.Common.{sym, ◌∙◌}
use Rattle.std.proofs.Math.Option.{Option, none, some}
use mathlib.Core.List.{List, [], ◌∷◌, ◌++◌, map, flat_map, append_assoc, append-nil}
use Rattle.std.proofs.Math.ListN.{length}
use Rattle.counting.specs.Lists.{up_from}
use Rattle.orm.specs.Diagram.{LineKind, Line}
use Rattle.orm.specs.Reader.{Reading, rejected, read, Reader, pure, for_each, Cut, broken, cut}
use Rattle.orm.specs.Form.{Test, ◌unless◌, first_of, ranges, fields, in_ranges, line}
use Rattle.reading.specs.Exact.{written}
use Rattle.reading.specs.Lines.{Cuts, Spelling}
use Rattle.reading.specs.Cutting.{table_form}
use Rattle.reading.specs.Walk.{Summary, Walk, line_then, lines_then}

-- What follows a reading
abbrev pub resume : {A B : Type 0} → Reading A → (A → Reader B) → Reading B
resume r f = elim r [ rejected c at ↦ rejected c at | read a n rest ↦ f a n rest ]

-- The numbers of some lines, as they stand in a table
abbrev pub numbers_of : List Line → List ℕ
numbers_of ls = written table_form ls

module _ {form : LineKind → List ℕ → List ℕ} (next : LineKind → List ℕ → Cut) (cuts : Cuts form next)
    {A : Type 0} (k : LineKind) (make : List ℕ → A) (line_of : A → Line) (spelling : Spelling k make line_of) where
  values : A → List ℕ
  values a = (line_of a).values

  made : (v : List ℕ) → length v ≡ fields k → values (make v) ≡ v
  unfolding values
  made v l = ap (λ (x : Line). x.values) (spelling.spelled v l)

  abbrev tested : (List ℕ → List Test) → (List ℕ → Walk) → List ℕ → ℕ → List ℕ → List ℕ → Option ℕ → Reading Summary
  tested tests then acc n v rest o = elim o [ some c ↦ rejected c n | none ↦ then v (acc ++ v) (suc n) rest ]

  abbrev made_of : ℕ → List ℕ → List ℕ → Option ℕ → Reading A
  made_of n v rest o = elim o [ some c ↦ rejected c n | none ↦ read (make v) (suc n) rest ]

  pub one_line : (tests : A → List Test) (tests' : List ℕ → List Test) (then : List ℕ → Walk) (acc : List ℕ) (n : ℕ) (s : List ℕ)
      → ((v : List ℕ) → tests' v ≡ tests (make v))
      → line_then next k tests' then acc n s ≡ resume (line next k make tests n s) (λ a. then (line_of a).values (acc ++ (line_of a).values))
  unfolding line_then line values
  one_line tests tests' then acc n s same = go (next k s) refl
    where
      fine : (v rest : List ℕ) → length v ≡ fields k → (o : Option ℕ)
          → tested tests' then acc n v rest o ≡ resume (made_of n v rest o) (λ a. then (line_of a).values (acc ++ (line_of a).values))
      fine v rest l (some c) = refl
      fine v rest l none = ap (λ (u : List ℕ). then u (acc ++ u) (suc n) rest) (sym (made v l))

      go : (c : Cut) → next k s ≡ c
          → ◌≡◌ {A = Reading Summary}
          (elim c [
            | broken ↦ rejected 1 n
            | cut v rest ↦ tested tests' then acc n v rest (first_of (2 unless in_ranges (ranges k) v ∷ tests' v))
          ])
          (resume (elim c as (λ _. Reading A) [
            | broken ↦ rejected 1 n
            | cut v rest ↦ made_of n v rest (first_of (2 unless in_ranges (ranges k) v ∷ tests (make v)))
          ]) (λ a. then (line_of a).values (acc ++ (line_of a).values)))
      go broken q = refl
      go (cut v rest) q =
          rw (same v) (fine v rest (cuts.only k s v rest q).0 (first_of (2 unless in_ranges (ranges k) v ∷ tests (make v))))

  pub lines-each : (tests : ℕ → A → List Test) (tests' : ℕ → List ℕ → List ℕ → List Test) (then : Walk) (own left : ℕ)
      (acc : List ℕ) (n : ℕ) (s : List ℕ) → ((ext : List ℕ) (i : ℕ) (v : List ℕ) → tests' i (acc ++ ext) v ≡ tests i (make v))
      → lines_then next k tests' own left then acc n s
      ≡ resume (for_each (λ (i : ℕ). line next k make (tests i)) (up_from own left) n s) (λ xs. then (acc ++ numbers_of (map line_of xs)))
  unfolding lines_then for_each up_from written flat_map
  lines-each tests tests' then own zero acc n s same = ap (λ (l : List ℕ). then l n s) (sym (append-nil acc))
  lines-each tests tests' then own (suc left) acc n s same =
      one_line (tests own) (tests' own acc) (λ v. lines_then next k tests' (suc own) left then) acc n s
      (λ v. ap (λ (l : List ℕ). tests' own l v) (sym (append-nil acc)) ∙ same [] own v)
      ∙ go (line next k make (tests own) n s)
      (λ a m r. lines-each tests tests' then (suc own) left (acc ++ (line_of a).values) m r
      (λ ext i v. ap (λ (l : List ℕ). tests' i l v) (append_assoc acc (line_of a).values ext) ∙ same ((line_of a).values ++ ext) i v))
    where
      others : ℕ → List ℕ → Reading (List A)
      others m r = for_each (λ (i : ℕ). line next k make (tests i)) (up_from (suc own) left) m r

      joined : (a : A) (o : Reading (List A))
          → ◌≡◌ {A = Reading Summary} (resume o (λ xs. then ((acc ++ (line_of a).values) ++ numbers_of (map line_of xs))))
          (resume (resume o (λ xs. pure (a ∷ xs))) (λ xs. then (acc ++ numbers_of (map line_of xs))))
      joined a (rejected c at) = refl
      joined a (read xs m r) = ap (λ (l : List ℕ). then l m r) (append_assoc acc (line_of a).values (numbers_of (map line_of xs)))

      go : (o : Reading A)
          → ((a : A) (m : ℕ) (r : List ℕ) → lines_then next k tests' (suc own) left then (acc ++ (line_of a).values) m r
          ≡ resume (others m r) (λ xs. then ((acc ++ (line_of a).values) ++ numbers_of (map line_of xs))))
          → ◌≡◌ {A = Reading Summary} (resume o (λ a. lines_then next k tests' (suc own) left then (acc ++ (line_of a).values)))
          (resume (resume o (λ a m r. resume (others m r) (λ xs. pure (a ∷ xs)))) (λ xs. then (acc ++ numbers_of (map line_of xs))))
      go (rejected c at) ih = refl
      go (read a m r) ih = ih a m r ∙ joined a (others m r)
