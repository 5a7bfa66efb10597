-- The walk over a whole text or table comes to the reading: the same refusals, and of a diagram its table and its totals.
use Rattle.std.specs.Prelude.{ℕ, zero, suc, ◌+◌, ◌≡◌, length, get_or}
use Rattle.std.proofs.Math.Nat.{zero-add}
use Rattle.std.proofs.Math.Path.{refl}
use Rattle.std.proofs.Common.{sym, ap, ◌∙◌}
use mathlib.Core.List.{List, [], ◌∷◌, ◌++◌, map, flat_map, append_assoc}
use Rattle.orm.specs.Diagram.{ObjectType, Predicate, Diagram, Line, Totals, totals, all_roles, all_groups, LineKind, diagram_line, types_line, type_line, preds_line, end_line, line_of_type, line_of_count, lines_of_pred, lines, table}
use Rattle.orm.specs.Reader.{Reading, rejected, read, Reader, ◌>>=◌, pure, at_end, Cut}
use Rattle.orm.proofs.Laws.Readers.{bind_cases}
use Rattle.orm.specs.Form.{ranges, fields, count_of, type_of, type_tests, end_tests, line, count, types_after, predicate, predicates, diagram_lines, whole_diagram, reading}
use Rattle.reading.specs.Exact.{written, written_append}
use Rattle.reading.specs.Lines.{Cuts}
use Rattle.reading.specs.Cutting.{table_form}
use Rattle.reading.specs.Spelling.{count-spelling}
use Rattle.reading.specs.Kinds.{end-only}
use Rattle.reading.specs.Walk.{Summary, summary, no_roles, nothing_left, from_end, from_preds, from_preds_line, from_types, from_types_line, from_start}
use Rattle.reading.specs.Walks.Lines.{resume, numbers_of, one_line}
use Rattle.reading.specs.Walks.Types.{types_same}
use Rattle.reading.specs.Walks.Predicates.{roles_in, groups_in, ending, preds-same}

predicates-length : (next : LineKind → List ℕ → Cut) (kind t r g k n : ℕ) (s : List ℕ) {ps : List Predicate} {n' : ℕ} {rest : List ℕ}
    → predicates next kind t r g k n s ≡ read ps n' rest → length ps ≡ k
unfolding predicates
predicates-length next kind t r g zero n s {ps} e = let z : [] ≡ ps = cc in ap length (sym z)
predicates-length next kind t r g (suc k) n s {ps} e =
    bind_cases (predicate next kind t r g) _ n s e λ p i u h e'.
    bind_cases (predicates next kind t (r + length p.roles) (g + length p.groups) k) _ i u e' λ qs j w h' e''.
    let z : p ∷ qs ≡ ps = cc in
    ap length (sym z) ∙ ap suc (predicates-length next kind t (r + length p.roles) (g + length p.groups) k i u h')

types-length : (next : LineKind → List ℕ → Cut) (before : List ObjectType) (k n : ℕ) (s : List ℕ) {ts : List ObjectType} {n' : ℕ} {rest : List ℕ}
    → types_after next before k n s ≡ read ts n' rest → length ts ≡ k
unfolding types_after
types-length next before zero n s {ts} e = let z : [] ≡ ts = cc in ap length (sym z)
types-length next before (suc k) n s {ts} e =
    bind_cases (line next type_line type_of (type_tests (suc (length before)) before)) _ n s e λ t i u h e'.
    bind_cases (types_after next (before ++ t ∷ []) k) _ i u e' λ us j w h' e''.
    let z : t ∷ us ≡ ts = cc in
    ap length (sym z) ∙ ap suc (types-length next (before ++ t ∷ []) k i u h')

-- The numbers of all lines are the table
table-numbers : (kind : ℕ) (ts : List ObjectType) (ps : List Predicate)
    → ((((kind ∷ length ts ∷ []) ++ numbers_of (map line_of_type ts)) ++ length ps ∷ []) ++ numbers_of (flat_map (lines_of_pred kind) ps)) ++ roles_in ps ∷ []
    ≡ table (record { kind = kind; types = ts; preds = ps })
unfolding table lines written line_of_count all_roles flat_map
table-numbers kind ts ps =
    let d : Diagram = record { kind = kind; types = ts; preds = ps } in
    let types-lines : List Line = map line_of_type ts in
    let preds-lines : List Line = line_of_count preds_line (length ps) ∷ flat_map (lines_of_pred kind) ps in
    let last_line : List Line = line_of_count end_line (length (all_roles d)) ∷ [] in
    sym (ap (λ (l : List ℕ). kind ∷ length ts ∷ l)
    (written_append table_form (types-lines ++ preds-lines) last_line
    ∙ ap (λ (l : List ℕ). l ++ roles_in ps ∷ [])
    (written_append table_form types-lines preds-lines
    ∙ sym (append_assoc (numbers_of types-lines) (length ps ∷ []) (numbers_of (flat_map (lines_of_pred kind) ps))))))

-- What is told of a diagram that was read
abbrev pub told : Reading Diagram → Reading Summary
told r = resume r (λ d n rest. read (summary d) n rest)

-- Nothing is left behind the diagram
abbrev finish : Diagram → Reader Diagram
finish d = at_end 1 >>= λ u. pure d

abbrev closed : Reader Diagram → Reader Summary
closed m n r = told (resume (m n r) finish)

-- One reader more before the rest
stage : {A : Type 0} (m : Reader A) (f : A → Reader Diagram) (g : A → Reader Summary) (n : ℕ) (r : List ℕ)
    → ((a : A) (n' : ℕ) (r' : List ℕ) → m n r ≡ read a n' r' → g a n' r' ≡ closed (f a) n' r') → resume (m n r) g ≡ closed (m >>= f) n r
stage {A} m f g n r h = go (m n r) refl
  where
    go : (o : Reading A) → m n r ≡ o → resume o g ≡ told (resume (resume o f) finish)
    go (rejected c at) q = refl
    go (read a n' r') q = h a n' r' q

module _ {form : LineKind → List ℕ → List ℕ} (next : LineKind → List ℕ → Cut) (cuts : Cuts form next) (kind : ℕ) where
  -- what is still to be read, from the end of the file to its start
  abbrev to_end : List ObjectType → List Predicate → Reader Diagram
  to_end ts ps = line next end_line count_of (end_tests (roles_in ps)) >>= λ e. pure (record { kind = kind; types = ts; preds = ps })

  abbrev to_predicates : ℕ → List ObjectType → ℕ → Reader Diagram
  to_predicates t ts p = predicates next kind t 0 0 p >>= to_end ts

  abbrev to_preds : ℕ → List ObjectType → Reader Diagram
  to_preds t ts = count next preds_line >>= to_predicates t ts

  abbrev to_types : ℕ → Reader Diagram
  to_types t = types_after next [] t >>= to_preds t

  abbrev up_to_types : ℕ → List ObjectType → List ℕ
  up_to_types t ts = (kind ∷ t ∷ []) ++ numbers_of (map line_of_type ts)

  abbrev up_to_preds : ℕ → List ObjectType → ℕ → List Predicate → List ℕ
  up_to_preds t ts p ps = (up_to_types t ts ++ p ∷ []) ++ numbers_of (flat_map (lines_of_pred kind) ps)

  abbrev totals_of : ℕ → ℕ → List Predicate → Totals
  totals_of t p ps = record { types = t; preds = p; roles = roles_in ps; groups = groups_in ps }

  module _ (t : ℕ) (ts : List ObjectType) (as_many : length ts ≡ t) where
    -- the numbers and totals are those of the diagram
    closes : (ps : List Predicate) (p e : ℕ) → length ps ≡ p → e ≡ roles_in ps → (n : ℕ) (r : List ℕ)
        → nothing_left next (totals_of t p ps) (up_to_preds t ts p ps ++ e ∷ []) n r
        ≡ closed (pure (record { kind = kind; types = ts; preds = ps })) n r
    unfolding nothing_left at_end summary totals all_roles all_groups
    closes ps p e ep ee n (x ∷ r) = refl
    closes ps p e ep ee n [] =
        rw (← as_many, ← ep, ee)
        (ap (λ (l : List ℕ). read (record { numbers = l; totals = totals_of (length ts) (length ps) ps }) n []) (table-numbers kind ts ps))

    from_end_lem : (ps : List Predicate) (p : ℕ) → length ps ≡ p → (n : ℕ) (s : List ℕ)
        → ending next cuts kind (no_roles t p) (up_to_types t ts ++ p ∷ []) ps n s ≡ closed (to_end ts ps) n s
    unfolding from_end fields ranges line_of_count
    from_end_lem ps p ep n s =
        rw (zero-add (roles_in ps), zero-add (groups_in ps))
        (one_line next cuts end_line count_of (line_of_count end_line) (count-spelling end_line refl) (end_tests (roles_in ps))
        (λ v. end_tests (roles_in ps) (count_of v)) (λ v. nothing_left next (totals_of t p ps)) (up_to_preds t ts p ps) n s (λ v. refl)
        ∙ stage (line next end_line count_of (end_tests (roles_in ps))) (λ e. pure (record { kind = kind; types = ts; preds = ps }))
        (λ e. nothing_left next (totals_of t p ps) (up_to_preds t ts p ps ++ e ∷ [])) n s
        (λ e n' s' q. closes ps p e ep (end-only next cuts (roles_in ps) n s q) n' s'))

    from-predicates : (p n : ℕ) (s : List ℕ)
        → from_preds next kind (no_roles t p) p (up_to_types t ts ++ p ∷ []) n s ≡ closed (to_predicates t ts p) n s
    from-predicates p n s =
        preds-same next cuts kind p (no_roles t p) (up_to_types t ts ++ p ∷ []) n s
        ∙ stage (predicates next kind t 0 0 p) (to_end ts) (ending next cuts kind (no_roles t p) (up_to_types t ts ++ p ∷ [])) n s
        (λ ps n' s' q. from_end_lem ps p (predicates-length next kind t 0 0 p n s q) n' s')

    from-preds-line : (n : ℕ) (s : List ℕ) → from_preds_line next kind t (up_to_types t ts) n s ≡ closed (to_preds t ts) n s
    unfolding from_preds_line count fields ranges line_of_count
    from-preds-line n s =
        one_line next cuts preds_line count_of (line_of_count preds_line) (count-spelling preds_line refl) (λ m. []) (λ v. [])
        (λ v. from_preds next kind (no_roles t (get_or v 0 0)) (get_or v 0 0)) (up_to_types t ts) n s (λ v. refl)
        ∙ stage (count next preds_line) (to_predicates t ts) (λ p. from_preds next kind (no_roles t p) p (up_to_types t ts ++ p ∷ [])) n s
        (λ p n' s' q. from-predicates p n' s')

  from-types : (t n : ℕ) (s : List ℕ) → from_types next kind t 1 t (kind ∷ t ∷ []) n s ≡ closed (to_types t) n s
  unfolding from_types written flat_map
  from-types t n s =
      types_same next cuts (from_preds_line next kind t) kind t t [] n s
      ∙ stage (types_after next [] t) (to_preds t) (λ ts. from_preds_line next kind t (up_to_types t ts)) n s
      (λ ts n' s' q. from-preds-line t ts (types-length next [] t n s q) n' s')

  from-types-line : (n : ℕ) (s : List ℕ) → from_types_line next kind (kind ∷ []) n s ≡ closed (count next types_line >>= to_types) n s
  unfolding from_types_line count fields ranges line_of_count
  from-types-line n s =
      one_line next cuts types_line count_of (line_of_count types_line) (count-spelling types_line refl) (λ m. []) (λ v. [])
      (λ v. from_types next kind (get_or v 0 0) 1 (get_or v 0 0)) (kind ∷ []) n s (λ v. refl)
      ∙ stage (count next types_line) to_types (λ t. from_types next kind t 1 t (kind ∷ t ∷ [])) n s
      (λ t n' s' q. from-types t n' s')

module _ {form : LineKind → List ℕ → List ℕ} (next : LineKind → List ℕ → Cut) (cuts : Cuts form next) where
  pub walk-reads : (s : List ℕ) → from_start next [] 1 s ≡ told (reading next s)
  unfolding from_start reading whole_diagram diagram_lines count fields ranges line_of_count all_roles
  walk-reads s =
      one_line next cuts diagram_line count_of (line_of_count diagram_line) (count-spelling diagram_line refl) (λ m. []) (λ v. [])
      (λ v. from_types_line next (get_or v 0 0)) [] 1 s (λ v. refl)
      ∙ stage (count next diagram_line) (λ kind. count next types_line >>= to_types next cuts kind) (λ kind. from_types_line next kind (kind ∷ [])) 1 s
      (λ kind n' s' q. from-types-line next cuts kind n' s')
