-- A role line that is refused, after lines that have no fault, refuses the diagram at its line, in whatever form the lines stand; and so does a
-- first line with another number than 1 and 2.
use Prim.Native.Nat.{ℕ, zero, suc, ◌+◌, ◌≤◌, ◌<◌}
use Rattle.std.proofs.Math.Nat.{zero-add}
use native.Mathlib.Omega.{arith}
use Rattle.std.specs.Prelude.{◌≡◌, true, false}
use Rattle.std.proofs.Math.Path.{refl, ap}
use Rattle.std.proofs.Common.{sym, ◌∙◌, lit≤}
use Rattle.std.proofs.Math.Option.{some}
use mathlib.Core.List.{List, [], ◌∷◌, ◌++◌, map, flat_map, append_assoc}
use Rattle.std.proofs.Math.ListN.{length, length-append}
use Rattle.std.proofs.lemmas.List.{length-map}
use Rattle.counting.specs.Lists.{up_from}
use Rattle.counting.specs.Terms.{Each}
use Rattle.counting.proofs.Laws.Members.{each-head, each_tail}
use Rattle.counting.proofs.Laws.Range.{length-up_from}
use Rattle.orm.specs.Diagram.{ObjectType, Role, Predicate, Line, LineKind, diagram_line, types_line, preds_line, pred_line, limited_role_line, role_line_of}
use Rattle.orm.specs.Diagram.{line_of_count, line_of_type, line_of_role, lines_of_pred}
use Rattle.orm.specs.Reader.{rejected, Reader, ◌>>=◌, for_each, Cut, cut}
use Rattle.orm.specs.Form.{count_of, first_of, ranges, in_ranges, PredHead, head_of, pred_tests, role_of, role_tests, line, count, types_after, predicate, predicates, diagram_lines, whole_diagram, reading}
use Rattle.orm.specs.Outcome.{refused, outcome_of}
use Rattle.orm.specs.Calls.{diagram_in}
use Rattle.orm.proofs.Laws.Readers.{bind_read, bind_rejected}
use Rattle.orm.specs.Meaning.{Between}
use Rattle.orm.specs.WellFormed.{RoleForm}
use Rattle.reading.specs.Exact.{written, written_append, Exact}
use Rattle.reading.specs.Lines.{Cuts, out_of_range}
use Rattle.reading.specs.Spelling.{line_of_head}
use Rattle.reading.specs.Kinds.{HeadForm, role-refused, role-exact, head-exact, count-exact}
use Rattle.reading.specs.Types.{NextTypes, types-exact}
use Rattle.reading.specs.Predicates.{NextPreds, predicate-exact}
use Rattle.reading.specs.Walks.Predicates.{roles_in, groups_in}
use Rattle.guarantee.specs.RoleLimits.{lines_to_role}

module _ (form : LineKind → List ℕ → List ℕ) where
  -- The reader refuses these lines with this number, at the line behind so many of them
  record Refuses {A : Type 0} (m : Reader A) (c k : ℕ) (ls : List Line) : Type 0 where
    is : (n : ℕ) (rest : List ℕ) → m n (written form ls ++ rest) ≡ rejected c (n + k)

  refuses-first : {A B : Type 0} (m : Reader A) (f : A → Reader B) {c k : ℕ} {ls : List Line} → Refuses m c k ls → Refuses (m >>= f) c k ls
  refuses-first m f r = record { is = λ n rest. bind_rejected m f (r.is n rest) }

  -- after what is read from lines without fault
  refuses-then : {A B : Type 0} (m : Reader A) (f : A → Reader B) {W : A → Type 0} {L : A → List Line} → Exact form m W L → (a : A) → W a
      → {c k : ℕ} {ls : List Line} → Refuses (f a) c k ls → {k' : ℕ} {ls' : List Line} → length (L a) + k ≡ k' → L a ++ ls ≡ ls'
      → Refuses (m >>= f) c k' ls'
  refuses-then m f {L = L} x a w {c} {k} {ls} r {k'} place lines = record {
    is = λ n rest.
        let here : n + length (L a) + k ≡ n + k' = omega arith in
        rw (← lines, written_append form (L a) ls, append_assoc (written form (L a)) (written form ls) rest)
        (bind_read m f n _ a _ _ (x.every a w n (written form ls ++ rest)) ∙ r.is (n + length (L a)) rest ∙ ap (rejected c) here);
  }

  module _ (next : LineKind → List ℕ → Cut) (cuts : Cuts form next) where
    abbrev role : ℕ → ℕ → Reader Role
    role types groups = line next (role_line_of 2) (role_of 2) (role_tests types groups)

    -- A role that is refused, in a diagram of the second kind, under so many types and groups
    module _ (types groups : ℕ) (r : Role) (ranged : in_ranges (ranges limited_role_line) (line_of_role 2 r).values ≡ true) {c : ℕ}
        (fails : first_of (role_tests types groups r) ≡ some c) (few_types : types ≤ 32) (few_groups : groups ≤ 6) where
      one-refused : Refuses (role types groups) c 0 (line_of_role 2 r ∷ [])
      one-refused = record {
        is = λ n rest. let place : n ≡ n + 0 = omega arith in role-refused form next cuts types groups r ranged fails n rest ∙ ap (rejected c) place;
      }

      roles-refused : (xs : List ℕ) (rs : List Role) → length rs < length xs → Each (RoleForm types groups) rs
          → Refuses (for_each (λ (i : ℕ). role types groups) xs) c (length rs) (map (line_of_role 2) rs ++ line_of_role 2 r ∷ [])
      unfolding for_each
      roles-refused [] rs more w = absurd (omega arith)
      roles-refused (x ∷ xs) [] more w = refuses-first (role types groups) _ one-refused
      roles-refused (x ∷ xs) (q ∷ rs) more w =
          refuses-then (role types groups) _ (role-exact form next cuts 2 types groups (omega arith) few_types few_groups) q
          (each-head _ w, λ e. absurd (omega arith))
          (refuses-first (for_each (λ (i : ℕ). role types groups) xs) _ (roles-refused xs rs (omega arith) (each_tail _ w))) (omega arith) refl

    -- the predicate with this head, so many of its roles, and the role that is refused
    module _ (types : ℕ) (h : PredHead) (rs : List Role) (r : Role) (ranged : in_ranges (ranges limited_role_line) (line_of_role 2 r).values ≡ true) {c : ℕ}
        (fails : first_of (role_tests types h.groups r) ≡ some c) (few_types : types ≤ 32) (more : length rs < h.roles)
        (form_of : Each (RoleForm types h.groups) rs) where
      abbrev lines_of_roles : List Line
      lines_of_roles = line_of_head h ∷ (map (line_of_role 2) rs ++ line_of_role 2 r ∷ [])

      predicate-refused : (roles groups : ℕ) → HeadForm roles groups h → Refuses (predicate next 2 types roles groups) c (1 + length rs) lines_of_roles
      unfolding predicate
      predicate-refused roles groups w =
          refuses-then (line next pred_line head_of (pred_tests roles groups)) _ (head-exact form next cuts roles groups) h w
          (refuses-first (for_each (λ (i : ℕ). role types h.groups) (up_from 1 h.roles)) _
          (roles-refused types h.groups r ranged fails few_types w.few (up_from 1 h.roles) rs (rw length-up_from more) form_of))
          refl refl

      -- after predicates without fault
      predicates-refused : (roles groups k : ℕ) (ps : List Predicate) → length ps < k → NextPreds 2 types roles groups (length ps) ps
          → HeadForm (roles + roles_in ps) (groups + groups_in ps) h
          → Refuses (predicates next 2 types roles groups k) c (length (flat_map (lines_of_pred 2) ps) + (1 + length rs))
          (flat_map (lines_of_pred 2) ps ++ lines_of_roles)
      unfolding predicates flat_map
      predicates-refused roles groups zero ps room w head = absurd (omega arith)
      predicates-refused roles groups (suc k) [] room w head =
          let no-roles : roles + 0 ≡ roles = omega arith in
          let no-groups : groups + 0 ≡ groups = omega arith in
          refuses-first (predicate next 2 types roles groups) _
          (rw zero-add (predicate-refused roles groups (rw (no-roles, no-groups) at head)))
      predicates-refused roles groups (suc k) (p ∷ ps) room w head =
          let others : List Predicate = ps in
          let all-roles : roles + roles_in (p ∷ ps) ≡ roles + length p.roles + roles_in ps =
          unfold flat_map in omega (arith, length-append p.roles (flat_map (λ (q : Predicate). q.roles) ps)) in
          let all-groups : groups + groups_in (p ∷ ps) ≡ groups + length p.groups + groups_in ps =
          unfold flat_map in omega (arith, length-append p.groups (flat_map (λ (q : Predicate). q.groups) ps)) in
          refuses-then (predicate next 2 types roles groups) _ (predicate-exact form next cuts 2 types roles groups (omega arith) few_types) p w.0
          (refuses-first (predicates next 2 types (roles + length p.roles) (groups + length p.groups) k) _
          (predicates-refused (roles + length p.roles) (groups + length p.groups) k ps (omega arith) w.1
          (rw (all-roles, all-groups) at head)))
          (omega (arith, length-append (lines_of_pred 2 p) (flat_map (lines_of_pred 2) ps)))
          (sym (append_assoc (lines_of_pred 2 p) (flat_map (lines_of_pred 2) ps) lines_of_roles))

    -- The diagram, after these types and predicates
    pub diagram-refused : (ts : List ObjectType) → Between 1 (length ts) 32 → NextTypes [] (length ts) ts
        → (p : ℕ) (ps : List Predicate) → Between 1 p 32 → length ps < p → NextPreds 2 (length ts) 0 0 (length ps) ps
        → (h : PredHead) (rs : List Role) → HeadForm (roles_in ps) (groups_in ps) h → length rs < h.roles → Each (RoleForm (length ts) h.groups) rs
        → (r : Role) → in_ranges (ranges limited_role_line) (line_of_role 2 r).values ≡ true
        → {c : ℕ} → first_of (role_tests (length ts) h.groups r) ≡ some c → (rest : List ℕ)
        → diagram_in next (written form (lines_to_role ts p ps h rs r) ++ rest) ≡ refused c (length (lines_to_role ts p ps h rs r)) 0
    unfolding diagram_in reading whole_diagram diagram_lines outcome_of
    diagram-refused ts some-types types p ps some-preds room preds h rs head more roles r ranged {c} fails rest =
        ap outcome_of (bind_rejected (diagram_lines next) _ (lines-refused.is 1 rest ∙ ap (rejected c) place))
      where
        last : List Line
        last = line_of_head h ∷ (map (line_of_role 2) rs ++ line_of_role 2 r ∷ [])

        before : ℕ
        before = 1 + (1 + (length (map line_of_type ts) + (1 + (length (flat_map (lines_of_pred 2) ps) + (1 + length rs)))))

        lines-refused : Refuses (diagram_lines next) c before (lines_to_role ts p ps h rs r)
        lines-refused =
            refuses-then (count next diagram_line) _ (count-exact form next cuts diagram_line 1 2 (unfold ranges in refl) (lit≤ tt)) 2 (omega arith)
            (refuses-then (count next types_line) _ (count-exact form next cuts types_line 1 32 (unfold ranges in refl) (lit≤ tt)) (length ts) some-types
            (refuses-then (types_after next [] (length ts)) _ (types-exact form next cuts [] (length ts) (omega arith)) ts types
            (refuses-then (count next preds_line) _ (count-exact form next cuts preds_line 1 32 (unfold ranges in refl) (lit≤ tt)) p some-preds
            (refuses-first (predicates next 2 (length ts) 0 0 p) _
            (predicates-refused (length ts) h rs r ranged fails some-types.1 more roles 0 0 p ps room preds
            (rw (zero-add (roles_in ps), zero-add (groups_in ps)) head)))
            refl refl) refl refl) refl refl) refl refl

        place : 1 + before ≡ length (lines_to_role ts p ps h rs r)
        place = omega (
          arith,
          length-append (map line_of_type ts) (line_of_count preds_line p ∷ (flat_map (lines_of_pred 2) ps ++ last)),
          length-append (flat_map (lines_of_pred 2) ps) last,
          length-append (map (line_of_role 2) rs) (line_of_role 2 r ∷ []),
          length-map rs (line_of_role 2),
        )

-- 2 on the first line
pub kind-refused : (next : LineKind → List ℕ → Cut) (n : ℕ) (s rest : List ℕ) → next diagram_line s ≡ cut (n ∷ []) rest
    → in_ranges (ranges diagram_line) (n ∷ []) ≡ false → diagram_in next s ≡ refused 2 1 0
unfolding diagram_in reading whole_diagram diagram_lines outcome_of count
kind-refused next n s rest e q =
    ap outcome_of (bind_rejected (diagram_lines next) _
    (bind_rejected (count next diagram_line) _ (out_of_range next diagram_line count_of (λ m. []) 1 s (n ∷ []) rest e q)))
