-- The proof of S-8 on running code: from what the contracts ensure, by the statement over the definitions.
use Rattle.std.specs.Prelude.{ℕ, ◌+◌, ◌≤◌, ◌≡◌, refl, List, [], ◌∷◌, ◌++◌, length, take}
use Rattle.std.proofs.Common.{sym, ap, subst, ◌∙◌}
use Rattle.std.proofs.Math.Seq.{take-append_seam}
use Rattle.counting.specs.Index.{At}
use Rattle.orm.specs.Diagram.{Role, Diagram, diagram_line, line_of_count, all_roles, table}
use Rattle.orm.specs.Text.{render, text_line, table_line}
use Rattle.orm.specs.Sets.{first_role}
use Rattle.orm.specs.Population.{Population}
use Rattle.orm.specs.Populate.{size}
use Rattle.orm.specs.Constraints.{sizes}
use Rattle.orm.specs.Outcome.{refused, accepted}
use Rattle.orm.specs.Calls.{diagram_in, population_in, read_call, write_call, check_call, populate_call, validate_call}
use Rattle.orm.specs.Meaning.{Between}
use Rattle.reading.specs.Exact.{written as lines}
use Rattle.reading.specs.Cutting.{text_form, table_form}
use Rattle.guarantee.proofs.Guarantee.{guarantee}
use Rattle.guarantee.specs.RoleLimits.{TextKinds, TableLimits, Unchanged}
use Rattle.guarantee.proofs.RoleLimits.Proof.{role-limits}
use Rattle.populate.specs.Demand3.{TableOf, TextOf, settled_sizes}
use Rattle.populate.specs.Tied.{table-accepted}
use Rattle.capi.specs.Answers.{verdict_numbers}
use Rattle.capi.specs.Told.{Told, ToldRead}
use Rattle.capi.specs.Emptied.{emptied}
use Rattle.capi.specs.Accepted.{same-diagram, told-written, told-table, role-size-written}
use Rattle.capi.specs.Ended.{Converted, HasValidated}
use Rattle.capi.specs.Ended.Laws.{converted, settled, converted-refused, settled-refused, converted-fits, converted-accepted, after-reading, named, says-yes}
use Rattle.capi.specs.RoleLimits.{SameKind, Disordered, lines_to, RoleLimitsTold}

said : {t : List ℕ} (x : TableOf t) → TableLimits t x.diagram
said {t} x = role-limits.of_table t x.diagram (table-accepted x)

-- ---- check accepts

settles : {t four before after : List ℕ} (x : TableOf t) → Told t settled_sizes four before after → {rounds n : ℕ} → four ≡ 0 ∷ 0 ∷ rounds ∷ n ∷ []
    → {k : ℕ} {r : Role} → At r (all_roles x.diagram) k → Between r.rmin (size after (first_role x.diagram + k)) r.rmax
settles {after = after} x told e {k} {r} h =
    let w = told-written told e in
    let z : x.diagram ≡ w.of.diagram = same-diagram x w.of in
    let standing : At r (all_roles w.of.diagram) k = subst (λ (y : Diagram). At r (all_roles y) k) z h in
    let own : Between r.rmin (size after (first_role w.of.diagram + k)) r.rmax =
    rw (role-size-written w standing) ((said w.of).settles standing w.populated) in
    subst (λ (y : Diagram). Between r.rmin (size after (first_role y + k)) r.rmax) (sym z) own

-- ---- validating

covered : {t : List ℕ} (cells : List ℕ) {four : List ℕ} (x : TableOf t) → HasValidated t cells four → four ≡ 0 ∷ 0 ∷ 0 ∷ 0 ∷ []
    → (o : Population) → population_in x.diagram cells ≡ accepted o → {k : ℕ} {r : Role} → At r (all_roles x.diagram) k
    → Between r.rmin (size (sizes x.diagram o) (first_role x.diagram + k)) r.rmax
covered cells x has e o cut {k} {r} h =
    let (w, same) = says-yes cells x has e cut in
    subst (λ (y : Population). Between r.rmin (size (sizes x.diagram y) (first_role x.diagram + k)) r.rmax) same ((said x).covered w h)

-- ---- a file keeps its kind

same_kind : (text : List ℕ) (d : Diagram) → diagram_in text_line text ≡ accepted d → SameKind text (table d)
same_kind text d e =
    let s : TextKinds text d = role-limits.of_text text d e in
    record {
      kind = d.kind;
      kinds = s.kinds;
      begins = s.begins;
      first_number = s.first_number;
      read = λ {before = before} enough c. converted-fits enough (converted (s.reads (length before)) c);
      written = λ {before = before} enough c. converted-fits enough (converted (s.writes (length before)) c);
    }

-- what stands at the front
front : (result rest : List ℕ) {after : List ℕ} {n : ℕ} → n ≡ length result → after ≡ result ++ rest → take n after ≡ result
front result rest {n = n} long is = ap (take n) is ∙ ap (λ (k : ℕ). take k (result ++ rest)) long ∙ take-append_seam result rest

read_back : {text four before after : List ℕ} → ToldRead text four before after → {n : ℕ} → four ≡ 0 ∷ 0 ∷ 0 ∷ n ∷ [] → SameKind text (take n after)
read_back {text} told {n} e =
    let w = told-table told e in
    let x : TextOf text = w.of in
    rw (front (table x.diagram) _ w.length_read w.front)
    (same_kind text x.diagram ((guarantee.accepted_texts text x.diagram).1 (x.same_text, x.well_formed)))

written_back : {t four before after : List ℕ} → TableOf t → Converted (write_call t (length before)) four before after
    → {n : ℕ} → four ≡ 0 ∷ 0 ∷ 0 ∷ n ∷ [] → SameKind (take n after) t
written_back {t} {before = before} {after} x c {n} e =
    let d : Diagram = x.diagram in
    let (long, g) = converted-accepted (converted ((role-limits.round_trip t d (table-accepted x)).0 (length before)) c) e in
    rw (front (render d) _ long g.front, x.same_table) (same_kind (render d) d ((guarantee.accepted_texts (render d) d).1 (refl, x.well_formed)))

-- ---- what did not change

abbrev unchanged : Unchanged
unchanged = role-limits.unchanged

-- ---- the refusals

module _ {n : ℕ} (other : ¬ Between 1 n 2) (rest : List ℕ) where
  kind-text-refused : n ≤ 999999 → diagram_in text_line (lines text_form (line_of_count diagram_line n ∷ []) ++ rest) ≡ refused 2 1 0
  kind-text-refused = (role-limits.refuses_kind n other rest).0

  kind-table-refused : diagram_in table_line (n ∷ rest) ≡ refused 2 1 0
  kind-table-refused = (role-limits.refuses_kind n other rest).1

module _ (x : Disordered) (rest : List ℕ) where
  text-refused : diagram_in text_line (lines text_form (lines_to x) ++ rest) ≡ refused 4 (length (lines_to x)) 0
  text-refused = (role-limits.refuses x.types x.count x.preds x.head x.roles x.role x.only x.above rest).0

  table-refused : diagram_in table_line (lines table_form (lines_to x) ++ rest) ≡ refused 4 (length (lines_to x)) 0
  table-refused = (role-limits.refuses x.types x.count x.preds x.head x.roles x.role x.only x.above rest).1

-- ---- the statement

pub role-limits-told : RoleLimitsTold
unfolding read_call write_call check_call populate_call validate_call verdict_numbers
role-limits-told = record {
  settles = settles;
  covered = covered;
  validated = λ {t} cells x has {number} e. (said x).validated cells number (named t cells has e);
  never_named = λ {t} cells x one has {number} e. (said x).never_named one cells number (named t cells has e);
  unlimited = λ x one h. (said x).unlimited one h;
  emptied = emptied;
  read_back = read_back;
  written_back = written_back;
  reads = λ text {before = before} other. converted (unchanged.reads text other (length before));
  writes = λ t {before = before} other. converted (unchanged.writes t other (length before));
  checks = λ t {before = before} other. settled (unchanged.checks t other (length before));
  populates = λ t {before = before} other. settled (unchanged.populates t other (length before));
  validates = λ t cells other h. h ∙ ap verdict_numbers (unchanged.validates t other cells);
  refuses_kind_text = λ other small rest c. converted-refused (after-reading _ (kind-text-refused other rest small)) c;
  refuses_kind_write = λ other rest c. converted-refused (after-reading _ (kind-table-refused other rest)) c;
  refuses_kind_check = λ other rest c. settled-refused (after-reading _ (kind-table-refused other rest)) c;
  refuses_kind_populate = λ other rest c. settled-refused (after-reading _ (kind-table-refused other rest)) c;
  refuses_kind_validate = λ other rest cells h. h ∙ ap verdict_numbers (after-reading _ (kind-table-refused other rest));
  refuses_text = λ x rest c. converted-refused (after-reading _ (text-refused x rest)) c;
  refuses_write = λ x rest c. converted-refused (after-reading _ (table-refused x rest)) c;
  refuses_check = λ x rest c. settled-refused (after-reading _ (table-refused x rest)) c;
  refuses_populate = λ x rest c. settled-refused (after-reading _ (table-refused x rest)) c;
  refuses_validate = λ x rest cells h. h ∙ ap verdict_numbers (after-reading _ (table-refused x rest));
}
