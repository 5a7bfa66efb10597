-- The proof of S-5 on running code: from what the contracts ensure, by the statement over the definitions.
use Rattle.std.specs.Prelude.{ℕ, suc, ◌+◌, ◌-◌, ◌≤◌, ◌≡◌, List, [], ◌∷◌, ◌++◌, length}
use Rattle.std.proofs.Common.{le_refl, ap, subst, ◌∙◌}
use Rattle.counting.specs.Terms.{◌∈◌}
use Rattle.counting.specs.Index.{At}
use Rattle.orm.specs.Diagram.{ObjectType, Diagram}
use Rattle.orm.specs.Text.{text_line, table_line}
use Rattle.orm.specs.Population.{Population}
use Rattle.orm.specs.Populate.{size}
use Rattle.orm.specs.Constraints.{members_of}
use Rattle.orm.specs.Outcome.{refused, accepted}
use Rattle.orm.specs.Calls.{diagram_in, population_in, read_call, write_call, check_call, populate_call, validate_call}
use Rattle.orm.specs.Meaning.{Between}
use Rattle.reading.specs.Exact.{written as lines}
use Rattle.reading.specs.Cutting.{text_form, table_form}
use Rattle.guarantee.specs.SubtypeRanges.{RangedSubtype, TableRanges, Unchanged, type_lines}
use Rattle.guarantee.proofs.SubtypeRanges.Proof.{subtype-ranges}
use Rattle.populate.specs.Demand3.{TableOf, settled_sizes}
use Rattle.populate.specs.Tied.{table-accepted}
use Rattle.capi.specs.Answers.{verdict_numbers}
use Rattle.capi.specs.Told.{Told}
use Rattle.capi.specs.Accepted.{same-diagram, told-written, type-size-written}
use Rattle.capi.specs.Ended.{HasValidated}
use Rattle.capi.specs.Ended.Laws.{converted, settled, converted-refused, settled-refused, after-reading, named, says-yes}
use Rattle.capi.specs.SubtypeRanges.{Disallowed, SubtypeRangesTold}

said : {t : List ℕ} (x : TableOf t) → TableRanges t x.diagram
said {t} x = subtype-ranges.of_table t x.diagram (table-accepted x)

-- ---- check accepts

settles : {t four before after : List ℕ} (x : TableOf t) → Told t settled_sizes four before after → {rounds n : ℕ} → four ≡ 0 ∷ 0 ∷ rounds ∷ n ∷ []
    → {a : ℕ} {type : ObjectType} → At type x.diagram.types a → RangedSubtype type → size after a ≤ type.last - type.first + 1
settles x told e {a} {type} h r =
    let w = told-written told e in
    let standing : At type w.of.diagram.types a = subst (λ (y : Diagram). At type y.types a) (same-diagram x w.of) h in
    rw (type-size-written w standing (le_refl a)) ((said w.of).settles standing r w.populated)

-- ---- validating

covered : {t : List ℕ} (cells : List ℕ) {four : List ℕ} (x : TableOf t) → HasValidated t cells four → four ≡ 0 ∷ 0 ∷ 0 ∷ 0 ∷ []
    → (o : Population) → population_in x.diagram cells ≡ accepted o → {a : ℕ} {type : ObjectType} → At type x.diagram.types a → RangedSubtype type
    → (v : ℕ) → v ∈ members_of o (suc a) → Between type.first v type.last
covered cells x has e o cut h r v m = let (w, same) = says-yes cells x has e cut in (said x).covered w h r v (rw same m)

-- ---- what was accepted before

abbrev unchanged : Unchanged
unchanged = subtype-ranges.unchanged

-- ---- a pair that is not allowed

module _ {kind n : ℕ} {ts : List ObjectType} {t : ObjectType} (x : Disallowed kind n ts t) (rest : List ℕ) where
  text-refused : diagram_in text_line (lines text_form (type_lines kind n ts t) ++ rest) ≡ refused 4 (3 + length ts) 0
  text-refused = (subtype-ranges.refuses kind n ts t x.only x.ranged x.not_allowed rest).0

  table-refused : diagram_in table_line (lines table_form (type_lines kind n ts t) ++ rest) ≡ refused 4 (3 + length ts) 0
  table-refused = (subtype-ranges.refuses kind n ts t x.only x.ranged x.not_allowed rest).1

-- ---- the statement

pub subtype-ranges-told : SubtypeRangesTold
unfolding read_call write_call check_call populate_call validate_call verdict_numbers
subtype-ranges-told = record {
  settles = settles;
  covered = covered;
  validated = λ {t} cells x has {number} e. (said x).validated cells number (named t cells has e);
  reads = λ text {before = before} d e. converted (unchanged.reads text d e (length before));
  writes = λ t {before = before} d e. converted (unchanged.writes t d e (length before));
  checks = λ t {before = before} d e. settled (unchanged.checks t d e (length before));
  populates = λ t {before = before} d e. settled (unchanged.populates t d e (length before));
  validates = λ t cells d e h. h ∙ ap verdict_numbers (unchanged.validates t d e cells);
  refuses_text = λ x rest c. converted-refused (after-reading _ (text-refused x rest)) c;
  refuses_write = λ x rest c. converted-refused (after-reading _ (table-refused x rest)) c;
  refuses_check = λ x rest c. settled-refused (after-reading _ (table-refused x rest)) c;
  refuses_populate = λ x rest c. settled-refused (after-reading _ (table-refused x rest)) c;
  refuses_validate = λ x rest cells h. h ∙ ap verdict_numbers (after-reading _ (table-refused x rest));
}
