-- S-5, 'Ranges on subtypes' (document 02), on running code, as one statement over the calls for C, with its one proof in `SubtypeRanges/Proof`.
-- `Told` and `HasValidated` are what the contracts of check and validating ensure; `Converted` and `Settled`, of the outcome of a call, are the other
-- clauses of the contracts of reading and writing, and of check and populating.
use Rattle.std.specs.Prelude.{ℕ, suc, ◌+◌, ◌-◌, ◌≤◌, ◌≡◌, List, [], ◌∷◌, ◌++◌, length}
use Rattle.counting.specs.Terms.{◌∈◌}
use Rattle.counting.specs.Index.{At}
use Rattle.orm.specs.Diagram.{ObjectType, Diagram}
use Rattle.orm.specs.Text.{text_line, table_line}
use Rattle.orm.specs.Population.{Population}
use Rattle.orm.specs.Populate.{size}
use Rattle.orm.specs.Constraints.{members_of}
use Rattle.orm.specs.Outcome.{accepted}
use Rattle.orm.specs.Calls.{population_in, read_call, write_call, check_call, populate_call}
use Rattle.orm.specs.Meaning.{Between}
use Rattle.reading.specs.Exact.{written as lines}
use Rattle.reading.specs.Cutting.{text_form, table_form}
use Rattle.guarantee.specs.SubtypeRanges.{RangedSubtype, Allowed, OutOfRange, OnlyPair, type_lines}
use Rattle.guarantee.specs.SubtypeRanges.Before.{diagram_in01}
use Rattle.guarantee.specs.SubtypeRanges.CallsBefore.{read_call_in01, write_call_in01, check_call_in01, populate_call_in01, validate_call_in01}
use Rattle.populate.specs.Demand3.{TableOf, settled_sizes}
use Rattle.capi.specs.Answers.{verdict_numbers}
use Rattle.capi.specs.Told.{Told}
use Rattle.capi.specs.Ended.{Converted, Settled, HasValidated, RefusedWith4}
pub mod Proof

-- A pair on the type after these types that the rule doesn't allow, the line's only fault
pub record Disallowed (kind n : ℕ) (ts : List ObjectType) (t : ObjectType) : Type 0 where
  pub only : OnlyPair kind n ts t
  pub ranged : RangedSubtype t
  pub not_allowed : ¬ Allowed ts t

pub record SubtypeRangesTold : Type 0 where
  -- 'Its starting ceiling is then also at most LAST - FIRST + 1': check writes no more for it
  pub settles : {t four before after : List ℕ} (x : TableOf t) → Told t settled_sizes four before after
      → {rounds n : ℕ} → four ≡ 0 ∷ 0 ∷ rounds ∷ n ∷ [] → {a : ℕ} {type : ObjectType} → At type x.diagram.types a → RangedSubtype type → size after a ≤ type.last - type.first + 1
  -- 'and K3 covers it': in cells that are cut into a population and that validating says yes to it has no other members; and with K3 a type is named
  -- that has others
  pub covered : {t : List ℕ} (cells : List ℕ) {four : List ℕ} (x : TableOf t) → HasValidated t cells four → four ≡ 0 ∷ 0 ∷ 0 ∷ 0 ∷ []
      → (o : Population) → population_in x.diagram cells ≡ accepted o
      → {a : ℕ} {type : ObjectType} → At type x.diagram.types a → RangedSubtype type → (v : ℕ) → v ∈ members_of o (suc a) → Between type.first v type.last
  pub validated : {t : List ℕ} (cells : List ℕ) {four : List ℕ} (x : TableOf t) → HasValidated t cells four
      → {number : ℕ} → four ≡ 0 ∷ 0 ∷ 3 ∷ number ∷ [] → OutOfRange x.diagram cells number
  -- 'Every file accepted before gives the answer it gave', by each call
  pub reads : (text : List ℕ) {four before after : List ℕ} (d : Diagram) → diagram_in01 text_line text ≡ accepted d
      → Converted (read_call text (length before)) four before after → Converted (read_call_in01 text (length before)) four before after
  pub writes : (t : List ℕ) {four before after : List ℕ} (d : Diagram) → diagram_in01 table_line t ≡ accepted d
      → Converted (write_call t (length before)) four before after → Converted (write_call_in01 t (length before)) four before after
  pub checks : (t : List ℕ) {four before after : List ℕ} (d : Diagram) → diagram_in01 table_line t ≡ accepted d
      → Settled (check_call t (length before)) four before after → Settled (check_call_in01 t (length before)) four before after
  pub populates : (t : List ℕ) {four before after : List ℕ} (d : Diagram) → diagram_in01 table_line t ≡ accepted d
      → Settled (populate_call t (length before)) four before after → Settled (populate_call_in01 t (length before)) four before after
  pub validates : (t cells : List ℕ) {four : List ℕ} (d : Diagram) → diagram_in01 table_line t ≡ accepted d
      → HasValidated t cells four → four ≡ verdict_numbers (validate_call_in01 t cells)
  -- 'Errors: 4 keeps its place and covers the subtype pairs that this rule doesn't allow', by each call
  pub refuses_text : {kind n : ℕ} {ts : List ObjectType} {t : ObjectType} → Disallowed kind n ts t → (rest : List ℕ) {four before after : List ℕ}
      → Converted (read_call (lines text_form (type_lines kind n ts t) ++ rest) (length before)) four before after
      → RefusedWith4 (3 + length ts) four before after
  pub refuses_write : {kind n : ℕ} {ts : List ObjectType} {t : ObjectType} → Disallowed kind n ts t → (rest : List ℕ) {four before after : List ℕ}
      → Converted (write_call (lines table_form (type_lines kind n ts t) ++ rest) (length before)) four before after
      → RefusedWith4 (3 + length ts) four before after
  pub refuses_check : {kind n : ℕ} {ts : List ObjectType} {t : ObjectType} → Disallowed kind n ts t → (rest : List ℕ) {four before after : List ℕ}
      → Settled (check_call (lines table_form (type_lines kind n ts t) ++ rest) (length before)) four before after
      → RefusedWith4 (3 + length ts) four before after
  pub refuses_populate : {kind n : ℕ} {ts : List ObjectType} {t : ObjectType} → Disallowed kind n ts t → (rest : List ℕ) {four before after : List ℕ}
      → Settled (populate_call (lines table_form (type_lines kind n ts t) ++ rest) (length before)) four before after
      → RefusedWith4 (3 + length ts) four before after
  pub refuses_validate : {kind n : ℕ} {ts : List ObjectType} {t : ObjectType} → Disallowed kind n ts t → (rest cells : List ℕ) {four : List ℕ}
      → HasValidated (lines table_form (type_lines kind n ts t) ++ rest) cells four → four ≡ 4 ∷ (3 + length ts) ∷ 0 ∷ 0 ∷ []
