-- S-8, 'Limits on a role' (document 02), on running code, as one statement over the calls for C, with its one proof in `RoleLimits/Proof`. `Told`,
-- `ToldRead`, `HasValidated`, `Converted` and `Settled` are what the contracts of the calls ensure.
use Rattle.std.specs.Prelude.{ℕ, ◌+◌, ◌≤◌, ◌<◌, ◌≡◌, ◌↔◌, List, [], ◌∷◌, ◌++◌, length, get_or, take}
use Rattle.counting.specs.Index.{At}
use Rattle.orm.specs.Diagram.{ObjectType, Role, Predicate, Line, diagram_line, line_of_count, all_roles}
use Rattle.orm.specs.Form.{PredHead}
use Rattle.orm.specs.Text.{bytes, text_line, table_line}
use Rattle.orm.specs.Sets.{first_role}
use Rattle.orm.specs.Population.{Population}
use Rattle.orm.specs.Populate.{size}
use Rattle.orm.specs.Constraints.{sizes}
use Rattle.orm.specs.Outcome.{accepted}
use Rattle.orm.specs.Calls.{population_in, read_call, write_call, check_call, populate_call}
use Rattle.orm.specs.Meaning.{Between}
use Rattle.reading.specs.Exact.{written as lines}
use Rattle.reading.specs.Cutting.{text_form, table_form}
use Rattle.guarantee.specs.Guarantee.{NoPopulation}
use Rattle.guarantee.specs.RoleLimits.{OutOfLimits, NotSecond, lines_to_role, OnlyLimits}
use Rattle.guarantee.specs.RoleLimits.CallsBefore.{read_call_before, write_call_before, check_call_before, populate_call_before, validate_call_before}
use Rattle.populate.specs.Demand3.{TableOf, Making, settled_sizes}
use Rattle.capi.specs.Answers.{verdict_numbers}
use Rattle.capi.specs.Told.{Told, ToldRead}
use Rattle.capi.specs.Ended.{Converted, Settled, HasValidated, Gives, RefusedWith, RefusedWith4}
pub mod Proof

-- A text and a table of one kind, each of which the calls make of the other in an array that is long enough
pub record SameKind (text table : List ℕ) : Type 0 where
  pub kind : ℕ
  pub kinds : Between 1 kind 2
  pub begins : take 10 text ≡ bytes "diagram=" ++ (48 + kind) ∷ 10 ∷ []
  pub first_number : get_or table 0 0 ≡ kind
  pub read : {four before after : List ℕ} → length table ≤ length before → Converted (read_call text (length before)) four before after
      → Gives table four before after
  pub written : {four before after : List ℕ} → length text ≤ length before → Converted (write_call table (length before)) four before after
      → Gives text four before after

-- The first lines of a file, up to that of a role whose only fault is RMIN above RMAX
pub record Disordered : Type 0 where
  pub types : List ObjectType
  pub count : ℕ
  pub preds : List Predicate
  pub head : PredHead
  pub roles : List Role
  pub role : Role
  pub only : OnlyLimits types count preds head roles role
  pub above : role.rmax < role.rmin

abbrev pub lines_to : Disordered → List Line
lines_to x = lines_to_role x.types x.count x.preds x.head x.roles x.role

pub record RoleLimitsTold : Type 0 where
  -- 'They become the role's floor and part of its starting ceiling': the size that check writes for each role is between them, in files of both kinds
  pub settles : {t four before after : List ℕ} (x : TableOf t) → Told t settled_sizes four before after
      → {rounds n : ℕ} → four ≡ 0 ∷ 0 ∷ rounds ∷ n ∷ [] → {k : ℕ} {r : Role} → At r (all_roles x.diagram) k
      → Between r.rmin (size after (first_role x.diagram + k)) r.rmax
  -- 'K11: role members number RMIN..RMAX': so do those of each role in cells that are cut into a population and that validating says yes to
  pub covered : {t : List ℕ} (cells : List ℕ) {four : List ℕ} (x : TableOf t) → HasValidated t cells four → four ≡ 0 ∷ 0 ∷ 0 ∷ 0 ∷ []
      → (o : Population) → population_in x.diagram cells ≡ accepted o → {k : ℕ} {r : Role} → At r (all_roles x.diagram) k
      → Between r.rmin (size (sizes x.diagram o) (first_role x.diagram + k)) r.rmax
  -- 'The judge, which gives K11 the predicate's number': it names one that breaks K11; none in `diagram=1`, where RMIN and RMAX 'read as 1 and 4096'
  pub validated : {t : List ℕ} (cells : List ℕ) {four : List ℕ} (x : TableOf t) → HasValidated t cells four
      → {number : ℕ} → four ≡ 0 ∷ 0 ∷ 11 ∷ number ∷ [] → OutOfLimits x.diagram cells number
  pub never_named : {t : List ℕ} (cells : List ℕ) {four : List ℕ} (x : TableOf t) → x.diagram.kind ≡ 1 → HasValidated t cells four
      → {number : ℕ} → ¬ (four ≡ 0 ∷ 0 ∷ 11 ∷ number ∷ [])
  pub unlimited : {t : List ℕ} (x : TableOf t) → x.diagram.kind ≡ 1 → {k : ℕ} {r : Role} → At r (all_roles x.diagram) k
      → (r.rmin ≡ 1) × (r.rmax ≡ 4096)
  -- 'the rounds and the emptied refusal count K11 in for both kinds': check and populating refuse with 7 exactly where no population keeps K11 too
  pub emptied : {t four before after : List ℕ} {make : Making} (x : TableOf t) → Told t make four before after
      → ((set : ℕ) × (round : ℕ) × (four ≡ 7 ∷ set ∷ round ∷ 0 ∷ [])) ↔ NoPopulation x.diagram
  -- 'files that begin `diagram=2`', 'In `diagram=1` they .. are not written': the table that reading leaves, and the text that writing leaves, is of
  -- the file's kind, and gives the file again
  pub read_back : {text four before after : List ℕ} → ToldRead text four before after → {n : ℕ} → four ≡ 0 ∷ 0 ∷ 0 ∷ n ∷ [] → SameKind text (take n after)
  pub written_back : {t four before after : List ℕ} → TableOf t → Converted (write_call t (length before)) four before after
      → {n : ℕ} → four ≡ 0 ∷ 0 ∷ 0 ∷ n ∷ [] → SameKind (take n after) t
  -- every text and every table that doesn't begin with 2, accepted or refused, gives what it gave without S-8, by each call
  pub reads : (text : List ℕ) {four before after : List ℕ} → NotSecond text_line text
      → Converted (read_call text (length before)) four before after → Converted (read_call_before text (length before)) four before after
  pub writes : (t : List ℕ) {four before after : List ℕ} → NotSecond table_line t
      → Converted (write_call t (length before)) four before after → Converted (write_call_before t (length before)) four before after
  pub checks : (t : List ℕ) {four before after : List ℕ} → NotSecond table_line t
      → Settled (check_call t (length before)) four before after → Settled (check_call_before t (length before)) four before after
  pub populates : (t : List ℕ) {four before after : List ℕ} → NotSecond table_line t
      → Settled (populate_call t (length before)) four before after → Settled (populate_call_before t (length before)) four before after
  pub validates : (t cells : List ℕ) {four : List ℕ} → NotSecond table_line t
      → HasValidated t cells four → four ≡ verdict_numbers (validate_call_before t cells)
  -- 'Errors: 2 now allows 1..2 on the first line': any other number is 2 there, by each call; in a text, where a number has at most 6 digits, any such
  pub refuses_kind_text : {n : ℕ} → ¬ Between 1 n 2 → n ≤ 999999 → (rest : List ℕ) {four before after : List ℕ}
      → Converted (read_call (lines text_form (line_of_count diagram_line n ∷ []) ++ rest) (length before)) four before after
      → RefusedWith 2 1 four before after
  pub refuses_kind_write : {n : ℕ} → ¬ Between 1 n 2 → (rest : List ℕ) {four before after : List ℕ}
      → Converted (write_call (n ∷ rest) (length before)) four before after → RefusedWith 2 1 four before after
  pub refuses_kind_check : {n : ℕ} → ¬ Between 1 n 2 → (rest : List ℕ) {four before after : List ℕ}
      → Settled (check_call (n ∷ rest) (length before)) four before after → RefusedWith 2 1 four before after
  pub refuses_kind_populate : {n : ℕ} → ¬ Between 1 n 2 → (rest : List ℕ) {four before after : List ℕ}
      → Settled (populate_call (n ∷ rest) (length before)) four before after → RefusedWith 2 1 four before after
  pub refuses_kind_validate : {n : ℕ} → ¬ Between 1 n 2 → (rest cells : List ℕ) {four : List ℕ}
      → HasValidated (n ∷ rest) cells four → four ≡ 2 ∷ 1 ∷ 0 ∷ 0 ∷ []
  -- '4 also where RMIN is above RMAX': at the role's line, by each call
  pub refuses_text : (x : Disordered) (rest : List ℕ) {four before after : List ℕ}
      → Converted (read_call (lines text_form (lines_to x) ++ rest) (length before)) four before after
      → RefusedWith4 (length (lines_to x)) four before after
  pub refuses_write : (x : Disordered) (rest : List ℕ) {four before after : List ℕ}
      → Converted (write_call (lines table_form (lines_to x) ++ rest) (length before)) four before after
      → RefusedWith4 (length (lines_to x)) four before after
  pub refuses_check : (x : Disordered) (rest : List ℕ) {four before after : List ℕ}
      → Settled (check_call (lines table_form (lines_to x) ++ rest) (length before)) four before after
      → RefusedWith4 (length (lines_to x)) four before after
  pub refuses_populate : (x : Disordered) (rest : List ℕ) {four before after : List ℕ}
      → Settled (populate_call (lines table_form (lines_to x) ++ rest) (length before)) four before after
      → RefusedWith4 (length (lines_to x)) four before after
  pub refuses_validate : (x : Disordered) (rest cells : List ℕ) {four : List ℕ}
      → HasValidated (lines table_form (lines_to x) ++ rest) cells four → four ≡ 4 ∷ length (lines_to x) ∷ 0 ∷ 0 ∷ []
