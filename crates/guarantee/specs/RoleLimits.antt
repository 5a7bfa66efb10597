-- S-8, 'Limits on a role' (document 02), as one statement over the definitions of the calls: the record `RoleLimits` at the end of this file, with its
-- one proof in `proofs/RoleLimits/Proof`. The request, quoted at its fields:
--
--     In files that begin `diagram=2` a role line has two more numbers after GROUP, RMIN and RMAX, 1..4096, the fewest and most different members in
--     that role. They become the role's floor and part of its starting ceiling. K11: role members number RMIN..RMAX. In `diagram=1` they read as 1
--     and 4096, and are not written. The judge, which gives K11 the predicate's number, the rounds and the emptied refusal count K11 in for both
--     kinds. Files grow, so the program reads up to 8,192 bytes. Errors: 2 now allows 1..2 on the first line; 4 also where RMIN is above RMAX.
--
-- `Before` and `CallsBefore` have the rule without it, for files that begin `diagram=1`.
use Rattle.std.specs.Prelude.{ℕ, suc, ◌+◌, min, ◌≤◌, ◌<◌, ◌≡◌, true, length, get_or, take}
use mathlib.Core.List.{List, [], ◌∷◌, ◌++◌, map, flat_map}
use Rattle.counting.specs.Terms.{Each, EachFrom, ◌∈◌}
use Rattle.counting.specs.Index.{At}
use Rattle.orm.specs.Diagram.{ObjectType, Role, Predicate, Diagram, LineKind, Line, diagram_line, types_line, preds_line, limited_role_line}
use Rattle.orm.specs.Diagram.{line_of_count, line_of_type, line_of_role, lines_of_pred, role_line_of, all_roles, table}
use Rattle.orm.specs.Reader.{Cut, cut}
use Rattle.orm.specs.Form.{◌to◌, ranges, in_ranges, count_of, role_of, PredHead}
use Rattle.orm.specs.Text.{bytes, key, render, text_line, table_line}
use Rattle.orm.specs.Sets.{first_role, lower, upper, verdict}
use Rattle.orm.specs.Population.{Population}
use Rattle.orm.specs.Populate.{size}
use Rattle.orm.specs.Constraints.{Played, member_count, played, sizes, each_pred, K11, constraints, valid, breaks, first_broken, answer}
use Rattle.orm.specs.Outcome.{refused, accepted, fitted}
use Rattle.orm.specs.Calls.{diagram_in, population_in, read_call, write_call, check_call, populate_call, validate_call}
use Rattle.orm.specs.Program.{program}
use Rattle.orm.specs.Meaning.{Between, ValidPopulation}
use Rattle.orm.specs.WellFormed.{TypeForm, RoleForm, PredForm, WellFormed}
use Rattle.reading.specs.Exact.{written}
use Rattle.reading.specs.Cutting.{text_form, table_form}
use Rattle.reading.specs.Spelling.{line_of_head}
use Rattle.reading.specs.Kinds.{HeadForm}
use Rattle.guarantee.specs.Guarantee.{Populated, RefusesEmptied}
pub mod Before
pub mod CallsBefore
use Rattle.guarantee.specs.RoleLimits.Before.{diagram_in_before, lower_before, upper_before, answer_before}
use Rattle.guarantee.specs.RoleLimits.CallsBefore.{read_call_before, write_call_before, check_call_before, populate_call_before, validate_call_before, program_before}

-- ---- the lines of each kind

pub record RoleLines : Type 0 where
  -- 'In files that begin `diagram=2` a role line has two more numbers after GROUP, RMIN and RMAX', under the same key
  pub limited : (r : Role) → (line_of_role 2 r).values ≡ r.type ∷ r.mand ∷ r.group ∷ r.rmin ∷ r.rmax ∷ []
  pub limited_read : (v : List ℕ)
      → role_of 2 v ≡ record { type = get_or v 0 0; mand = get_or v 1 0; group = get_or v 2 0; rmin = get_or v 3 0; rmax = get_or v 4 0 }
  pub keyed : (kind : ℕ) → key (role_line_of kind) ≡ "role"
  -- '1..4096': the ranges of the other three are the same
  pub ranged : ranges (role_line_of 2) ≡ ranges (role_line_of 1) ++ 1 to 4096 ∷ 1 to 4096 ∷ []
  -- 'In `diagram=1` they read as 1 and 4096, and are not written'
  pub plain : (r : Role) → (line_of_role 1 r).values ≡ r.type ∷ r.mand ∷ r.group ∷ []
  pub plain_read : (v : List ℕ) → role_of 1 v ≡ record { type = get_or v 0 0; mand = get_or v 1 0; group = get_or v 2 0; rmin = 1; rmax = 4096 }

-- ---- what reading and writing make of a text of the diagram: it keeps its kind

pub record TextKinds (text : List ℕ) (d : Diagram) : Type 0 where
  pub kinds : Between 1 d.kind 2
  -- 'files that begin `diagram=1`' and 'files that begin `diagram=2`': so does the text, and so the table
  pub begins : take 10 text ≡ bytes "diagram=" ++ (48 + d.kind) ∷ 10 ∷ []
  pub first_number : get_or (table d) 0 0 ≡ d.kind
  -- from the text to the table, and from it to this text
  pub reads : (space : ℕ) → read_call text space ≡ fitted space (table d)
  pub writes : (space : ℕ) → write_call (table d) space ≡ fitted space text
  -- 'Files grow, so the program reads up to 8,192 bytes': the longest has 4,553
  pub read_whole : length text ≤ 4553

-- ---- what the calls make of a table of the diagram

-- In these cells a role of the predicate with this number has fewer members than RMIN or more than RMAX
pub record OutOfLimits (d : Diagram) (s : List ℕ) (number : ℕ) : Type 0 where
  pub place : ℕ
  pub predicate : Predicate
  pub standing : At predicate d.preds place
  pub numbered : number ≡ suc place
  pub population : Population
  pub cut : population_in d s ≡ accepted population
  pub rows : List (List ℕ)
  pub held : At rows population.preds place
  pub column : Played
  pub of_role : column ∈ played predicate rows
  pub outside : ¬ Between column.role.rmin (member_count column) column.role.rmax

-- 'RMIN and RMAX, 1..4096', and RMIN not above RMAX
pub record Limits (r : Role) : Type 0 where
  pub some : 1 ≤ r.rmin
  pub ordered : r.rmin ≤ r.rmax
  pub most : r.rmax ≤ 4096

-- Of the role at each index, whose set is at `first_role d + k`
pub record TableLimits (t : List ℕ) (d : Diagram) : Type 0 where
  pub allowed : {k : ℕ} {r : Role} → At r (all_roles d) k → Limits r
  -- 'In `diagram=1` they read as 1 and 4096'
  pub unlimited : d.kind ≡ 1 → {k : ℕ} {r : Role} → At r (all_roles d) k → (r.rmin ≡ 1) × (r.rmax ≡ 4096)
  -- 'They become the role's floor and part of its starting ceiling', and so its settled size is between them
  pub floor : {k : ℕ} {r : Role} → At r (all_roles d) k → get_or (lower d) (first_role d + k) 0 ≡ r.rmin
  pub starts : {k : ℕ} {r : Role} → At r (all_roles d) k → get_or (upper d) (first_role d + k) 0 ≡ min 4096 r.rmax
  pub settles : {k : ℕ} {r : Role} → At r (all_roles d) k → (p : Populated t d) → Between r.rmin (size p.settled (first_role d + k)) r.rmax
  -- 'K11: role members number RMIN..RMAX': in every population that meets the constraints
  pub covered : {s : List ℕ} (o : ValidPopulation d s) {k : ℕ} {r : Role} → At r (all_roles d) k
      → Between r.rmin (size (sizes d o.population) (first_role d + k)) r.rmax
  -- 'The judge, which gives K11 the predicate's number': K11 decides where K1 to K10 hold; and it names a predicate that breaks it
  pub judged : (s : List ℕ) (o : Population) → population_in d s ≡ accepted o
      → validate_call t s ≡ accepted (elim (first_broken 1 (take 10 (constraints d o))) [
        | breaks k number ↦ breaks k number
        | valid ↦ first_broken 11 (each_pred K11 d.preds o.preds ∷ [])
      ])
  pub validated : (s : List ℕ) (number : ℕ) → validate_call t s ≡ accepted (breaks 11 number) → OutOfLimits d s number
  -- in `diagram=1` it never decides
  pub never_named : d.kind ≡ 1 → (s : List ℕ) (number : ℕ) → ¬ (validate_call t s ≡ accepted (breaks 11 number))
  -- 'the rounds and the emptied refusal count K11 in for both kinds': a population is one that keeps K11 too
  pub check_refuses : RefusesEmptied d (check_call t)
  pub populate_refuses : RefusesEmptied d (populate_call t)

-- ---- every file that begins `diagram=1` gives the answers it gave

-- The first line, if there is one, is not that of a file of the second kind
abbrev pub NotSecond : (LineKind → List ℕ → Cut) → List ℕ → Type 0
NotSecond next s = (v rest : List ℕ) → next diagram_line s ≡ cut v rest → ¬ (count_of v ≡ 2)

pub record Unchanged : Type 0 where
  -- files that begin `diagram=1`, and tables that begin with 1, are such
  pub first_kind : (rest : List ℕ) → NotSecond text_line (bytes "diagram=1\n" ++ rest)
  pub first_kind_table : (rest : List ℕ) → NotSecond table_line (1 ∷ rest)
  -- the same diagram, or the same refusal
  pub texts : (s : List ℕ) → NotSecond text_line s → diagram_in text_line s ≡ diagram_in_before text_line s
  pub tables : (t : List ℕ) → NotSecond table_line t → diagram_in table_line t ≡ diagram_in_before table_line t
  -- of every well-formed diagram of the first kind: its bounds, and the validator's answer (the limits don't speak of RMIN and RMAX)
  pub lowers : (d : Diagram) → WellFormed d → d.kind ≡ 1 → lower d ≡ lower_before d
  pub uppers : (d : Diagram) → WellFormed d → d.kind ≡ 1 → upper d ≡ upper_before d
  pub answers : (d : Diagram) → WellFormed d → d.kind ≡ 1 → (o : Population) → answer d o ≡ answer_before d o
  -- so of every such file and table, accepted or refused: each call, and the program, which of such a file needs no more than the 4,096 bytes that it
  -- read before
  pub reads : (text : List ℕ) → NotSecond text_line text → (space : ℕ) → read_call text space ≡ read_call_before text space
  pub writes : (t : List ℕ) → NotSecond table_line t → (space : ℕ) → write_call t space ≡ write_call_before t space
  pub checks : (t : List ℕ) → NotSecond table_line t → (space : ℕ) → check_call t space ≡ check_call_before t space
  pub populates : (t : List ℕ) → NotSecond table_line t → (space : ℕ) → populate_call t space ≡ populate_call_before t space
  pub validates : (t : List ℕ) → NotSecond table_line t → (s : List ℕ) → validate_call t s ≡ validate_call_before t s
  pub prints : (input : List ℕ) → NotSecond text_line input → program input ≡ program_before input

-- ---- the first lines of a file

-- The first line, the `types` line and these types, the `preds` line with this number and these predicates, a `pred` line, the lines of these roles and
-- of one role more
abbrev pub lines_to_role : List ObjectType → ℕ → List Predicate → PredHead → List Role → Role → List Line
lines_to_role ts p ps h rs r =
    line_of_count diagram_line 2
    ∷ line_of_count types_line (length ts)
    ∷ (map line_of_type ts
    ++ (line_of_count preds_line p ∷ (flat_map (lines_of_pred 2) ps ++ (line_of_head h ∷ (map (line_of_role 2) rs ++ line_of_role 2 r ∷ [])))))

-- After these types, predicates, `pred` line and roles, which have no fault, nothing that comes before RMIN and RMAX is wrong with the line of this
-- role: its numbers are in range (2), TYPE is not above T, and GROUP not above GROUPS (3)
pub record OnlyLimits (ts : List ObjectType) (p : ℕ) (ps : List Predicate) (h : PredHead) (rs : List Role) (r : Role) : Type 0 where
  pub types : Between 1 (length ts) 32
  pub faultless_types : EachFrom (TypeForm ts) 1 ts
  pub preds : Between 1 p 32
  pub faultless_preds : Each (PredForm (length ts)) ps
  pub room : length ps < p
  pub head : HeadForm (length (flat_map (λ (q : Predicate). q.roles) ps)) (length (flat_map (λ (q : Predicate). q.groups) ps)) h
  pub faultless_roles : Each (RoleForm (length ts) h.groups) rs
  pub more : length rs < h.roles
  pub within_ranges : in_ranges (ranges limited_role_line) (line_of_role 2 r).values ≡ true
  pub type : r.type ≤ length ts
  pub group : r.group ≤ h.groups

-- ---- S-8

pub record RoleLimits : Type 0 where
  pub lines : RoleLines
  pub of_text : (text : List ℕ) (d : Diagram) → diagram_in text_line text ≡ accepted d → TextKinds text d
  pub of_table : (t : List ℕ) (d : Diagram) → diagram_in table_line t ≡ accepted d → TableLimits t d
  -- bounds, limits and constraints see the kind only by RMIN and RMAX: a file that gives 1 and 4096 everywhere has the sizes and answers of that which
  -- gives none
  pub same_verdict : (ts : List ObjectType) (ps : List Predicate)
      → verdict (record { kind = 2; types = ts; preds = ps }) ≡ verdict (record { kind = 1; types = ts; preds = ps })
  pub same_answer : (ts : List ObjectType) (ps : List Predicate) (o : Population)
      → answer (record { kind = 2; types = ts; preds = ps }) o ≡ answer (record { kind = 1; types = ts; preds = ps }) o
  -- what a table of either kind gives is read back from its text
  pub round_trip : (t : List ℕ) (d : Diagram) → diagram_in table_line t ≡ accepted d
      → ((space : ℕ) → write_call t space ≡ fitted space (render d)) × ((space : ℕ) → read_call (render d) space ≡ fitted space t)
  -- 'Files grow, so the program reads up to 8,192 bytes'
  pub bytes_read : (input : List ℕ) → program input ≡ program (take 8192 input)
  pub unchanged : Unchanged
  -- 'Errors: 2 now allows 1..2 on the first line': any other number is 2 there, in a text and in a table, whatever follows
  pub refuses_kind : (n : ℕ) → ¬ Between 1 n 2 → (rest : List ℕ)
      → (n ≤ 999999 → diagram_in text_line (written text_form (line_of_count diagram_line n ∷ []) ++ rest) ≡ refused 2 1 0)
      × (diagram_in table_line (n ∷ rest) ≡ refused 2 1 0)
  -- '4 also where RMIN is above RMAX': at the role's line, the last of these, in a text and in a table, whatever follows
  pub refuses : (ts : List ObjectType) (p : ℕ) (ps : List Predicate) (h : PredHead) (rs : List Role) (r : Role) → OnlyLimits ts p ps h rs r
      → r.rmax < r.rmin → (rest : List ℕ)
      → (diagram_in text_line (written text_form (lines_to_role ts p ps h rs r) ++ rest) ≡ refused 4 (length (lines_to_role ts p ps h rs r)) 0)
      × (diagram_in table_line (written table_form (lines_to_role ts p ps h rs r) ++ rest) ≡ refused 4 (length (lines_to_role ts p ps h rs r)) 0)
