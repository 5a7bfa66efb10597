-- The proof of S-8's statement.
use Rattle.std.specs.Prelude.{ℕ, ◌+◌, ◌≤◌, ◌<◌, ◌≡◌, Bool, true, eqb, length, take, drop}
use Rattle.std.proofs.Common.{le_trans, sym, ap, ◌∙◌, length-take, take-append-drop, take_all, take-add}
use Rattle.std.proofs.Math.Nat.{min-le_right}
use Rattle.std.proofs.Math.Decide.{dec_le}
use native.Mathlib.Omega.{arith}
use Rattle.std.proofs.Math.Path.{refl, fun_ext}
use Rattle.std.proofs.Math.Bool.{false}
use Rattle.std.proofs.lemmas.Bool.{false≢true}
use Rattle.std.proofs.Math.Option.{some}
use mathlib.Core.List.{List, [], ◌∷◌, ◌++◌, flat_map}
use borrow.Author.Tests.{eqb-true, eqb-false, le-leb, lt-leb}
use Rattle.counting.specs.Terms.{◌∈◌}
use Rattle.counting.proofs.Laws.Distinct.{all-fails}
use Rattle.counting.proofs.Laws.Index.{at_in}
use Rattle.counting.proofs.Laws.Members.{each_nil, each-cons, of-flat_map}
use Rattle.orm.specs.Diagram.{ObjectType, Role, Predicate, Diagram, LineKind, diagram_line, role_line, limited_role_line, limits_roles, role_line_of}
use Rattle.orm.specs.Diagram.{must_play, line_of_count, line_of_role, all_roles, all_groups, lines, table}
use Rattle.orm.specs.Reader.{Cut, cut, exactly}
use Rattle.orm.specs.Form.{first_of, ◌to◌, in_range, ranges, fields, in_ranges, count_of, PredHead, role_tests}
use Rattle.orm.specs.Text.{bytes, key, separator, decimal_within, decimal, values_text, line_text, render, is_digit, digits, number, after, numbers, text_line, table_line}
use Rattle.orm.specs.Sets.{first_pred, first_role, first_group, lower, upper_of_role, upper, roles_of_type, placed, limits_of_type, limits, verdict_from, verdict}
use Rattle.orm.specs.Population.{Population, cells}
use Rattle.orm.specs.Populate.{population}
use Rattle.orm.specs.Constraints.{Played, member_count, played, all_played, each_pred, K10, K11, constraints, Answer, valid, breaks, first_broken, answer}
use Rattle.orm.specs.Outcome.{Outcome, refused, accepted, ◌>>=◌, fitted}
use Rattle.orm.specs.Calls.{diagram_in, sizes_of, population_in, read_call, write_call, settled_into, check_call, populate_call, validate_call}
use Rattle.orm.specs.Program.{output, reported, program}
use Rattle.orm.specs.Meaning.{Between}
use Rattle.orm.specs.WellFormed.{WellFormed}
use Rattle.orm.proofs.Laws.Decided.{in_range_decides, last-broken}
use Rattle.orm.proofs.Laws.Named.{PredFails, named-K11, breaks-within}
use Rattle.orm.proofs.Laws.Rounds.{own-bounds}
use Rattle.reading.specs.Exact.{written, written_one}
use Rattle.reading.specs.Lines.{Cuts, tested_decides}
use Rattle.reading.specs.Cutting.{text_form, table_form, text_cuts, table_cuts}
use Rattle.reading.specs.Laws.{text-accepted-iff, table-accepted-iff, accepted-text-table, accepted-table-text}
use Rattle.reading.specs.Types.{all-types-iff}
use Rattle.reading.specs.Predicates.{NextPreds, next-preds-iff}
use Rattle.reading.specs.TextLength.{text-length}
use Rattle.reading.specs.Prefix.{read-from_prefix, first-line-more}
use Rattle.sound.proofs.Laws.{valid-laws}
use Rattle.sound.proofs.Unlimited.{unlimited-answer}
use Rattle.complete.specs.Solved.{Solved}
use Rattle.complete.proofs.Solved.{lower-role, upper-role}
use Rattle.complete.proofs.Laws.{fixpoint-solved}
use Rattle.guarantee.proofs.Guarantee.{guarantee}
use Rattle.guarantee.specs.RoleLimits.Before.{diagram_in_before}
use Rattle.guarantee.specs.RoleLimits.CallsBefore.{report_before}
use Rattle.guarantee.proofs.RoleLimits.Kept.{same_outcome, same-lowers, same-uppers, same_verdict, same_answer, kind-before}
use Rattle.guarantee.proofs.RoleLimits.Refused.{diagram-refused, kind-refused}
use Rattle.guarantee.specs.RoleLimits.{RoleLines, TextKinds, OutOfLimits, TableLimits, NotSecond, Unchanged, OnlyLimits, RoleLimits}

-- ---- the lines of each kind

role-lines : RoleLines
unfolding line_of_role role_line_of limits_roles ranges key
role-lines = record {
  limited = λ r. refl;
  limited_read = λ v. refl;
  keyed = λ kind. keyed (limits_roles kind);
  ranged = refl;
  plain = λ r. refl;
  plain_read = λ v. refl;
}
  where
    keyed : (b : Bool) → key (elim b [ true ↦ limited_role_line | false ↦ role_line ]) ≡ "role"
    keyed true = unfold key in refl
    keyed false = unfold key in refl

-- ---- a text

-- the first line of each kind
first-line : (k : ℕ) → Between 1 k 2 → (rest : List ℕ) → take 10 (line_text "diagram" (k ∷ []) ++ rest) ≡ bytes "diagram=" ++ (48 + k) ∷ 10 ∷ []
first-line k between rest = go (eqb k 1) refl
  where
    go : (b : Bool) → eqb k 1 ≡ b → take 10 (line_text "diagram" (k ∷ []) ++ rest) ≡ bytes "diagram=" ++ (48 + k) ∷ 10 ∷ []
    go true e = let one : k ≡ 1 = eqb-true k 1 e in rw one (unfold line_text values_text decimal decimal_within separator bytes in refl)
    go false e =
        let not-one : ¬ (k ≡ 1) = eqb-false k 1 e in
        let two : k ≡ 2 = omega arith in
        rw two (unfold line_text values_text decimal decimal_within separator bytes in refl)

begins : (d : Diagram) → Between 1 d.kind 2 → take 10 (render d) ≡ bytes "diagram=" ++ (48 + d.kind) ∷ 10 ∷ []
unfolding render lines flat_map line_of_count key
begins d between = first-line d.kind between _

text-kinds : (text : List ℕ) (d : Diagram) → diagram_in text_line text ≡ accepted d → TextKinds text d
unfolding read_call write_call table lines flat_map line_of_count
text-kinds text d e =
    let (is, w) = (text-accepted-iff text d).0 e in
    record {
      kinds = w.kinds;
      begins = rw is (begins d w.kinds);
      first_number = refl;
      reads = λ space. ap (◌>>= λ b. fitted space (table b)) e;
      writes = λ space. ap (◌>>= λ b. fitted space (render b)) (accepted-text-table text d e) ∙ ap (fitted space) (sym is);
      read_whole = rw is (text-length d w);
    }

-- ---- a table

-- a role that has too few members or too many
outside-limits : (p : Predicate) (rows : List (List ℕ)) → K11 p rows ≡ false
    → (x : Played) × (x ∈ played p rows) × (¬ Between x.role.rmin (member_count x) x.role.rmax)
unfolding K11
outside-limits p rows e =
    let (x, m, f) = all-fails (λ (y : Played). in_range (y.role.rmin to y.role.rmax) (member_count y)) (played p rows) e in
    (x, m, λ h. false≢true (sym f ∙ (in_range_decides x.role.rmin (member_count x) x.role.rmax).1 h))

out_of-limits : (d : Diagram) (s : List ℕ) (o : Population) {number : ℕ} → population_in d s ≡ accepted o → PredFails K11 d o number
    → OutOfLimits d s number
out_of-limits d s o c f =
    let (x, m, n) = outside-limits f.predicate f.rows f.fails in
    record {
      place = f.place;
      predicate = f.predicate;
      standing = f.standing;
      numbered = f.numbered;
      population = o;
      cut = c;
      rows = f.rows;
      held = f.held;
      column = x;
      of_role = m;
      outside = n;
    }

-- what validating answers, of cells that it cuts into a population
validates : (t : List ℕ) (d : Diagram) → diagram_in table_line t ≡ accepted d → (s : List ℕ) (o : Population) → population_in d s ≡ accepted o
    → validate_call t s ≡ accepted (answer d o)
unfolding validate_call
validates t d e s o c = rw (e, c, validate_call) refl

-- and so of whatever it answers
answered : (t : List ℕ) (d : Diagram) → diagram_in table_line t ≡ accepted d → (s : List ℕ) {a : Answer} → validate_call t s ≡ accepted a
    → (o : Population) × (population_in d s ≡ accepted o) × (answer d o ≡ a)
unfolding validate_call
answered t d e s {a} q = go (population_in d s) refl (rw (e, validate_call) at q)
  where
    go : (r : Outcome Population) → population_in d s ≡ r → (r >>= λ o. accepted (answer d o)) ≡ accepted a
        → (o : Population) × (population_in d s ≡ accepted o) × (answer d o ≡ a)
    go (refused n place round) c z = let y : ◌≡◌ {A = ℕ} 0 1 = cc in absurd (omega arith)
    go (accepted o) c z = (o, c, cc)

judged : (d : Diagram) (o : Population) → ◌≡◌ {A = Answer} (answer d o) (elim (first_broken 1 (take 10 (constraints d o))) [
  | breaks k number ↦ breaks k number
  | valid ↦ first_broken 11 (each_pred K11 d.preds o.preds ∷ [])
])
unfolding answer constraints
judged d o = last-broken 1 (take 10 (constraints d o)) (each_pred K11 d.preds o.preds)

never_named : (d : Diagram) (o : Population) → WellFormed d → d.kind ≡ 1 → (number : ℕ) → ¬ (answer d o ≡ breaks 11 number)
unfolding constraints
never_named d o w one number e =
    let within : 11 < 1 + length (take 10 (constraints d o)) = breaks-within 1 (take 10 (constraints d o)) (sym (unlimited-answer d o w one) ∙ e) in
    omega arith

table-limits : (t : List ℕ) (d : Diagram) → diagram_in table_line t ≡ accepted d → TableLimits t d
unfolding upper_of_role all_roles
table-limits t d e =
    let w : WellFormed d = ((table-accepted-iff t d).0 e).1 in
    let g = guarantee.of_table t d e in
    record {
      allowed = λ {k} {r} h.
          let (p, m, l) = of-flat_map (λ (p : Predicate). p.roles) d.preds (at_in h) in
          let f = (w.preds p m).roles r l in
          record { some = f.some; ordered = f.limits; most = f.most };
      unlimited = λ one {k} {r} h. w.limits r (at_in h) one;
      floor = λ h. lower-role d h;
      starts = λ h. upper-role d h;
      settles = λ {k} {r} h p.
          let s : Solved d p.settled = fixpoint-solved w (own-bounds d) p.settled_after.defined in (
            rw (lower-role d h) at (s.above.entry (first_role d + k)),
            le_trans (rw (upper-role d h) at (s.below.entry (first_role d + k))) (min-le_right 4096 r.rmax),
          );
      covered = λ {s} o {k} {r} h.
          let v = valid-laws d w s o in (
            rw (lower-role d h) at (v.above.entry (first_role d + k)),
            le_trans (rw (upper-role d h) at (v.solution.under.entry (first_role d + k))) (min-le_right 4096 r.rmax),
          );
      judged = λ s o c. validates t d e s o c ∙ ap accepted (judged d o);
      validated = λ s number q. let (o, c, a) = answered t d e s q in out_of-limits d s o c (named-K11 d o a);
      never_named = λ one s number q. let (o, c, a) = answered t d e s q in never_named d o w one number a;
      check_refuses = g.check_refuses;
      populate_refuses = g.populate_refuses;
    }

-- ---- what did not change

-- What follows the reading is the same of a diagram of the first kind
still : {A : Type 0} {form : LineKind → List ℕ → List ℕ} {next : LineKind → List ℕ → Cut} → Cuts form next
    → ((s : List ℕ) (d : Diagram) → diagram_in next s ≡ accepted d → WellFormed d) → (s : List ℕ) → NotSecond next s
    → (rest before : Diagram → Outcome A) → ((d : Diagram) → WellFormed d → d.kind ≡ 1 → rest d ≡ before d)
    → (diagram_in next s >>= rest) ≡ (diagram_in_before next s >>= before)
still {A} {next = next} cuts formed s other rest before same =
    ap (◌>>= rest) (same_outcome cuts s other) ∙ go (diagram_in_before next s) refl
  where
    go : (o : Outcome Diagram) → diagram_in_before next s ≡ o → ◌≡◌ {A = Outcome A} (o >>= rest) (o >>= before)
    go (refused c place round) e = refl
    go (accepted d) e = same d (formed s d (same_outcome cuts s other ∙ e)) (kind-before next s e)

text-still : {A : Type 0} (s : List ℕ) → NotSecond text_line s → (rest before : Diagram → Outcome A)
    → ((d : Diagram) → WellFormed d → d.kind ≡ 1 → rest d ≡ before d) → (diagram_in text_line s >>= rest) ≡ (diagram_in_before text_line s >>= before)
text-still = still text_cuts (λ s d e. ((text-accepted-iff s d).0 e).1)

table-still : {A : Type 0} (t : List ℕ) → NotSecond table_line t → (rest before : Diagram → Outcome A)
    → ((d : Diagram) → WellFormed d → d.kind ≡ 1 → rest d ≡ before d) → (diagram_in table_line t >>= rest) ≡ (diagram_in_before table_line t >>= before)
table-still = still table_cuts (λ t d e. ((table-accepted-iff t d).0 e).1)

first_number : (n : ℕ) (rest : List ℕ) → table_line diagram_line (n ∷ rest) ≡ cut (n ∷ []) rest
unfolding table_line fields ranges exactly
first_number n [] = refl
first_number n (x ∷ rest) = refl

-- a first line that reads 1
reads-one : (next : LineKind → List ℕ → Cut) (s rest : List ℕ) → next diagram_line s ≡ cut (1 ∷ []) rest → NotSecond next s
unfolding count_of
reads-one next s rest e v rest' q two =
    let is : v ≡ 1 ∷ [] = cc in
    let one : count_of v ≡ 1 = ap count_of is in
    omega arith

first_kind : (rest : List ℕ) → text_line diagram_line (bytes "diagram=1\n" ++ rest) ≡ cut (1 ∷ []) rest
unfolding bytes key text_line after numbers number digits is_digit separator fields ranges
first_kind rest = refl

-- the program reads no more of such a file than it did
few_bytes : (input : List ℕ) → NotSecond text_line input
    → (diagram_in text_line (take 8192 input) ≡ diagram_in text_line (take 4096 input)) × NotSecond text_line (take 4096 input)
few_bytes input other = (go (dec_le (length input) 4096), first)
  where
    first : NotSecond text_line (take 4096 input)
    first v rest e =
        other v (rest ++ drop 4096 input)
        (sym (ap (text_line diagram_line) (take-append-drop 4096 input)) ∙ first-line-more (take 4096 input) (drop 4096 input) v rest e)

    go : Dec (length input ≤ 4096) → diagram_in text_line (take 8192 input) ≡ diagram_in text_line (take 4096 input)
    go (yes short) = ap (diagram_in text_line) (take_all 8192 input (omega arith) ∙ sym (take_all 4096 input short))
    go (no long) =
        ap (diagram_in text_line) (take-add 4096 4096 input)
        ∙ read-from_prefix (take 4096 input) (take 4096 (drop 4096 input)) (omega (arith, length-take 4096 input)) first

unchanged : Unchanged
unfolding read_call write_call check_call populate_call validate_call sizes_of program reported
unchanged = record {
  first_kind = λ rest. reads-one text_line _ rest (first_kind rest);
  first_kind_table = λ rest. reads-one table_line _ rest (first_number 1 rest);
  texts = same_outcome text_cuts;
  tables = same_outcome table_cuts;
  lowers = λ d w one. same-lowers w one;
  uppers = λ d w one. same-uppers w one;
  answers = λ d w one. same_answer w one;
  reads = λ text other space. text-still text other _ _ (λ d w one. refl);
  writes = λ t other space. table-still t other _ _ (λ d w one. refl);
  checks = λ t other space. table-still t other _ _ (λ d w one. ap (λ v. settled_into 7 (λ c. c) v space) (same_verdict w one));
  populates = λ t other space.
      table-still t other _ _ (λ d w one. ap (λ v. settled_into 7 (λ c. cells (population d c)) v space) (same_verdict w one));
  validates = λ t other s.
      table-still t other _ _
      (λ d w one. ap (λ (judge : Population → Answer). population_in d s >>= λ o. accepted (judge o)) (fun_ext (same_answer w one)));
  prints = λ input other.
      let (enough, first) = few_bytes input other in
      ap output (ap (◌>>= λ d. report_before d (verdict d)) enough
      ∙ text-still (take 4096 input) first _ _ (λ d w one. ap (report_before d) (same_verdict w one)));
}

-- ---- the refusals

out_of-kinds : (n : ℕ) → ¬ Between 1 n 2 → in_ranges (ranges diagram_line) (n ∷ []) ≡ false
out_of-kinds n other = go (in_ranges (ranges diagram_line) (n ∷ [])) refl
  where
    go : (b : Bool) → in_ranges (ranges diagram_line) (n ∷ []) ≡ b → b ≡ false
    go false e = refl
    go true e = absurd (other (unfold ranges first_of in ((tested_decides diagram_line (n ∷ []) []).0 (rw e)).0.0))

refuses_kind : (n : ℕ) → ¬ Between 1 n 2 → (rest : List ℕ)
    → (n ≤ 999999 → diagram_in text_line (written text_form (line_of_count diagram_line n ∷ []) ++ rest) ≡ refused 2 1 0)
    × (diagram_in table_line (n ∷ rest) ≡ refused 2 1 0)
unfolding line_of_count fields ranges
refuses_kind n other rest = (
  λ small.
      rw (written_one text_form (line_of_count diagram_line n))
      (kind-refused text_line n _ rest (text_cuts.every diagram_line (n ∷ []) rest refl (each-cons _ small (each_nil _))) (out_of-kinds n other)),
  kind-refused table_line n (n ∷ rest) rest (first_number n rest) (out_of-kinds n other),
)

module _ (ts : List ObjectType) (p : ℕ) (ps : List Predicate) (h : PredHead) (rs : List Role) (r : Role) (o : OnlyLimits ts p ps h rs r)
    (above : r.rmax < r.rmin) where
  four : first_of (role_tests (length ts) h.groups r) ≡ some 4
  unfolding role_tests first_of
  four =
      rw (le-leb r.type (length ts) o.type, le-leb r.group h.groups o.group, lt-leb r.rmin r.rmax above, first_of) refl

  preds-before : NextPreds 2 (length ts) 0 0 (length ps) ps
  preds-before =
      (next-preds-iff 2 (length ts) 0 0 (length ps) ps (omega arith) (omega arith)).1
      (record {
        counted = refl;
        each = o.faultless_preds;
        limits = λ q m e. absurd (omega arith);
        role_total = omega (arith, o.head.role_total);
        group_total = omega (arith, o.head.group_total);
      })

-- ---- the statement

pub role-limits : RoleLimits
unfolding read_call write_call program reported
    verdict_from lower upper limits limits_of_type placed first_pred first_role first_group roles_of_type must_play all_roles all_groups
    answer constraints K10 all_played
role-limits = record {
  lines = role-lines;
  of_text = text-kinds;
  of_table = table-limits;
  same_verdict = λ ts ps. refl;
  same_answer = λ ts ps o. refl;
  round_trip = λ t d e.
      let (is, w) = (table-accepted-iff t d).0 e in (
        λ space. ap (◌>>= λ b. fitted space (render b)) e,
        λ space. ap (◌>>= λ b. fitted space (table b)) (accepted-table-text t d e) ∙ ap (fitted space) (sym is),
      );
  bytes_read = λ input.
      let whole : take 8192 (take 8192 input) ≡ take 8192 input = take_all 8192 (take 8192 input) (omega (arith, length-take 8192 input)) in
      rw whole refl;
  unchanged = unchanged;
  refuses_kind = refuses_kind;
  refuses = λ ts p ps h rs r o above rest.
      let types = (all-types-iff ts).1 o.faultless_types in
      let preds = preds-before ts p ps h rs r o above in
      let fails = four ts p ps h rs r o above in (
        diagram-refused text_form text_line text_cuts ts o.types types p ps o.preds o.room preds h rs o.head o.more
            o.faultless_roles r o.within_ranges fails rest,
        diagram-refused table_form table_line table_cuts ts o.types types p ps o.preds o.room preds h rs o.head o.more
            o.faultless_roles r o.within_ranges fails rest,
      );
}
