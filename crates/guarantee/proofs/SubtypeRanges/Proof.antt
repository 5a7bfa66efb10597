-- The proof of S-5's statement.
use Rattle.std.specs.Prelude.{ℕ, suc, ◌+◌, ◌-◌, min, ◌≡◌, refl, ◌↔◌, Bool, true, false, List, [], ◌∷◌, length, take}
use Rattle.std.proofs.Common.{le_trans, arith, sym, ap, ◌∙◌, inr, ⊎_elim, le-leb, lt-ltb}
use Rattle.std.proofs.Math.Nat.{min-le_right}
use Rattle.std.proofs.Math.Path.{fun_ext}
use Rattle.std.proofs.lemmas.Bool.{false≢true}
use Rattle.std.proofs.Math.Option.{some}
use Rattle.counting.specs.Distinct.{all}
use Rattle.counting.proofs.Laws.Distinct.{all-fails}
use Rattle.counting.specs.Terms.{◌∈◌}
use Rattle.counting.proofs.Laws.Index.{at-below, at-get_or, below_at, each-from-at}
use Rattle.counting.specs.Index.{At}
use Rattle.fixpoint.specs.Limits.{run}
use Rattle.orm.specs.Diagram.{ObjectType, Diagram, LineKind, table}
use Rattle.orm.specs.Supertypes.{first_value, has_range, last_value}
use Rattle.orm.specs.Reader.{Cut}
use Rattle.orm.specs.Form.{◌to◌, in_range, ◌unless◌, first_of, values_in_order, type_tests}
use Rattle.orm.specs.Text.{text_line, table_line}
use Rattle.orm.specs.Sets.{lower, upper_of_type, limits, verdict, verdict_from}
use Rattle.orm.specs.Population.{Population, cells}
use Rattle.orm.specs.Populate.{population}
use Rattle.orm.specs.Constraints.{Answer, members_of, K3, breaks, first_broken, answer}
use Rattle.orm.specs.Outcome.{Outcome, refused, accepted, ◌>>=◌}
use Rattle.orm.specs.Calls.{diagram_in, sizes_of, population_in, read_call, write_call, settled_into, check_call, populate_call, validate_call}
use Rattle.orm.specs.Program.{output, reported, program}
use Rattle.orm.specs.Meaning.{Between, M3}
use Rattle.orm.specs.WellFormed.{TypeForm, WellFormed}
use Rattle.orm.proofs.Laws.Decided.{in_range_decides, has_range_decides}
use Rattle.orm.proofs.Laws.Named.{Fails, named-K3}
use Rattle.orm.proofs.Laws.Rounds.{own-bounds}
use Rattle.orm.proofs.Laws.Supertypes.{form-supers, root-reached, nearest-reached}
use Rattle.reading.specs.Laws.{table-accepted-iff}
use Rattle.reading.specs.Cutting.{text_form, table_form, text_cuts, table_cuts}
use Rattle.reading.specs.Kinds.{values_decides}
use Rattle.reading.specs.Types.{all-types-iff}
use Rattle.sound.proofs.Each.{each-type}
use Rattle.complete.specs.Solved.{Solved}
use Rattle.complete.proofs.Solved.{type-most, upper-type}
use Rattle.complete.proofs.Laws.{fixpoint-solved}
use Rattle.guarantee.specs.SubtypeRanges.Before.{WithoutRanges, diagram_in01, verdict_in01, answer_in01}
use Rattle.guarantee.specs.SubtypeRanges.CallsBefore.{report_in01}
use Rattle.guarantee.proofs.SubtypeRanges.Kept.{accepted-before, refused-before, same-uppers, same-constraints}
use Rattle.guarantee.proofs.SubtypeRanges.Refused.{diagram-refused}
use Rattle.guarantee.specs.SubtypeRanges.{RangedSubtype, PlainSubtype, Allowed, OutOfRange, TableRanges, Unchanged, OnlyPair, SubtypeRanges}

-- ---- a pair

has_range_lem : {t : ObjectType} → RangedSubtype t → has_range t ≡ true
has_range_lem {t} r = (has_range_decides t).1 (inr r.given)

has-none : {t : ObjectType} → PlainSubtype t → has_range t ≡ false
has-none {t} p = go (has_range t) refl
  where
    go : (b : Bool) → has_range t ≡ b → b ≡ false
    go false e = refl
    go true e = absurd (⊎_elim p.subtype (λ n. n (p.first, p.last)) ((has_range_decides t).0 e))

may_give : (types : List ObjectType) {t : ObjectType} → RangedSubtype t → (values_in_order types t ≡ true) ↔ Allowed types t
unfolding first_value last_value
may_give types {t} r = (
  λ e.
      let (ordered, within) = (values_decides types t).0 e (inr r.given) in
      record { first_of_root = (within r.subtype).0; ordered = ordered; within_nearest = (within r.subtype).1 },
  λ a. (values_decides types t).1 (λ h. (a.ordered, λ n. (a.first_of_root, a.within_nearest))),
)

none_given : {t : ObjectType} → PlainSubtype t
    → ((types : List ObjectType) → values_in_order types t ≡ true) × (upper_of_type t ≡ t.max) × ((vs : List ℕ) → K3 t vs ≡ true)
unfolding values_in_order upper_of_type K3
none_given {t} p = (λ types. rw (has-none p, values_in_order), rw (has-none p, upper_of_type), λ vs. rw (has-none p, K3))

-- ---- a table

starts : {t : ObjectType} → RangedSubtype t → upper_of_type t ≡ min t.max (t.last - t.first + 1)
unfolding upper_of_type
starts r = rw (has_range_lem r, upper_of_type)

-- the members of the type at an index
members-at : (o : Population) {a : ℕ} {vs : List ℕ} → At vs o.types a → members_of o (suc a) ≡ vs
unfolding members_of
members-at o {a} {vs} h = let e : suc a - 1 ≡ a = omega arith in rw e (at-get_or [] h)

outside_range : (low high : ℕ) (vs : List ℕ) → all (in_range (low to high)) vs ≡ false → (v : ℕ) × (v ∈ vs) × (¬ Between low v high)
outside_range low high vs e =
    let (v, m, f) = all-fails (in_range (low to high)) vs e in
    (v, m, λ h. false≢true (sym f ∙ (in_range_decides low v high).1 h))

out_of_range : (d : Diagram) (s : List ℕ) (o : Population) {number : ℕ} → population_in d s ≡ accepted o → Fails (λ n. K3) d o number
    → OutOfRange d s number
unfolding K3
out_of_range d s o {number} cut f = go (has_range f.type) refl f.fails
  where
    go : (b : Bool) → has_range f.type ≡ b → elim b [ true ↦ all (in_range (f.type.first to f.type.last)) f.members | false ↦ true ] ≡ false
        → OutOfRange d s number
    go false e k = absurd (false≢true (sym k))
    go true e k =
        let (v, m, n) = outside_range f.type.first f.type.last f.members k in
        record {
          place = f.place;
          type = f.type;
          standing = f.standing;
          numbered = f.numbered;
          ranged = (has_range_decides f.type).0 e;
          population = o;
          cut = cut;
          value = v;
          member = rw (f.numbered, members-at o f.held) m;
          outside = n;
        }

validated : (table : List ℕ) (d : Diagram) → diagram_in table_line table ≡ accepted d → (s : List ℕ) (number : ℕ)
    → validate_call table s ≡ accepted (breaks 3 number) → OutOfRange d s number
unfolding validate_call
validated table d e s number q = go (population_in d s) refl (rw (e, validate_call) at q)
  where
    go : (r : Outcome Population) → population_in d s ≡ r → (r >>= λ o. accepted (answer d o)) ≡ accepted (breaks 3 number) → OutOfRange d s number
    go (refused n place round) c z = let y : ◌≡◌ {A = ℕ} 0 1 = cc in absurd (omega arith)
    go (accepted o) c z = out_of_range d s o c (named-K3 d o (cc))

table-ranges : (table : List ℕ) (d : Diagram) → diagram_in table_line table ≡ accepted d → TableRanges table d
unfolding first_value last_value
table-ranges table d e =
    let w : WellFormed d = ((table-accepted-iff table d).0 e).1 in
    record {
      allowed = λ h r.
          let f = each-from-at (TypeForm d.types) 1 w.types h in
          let (first, last) = f.within (inr r.given) r.subtype in
          record { first_of_root = first; ordered = f.values (inr r.given); within_nearest = last };
      starts = λ h r. upper-type d h ∙ starts r;
      settles = λ {a} {t} h r p.
          let solved : Solved d p.settled = fixpoint-solved w (own-bounds d) p.settled_after.defined in
          le_trans (type-most solved h) (rw (starts r) (min-le_right t.max (t.last - t.first + 1)));
      covered = λ o {a} {t} h r v m.
          let (vs, q) = below_at o.population.types a (omega (arith, at-below h, o.shaped.types)) in
          each-type M3 1 o.meets.k3 h q (inr r.given) v (rw (members-at o.population q) at m);
      validated = validated table d e;
      starts_plain = λ h p. upper-type d h ∙ (none_given p).1;
    }

-- ---- what did not change

-- What follows the reading is the same of the diagram that was read before
still : {A : Type 0} (next : LineKind → List ℕ → Cut) (s : List ℕ) {d : Diagram} (rest before : Diagram → Outcome A) → diagram_in01 next s ≡ accepted d
    → (WithoutRanges d → rest d ≡ before d) → (diagram_in next s >>= rest) ≡ (diagram_in01 next s >>= before)
still next s {d} rest before e same =
    let (now, plain) = (accepted-before next s d).0 e in
    ap (◌>>= rest) now ∙ same plain ∙ sym (ap (◌>>= before) e)

same_verdict : (d : Diagram) → WithoutRanges d → verdict d ≡ verdict_in01 d
unfolding verdict_from
same_verdict d plain = ap (run (limits d) (lower d)) (same-uppers d plain)

same_answer : (d : Diagram) → WithoutRanges d → (o : Population) → answer d o ≡ answer_in01 d o
unfolding answer
same_answer d plain o = ap (first_broken 1) (same-constraints d plain o)

unchanged : Unchanged
unfolding read_call write_call check_call populate_call validate_call sizes_of program reported
unchanged = record {
  form = accepted-before;
  refusals = refused-before;
  bounds = same-uppers;
  constrained = same-constraints;
  reads = λ text d e space. still text_line text _ _ e (λ plain. refl);
  writes = λ t d e space. still table_line t _ _ e (λ plain. refl);
  checks = λ t d e space. still table_line t _ _ e (λ plain. ap (λ v. settled_into 7 (λ c. c) v space) (same_verdict d plain));
  populates = λ t d e space. still table_line t _ _ e (λ plain. ap (λ v. settled_into 7 (λ c. cells (population d c)) v space) (same_verdict d plain));
  validates = λ t d e s.
      still table_line t _ _ e
      (λ plain. ap (λ (judge : Population → Answer). population_in d s >>= λ o. accepted (judge o)) (fun_ext (same_answer d plain)));
  prints = λ input d e. ap output (still text_line (take 8192 input) _ _ e (λ plain. ap (report_in01 d) (same_verdict d plain)));
}

-- ---- a pair that is not allowed

four : (kind n : ℕ) (ts : List ObjectType) (t : ObjectType) → OnlyPair kind n ts t → RangedSubtype t → ¬ Allowed ts t
    → first_of (type_tests (suc (length ts)) ts t) ≡ some 4
unfolding type_tests first_of
four kind n ts t o r not_allowed =
    rw (lt-ltb t.super (suc (length ts)) o.above, le-leb t.min t.max o.sizes, first_of) (go (values_in_order ts t) refl)
  where
    go : (b : Bool) → values_in_order ts t ≡ b → first_of (4 unless b ∷ []) ≡ some 4
    go false e = refl
    go true e = absurd (not_allowed ((may_give ts r).0 e))

-- ---- the statement

pub subtype-ranges : SubtypeRanges
subtype-ranges = record {
  of_table = table-ranges;
  may_give = may_give;
  root_is = λ {d} w a. root-reached d.types (form-supers d.types d.types w.types) a;
  nearest_is = λ {d} w a. nearest-reached d.types (form-supers d.types d.types w.types) a;
  none_given = none_given;
  unchanged = unchanged;
  refuses = λ kind n ts t o r not_allowed rest.
      let types = (all-types-iff ts).1 o.faultless in
      let fails = four kind n ts t o r not_allowed in (
        diagram-refused text_form text_line text_cuts ts t o.within_ranges fails kind o.kinds n o.types types o.room rest,
        diagram-refused table_form table_line table_cuts ts t o.within_ranges fails kind o.kinds n o.types types o.room rest,
      );
}
