-- Reading before S-5 and now: the same, but where a line was refused with 4 before. So a diagram was accepted just where it is accepted now and no
-- subtype of it gives FIRST and LAST; and bounds and constraints of such a diagram are those of before.
use Prim.Native.Nat.{ℕ, zero, suc, ◌-◌, ◌+◌, min}
use Rattle.std.proofs.Common.{arith, ◌∙◌, length-append}
use Rattle.std.proofs.Math.Path.{◌≡◌, refl, sym, ap, ap₂}
use Rattle.std.specs.Prelude.{◌↔◌, Bool, ◌&&◌, ◌||◌, leb, ltb, length}
use Rattle.std.proofs.Math.Bool.{true, false, not, false≢true, and-eq-true_iff}
use Rattle.std.proofs.Math.Option.{Option, none, some}
use mathlib.Core.List.{List, [], ◌∷◌, ◌++◌, map}
use borrow.Author.Tests.{eq-eqb, eqb-true, eqb-false}
use Rattle.std.proofs.Math.Dec.{eqb}
use Rattle.counting.specs.Lists.{up_from}
use Rattle.counting.specs.Distinct.{all}
use Rattle.counting.specs.Terms.{Each}
use Rattle.counting.proofs.Laws.Members.{each_nil, each-cons, each-head, each_tail}
use Rattle.counting.proofs.Laws.Maps.{map_congr}
use Rattle.orm.specs.Diagram.{ObjectType, Frequency, Predicate, Diagram, LineKind, diagram_line, types_line, type_line, preds_line, end_line, is_root, all_roles, all_groups}
use Rattle.orm.specs.Supertypes.{has_range}
use Rattle.orm.specs.Reader.{Reading, rejected, read, Reader, ◌>>=◌, pure, for_each, at_end, Cut, broken, cut}
use Rattle.orm.proofs.Laws.Readers.{bind_cases}
use Rattle.orm.specs.Form.{◌unless◌, first_of, ◌to◌, in_range, in_ranges, ranges, count_of, type_of, end_tests, within_super, values_in_order, type_tests, line, count, types_after, predicates, diagram_lines, whole_diagram, reading}
use Rattle.orm.specs.Outcome.{refused, accepted, outcome_of}
use Rattle.orm.specs.Calls.{diagram_in}
use Rattle.orm.specs.Sets.{upper_of_type, upper_of_role, upper}
use Rattle.orm.specs.Population.{Population}
use Rattle.orm.specs.Constraints.{each_type, K3, constraints}
use Rattle.guarantee.specs.SubtypeRanges.Before.{WritesNone, WithoutRanges, values_in_order_in01, type_tests_in01, types_in01, diagram_lines_in01, whole_diagram_in01, reading_in01, diagram_in01}
use Rattle.guarantee.specs.SubtypeRanges.Before.{upper_of_type_in01, upper_in01, K3In01, constraints_in01}

-- ---- a type

module _ (t : ObjectType) (writes : WritesNone t) where
  -- it gives FIRST and LAST just where it is a root
  range_of-root : has_range t ≡ is_root t
  unfolding has_range is_root
  range_of-root = go (eqb t.super 0) refl
    where
      go : (b : Bool) → eqb t.super 0 ≡ b → (b || not (eqb t.first 0 && eqb t.last 0)) ≡ b
      go true e = refl
      go false e = let (f, l) = writes (eqb-false t.super 0 e) in rw (eq-eqb t.first 0 f, eq-eqb t.last 0 l)

  same-values : (before : List ObjectType) → values_in_order before t ≡ values_in_order_in01 t
  unfolding values_in_order values_in_order_in01
  same-values before = go (has_range t) (is_root t) (leb t.first t.last) range_of-root refl
    where
      go : (h r c : Bool) → h ≡ r → is_root t ≡ r
          → ◌≡◌ {A = Bool} (elim h [ true ↦ c && (r || within_super before t) | false ↦ true ])
          (elim r [ true ↦ c | false ↦ eqb t.first 0 && eqb t.last 0 ])
      go true true true e z = refl
      go true true false e z = refl
      go true false c e z = absurd (false≢true (sym e))
      go false true c e z = absurd (false≢true e)
      go false false c e z = let (f, l) = writes (eqb-false t.super 0 (unfold is_root in z)) in rw (eq-eqb t.first 0 f, eq-eqb t.last 0 l)

  same-upper : upper_of_type t ≡ upper_of_type_in01 t
  unfolding upper_of_type upper_of_type_in01
  same-upper = ap (λ (b : Bool). elim b as (λ _. ℕ) [ true ↦ min t.max (t.last - t.first + 1) | false ↦ t.max ]) range_of-root

  same-K3 : (vs : List ℕ) → K3 t vs ≡ K3In01 t vs
  unfolding K3 K3In01
  same-K3 vs = ap (λ (b : Bool). elim b as (λ _. Bool) [ true ↦ all (in_range (t.first to t.last)) vs | false ↦ true ]) range_of-root

-- a subtype in order wrote 0,0
wrote_none : (t : ObjectType) → values_in_order_in01 t ≡ true → WritesNone t
unfolding values_in_order_in01 is_root
wrote_none t e n = go (eqb t.super 0) refl e
  where
    go : (b : Bool) → eqb t.super 0 ≡ b → elim b [ true ↦ leb t.first t.last | false ↦ eqb t.first 0 && eqb t.last 0 ] ≡ true
        → (t.first ≡ 0) × (t.last ≡ 0)
    go true z e = absurd (n (eqb-true t.super 0 z))
    go false z e = let (f, l) = (and-eq-true_iff _ _).0 e in (eqb-true t.first 0 f, eqb-true t.last 0 l)

-- ---- readers before and now

-- What is read, if anything is, is what `P` holds of
abbrev Reads : {A : Type 0} → (A → Type 0) → Reading A → Type 0
Reads {A} P r = (a : A) (n : ℕ) (rest : List ℕ) → r ≡ read a n rest → P a

-- They read the same, which `P` holds of; or the one before refuses with 4, and the one now reads nothing that `P` holds of
data Kept {A : Type 0} (P : A → Type 0) (before now : Reading A) : Type 0 where
  same : before ≡ now → Reads P before → Kept P before now
  four : (place : ℕ) → before ≡ rejected 4 place → Reads (λ a. ¬ P a) now → Kept P before now

abbrev KeptBy : {A : Type 0} → (A → Type 0) → Reader A → Reader A → Type 0
KeptBy P m m' = (n : ℕ) (s : List ℕ) → Kept P (m n s) (m' n s)

refuses-all : {A : Type 0} (P : A → Type 0) (c at : ℕ) → Reads P (rejected c at)
refuses-all P c at a n rest e = let z : ◌≡◌ {A = ℕ} 0 1 = cc in absurd (omega arith)

-- one reader after another; what the second reads and `Q` holds of comes from what `P` holds of
kept_bind : {A B : Type 0} {P : A → Type 0} {Q : B → Type 0} (m m' : Reader A) (f f' : A → Reader B) → KeptBy P m m'
    → ((a : A) → P a → KeptBy Q (f a) (f' a))
    → ((a : A) (n : ℕ) (s : List ℕ) (b : B) (k : ℕ) (rest : List ℕ) → f' a n s ≡ read b k rest → Q b → P a)
    → KeptBy Q (m >>= f) (m' >>= f')
kept_bind {A} {B} {P} {Q} m m' f f' first second of n s = go (m n s) (m' n s) (first n s)
  where
    then : (A → Reader B) → Reading A → Reading B
    then g r = elim r [ rejected c at ↦ rejected c at | read a i t ↦ g a i t ]

    after : (r : Reading A) → Reads P r → Kept Q (then f r) (then f' r)
    after (rejected c at) reads = same refl (refuses-all Q c at)
    after (read a i t) reads = second a (reads a i t refl) i t

    never : (r : Reading A) → Reads (λ a. ¬ P a) r → Reads (λ b. ¬ Q b) (then f' r)
    never (rejected c at) w = refuses-all (λ b. ¬ Q b) c at
    never (read a i t) w = λ b k rest e q. w a i t refl (of a i t b k rest e q)

    go : (r r' : Reading A) → Kept P r r' → Kept Q (then f r) (then f' r')
    go r r' (same e reads) = rw e (after r' (λ a i t q. reads a i t (e ∙ q)))
    go r r' (four place e w) = four place (ap (then f) e) (never r' w)

-- the same reader first
kept-after : {A B : Type 0} {Q : B → Type 0} (m : Reader A) (f f' : A → Reader B) → ((a : A) → KeptBy Q (f a) (f' a)) → KeptBy Q (m >>= f) (m >>= f')
kept-after m f f' second =
    kept_bind {P = λ a. Unit {0}} m m f f' (λ n s. same refl (λ a i t e. tt)) (λ a w. second a) (λ a n s b k rest e q. tt)

module _ (next : LineKind → List ℕ → Cut) where
  -- a line that is cut off, by its first fault
  ended : ℕ → List ℕ → List ℕ → Option ℕ → Reading ObjectType
  ended n v rest o = elim o [ some c ↦ rejected c n | none ↦ read (type_of v) (suc n) rest ]

  line_kept : (own : ℕ) (before : List ObjectType)
      → KeptBy WritesNone (line next type_line type_of (type_tests_in01 own)) (line next type_line type_of (type_tests own before))
  unfolding line type_tests_in01 type_tests first_of ended
  line_kept own before n s = go (next type_line s)
    where
      tested : (v rest : List ℕ) (a b c x y : Bool) → x ≡ values_in_order_in01 (type_of v) → y ≡ values_in_order before (type_of v)
          → Kept WritesNone (ended n v rest (first_of (2 unless a ∷ 3 unless b ∷ 4 unless c ∷ 4 unless x ∷ [])))
          (ended n v rest (first_of (2 unless a ∷ 3 unless b ∷ 4 unless c ∷ 4 unless y ∷ [])))
      tested v rest false b c x y ex ey = same refl (refuses-all WritesNone 2 n)
      tested v rest true false c x y ex ey = same refl (refuses-all WritesNone 3 n)
      tested v rest true true false x y ex ey = same refl (refuses-all WritesNone 4 n)
      tested v rest true true true true true ex ey = same refl λ t k r e. let z : t ≡ type_of v = cc in rw z (wrote_none (type_of v) (sym ex))
      tested v rest true true true true false ex ey =
          absurd (false≢true (ey ∙ same-values (type_of v) (wrote_none (type_of v) (sym ex)) before ∙ sym ex))
      tested v rest true true true false false ex ey = same refl (refuses-all WritesNone 4 n)
      tested v rest true true true false true ex ey =
          four n refl λ t k r e p.
          let z : t ≡ type_of v = cc in
          false≢true (ex ∙ sym (same-values (type_of v) (rw z at p) before) ∙ sym ey)

      go : (c : Cut) → Kept WritesNone
          (elim c [
            | broken ↦ rejected 1 n
            | cut v rest ↦ ended n v rest (first_of (2 unless in_ranges (ranges type_line) v ∷ type_tests_in01 own (type_of v)))
          ])
          (elim c [
            | broken ↦ rejected 1 n
            | cut v rest ↦ ended n v rest (first_of (2 unless in_ranges (ranges type_line) v ∷ type_tests own before (type_of v)))
          ])
      go broken = same refl (refuses-all WritesNone 1 n)
      go (cut v rest) =
          tested v rest (in_ranges (ranges type_line) v) (ltb (type_of v).super own) (leb (type_of v).min (type_of v).max)
          (values_in_order_in01 (type_of v)) (values_in_order before (type_of v)) refl refl

  types-kept : (before : List ObjectType) (k : ℕ)
      → KeptBy (Each WritesNone) (types_in01 next (up_from (suc (length before)) k)) (types_after next before k)
  unfolding types_in01 up_from for_each types_after
  types-kept before zero n s = same refl λ ts j rest e. let z : ts ≡ [] = cc in rw z (each_nil _)
  types-kept before (suc k) n s =
      kept_bind _ _ _ _ (line_kept (suc (length before)) before)
      (λ t w. kept_bind _ _ _ _ (others t (types-kept (before ++ t ∷ []) k)) (λ ts ws n s. same refl (cons t ts w ws n s)) (tail t)) head n s
    where
      Others : ObjectType → ℕ → Type 0
      Others t l = KeptBy (Each WritesNone) (types_in01 next (up_from (suc l) k)) (types_after next (before ++ t ∷ []) k)

      others : (t : ObjectType) → Others t (length (before ++ t ∷ [])) → Others t (suc (length before))
      others t h = let own : length (before ++ t ∷ []) ≡ suc (length before) = length-append before (t ∷ []) ∙ omega arith in rw own at h

      cons : (t : ObjectType) (ts : List ObjectType) → WritesNone t → Each WritesNone ts → (n : ℕ) (s : List ℕ)
          → Reads (Each WritesNone) (pure (t ∷ ts) n s)
      cons t ts w ws n s us j rest e = let z : us ≡ t ∷ ts = cc in rw z (each-cons _ w ws)

      tail : (t : ObjectType) (ts : List ObjectType) (n : ℕ) (s : List ℕ) (us : List ObjectType) (j : ℕ) (rest : List ℕ)
          → pure (t ∷ ts) n s ≡ read us j rest → Each WritesNone us → Each WritesNone ts
      tail t ts n s us j rest e w = let z : us ≡ t ∷ ts = cc in each_tail _ (rw z at w)

      head : (t : ObjectType) (n : ℕ) (s : List ℕ) (us : List ObjectType) (j : ℕ) (rest : List ℕ)
          → (types_after next (before ++ t ∷ []) k >>= λ ts. pure (t ∷ ts)) n s ≡ read us j rest → Each WritesNone us → WritesNone t
      head t n s us j rest e w =
          bind_cases (types_after next (before ++ t ∷ []) k) _ n s e λ ts i u h e'.
          let z : us ≡ t ∷ ts = cc in
          each-head _ (rw z at w)

  -- the lines after the types; the diagram that they make has these types
  after_types : ℕ → ℕ → List ObjectType → Reader Diagram
  after_types kind t ts = do
    p ← count next preds_line
    ps ← predicates next kind t 0 0 p
    let d : Diagram = record { kind = kind; types = ts; preds = ps }
    n ← line next end_line count_of (end_tests (length (all_roles d)))
    pure d

  types_of : (kind t : ℕ) (ts : List ObjectType) (n : ℕ) (s : List ℕ) {d : Diagram} {k : ℕ} {rest : List ℕ}
      → after_types kind t ts n s ≡ read d k rest → d.types ≡ ts
  unfolding after_types
  types_of kind t ts n s {d} e =
      bind_cases (count next preds_line) _ n s e λ p i u h e'.
      bind_cases (predicates next kind t 0 0 p) _ i u e' λ ps j v h' e''.
      bind_cases (line next end_line count_of (end_tests (length (all_roles (record { kind = kind; types = ts; preds = ps }))))) _ j v e'' λ m l x h'' e'''.
      let z : d ≡ record { kind = kind; types = ts; preds = ps } = cc in
      ap (λ (x : Diagram). x.types) z

  lines-kept : KeptBy WithoutRanges (diagram_lines_in01 next) (diagram_lines next)
  unfolding diagram_lines_in01 diagram_lines after_types
  lines-kept =
      kept-after (count next diagram_line) _ _ λ kind.
      kept-after (count next types_line) _ _ λ t.
      kept_bind (types_in01 next (up_from 1 t)) (types_after next [] t) (after_types kind t) (after_types kind t) (types-kept [] t)
      (λ ts ws n s. same refl (λ d k rest e. rw (types_of kind t ts n s e) ws)) (λ ts n s d k rest e w. rw (types_of kind t ts n s e) at w)

  reading-kept : (s : List ℕ) → Kept WithoutRanges (reading_in01 next s) (reading next s)
  unfolding reading_in01 reading whole_diagram_in01 whole_diagram
  reading-kept s =
      kept_bind {Q = WithoutRanges} (diagram_lines_in01 next) (diagram_lines next) _ _ lines-kept
      (λ d w n s. same refl (λ b k rest e. rw (whole d n s e) w)) (λ d n s b k rest e w. rw (whole d n s e) at w) 1 s
    where
      whole : (d : Diagram) (n : ℕ) (s : List ℕ) {b : Diagram} {k : ℕ} {rest : List ℕ} → (at_end 1 >>= λ end. pure d) n s ≡ read b k rest → b ≡ d
      whole d n s {b} e = bind_cases (at_end 1) _ n s e λ end i u h e'. let z : b ≡ d = cc in z

  -- ---- the outcome

  module _ (s : List ℕ) where
    -- What was accepted is what is accepted and has no range on a subtype
    pub accepted-before : (d : Diagram) → (diagram_in01 next s ≡ accepted d) ↔ ((diagram_in next s ≡ accepted d) × WithoutRanges d)
    unfolding diagram_in01 diagram_in outcome_of
    accepted-before d = go (reading_in01 next s) (reading next s) (reading-kept s)
      where
        forward : (r r' : Reading Diagram) → Kept WithoutRanges r r' → outcome_of r ≡ accepted d → (outcome_of r' ≡ accepted d) × WithoutRanges d
        forward (rejected c at) r' kept e = let z : ◌≡◌ {A = ℕ} 0 1 = cc in absurd (omega arith)
        forward (read b n rest) r' (same z reads) e = let y : b ≡ d = cc in (rw (← z) e, rw (← y) (reads b n rest refl))
        forward (read b n rest) r' (four at z w) e = let y : ◌≡◌ {A = ℕ} 0 1 = cc in absurd (omega arith)

        back : (r r' : Reading Diagram) → Kept WithoutRanges r r' → outcome_of r' ≡ accepted d → WithoutRanges d → outcome_of r ≡ accepted d
        back r r' (same z reads) e w = rw z e
        back r (rejected c at) (four p z never) e w = let y : ◌≡◌ {A = ℕ} 0 1 = cc in absurd (omega arith)
        back r (read b n rest) (four p z never) e w = let y : b ≡ d = cc in absurd (never b n rest refl (rw y w))

        go : (r r' : Reading Diagram) → Kept WithoutRanges r r' → (outcome_of r ≡ accepted d) ↔ ((outcome_of r' ≡ accepted d) × WithoutRanges d)
        go r r' kept = (forward r r' kept, λ (e, w). back r r' kept e w)

    -- What was refused with another number than 4 is so still
    pub refused-before : (number place round : ℕ) → diagram_in01 next s ≡ refused number place round → ¬ (number ≡ 4)
        → diagram_in next s ≡ refused number place round
    unfolding diagram_in01 diagram_in outcome_of
    refused-before number place round e n = go (reading_in01 next s) (reading next s) (reading-kept s) e
      where
        go : (r r' : Reading Diagram) → Kept WithoutRanges r r' → outcome_of r ≡ refused number place round
            → outcome_of r' ≡ refused number place round
        go r r' (same q reads) e = rw (← q) e
        go r r' (four at q w) e = let z : number ≡ 4 = cc (ap outcome_of q) in absurd (n z)

-- ---- the rounds and the constraints

module _ (d : Diagram) (plain : WithoutRanges d) where
  pub same-uppers : upper d ≡ upper_in01 d
  unfolding upper upper_in01
  same-uppers =
      ap (λ (l : List ℕ).
      l ++ map (λ (p : Predicate). p.max) d.preds ++ map upper_of_role (all_roles d) ++ map (λ (f : Frequency). 4096) (all_groups d))
      (map_congr upper_of_type upper_of_type_in01 d.types (λ t m. same-upper t (plain t m)))

  same_tests : (n : ℕ) (ts : List ObjectType) (os : List (List ℕ)) → Each WritesNone ts → each_type (λ n. K3) n ts os ≡ each_type (λ n. K3In01) n ts os
  unfolding each_type
  same_tests n [] os p = refl
  same_tests n (t ∷ ts) [] p = refl
  same_tests n (t ∷ ts) (vs ∷ os) p =
      ap₂ {C = List Bool} (λ (b : Bool) (bs : List Bool). b ∷ bs) (same-K3 t (each-head _ p) vs) (same_tests (suc n) ts os (each_tail _ p))

  pub same-constraints : (o : Population) → constraints d o ≡ constraints_in01 d o
  unfolding constraints constraints_in01
  same-constraints o = rw (same_tests 1 d.types o.types plain) refl
