-- A text of the first kind is accepted or refused by its first 4,096 bytes: each line is read from few bytes, and lines without a fault take
-- few in all, so that the first fault stands among them.
use Prim.Native.Nat.{ℕ, zero, suc, ◌+◌, ◌-◌, ◌*◌, ◌≤◌, ◌<◌}
use Rattle.std.proofs.Math.Nat.{mul-suc}
use native.Mathlib.Omega.{arith}
use Rattle.std.proofs.Math.Path.{◌≡◌, refl, sym, ap}
use Rattle.std.proofs.Common.{ap₂, ◌∙◌, lit≤}
use Rattle.std.proofs.Math.Option.{Option, none, some}
use mathlib.Core.List.{List, [], ◌∷◌, ◌++◌, map, flat_map, append_assoc}
use Rattle.std.proofs.Math.ListN.{length, length-append}
use Rattle.std.specs.Prelude.{drop}
use Rattle.counting.specs.Lists.{up_from}
use Rattle.counting.specs.Terms.{EachFrom}
use Rattle.counting.proofs.Laws.Range.{length-up_from}
use Rattle.counting.proofs.Laws.Members.{each_nil, each-cons, each-head, each_tail}
use Rattle.orm.specs.Diagram.{ObjectType, Predicate, Diagram, LineKind, diagram_line, types_line, type_line, preds_line, pred_line, role_line, freq_line, end_line}
use Rattle.orm.specs.Diagram.{limits_roles, role_line_of, line_of_count, line_of_type, lines_of_pred, all_roles, lines}
use Rattle.orm.specs.Reader.{Reading, rejected, read, Reader, ◌>>=◌, pure, for_each, at_end, Cut, broken, cut}
use Rattle.orm.proofs.Laws.Readers.{bind_read, bind_rejected, bind_cases, cut-cons}
use Rattle.orm.specs.Form.{Test, ◌unless◌, first_of, ranges, in_ranges, fields, count_of, type_of, role_of, group_of, head_of, type_tests, pred_tests, role_tests, group_tests, end_tests}
use Rattle.orm.specs.Form.{line, count, types_after, predicate, predicates, diagram_lines, whole_diagram, reading}
use Rattle.orm.specs.Outcome.{outcome_of}
use Rattle.orm.specs.Calls.{diagram_in}
use Rattle.orm.specs.Meaning.{Between}
use Rattle.orm.specs.WellFormed.{TypeForm}
use Rattle.orm.specs.Text.{bytes, key, separator, decimal, values_text, line_text, Numeral, malformed, numeral, number, after, numbers, text_line}
use Rattle.reading.specs.Decimal.{bound, decimal-length, number_small}
use Rattle.reading.specs.Lines.{Small}
use Rattle.reading.specs.Cutting.{text_form, text_cuts}
use Rattle.reading.specs.Kinds.{head-exact, count-exact}
use Rattle.reading.specs.Exact.{written, written_one}
use Rattle.reading.specs.Diagrams.{diagram-exact}
use Rattle.reading.specs.Types.{next-types-length, all-types-iff, types-exact}
use Rattle.reading.specs.Predicates.{next-preds-iff, predicate-exact, predicates-exact}
use Rattle.reading.specs.TextLength.{types-size, role_bytes, pred-size, preds-size, rendered, text_bytes, text-length-by}

-- ---- the bytes of a line

numbers-small : (n : ℕ) (s v rest : List ℕ) → numbers n s ≡ cut v rest → Small v
unfolding numbers
numbers-small zero s v rest e = let z : v ≡ [] = cc in rw z (each_nil _)
numbers-small (suc n) s v rest e = go (number s) refl e (λ s₂ vs. numbers-small n s₂ vs rest)
  where
    behind : ℕ → Option (List ℕ) → Cut
    behind x o = elim o [ none ↦ broken | some s₂ ↦ elim (numbers n s₂) [ broken ↦ broken | cut vs r ↦ cut (x ∷ vs) r ] ]

    then : (x : ℕ) → x ≤ 999999 → (o : Option (List ℕ)) → behind x o ≡ cut v rest → ((s₂ vs : List ℕ) → numbers n s₂ ≡ cut vs rest → Small vs) → Small v
    then x h none e ih = let z : ◌≡◌ {A = ℕ} 0 1 = cc in absurd (omega arith)
    then x h (some s₂) e ih =
        let c = cut-cons (numbers n s₂) x v rest e in
        rw c.2 (each-cons _ h (ih s₂ c.0 c.1))

    go : (d : Numeral) → number s ≡ d
        → elim d [ malformed ↦ broken | numeral x s₁ ↦ behind x (after (separator n ∷ []) s₁) ] ≡ cut v rest
        → ((s₂ vs : List ℕ) → numbers n s₂ ≡ cut vs rest → Small vs) → Small v
    go malformed q e ih = let z : ◌≡◌ {A = ℕ} 0 1 = cc in absurd (omega arith)
    go (numeral x s₁) q e ih = then x (number_small s q) (after (separator n ∷ []) s₁) e ih

text-small : (k : LineKind) (s v rest : List ℕ) → text_line k s ≡ cut v rest → Small v
unfolding text_line
text-small k s v rest e = go (after (bytes (key k) ++ 61 ∷ []) s) e
  where
    go : (o : Option (List ℕ)) → elim o [ none ↦ broken | some r ↦ numbers (fields k) r ] ≡ cut v rest → Small v
    go none e = let z : ◌≡◌ {A = ℕ} 0 1 = cc in absurd (omega arith)
    go (some r) e = numbers-small (fields k) r v rest e

-- A number of six digits and what follows it
values-bytes : (v : List ℕ) → Small v → length (values_text v) ≤ 7 * length v
unfolding values_text
values-bytes [] h = omega arith
values-bytes (x ∷ v) h = omega (
  arith,
  length-append (decimal x) (separator (length v) ∷ values_text v),
  decimal-length 5 x (six x (each-head _ h)),
  values-bytes v (each_tail _ h),
)
  where
    six : (x : ℕ) → x ≤ 999999 → x < bound 6
    six x h = unfold bound in omega arith

-- No line of this kind is longer
line_bytes : LineKind → ℕ
line_bytes k = length (bytes (key k)) + 1 + 7 * fields k

line-bytes : (k : LineKind) (v : List ℕ) → length v ≡ fields k → Small v → length (line_text (key k) v) ≤ line_bytes k
unfolding line_text line_bytes
line-bytes k v l h = omega (arith, length-append (bytes (key k)) (61 ∷ values_text v), values-bytes v h, ap (7 *◌) l)

-- ---- more bytes behind those that a line is read from change nothing

front : (ls a more rest : List ℕ) → a ++ more ≡ ls ++ rest → length ls ≤ length a → a ≡ ls ++ drop (length ls) a
front [] a more rest e h = refl
front (x ∷ ls) [] more rest e h = absurd (omega arith)
front (x ∷ ls) (y ∷ a) more rest e h =
    let same : y ≡ x = cc in
    let others : a ++ more ≡ ls ++ rest = cc in
    ap₂ {C = List ℕ} (λ b l. b ∷ l) same (front ls a more rest others (omega arith))

module _ (more : List ℕ) where
  text-more : (k : LineKind) (a v rest : List ℕ) → text_line k a ≡ cut v rest → text_line k (a ++ more) ≡ cut v (rest ++ more)
  text-more k a v rest e =
      let (l, is) = text_cuts.only k a v rest e in
      rw (is, append_assoc (line_text (key k) v) rest more) (text_cuts.every k v (rest ++ more) l (text-small k a v rest e))

  text-broken : (k : LineKind) (a : List ℕ) → line_bytes k ≤ length a → text_line k a ≡ broken → text_line k (a ++ more) ≡ broken
  text-broken k a long e = go (text_line k (a ++ more)) refl
    where
      go : (c : Cut) → text_line k (a ++ more) ≡ c → c ≡ broken
      go broken q = refl
      go (cut v rest) q =
          let (l, is) = text_cuts.only k (a ++ more) v rest q in
          let small : Small v = text-small k (a ++ more) v rest q in
          let ls : List ℕ = line_text (key k) v in
          let own : a ≡ ls ++ drop (length ls) a = front ls a more rest is (omega (arith, line-bytes k v l small)) in
          let read-too : text_line k a ≡ cut v (drop (length ls) a) =
          ap (text_line k) own ∙ text_cuts.every k v (drop (length ls) a) l small in
          let z : ◌≡◌ {A = ℕ} 0 1 = cc in
          absurd (omega arith)

  -- what is read, with more behind the rest
  extended : {A : Type 0} → Reading A → Reading A
  extended (rejected c at) = rejected c at
  extended (read a n rest) = read a n (rest ++ more)

  -- The reader does the same with more bytes behind these
  abbrev Near : {A : Type 0} → Reader A → ℕ → List ℕ → Type 0
  Near m n a = m n (a ++ more) ≡ extended (m n a)

  bind_near : {A B : Type 0} (m : Reader A) (f : A → Reader B) (n : ℕ) (a : List ℕ) → Near m n a
      → ((v : A) (i : ℕ) (t : List ℕ) → m n a ≡ read v i t → Near (f v) i t) → Near (m >>= f) n a
  unfolding extended
  bind_near {A} {B} m f n a near then = go (m n a) refl
    where
      go : (r : Reading A) → m n a ≡ r → (m >>= f) n (a ++ more) ≡ extended ((m >>= f) n a)
      go (rejected c at) q =
          unfold extended in
          bind_rejected m f (near ∙ ap extended q) ∙ sym (ap extended (bind_rejected m f q))
      go (read v i t) q =
          unfold extended in
          bind_read m f n (a ++ more) v i (t ++ more) (near ∙ ap extended q) ∙ then v i t q ∙ sym (ap extended (bind_read m f n a v i t q))

  module _ {A : Type 0} (k : LineKind) (make : List ℕ → A) (tests : A → List Test) where
    line-near : (n : ℕ) (a : List ℕ) → line_bytes k ≤ length a → Near (line text_line k make tests) n a
    unfolding line extended
    line-near n a long = go (text_line k a) refl
      where
        ended : List ℕ → List ℕ → Option ℕ → Reading A
        ended v rest o = elim o [ some c ↦ rejected c n | none ↦ read (make v) (suc n) rest ]

        faults : List ℕ → Option ℕ
        faults v = first_of (2 unless in_ranges (ranges k) v ∷ tests (make v))

        same : (v rest : List ℕ) (o : Option ℕ) → ended v (rest ++ more) o ≡ extended (ended v rest o)
        same v rest none = unfold extended in refl
        same v rest (some c) = unfold extended in refl

        read_by : Cut → Reading A
        read_by c = elim c [ broken ↦ rejected 1 n | cut v rest ↦ ended v rest (faults v) ]

        go : (c : Cut) → text_line k a ≡ c → read_by (text_line k (a ++ more)) ≡ extended (read_by (text_line k a))
        go broken q = unfold extended in (ap read_by (text-broken k a long q) ∙ sym (ap (λ c. extended (read_by c)) q))
        go (cut v rest) q =
            ap read_by (text-more k a v rest q) ∙ same v rest (faults v) ∙ sym (ap (λ c. extended (read_by c)) q)

    line-uses : (n : ℕ) (a : List ℕ) (v : A) (i : ℕ) (t : List ℕ) → line text_line k make tests n a ≡ read v i t → length a ≤ line_bytes k + length t
    unfolding line
    line-uses n a v i t e = go (text_line k a) refl e
      where
        go : (c : Cut) → text_line k a ≡ c
            → elim c [
              | broken ↦ rejected 1 n
              | cut v rest ↦
                  elim (first_of (2 unless in_ranges (ranges k) v ∷ tests (make v))) [ some c ↦ rejected c n | none ↦ read (make v) (suc n) rest ]
            ] ≡ read v i t
            → length a ≤ line_bytes k + length t
        go broken q e = let z : ◌≡◌ {A = ℕ} 0 1 = cc in absurd (omega arith)
        go (cut w rest) q e = tested (first_of (2 unless in_ranges (ranges k) w ∷ tests (make w))) e
          where
            tested : (o : Option ℕ) → elim o [ some c ↦ rejected c n | none ↦ read (make w) (suc n) rest ] ≡ read v i t → length a ≤ line_bytes k + length t
            tested (some c) e = let z : ◌≡◌ {A = ℕ} 0 1 = cc in absurd (omega arith)
            tested none e =
                let same_rest : rest ≡ t = cc in
                let (l, is) = text_cuts.only k a w rest q in
                omega (
                  arith,
                  ap length is,
                  ap length same_rest,
                  length-append (line_text (key k) w) rest,
                  line-bytes k w l (text-small k a w rest q),
                )

  module _ {X A : Type 0} (k : LineKind) (make : List ℕ → A) (tests : X → A → List Test) where
    abbrev line_for : X → Reader A
    line_for x = line text_line k make (tests x)

    each-near : (xs : List X) (n : ℕ) (a : List ℕ) → line_bytes k * length xs ≤ length a → Near (for_each line_for xs) n a
    unfolding for_each extended
    each-near [] n a long = refl
    each-near (x ∷ xs) n a long =
        let all : line_bytes k * suc (length xs) ≡ line_bytes k + line_bytes k * length xs = omega (arith, mul-suc (line_bytes k) (length xs)) in
        bind_near (line_for x) _ n a (line-near k make (tests x) n a (omega arith))
        (λ v i t q.
        let left : line_bytes k * length xs ≤ length t = omega (arith, line-uses k make (tests x) n a v i t q) in
        bind_near (for_each line_for xs) _ i t (each-near xs i t left) (λ vs j u p. refl))

    each-uses : (xs : List X) (n : ℕ) (a : List ℕ) (vs : List A) (i : ℕ) (t : List ℕ) → for_each line_for xs n a ≡ read vs i t
        → length a ≤ line_bytes k * length xs + length t
    unfolding for_each
    each-uses [] n a vs i t e = let same : a ≡ t = cc in omega (arith, ap length same)
    each-uses (x ∷ xs) n a vs i t e =
        bind_cases (line_for x) _ n a e λ v j u q e₁.
        bind_cases (for_each line_for xs) _ j u e₁ λ ws l w p e₂.
        let same : w ≡ t = cc in
        omega (
          arith,
          mul-suc (line_bytes k) (length xs),
          ap length same,
          line-uses k make (tests x) n a v j u q,
          each-uses xs j u ws l w p,
        )

  types-near : (before : List ObjectType) (k n : ℕ) (a : List ℕ) → line_bytes type_line * k ≤ length a → Near (types_after text_line before k) n a
  unfolding types_after extended
  types-near before zero n a long = refl
  types-near before (suc k) n a long =
      let own = type_tests (suc (length before)) before in
      let all : line_bytes type_line * suc k ≡ line_bytes type_line + line_bytes type_line * k = omega (arith, mul-suc (line_bytes type_line) k) in
      bind_near (line text_line type_line type_of own) _ n a (line-near type_line type_of own n a (omega arith))
      (λ v i t q.
      let left : line_bytes type_line * k ≤ length t = omega (arith, line-uses type_line type_of own n a v i t q) in
      bind_near (types_after text_line (before ++ v ∷ []) k) _ i t (types-near (before ++ v ∷ []) k i t left) (λ vs j u p. refl))

  -- ---- predicates of the first kind

  predicate-near : (types roles groups n : ℕ) (a : List ℕ) → 303 ≤ length a → Near (predicate text_line 1 types roles groups) n a
  unfolding predicate extended line_bytes bytes key fields ranges role_line_of limits_roles
  predicate-near types roles groups n a long =
      bind_near (line text_line pred_line head_of (pred_tests roles groups)) _ n a (line-near pred_line head_of (pred_tests roles groups) n a (omega arith))
      (λ h i t q.
      let head = ((head-exact text_form text_line text_cuts roles groups).only n a h i t q).valid in
      let few_roles : length (up_from 1 h.roles) ≤ 6 = rw length-up_from head.arity.1 in
      let few_groups : length (up_from 1 h.groups) ≤ 6 = rw length-up_from head.few in
      let left : length a ≤ 33 + length t = line-uses pred_line head_of (pred_tests roles groups) n a h i t q in
      bind_near (for_each (λ (x : ℕ). line text_line role_line (role_of 1) (role_tests types h.groups)) (up_from 1 h.roles)) _ i t
      (each-near role_line (role_of 1) (λ (x : ℕ). role_tests types h.groups) (up_from 1 h.roles) i t (omega arith))
      (λ rs j u p.
      let left-too : length t ≤ 26 * length (up_from 1 h.roles) + length u =
      each-uses role_line (role_of 1) (λ (x : ℕ). role_tests types h.groups) (up_from 1 h.roles) i t rs j u p in
      bind_near (for_each (λ (g : ℕ). line text_line freq_line group_of (group_tests rs g)) (up_from 1 h.groups)) _ j u
      (each-near freq_line group_of (group_tests rs) (up_from 1 h.groups) j u (omega arith)) (λ gs l w e. refl)))

  module _ (types : ℕ) (few : types ≤ 32) where
    predicates-near : (roles groups k n : ℕ) (a : List ℕ) → 19 * k + 12 * (96 - roles) + 15 * (48 - groups) + 284 ≤ length a
        → Near (predicates text_line 1 types roles groups k) n a
    unfolding predicates extended role_bytes limits_roles
    predicates-near roles groups zero n a long = refl
    predicates-near roles groups (suc k) n a long =
        bind_near (predicate text_line 1 types roles groups) _ n a (predicate-near types roles groups n a (omega arith))
        (λ p i t q.
        let found = (predicate-exact text_form text_line text_cuts 1 types roles groups (omega arith) few).only n a p i t q in
        let left : 19 * k + 12 * (96 - (roles + length p.roles)) + 15 * (48 - (groups + length p.groups)) + 284 ≤ length t =
        omega (
          arith,
          ap length found.from,
          length-append (written text_form (lines_of_pred 1 p)) t,
          pred-size 1 types p few found.valid.form,
          found.valid.role_total,
          found.valid.group_total,
        ) in
        bind_near (predicates text_line 1 types (roles + length p.roles) (groups + length p.groups) k) _ i t
        (predicates-near (roles + length p.roles) (groups + length p.groups) k i t left) (λ ps j u e. refl))

    predicates_use : (k n : ℕ) (a : List ℕ) (ps : List Predicate) (i : ℕ) (t : List ℕ) → k ≤ 32
        → predicates text_line 1 types 0 0 k n a ≡ read ps i t → length a ≤ 2480 + length t
    unfolding role_bytes limits_roles
    predicates_use k n a ps i t some-preds e =
        let found = (predicates-exact text_form text_line text_cuts 1 types 0 0 k (omega arith) few).only n a ps i t e in
        let w = (next-preds-iff 1 types 0 0 k ps (omega arith) (omega arith)).0 found.valid in
        omega (
          arith,
          ap length found.from,
          length-append (written text_form (flat_map (lines_of_pred 1) ps)) t,
          preds-size 1 types ps few w.each,
          w.counted,
          w.role_total,
          w.group_total,
        )

  types_use : (k n : ℕ) (a : List ℕ) (ts : List ObjectType) (i : ℕ) (t : List ℕ) → k ≤ 32 → types_after text_line [] k n a ≡ read ts i t
      → length a ≤ 1088 + length t
  types_use k n a ts i t few e =
      let found = (types-exact text_form text_line text_cuts [] k (omega arith)).only n a ts i t e in
      let counted : length ts ≡ k = next-types-length [] k ts found.valid in
      let w : EachFrom (TypeForm ts) 1 ts = (all-types-iff ts).0 (rw counted found.valid) in
      omega (
        arith,
        ap length found.from,
        length-append (written text_form (map line_of_type ts)) t,
        types-size ts 1 ts (omega arith) w,
      )

  -- ---- the diagram

  -- What follows the first line of a file of the first kind
  abbrev after_kind : ℕ → Reader Diagram
  after_kind kind = do
    t ← count text_line types_line
    ts ← types_after text_line [] t
    p ← count text_line preds_line
    ps ← predicates text_line kind t 0 0 p
    let d : Diagram = record { kind = kind; types = ts; preds = ps }
    n ← line text_line end_line count_of (end_tests (length (all_roles d)))
    pure d

  after-near : (n : ℕ) (a : List ℕ) → 4081 ≤ length a → Near (after_kind 1) n a
  unfolding count extended line_bytes bytes key fields ranges
  after-near n a long =
      bind_near (count text_line types_line) _ n a (line-near types_line count_of (λ m. []) n a (omega arith))
      (λ t i b q.
      let some-types = ((count-exact text_form text_line text_cuts types_line 1 32 (unfold ranges in refl) (lit≤ tt)).only n a t i b q).valid in
      let left : length a ≤ 13 + length b = line-uses types_line count_of (λ m. []) n a t i b q in
      bind_near (types_after text_line [] t) _ i b (types-near [] t i b (omega arith))
      (λ ts j c r.
      let left₁ : length b ≤ 1088 + length c = types_use t i b ts j c some-types.1 r in
      bind_near (count text_line preds_line) _ j c (line-near preds_line count_of (λ m. []) j c (omega arith))
      (λ p l e s.
      let some-preds = ((count-exact text_form text_line text_cuts preds_line 1 32 (unfold ranges in refl) (lit≤ tt)).only j c p l e s).valid in
      let left₂ : length c ≤ 13 + length e = line-uses preds_line count_of (λ m. []) j c p l e s in
      bind_near (predicates text_line 1 t 0 0 p) _ l e (predicates-near t some-types.1 0 0 p l e (omega arith))
      (λ ps m f u.
      let left₃ : length e ≤ 2480 + length f = predicates_use t some-types.1 p l e ps m f some-preds.1 u in
      bind_near (line text_line end_line count_of (end_tests (length (all_roles (record { kind = 1; types = ts; preds = ps }))))) _ m f
      (line-near end_line count_of (end_tests (length (all_roles (record { kind = 1; types = ts; preds = ps })))) m f (omega arith)) (λ o g h v. refl)))))

  module _ (a : List ℕ) (long : 4096 ≤ length a) (other : (v rest : List ℕ) → text_line diagram_line a ≡ cut v rest → ¬ (count_of v ≡ 2)) where
    -- the number on the first line
    kind-one : (kind : ℕ) (rest : List ℕ) → Between 1 kind 2 → a ≡ text_form diagram_line (kind ∷ []) ++ rest → kind ≡ 1
    unfolding fields ranges count_of
    kind-one kind rest between is =
        let small : Small (kind ∷ []) = each-cons _ (omega arith) (each_nil _) in
        let first : text_line diagram_line a ≡ cut (kind ∷ []) rest =
        ap (text_line diagram_line) is ∙ text_cuts.every diagram_line (kind ∷ []) rest refl small in
        let not-two : ¬ (kind ≡ 2) = other (kind ∷ []) rest first in
        omega arith

    lines-near : Near (diagram_lines text_line) 1 a
    unfolding diagram_lines count extended line_bytes bytes key fields ranges line_of_count
    lines-near =
        bind_near (count text_line diagram_line) after_kind 1 a (line-near diagram_line count_of (λ m. []) 1 a (omega arith))
        (λ kind i t q.
        let found = (count-exact text_form text_line text_cuts diagram_line 1 2 (unfold ranges in refl) (lit≤ tt)).only 1 a kind i t q in
        let one : kind ≡ 1 =
        kind-one kind t found.valid (found.from ∙ ap (λ (l : List ℕ). l ++ t) (written_one text_form (line_of_count diagram_line kind))) in
        let left : length a ≤ 15 + length t = line-uses diagram_line count_of (λ m. []) 1 a kind i t q in
        rw one (after-near i t (omega arith)))

    end-near : (d : Diagram) (i : ℕ) (t : List ℕ) → 1 ≤ length t → Near (at_end 1 >>= λ end. pure d) i t
    unfolding at_end extended
    end-near d i [] h = absurd (omega arith)
    end-near d i (x ∷ t) h = refl

    -- the first line of the text of a diagram
    starts : (d : Diagram) (t : List ℕ) → (rest : List ℕ) × (written text_form (lines d) ++ t ≡ text_form diagram_line (d.kind ∷ []) ++ rest)
    unfolding written lines flat_map line_of_count
    starts d t = (_, append_assoc (text_form diagram_line (d.kind ∷ [])) _ t)

    reading-near : reading text_line (a ++ more) ≡ extended (reading text_line a)
    unfolding reading whole_diagram text_bytes limits_roles
    reading-near =
        bind_near (diagram_lines text_line) _ 1 a lines-near
        (λ d i t q.
        let found = (diagram-exact text_form text_line text_cuts).only 1 a d i t q in
        let (rest, first) = starts d t in
        let one : d.kind ≡ 1 = kind-one d.kind rest found.valid.kinds (found.from ∙ first) in
        end-near d i t
        (omega (
          arith,
          ap length found.from,
          length-append (written text_form (lines d)) t,
          ap length (rendered d),
          text-length-by d found.valid,
          ap text_bytes one,
        )))

-- More bytes behind the first 4,096 change nothing
pub read-from_prefix : (a more : List ℕ) → 4096 ≤ length a → ((v rest : List ℕ) → text_line diagram_line a ≡ cut v rest → ¬ (count_of v ≡ 2))
    → diagram_in text_line (a ++ more) ≡ diagram_in text_line a
unfolding diagram_in
read-from_prefix a more long other = ap outcome_of (reading-near more a long other) ∙ same (reading text_line a)
  where
    same : (r : Reading Diagram) → outcome_of (extended more r) ≡ outcome_of r
    same (rejected c at) = unfold extended in refl
    same (read d n rest) = unfold extended outcome_of in refl

-- and the first line is read from them
pub first-line-more : (a more v rest : List ℕ) → text_line diagram_line a ≡ cut v rest → text_line diagram_line (a ++ more) ≡ cut v (rest ++ more)
first-line-more a more v rest e = text-more more diagram_line a v rest e
