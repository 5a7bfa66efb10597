-- A line is read where its numbers are in their ranges and pass its tests, and from its own form.
use Prim.Native.Nat.{ℕ, suc, ◌+◌, ◌≤◌}
use Rattle.std.specs.Prelude.{◌≡◌, ◌↔◌, Bool, true, false, leb, length}
use Rattle.std.proofs.Math.Path.{refl}
use Rattle.std.proofs.Common.{ap, ◌∙◌, le_trans, add-one, arith, leb-true}
use Rattle.std.proofs.Math.Logic.Iff
use Rattle.std.proofs.lemmas.Bool.{false≢true}
use Rattle.std.proofs.Math.Bool.{and-eq-true_iff}
use Rattle.std.proofs.Math.Option.{Option, none, some}
use mathlib.Core.List.{List, [], ◌∷◌, ◌++◌}
use Rattle.std.proofs.Math.Nat.{suc_inj}
use Rattle.counting.specs.Terms.{Each}
use Rattle.counting.proofs.Laws.Members.{each_nil, each-cons, each-head, each_tail}
use Rattle.orm.specs.Diagram.{LineKind, Line}
use Rattle.orm.specs.Reader.{Reading, rejected, read, Cut, broken, cut}
use Rattle.orm.specs.Form.{Range, ◌to◌, unlimited, ranges, fields, in_range, in_ranges, Test, ◌unless◌, first_of, line}
use Rattle.orm.specs.Meaning.{Between}
use Rattle.orm.proofs.Laws.Decided.{in_range_decides}
use Rattle.reading.specs.Exact.{written, written_one, Read, Exact}

abbrev InRange : Range → ℕ → Type 0
InRange (low to high) v = Between low v high
InRange unlimited v = Unit {0}

in_range_decides_lem : (r : Range) (v : ℕ) → in_range r v ≡ true ↔ InRange r v
unfolding in_range
in_range_decides_lem (low to high) v = in_range_decides low v high
in_range_decides_lem unlimited v = (λ e. tt, λ h. refl)

-- Each number is in its range
abbrev pub InRanges : List Range → List ℕ → Type 0
InRanges [] vs = Unit {0}
InRanges (r ∷ rs) [] = Unit {0}
InRanges (r ∷ rs) (v ∷ vs) = InRange r v × InRanges rs vs

in_ranges_decides : (rs : List Range) (vs : List ℕ) → in_ranges rs vs ≡ true ↔ InRanges rs vs
unfolding in_ranges
in_ranges_decides [] vs = (λ e. tt, λ h. refl)
in_ranges_decides (r ∷ rs) [] = (λ e. tt, λ h. refl)
in_ranges_decides (r ∷ rs) (v ∷ vs) = Iff.trans (and-eq-true_iff _ _) (Iff.and (in_range_decides_lem r v) (in_ranges_decides rs vs))

-- Each test passes
abbrev pub Passed : List Test → Type 0
Passed [] = Unit {0}
Passed (c unless b ∷ ts) = (b ≡ true) × Passed ts

passed_decides : (ts : List Test) → first_of ts ≡ none ↔ Passed ts
unfolding first_of
passed_decides [] = (λ e. tt, λ h. refl)
passed_decides (c unless true ∷ ts) = (λ e. (refl, (passed_decides ts).0 e), λ h. (passed_decides ts).1 h.1)
passed_decides (c unless false ∷ ts) = (λ e. let z : ◌≡◌ {A = ℕ} 0 1 = cc in absurd (omega arith), λ h. absurd (false≢true h.0))

-- A test that passes leaves it to the others
passes : (c : ℕ) {b : Bool} → b ≡ true → (ts : List Test) → first_of (c unless b ∷ ts) ≡ first_of ts
unfolding first_of
passes c e ts = rw (e, first_of)

-- Numbers of at most 6 digits
abbrev pub Small : List ℕ → Type 0
Small vs = Each (◌≤ 999999) vs

-- The range has no number of more than 6 digits
unfoldable pub is_small : Range → Bool
is_small (low to high) = leb high 999999
is_small unlimited = false

in_range-small : (r : Range) (v : ℕ) → is_small r ≡ true → InRange r v → v ≤ 999999
unfolding is_small
in_range-small (low to high) v e h = le_trans h.1 (leb-true high 999999 e)
in_range-small unlimited v e h = absurd (false≢true e)

pub in_ranges-small : (rs : List Range) (vs : List ℕ) → length vs ≡ length rs → Each (λ r. is_small r ≡ true) rs → InRanges rs vs → Small vs
in_ranges-small [] [] l b h = each_nil _
in_ranges-small [] (v ∷ vs) l b h = absurd (omega arith)
in_ranges-small (r ∷ rs) [] l b h = each_nil _
in_ranges-small (r ∷ rs) (v ∷ vs) l b h =
    each-cons _ (in_range-small r v (each-head _ b) h.0) (in_ranges-small rs vs (suc_inj l) (each_tail _ b) h.1)

-- `next` cuts off just the lines in this form that have as many numbers as their kind, and no number too long
pub record Cuts (form : LineKind → List ℕ → List ℕ) (next : LineKind → List ℕ → Cut) : Type 0 where
  pub only : (k : LineKind) (s v rest : List ℕ) → next k s ≡ cut v rest → (length v ≡ fields k) × (s ≡ form k v ++ rest)
  pub every : (k : LineKind) (v rest : List ℕ) → length v ≡ fields k → Small v → next k (form k v ++ rest) ≡ cut v rest

-- The numbers of a line of this kind, and what is made of them
pub record Spelling {A : Type 0} (k : LineKind) (make : List ℕ → A) (line_of : A → Line) : Type 0 where
  pub spelled : (v : List ℕ) → length v ≡ fields k → line_of (make v) ≡ record { kind = k; values = v }
  pub kind : (a : A) → (line_of a).kind ≡ k
  pub counted : (a : A) → length (line_of a).values ≡ fields k

-- The numbers on the line of `a` are in their ranges, `a` passes its tests, and is what is made of them: they say all of it
abbrev pub LineForm : {A : Type 0} → LineKind → (List ℕ → A) → (A → List Test) → (A → Line) → A → Type 0
LineForm k make tests line_of a = InRanges (ranges k) (line_of a).values × (Passed (tests a) × (make (line_of a).values ≡ a))

pub tested_decides : (k : LineKind) (v : List ℕ) (ts : List Test)
    → first_of (2 unless in_ranges (ranges k) v ∷ ts) ≡ none ↔ (InRanges (ranges k) v × Passed ts)
tested_decides k v ts = Iff.trans (passed_decides _) (λ h. ((in_ranges_decides _ v).0 h.0, h.1), λ h. ((in_ranges_decides _ v).1 h.0, h.1))

-- A line that is cut off and has a number out of its range
pub out_of_range : {A : Type 0} (next : LineKind → List ℕ → Cut) (k : LineKind) (make : List ℕ → A) (tests : A → List Test) (n : ℕ) (s v rest : List ℕ)
    → next k s ≡ cut v rest → in_ranges (ranges k) v ≡ false → line next k make tests n s ≡ rejected 2 n
unfolding line first_of
out_of_range next k make tests n s v rest e q = rw (e, q, first_of, line) refl

module _ (form : LineKind → List ℕ → List ℕ) (next : LineKind → List ℕ → Cut) (cuts : Cuts form next)
    {A : Type 0} (k : LineKind) (make : List ℕ → A) (tests : A → List Test) (line_of : A → Line) (spelling : Spelling k make line_of) where
  abbrev Form : A → Type 0
  Form a = LineForm k make tests line_of a

  abbrev Found : ℕ → List ℕ → A → ℕ → List ℕ → Type 0
  Found n s a n' rest = Read form Form (λ (a : A). line_of a ∷ []) n s a n' rest

  pub line-only : (n : ℕ) (s : List ℕ) (a : A) (n' : ℕ) (rest : List ℕ) → line next k make tests n s ≡ read a n' rest
      → Found n s a n' rest
  unfolding line
  line-only n s a n' rest e = go (next k s) refl e
    where
      tested : Option ℕ → List ℕ → List ℕ → Reading A
      tested f v r = elim f [ some c ↦ rejected c n | none ↦ read (make v) (suc n) r ]

      found : (v r : List ℕ) → (length v ≡ fields k) × (s ≡ form k v ++ r) → (f : Option ℕ)
          → first_of (2 unless in_ranges (ranges k) v ∷ tests (make v)) ≡ f → tested f v r ≡ read a n' rest
          → Found n s a n' rest
      found v r c (some code) q e = let z : ◌≡◌ {A = ℕ} 0 1 = cc in absurd (omega arith)
      found v r c none q e =
          let same-a : a ≡ make v = cc in
          let same-n : n' ≡ suc n = cc in
          let same_rest : rest ≡ r = cc in
          let is-line : line_of (make v) ≡ record { kind = k; values = v } = spelling.spelled v c.0 in
          let t = (tested_decides k v (tests (make v))).0 q in
          let whole : make (line_of (make v)).values ≡ make v = ap (λ (l : Line). make l.values) is-line in
          rw (same-a, same-n, same_rest)
          (record { valid = (rw is-line t.0, (t.1, whole)); from = rw (written_one, is-line) c.1; place = omega arith })

      go : (c : Cut) → next k s ≡ c
          → elim c [ broken ↦ rejected 1 n | cut v r ↦ tested (first_of (2 unless in_ranges (ranges k) v ∷ tests (make v))) v r ] ≡ read a n' rest
          → Found n s a n' rest
      go broken q e = let z : ◌≡◌ {A = ℕ} 0 1 = cc in absurd (omega arith)
      go (cut v r) q e = found v r (cuts.only k s v r q) (first_of (2 unless in_ranges (ranges k) v ∷ tests (make v))) refl e

  -- a line that is cut off and passes its tests
  line_read : (n : ℕ) (s v rest : List ℕ) → next k s ≡ cut v rest → first_of (2 unless in_ranges (ranges k) v ∷ tests (make v)) ≡ none
      → line next k make tests n s ≡ read (make v) (suc n) rest
  unfolding line
  line_read n s v rest e q = rw (e, q, line) refl

  -- a line that is cut off and fails one
  line-fails : (n : ℕ) (s v rest : List ℕ) {c : ℕ} → next k s ≡ cut v rest → first_of (2 unless in_ranges (ranges k) v ∷ tests (make v)) ≡ some c
      → line next k make tests n s ≡ rejected c n
  unfolding line
  line-fails n s v rest e q = rw (e, q, line) refl

  -- the line of `a`, whose numbers say all of it and are in their ranges
  pub line_refused : (a : A) → make (line_of a).values ≡ a → Small (line_of a).values → in_ranges (ranges k) (line_of a).values ≡ true → {c : ℕ}
      → first_of (tests a) ≡ some c → (n : ℕ) (rest : List ℕ) → line next k make tests n (written form (line_of a ∷ []) ++ rest) ≡ rejected c n
  line_refused a whole small ranged {c} fails n rest =
      let v = (line_of a).values in
      let test : first_of (2 unless in_ranges (ranges k) v ∷ tests (make v)) ≡ some c =
      passes 2 ranged _ ∙ ap (λ (b : A). first_of (tests b)) whole ∙ fails in
      rw (written_one, spelling.kind) (line-fails n _ v rest (cuts.every k v rest (spelling.counted a) small) test)

  line-every : ((a : A) → Form a → Small (line_of a).values) → (a : A) → Form a → (n : ℕ) (rest : List ℕ)
      → line next k make tests n (written form (line_of a ∷ []) ++ rest) ≡ read a (n + 1) rest
  line-every small a w n rest =
      let v = (line_of a).values in
      let same-a : make v ≡ a = w.1.1 in
      let test : first_of (2 unless in_ranges (ranges k) v ∷ tests (make v)) ≡ none = rw same-a ((tested_decides k v (tests a)).1 (w.0, w.1.0)) in
      rw (written_one, spelling.kind, add-one)
      (line_read n _ v rest (cuts.every k v rest (spelling.counted a) (small a w)) test ∙ ap (λ (b : A). read b (suc n) rest) same-a)

  pub line-exact : ((a : A) → Form a → Small (line_of a).values) → Exact form (line next k make tests) Form (λ (a : A). line_of a ∷ [])
  line-exact small = record { only = line-only; every = line-every small }
