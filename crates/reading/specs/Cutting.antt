-- A text is cut into just the lines `key=value`, a table into just the lines' numbers.
use Rattle.std.specs.Prelude.{ℕ, zero, suc, ◌≤◌, ◌<◌, ◌≡◌, refl, Bool, true, false, eqb, length, take, drop}
use Rattle.std.proofs.Common.{sym, ap, ap₂, ◌∙◌, arith, eqb-true, eq-eqb}
use Rattle.std.proofs.Math.Option.{Option, none, some}
use mathlib.Core.List.{List, [], ◌∷◌, ◌++◌, flat_map, flatten, append_assoc}
use Rattle.std.proofs.Math.Nat.{suc_inj}
use Rattle.counting.specs.Terms.{Each}
use Rattle.counting.proofs.Laws.Members.{each-head, each_tail}
use Rattle.orm.specs.Diagram.{LineKind}
use Rattle.orm.specs.Reader.{Cut, broken, cut, exactly}
use Rattle.orm.proofs.Laws.Readers.{cut-cons, exactly_append, exactly-cut}
use Rattle.orm.specs.Form.{fields}
use Rattle.orm.specs.Text.{bytes, key, separator, is_digit, decimal, values_text, line_text, Numeral, malformed, numeral, number, after, numbers, text_line, table_line}
use Rattle.orm.specs.MultiplesText.{line_numbers}
use Rattle.reading.specs.Lines.{Small, Cuts}
use Rattle.reading.specs.Decimal.{number-only, number-every}

after-only : (p s r : List ℕ) → after p s ≡ some r → s ≡ p ++ r
unfolding after
after-only [] s r e = cc
after-only (p ∷ ps) [] r e = let z : ◌≡◌ {A = ℕ} 0 1 = cc in absurd (omega arith)
after-only (p ∷ ps) (b ∷ s) r e = go (eqb p b) refl e (after-only ps s r)
  where
    go : (t : Bool) → eqb p b ≡ t → elim t [ false ↦ none | true ↦ after ps s ] ≡ some r → (after ps s ≡ some r → s ≡ ps ++ r)
        → ◌≡◌ {A = List ℕ} (b ∷ s) (p ∷ (ps ++ r))
    go false q e ih = let z : ◌≡◌ {A = ℕ} 0 1 = cc in absurd (omega arith)
    go true q e ih = ap₂ {C = List ℕ} (λ (x : ℕ) (l : List ℕ). x ∷ l) (sym (eqb-true p b q)) (ih e)

numbers-only : (n : ℕ) (s v rest : List ℕ) → numbers n s ≡ cut v rest → (length v ≡ n) × (s ≡ values_text v ++ rest)
unfolding numbers values_text
numbers-only zero s v rest e =
    let h : [] ≡ v = cc in
    let k : s ≡ rest = cc in
    rw (← h, ← k) (refl, refl)
numbers-only (suc n) s v rest e = go (number s) refl e (λ s₂ vs q. numbers-only n s₂ vs rest q)
  where
    behind : ℕ → Option (List ℕ) → Cut
    behind x o = elim o [ none ↦ broken | some s₂ ↦ elim (numbers n s₂) [ broken ↦ broken | cut vs r ↦ cut (x ∷ vs) r ] ]

    then : (x : ℕ) (s₁ : List ℕ) → s ≡ decimal x ++ s₁ → (o : Option (List ℕ)) → after (separator n ∷ []) s₁ ≡ o → behind x o ≡ cut v rest
        → ((s₂ vs : List ℕ) → numbers n s₂ ≡ cut vs rest → (length vs ≡ n) × (s₂ ≡ values_text vs ++ rest))
        → (length v ≡ suc n) × (s ≡ values_text v ++ rest)
    then x s₁ p none q e ih = let z : ◌≡◌ {A = ℕ} 0 1 = cc in absurd (omega arith)
    then x s₁ p (some s₂) q e ih =
        let c = cut-cons (numbers n s₂) x v rest e in
        let h = ih s₂ c.0 c.1 in
        let behind-x : s₁ ≡ (separator (length c.0) ∷ values_text c.0) ++ rest =
        after-only (separator n ∷ []) s₁ s₂ q ∙ ap₂ {C = List ℕ} (λ (m : ℕ) (l : List ℕ). separator m ∷ l) (sym h.0) h.1 in
        rw c.2 (
          ap suc h.0,
          p ∙ ap (λ (l : List ℕ). decimal x ++ l) behind-x ∙ sym
              (append_assoc (decimal x) (separator (length c.0) ∷ values_text c.0) rest),
        )

    go : (d : Numeral) → number s ≡ d → elim d [ malformed ↦ broken | numeral x s₁ ↦ behind x (after (separator n ∷ []) s₁) ] ≡ cut v rest
        → ((s₂ vs : List ℕ) → numbers n s₂ ≡ cut vs rest → (length vs ≡ n) × (s₂ ≡ values_text vs ++ rest))
        → (length v ≡ suc n) × (s ≡ values_text v ++ rest)
    go malformed q e ih = let z : ◌≡◌ {A = ℕ} 0 1 = cc in absurd (omega arith)
    go (numeral x s₁) q e ih = then x s₁ (number-only s x s₁ q) (after (separator n ∷ []) s₁) refl e ih

text-only : (k : LineKind) (s v rest : List ℕ) → text_line k s ≡ cut v rest → (length v ≡ fields k) × (s ≡ line_text (key k) v ++ rest)
unfolding text_line line_text
text-only k s v rest e = go (after (bytes (key k) ++ 61 ∷ []) s) refl e
  where
    go : (o : Option (List ℕ)) → after (bytes (key k) ++ 61 ∷ []) s ≡ o → elim o [ none ↦ broken | some r ↦ numbers (fields k) r ] ≡ cut v rest
        → (length v ≡ fields k) × (s ≡ bytes (key k) ++ 61 ∷ values_text v ++ rest)
    go none q e = let z : ◌≡◌ {A = ℕ} 0 1 = cc in absurd (omega arith)
    go (some r) q e =
        let h = numbers-only (fields k) r v rest e in
        let b : List ℕ = bytes (key k) in
        let whole : s ≡ b ++ 61 ∷ [] ++ (values_text v ++ rest) = after-only (b ++ 61 ∷ []) s r q ∙ ap (λ (l : List ℕ). b ++ 61 ∷ [] ++ l) h.1 in
        (h.0, whole ∙ append_assoc b (61 ∷ []) (values_text v ++ rest) ∙ sym (append_assoc b (61 ∷ values_text v) rest))

-- ---- each line is cut off its own form

after-every : (p r : List ℕ) → after p (p ++ r) ≡ some r
unfolding after
after-every [] r = refl
after-every (b ∷ p) r = rw (eq-eqb b b refl, after) (after-every p r)

separator-ends : (n : ℕ) → is_digit (separator n) ≡ false
unfolding separator is_digit
separator-ends zero = refl
separator-ends (suc n) = refl

numbers-step : (n x : ℕ) (s s₁ s₂ v rest : List ℕ) → number s ≡ numeral x s₁ → after (separator n ∷ []) s₁ ≡ some s₂ → numbers n s₂ ≡ cut v rest
    → numbers (suc n) s ≡ cut (x ∷ v) rest
unfolding numbers
numbers-step n x s s₁ s₂ v rest a b c = rw (a, b, c, numbers) refl

numbers-every : (n : ℕ) (v rest : List ℕ) → length v ≡ n → Small v → numbers n (values_text v ++ rest) ≡ cut v rest
unfolding numbers values_text
numbers-every zero [] rest l h = refl
numbers-every zero (x ∷ v) rest l h = absurd (omega arith)
numbers-every (suc n) [] rest l h = absurd (omega arith)
numbers-every (suc n) (x ∷ v) rest l h =
    let e : length v ≡ n = suc_inj l in
    let s : List ℕ = values_text v ++ rest in
    rw append_assoc
    (numbers-step n x _ (separator (length v) ∷ s) s v rest (number-every x (separator (length v)) s (each-head _ h) (separator-ends (length v)))
    (rw e (after-every (separator n ∷ []) s)) (numbers-every n v rest e (each_tail _ h)))

-- Lines of `k` numbers each, one after another, have the numbers that were written
pub lines-every : (k : ℕ) (rows : List (List ℕ)) (rest : List ℕ) → Each (λ (r : List ℕ). length r ≡ k) rows → Each Small rows
    → line_numbers k (length rows) (flat_map values_text rows ++ rest) ≡ cut (flatten rows) rest
unfolding line_numbers flat_map flatten
lines-every k [] rest l h = refl
lines-every k (r ∷ rows) rest l h =
    rw (append_assoc, numbers-every k r (flat_map values_text rows ++ rest) (each-head _ l) (each-head _ h), line_numbers)
    (rw (lines-every k rows rest (each_tail _ l) (each_tail _ h)) refl)

text-every : (k : LineKind) (v rest : List ℕ) → length v ≡ fields k → Small v → text_line k (line_text (key k) v ++ rest) ≡ cut v rest
unfolding text_line line_text
text-every k v rest l h =
    let e : line_text (key k) v ++ rest ≡ (bytes (key k) ++ 61 ∷ []) ++ (values_text v ++ rest) =
    append_assoc (bytes (key k)) (61 ∷ values_text v) rest ∙ sym (append_assoc (bytes (key k)) (61 ∷ []) (values_text v ++ rest)) in
    rw (e, after-every (bytes (key k) ++ 61 ∷ []) (values_text v ++ rest), text_line) (numbers-every (fields k) v rest l h)

-- How a line stands in a text, and in a table
abbrev pub text_form : LineKind → List ℕ → List ℕ
text_form k v = line_text (key k) v

abbrev pub table_form : LineKind → List ℕ → List ℕ
table_form k v = v

pub text_cuts : Cuts text_form text_line
text_cuts = record { only = text-only; every = text-every }

pub table_cuts : Cuts table_form table_line
unfolding table_line
table_cuts = record { only = λ k s v rest e. exactly-cut s (fields k) v rest e; every = λ k v rest l h. rw (← l) (exactly_append v rest) }

-- ---- a line of a table, by how many numbers are left

exactly-short : (s : List ℕ) (n : ℕ) → length s < n → exactly s n ≡ broken
unfolding exactly
exactly-short [] zero h = absurd (omega arith)
exactly-short [] (suc n) h = refl
exactly-short (x ∷ s) zero h = absurd (omega arith)
exactly-short (x ∷ s) (suc n) h = rw (exactly-short s n (omega arith))

exactly-long : (s : List ℕ) (n : ℕ) → n ≤ length s → exactly s n ≡ cut (take n s) (drop n s)
unfolding exactly
exactly-long [] zero h = refl
exactly-long [] (suc n) h = absurd (omega arith)
exactly-long (x ∷ s) zero h = refl
exactly-long (x ∷ s) (suc n) h = rw (exactly-long s n (omega arith))

pub table-short : (k : LineKind) (s : List ℕ) → length s < fields k → table_line k s ≡ broken
unfolding table_line
table-short k s h = exactly-short s (fields k) h

pub table-long : (k : LineKind) (s : List ℕ) → fields k ≤ length s → table_line k s ≡ cut (take (fields k) s) (drop (fields k) s)
unfolding table_line
table-long k s h = exactly-long s (fields k) h
