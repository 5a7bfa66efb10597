-- Numbers in decimal digits: a number of at most 6 digits is read from its own digits, and from nothing else.
use Rattle.std.specs.Prelude.{ℕ, zero, suc, ◌+◌, ◌*◌, ◌-◌, ◌/◌, ◌%◌, ◌≤◌, ◌<◌, ◌≡◌, refl, Bool, true, cond, List, [], ◌∷◌, ◌++◌, leb, ltb, eqb, length}
use Rattle.std.proofs.Common.{sym, ap, ap₂, ◌∙◌, append_assoc, leb-true, le-leb, ltb-false, lt-ltb, le-ltb, eqb-true, ne_eqb, lit<, lit≤, length-append}
use Rattle.std.proofs.Math.Bool.{false, and-eq-true_iff}
use Rattle.std.proofs.Math.Decide.{dec_lt}
use native.Mathlib.Omega.{arith}
use Rattle.std.proofs.lemmas.Bool.{eqb-false}
use Rattle.orm.specs.Text.{decimal_within, decimal, is_digit, malformed, numeral, digits, number}

-- enough fuel is enough
fuel : (k m n : ℕ) → n ≤ k → n ≤ m → decimal_within k n ≡ decimal_within m n
unfolding decimal_within
fuel zero zero n h l = refl
fuel zero (suc m) n h l = let z : n ≡ 0 = omega arith in rw z refl
fuel (suc k) zero n h l = let z : n ≡ 0 = omega arith in rw z refl
fuel (suc k) (suc m) n h l = go (ltb n 10) refl (fuel k m (n / 10))
  where
    go : (b : Bool) → ltb n 10 ≡ b → (n / 10 ≤ k → n / 10 ≤ m → decimal_within k (n / 10) ≡ decimal_within m (n / 10))
        → ◌≡◌ {A = List ℕ} (elim b [ true ↦ (48 + n) ∷ [] | false ↦ decimal_within k (n / 10) ++ (48 + n % 10) ∷ [] ])
        (elim b [ true ↦ (48 + n) ∷ [] | false ↦ decimal_within m (n / 10) ++ (48 + n % 10) ∷ [] ])
    go true q ih = refl
    go false q ih = ap (λ (l : List ℕ). l ++ (48 + n % 10) ∷ []) (ih (omega (arith, ltb-false n 10 q)) (omega (arith, ltb-false n 10 q)))

pub decimal-small : (n : ℕ) → n < 10 → decimal n ≡ (48 + n) ∷ []
unfolding decimal decimal_within
decimal-small zero h = refl
decimal-small (suc n) h = rw (lt-ltb (suc n) 10 h, decimal_within) refl

pub decimal-large : (n : ℕ) → 10 ≤ n → decimal n ≡ decimal (n / 10) ++ (48 + n % 10) ∷ []
unfolding decimal decimal_within
decimal-large zero h = absurd (omega arith)
decimal-large (suc n) h =
    ap (λ (b : Bool). elim b as (λ _. List ℕ) [ true ↦ (48 + suc n) ∷ [] | false ↦ decimal_within n (suc n / 10) ++ (48 + suc n % 10) ∷ [] ])
    (le-ltb (suc n) 10 h)
    ∙ ap (λ (l : List ℕ). l ++ (48 + suc n % 10) ∷ []) (fuel n (suc n / 10) (suc n / 10) (omega arith) (omega arith))

-- one digit more
decimal_digit : (v e : ℕ) → 1 ≤ v → e < 10 → decimal (v * 10 + e) ≡ decimal v ++ (48 + e) ∷ []
decimal_digit v e h l =
    let q : (v * 10 + e) / 10 ≡ v = omega arith in
    let r : (v * 10 + e) % 10 ≡ e = omega arith in
    decimal-large (v * 10 + e) (omega arith) ∙ ap₂ (λ (a b : ℕ). decimal a ++ (48 + b) ∷ []) q r

digit_value : (b : ℕ) → is_digit b ≡ true → (48 ≤ b) × (b ≤ 57)
unfolding is_digit
digit_value b e =
    let h = (and-eq-true_iff (leb 48 b) (leb b 57)).0 e in
    (leb-true 48 b h.0, leb-true b 57 h.1)

-- the digits that are read are those of the number
digits-is : (left v : ℕ) (s : List ℕ) (w : ℕ) (rest : List ℕ) → 1 ≤ v → digits left v s ≡ numeral w rest → decimal v ++ s ≡ decimal w ++ rest
unfolding digits
digits-is left v [] w rest h e =
    let p : v ≡ w = cc in
    let q : [] ≡ rest = cc in
    rw (p, q)
digits-is left v (b ∷ s) w rest h e = go (is_digit b) refl left e (λ k u m q. digits-is k u s w rest m q)
  where
    go : (d : Bool) → is_digit b ≡ d → (left : ℕ)
        → elim d [ false ↦ numeral v (b ∷ s) | true ↦ elim left [ zero ↦ malformed | suc k ↦ digits k (v * 10 + (b - 48)) s ] ] ≡ numeral w rest
        → ((k u : ℕ) → 1 ≤ u → digits k u s ≡ numeral w rest → decimal u ++ s ≡ decimal w ++ rest) → decimal v ++ b ∷ s ≡ decimal w ++ rest
    go false i left e ih =
        let p : v ≡ w = cc in
        let q : b ∷ s ≡ rest = cc in
        rw (p, q)
    go true i zero e ih = let z : ◌≡◌ {A = ℕ} 0 1 = cc in absurd (omega arith)
    go true i (suc k) e ih =
        let d = digit_value b i in
        let same-digit : 48 + (b - 48) ≡ b = omega arith in
        let one_more : decimal (v * 10 + (b - 48)) ≡ decimal v ++ b ∷ [] =
        decimal_digit v (b - 48) h (omega arith) ∙ ap (λ (x : ℕ). decimal v ++ x ∷ []) same-digit in
        sym (append_assoc (decimal v) (b ∷ []) s) ∙ ap (λ (l : List ℕ). l ++ s) (sym one_more) ∙ ih k (v * 10 + (b - 48)) (omega arith) e

-- no further digit
no_digit : (v : ℕ) (s : List ℕ) (w : ℕ) (rest : List ℕ) → digits 0 v s ≡ numeral w rest → (v ≡ w) × (s ≡ rest)
unfolding digits
no_digit v [] w rest e = (cc, cc)
no_digit v (b ∷ s) w rest e = go (is_digit b) e
  where
    go : (d : Bool) → elim d [ false ↦ numeral v (b ∷ s) | true ↦ malformed ] ≡ numeral w rest → (v ≡ w) × (b ∷ s ≡ rest)
    go false e = (cc, cc)
    go true e = let z : ◌≡◌ {A = ℕ} 0 1 = cc in absurd (omega arith)

-- A number is read from its own digits alone
pub number-only : (s : List ℕ) (w : ℕ) (rest : List ℕ) → number s ≡ numeral w rest → s ≡ decimal w ++ rest
unfolding number
number-only [] w rest e = let z : ◌≡◌ {A = ℕ} 0 1 = cc in absurd (omega arith)
number-only (b ∷ s) w rest e = go (is_digit b) refl e
  where
    first : (z : Bool) → eqb b 48 ≡ z → is_digit b ≡ true → digits (cond z 0 5) (b - 48) s ≡ numeral w rest → b ∷ s ≡ decimal w ++ rest
    first true z i e =
        let at_zero : b ≡ 48 = eqb-true b 48 z in
        let d = no_digit (b - 48) s w rest e in
        let no_value : w ≡ 0 = omega (arith, sym d.0) in
        rw (no_value, decimal-small 0 (lit< tt), at_zero, d.1)
    first false z i e =
        let d = digit_value b i in
        let n : ¬ (b ≡ 48) = eqb-false b 48 z in
        let same-digit : 48 + (b - 48) ≡ b = omega arith in
        ap (λ (l : List ℕ). l ++ s) (sym (decimal-small (b - 48) (omega arith) ∙ ap (λ (x : ℕ). x ∷ []) same-digit)) ∙ digits-is 5
        (b - 48) s w rest (omega arith) e

    go : (d : Bool) → is_digit b ≡ d → elim d [ false ↦ malformed | true ↦ digits (cond (eqb b 48) 0 5) (b - 48) s ] ≡ numeral w rest
        → b ∷ s ≡ decimal w ++ rest
    go false i e = let z : ◌≡◌ {A = ℕ} 0 1 = cc in absurd (omega arith)
    go true i e = first (eqb b 48) refl i e

-- ---- a number is read from its digits

digit-is : (e : ℕ) → e < 10 → is_digit (48 + e) ≡ true
unfolding is_digit
digit-is e h = (and-eq-true_iff _ _).1 (le-leb 48 (48 + e) (omega arith), le-leb (48 + e) 57 (omega arith))

-- one digit more
digits_step : (left v e : ℕ) (rest : List ℕ) → e < 10 → digits (suc left) v ((48 + e) ∷ rest) ≡ digits left (v * 10 + e) rest
unfolding digits
digits_step left v e rest h =
    let q : 48 + e - 48 ≡ e = omega arith in
    rw (digit-is e h, digits) (rw q refl)

-- the first digit, which is not 0
number-first : (x : ℕ) (rest : List ℕ) → 1 ≤ x → x < 10 → number ((48 + x) ∷ rest) ≡ digits 5 x rest
unfolding number
number-first x rest h l =
    let q : 48 + x - 48 ≡ x = omega arith in
    rw (digit-is x l, ne_eqb (48 + x) 48 (λ e. omega arith), number) (rw q refl)

-- The least number of more than `k` digits
unfoldable pub bound : ℕ → ℕ
bound zero = 1
bound (suc k) = 10 * bound k

-- After the digits of a number below `bound k`, at least 6 - k more may follow
number_digits : (k x : ℕ) → 1 ≤ x → x < bound k → k ≤ 6 → (rest : List ℕ)
    → (left : ℕ) × (6 ≤ k + left) × (number (decimal x ++ rest) ≡ digits left x rest)
unfolding bound
number_digits zero x h l m rest = absurd (omega arith)
number_digits (suc k) x h l m rest = go (dec_lt x 10) (λ p q r. number_digits k (x / 10) p q (omega arith) r)
  where
    more : (left : ℕ) → 6 ≤ k + left → number (decimal (x / 10) ++ (48 + x % 10) ∷ rest) ≡ digits left (x / 10) ((48 + x % 10) ∷ rest) → 10 ≤ x
        → (left : ℕ) × (6 ≤ suc k + left) × (number (decimal x ++ rest) ≡ digits left x rest)
    more zero b e p = absurd (omega arith)
    more (suc left) b e p =
        let q : x / 10 * 10 + x % 10 ≡ x = omega arith in (
          left,
          omega arith,
          rw (decimal-large x p, append_assoc)
              (e ∙ digits_step left (x / 10) (x % 10) rest (omega arith) ∙ ap (λ (y : ℕ). digits left y rest) q),
        )

    go : Dec (x < 10)
        → (1 ≤ x / 10 → x / 10 < bound k → (r : List ℕ) → (left : ℕ) × (6 ≤ k + left) × (number (decimal (x / 10) ++ r) ≡ digits left (x / 10) r))
        → (left : ℕ) × (6 ≤ suc k + left) × (number (decimal x ++ rest) ≡ digits left x rest)
    go (yes p) ih = (5, omega arith, rw (decimal-small x p) (number-first x rest h p))
    go (no n) ih =
        let (left, b, e) = ih (omega arith) (omega arith) ((48 + x % 10) ∷ rest) in
        more left b e (omega arith)

digits-stop : (left v b : ℕ) (rest : List ℕ) → is_digit b ≡ false → digits left v (b ∷ rest) ≡ numeral v (b ∷ rest)
unfolding digits
digits-stop left v b rest h = rw (h, digits) refl

-- A number of at most 6 digits is read from its digits, where none follows
pub number-every : (x b : ℕ) (rest : List ℕ) → x ≤ 999999 → is_digit b ≡ false → number (decimal x ++ b ∷ rest) ≡ numeral x (b ∷ rest)
number-every zero b rest h n = rw (decimal-small 0 (lit< tt)) (unfold number is_digit in digits-stop 0 0 b rest n)
number-every (suc x) b rest h n =
    let r = number_digits 6 (suc x) (omega arith) (unfold bound in omega arith) (lit≤ tt) (b ∷ rest) in
    r.2 ∙ digits-stop r.0 (suc x) b rest n

-- ---- how many digits

-- A number below `bound k` has at most `k` digits, where it may have one
pub decimal-length : (k x : ℕ) → x < bound (suc k) → length (decimal x) ≤ suc k
unfolding bound
decimal-length zero x h = rw (decimal-small x (omega arith)) (omega arith)
decimal-length (suc k) x h = go (dec_lt x 10) (λ l. decimal-length k (x / 10) l)
  where
    go : Dec (x < 10) → (x / 10 < bound (suc k) → length (decimal (x / 10)) ≤ suc k) → length (decimal x) ≤ suc (suc k)
    go (yes p) ih = rw (decimal-small x p) (omega arith)
    go (no n) ih =
        let long : length (decimal (x / 10)) ≤ suc k = ih (omega arith) in
        rw (decimal-large x (omega arith)) (omega (arith, length-append (decimal (x / 10)) ((48 + x % 10) ∷ [])))

-- ---- a number that is read has at most 6 digits

bound-suc : (k : ℕ) → bound k ≤ bound (suc k)
unfolding bound
bound-suc k = omega arith

bound-more : (k left : ℕ) → bound k ≤ bound (k + left)
bound-more k zero = let e : k + 0 ≡ k = omega arith in rw e (omega arith)
bound-more k (suc left) = let e : k + suc left ≡ suc (k + left) = omega arith in rw e (omega (arith, bound-more k left, bound-suc (k + left)))

digits-below : (left k v : ℕ) (s : List ℕ) {w : ℕ} {rest : List ℕ} → v < bound k → digits left v s ≡ numeral w rest → w < bound (k + left)
unfolding digits
digits-below left k v [] {w} h e = let z : w ≡ v = cc in omega (arith, bound-more k left)
digits-below left k v (b ∷ s) {w} {rest} h e = go (is_digit b) refl e (λ l. digits-below l (suc k) (v * 10 + (b - 48)) s)
  where
    stop : w ≡ v → w < bound (k + left)
    stop z = omega (arith, bound-more k left)

    more : (l : ℕ) → left ≡ l → is_digit b ≡ true → elim l [ zero ↦ malformed | suc j ↦ digits j (v * 10 + (b - 48)) s ] ≡ numeral w rest
        → ((j : ℕ) → v * 10 + (b - 48) < bound (suc k) → digits j (v * 10 + (b - 48)) s ≡ numeral w rest → w < bound (suc k + j)) → w < bound (k + left)
    more zero z i e ih = let y : ◌≡◌ {A = ℕ} 0 1 = cc in absurd (omega arith)
    more (suc j) z i e ih =
        let same : suc k + j ≡ k + left = omega arith in
        rw (← same) (ih j (unfold bound in omega (arith, digit_value b i)) e)

    go : (d : Bool) → is_digit b ≡ d
        → elim d [ false ↦ numeral v (b ∷ s) | true ↦ elim left [ zero ↦ malformed | suc j ↦ digits j (v * 10 + (b - 48)) s ] ] ≡ numeral w rest
        → ((j : ℕ) → v * 10 + (b - 48) < bound (suc k) → digits j (v * 10 + (b - 48)) s ≡ numeral w rest → w < bound (suc k + j)) → w < bound (k + left)
    go false i e ih = stop cc
    go true i e ih = more left refl i e ih

pub number_small : (s : List ℕ) {w : ℕ} {rest : List ℕ} → number s ≡ numeral w rest → w ≤ 999999
unfolding number
number_small [] e = let z : ◌≡◌ {A = ℕ} 0 1 = cc in absurd (omega arith)
number_small (b ∷ s) {w} {rest} e = go (is_digit b) refl e
  where
    one-digit : is_digit b ≡ true → b - 48 < bound 1
    one-digit i = unfold bound in omega (arith, digit_value b i)

    first : (z : Bool) → is_digit b ≡ true → digits (cond z 0 5) (b - 48) s ≡ numeral w rest → w ≤ 999999
    first true i e = let h : w < bound (1 + 0) = digits-below 0 1 (b - 48) s (one-digit i) e in unfold bound in omega arith
    first false i e = let h : w < bound (1 + 5) = digits-below 5 1 (b - 48) s (one-digit i) e in unfold bound in omega arith

    go : (d : Bool) → is_digit b ≡ d → elim d [ false ↦ malformed | true ↦ digits (cond (eqb b 48) 0 5) (b - 48) s ] ≡ numeral w rest → w ≤ 999999
    go false i e = let z : ◌≡◌ {A = ℕ} 0 1 = cc in absurd (omega arith)
    go true i e = first (eqb b 48) i e
