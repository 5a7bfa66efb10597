-- What is left of a text when something is taken off it is a tail of it, so that a position tells it.
use Rattle.std.specs.Prelude.{ℕ, zero, suc, ◌+◌, ◌*◌, ◌-◌, ◌≤◌, ◌<◌, refl, Bool, true, false, cond, List, [], ◌∷◌, Option, Some, None, eqb, length, drop}
use Rattle.std.proofs.Common.{arith, sym, ap, ◌∙◌, length-drop, drop-drop, drop_of_length-le}
use Rattle.std.proofs.Math.Decide.{dec_le}
use Rattle.std.proofs.Math.Path.{◌≡◌}
use Rattle.std.proofs.Math.Option.{Option as Rest, none, some}
use Rattle.orm.specs.Text.{is_digit, digits, number, after, Numeral, malformed, numeral}
use Rattle.lexer.specs.declared.numbers.Numeral.{Numeral as Number}
use Rattle.lexer.specs.Cuts.{behind, numeral_of, rest_of}

pub record Tail (rest t : List ℕ) : Type 0 where
  pub short : length rest ≤ length t
  pub is : drop (length t - length rest) t ≡ rest

pub tail_all : (t : List ℕ) → Tail t t
tail_all t = let e : length t - length t ≡ 0 = omega arith in record { short = omega arith; is = rw e refl }

pub tail-cons : {rest t : List ℕ} (b : ℕ) → Tail rest t → Tail rest (b ∷ t)
tail-cons {rest} {t} b h =
    let s : length rest ≤ length t = h.short in
    let e : suc (length t) - length rest ≡ suc (length t - length rest) = omega arith in
    record { short = omega arith; is = rw e h.is }

pub tail_more : {a b c : List ℕ} → Tail a b → Tail b c → Tail a c
tail_more {a} {b} {c} h g =
    let s : length a ≤ length b = h.short in
    let l : length b ≤ length c = g.short in
    let e : length c - length a ≡ length c - length b + (length b - length a) = omega arith in
    record {
      short = omega arith;
      is = rw (e, ← drop-drop (length b - length a) (length c - length b) c, g.is) h.is;
    }

-- ---- what each reader leaves

pub after_tail : (key t rest : List ℕ) → after key t ≡ some rest → Tail rest t
unfolding after
after_tail [] t rest e = let q : t ≡ rest = cc in rw q (tail_all rest)
after_tail (p ∷ ps) [] rest e = let z : ◌≡◌ {A = ℕ} 0 1 = cc in absurd (omega arith)
after_tail (p ∷ ps) (b ∷ t) rest e = go (eqb p b) e (after_tail ps t rest)
  where
    go : (x : Bool) → elim x as (λ _. Rest (List ℕ)) [ false ↦ none | true ↦ after ps t ] ≡ some rest
        → (after ps t ≡ some rest → Tail rest t) → Tail rest (b ∷ t)
    go false q ih = let z : ◌≡◌ {A = ℕ} 0 1 = cc in absurd (omega arith)
    go true q ih = tail-cons b (ih q)

pub digits-tail : (left v : ℕ) (t : List ℕ) (w : ℕ) (rest : List ℕ) → digits left v t ≡ numeral w rest → Tail rest t
unfolding digits
digits-tail left v [] w rest e = let q : [] ≡ rest = cc in rw (← q) (tail_all [])
digits-tail zero v (b ∷ t) w rest e = go (is_digit b) e
  where
    go : (x : Bool) → elim x as (λ _. Numeral) [ false ↦ numeral v (b ∷ t) | true ↦ malformed ] ≡ numeral w rest → Tail rest (b ∷ t)
    go false q = let r : b ∷ t ≡ rest = cc in rw (← r) (tail_all (b ∷ t))
    go true q = let z : ◌≡◌ {A = ℕ} 0 1 = cc in absurd (omega arith)
digits-tail (suc left) v (b ∷ t) w rest e = go (is_digit b) e (digits-tail left (v * 10 + (b - 48)) t w rest)
  where
    go : (x : Bool) → elim x as (λ _. Numeral) [ false ↦ numeral v (b ∷ t) | true ↦ digits left (v * 10 + (b - 48)) t ] ≡ numeral w rest
        → (digits left (v * 10 + (b - 48)) t ≡ numeral w rest → Tail rest t) → Tail rest (b ∷ t)
    go false q ih = let r : b ∷ t ≡ rest = cc in rw (← r) (tail_all (b ∷ t))
    go true q ih = tail-cons b (ih q)

pub number-tail : (t : List ℕ) (w : ℕ) (rest : List ℕ) → number t ≡ numeral w rest → Tail rest t
unfolding number
number-tail [] w rest e = let z : ◌≡◌ {A = ℕ} 0 1 = cc in absurd (omega arith)
number-tail (b ∷ t) w rest e = go (is_digit b) e
  where
    go : (x : Bool) → elim x as (λ _. Numeral) [ false ↦ malformed | true ↦ digits (cond (eqb b 48) 0 5) (b - 48) t ] ≡ numeral w rest
        → Tail rest (b ∷ t)
    go false q = let z : ◌≡◌ {A = ℕ} 0 1 = cc in absurd (omega arith)
    go true q = tail-cons b (digits-tail (cond (eqb b 48) 0 5) (b - 48) t w rest q)

-- ---- positions

pub position : (s : List ℕ) (at : ℕ) (rest : List ℕ) → Tail rest (drop at s) → drop (behind s at rest) s ≡ rest
position s at rest h = sym (drop-drop (length (drop at s) - length rest) at s) ∙ h.is

pub position-same : (s : List ℕ) (at : ℕ) → at ≡ behind s at (drop at s)
position-same s at = omega arith

-- from the next position on
pub position-next : (s : List ℕ) (at : ℕ) (rest : List ℕ) → at < length s → Tail rest (drop (at + 1) s)
    → behind s (at + 1) rest ≡ behind s at rest
position-next s at rest l h =
    let k : length rest ≤ length (drop (at + 1) s) = h.short in
    omega (arith, length-drop at s, length-drop (at + 1) s)

-- what is left when something is taken off in two steps
pub position_on : (s : List ℕ) (at : ℕ) (rest rest' : List ℕ) → Tail rest (drop at s) → Tail rest' rest
    → behind s (behind s at rest) rest' ≡ behind s at rest'
position_on s at rest rest' h g =
    let l : length rest ≤ length (drop at s) = h.short in
    let k : length rest' ≤ length rest = g.short in
    let e : length (drop (behind s at rest) s) ≡ length rest = ap length (position s at rest h) in
    omega arith

-- Something that is taken off from `at` on ends at `next`
pub record Onto (s : List ℕ) (at next : ℕ) : Type 0 where
  pub tail : Tail (drop next s) (drop at s)
  pub is : behind s at (drop next s) ≡ next

onto : (s : List ℕ) (at : ℕ) (rest : List ℕ) → Tail rest (drop at s) → Onto s at (behind s at rest)
onto s at rest h = record { tail = rw (position s at rest h) h; is = ap (behind s at) (position s at rest h) }

pub onto_on : {s : List ℕ} {at next : ℕ} (rest : List ℕ) → Onto s at next → Tail rest (drop next s) → behind s next rest ≡ behind s at rest
onto_on {s} {at} {next} rest o h = rw o.is at (position_on s at (drop next s) rest o.tail h)

pub onto-more : {s : List ℕ} {at mid next : ℕ} → Onto s at mid → Onto s mid next → Onto s at next
onto-more {s} {at} {mid} {next} o p =
    record { tail = tail_more p.tail o.tail; is = sym (onto_on (drop next s) o p.tail) ∙ p.is }

-- ---- where a number or a key ends, by what the functions that cut it off promise

module _ (s : List ℕ) (at : ℕ) where
  pub ends : {next : ℕ} → next ≤ length s → at ≤ length s → Tail (drop next s) (drop at s) → Onto s at next
  ends {next} h l t =
      let k : length (drop next s) ≤ length (drop at s) = t.short in
      record { tail = t; is = omega (arith, length-drop at s, length-drop next s) }

  -- past the end there is no number
  number-within : {v : ℕ} {rest : List ℕ} → number (drop at s) ≡ numeral v rest → at ≤ length s
  unfolding number
  number-within {v} {rest} q = go (dec_le at (length s))
    where
      go : Dec (at ≤ length s) → at ≤ length s
      go (yes h) = h
      go (no h) = let e : drop at s ≡ [] = drop_of_length-le s (omega arith) in
          let z : malformed ≡ numeral v rest = rw e at q in
          let y : ◌≡◌ {A = ℕ} 0 1 = cc in
          absurd (omega arith)

  module _ {r : Option Number} (w : numeral_of s r ≡ number (drop at s)) where
    pub number-to : {n : Number} → r ≡ Some n → n.end ≤ length s → (number (drop at s) ≡ numeral n.value (drop n.end s)) × Onto s at n.end
    number-to {n} e h =
        let q : number (drop at s) ≡ numeral n.value (drop n.end s) = sym (rw e at w) in
        (q, ends h (number-within q) (number-tail (drop at s) n.value (drop n.end s) q))

    pub number-not : r ≡ None → number (drop at s) ≡ malformed
    number-not e = sym (rw e at w)

  -- a key of no bytes ends anywhere
  after-within : (key : List ℕ) {rest : List ℕ} → 0 < length key → after key (drop at s) ≡ some rest → at ≤ length s
  unfolding after
  after-within [] k q = absurd (omega arith)
  after-within (p ∷ ps) {rest} k q = go (dec_le at (length s))
    where
      go : Dec (at ≤ length s) → at ≤ length s
      go (yes h) = h
      go (no h) = let e : drop at s ≡ [] = drop_of_length-le s (omega arith) in
          let z : none ≡ some rest = rw e at q in
          let y : ◌≡◌ {A = ℕ} 0 1 = cc in
          absurd (omega arith)

  module _ (key : List ℕ) {r : Option ℕ} (w : rest_of s r ≡ after key (drop at s)) where
    pub after-to : {next : ℕ} → r ≡ Some next → next ≤ length s → 0 < length key → (after key (drop at s) ≡ some (drop next s)) × Onto s at next
    after-to {next} e h k =
        let q : after key (drop at s) ≡ some (drop next s) = sym (rw e at w) in
        (q, ends h (after-within key k q) (after_tail key (drop at s) (drop next s) q))

    pub after-not : r ≡ None → after key (drop at s) ≡ none
    after-not e = sym (rw e at w)
