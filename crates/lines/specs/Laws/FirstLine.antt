-- Laws of a list's first line, one for each clause of `line_length`.
use Rattle.std.specs.Prelude.{◌≡◌, refl, Bool, true, false, List, [], ◌∷◌, ◌++◌, ℕ, suc, ◌<◌, eqb, length, take, drop}
use Rattle.std.proofs.Common.{sym, ap, ◌∙◌, subst, arith, eqb-true}
use Rattle.std.proofs.Math.Option.{Option, none, some}
use Rattle.orm.specs.LineReader.{line_length}

-- One byte more before the line feed, if there is one
abbrev pub more : Option ℕ → Option ℕ
more none = none
more (some n) = some (suc n)

pub line_length_feed : (b : ℕ) (s : List ℕ) → eqb b 10 ≡ true → line_length (b ∷ s) ≡ some 0
unfolding line_length
line_length_feed b s is = rw (is, line_length)

pub line_length-other : (b : ℕ) (s : List ℕ) → eqb b 10 ≡ false → line_length (b ∷ s) ≡ more (line_length s)
unfolding line_length
line_length-other b s is = rw (is, line_length) (go (line_length s))
  where
    go : (o : Option ℕ) → elim o [ none ↦ none | some n ↦ some (suc n) ] ≡ more o
    go none = refl
    go (some n) = refl

-- The first line feed of the list stands at n
pub record Split (s : List ℕ) (n : ℕ) : Type 0 where
  pub whole : take n s ++ 10 ∷ drop (suc n) s ≡ s
  pub inside : n < length s
  pub one_line : line_length (take n s) ≡ none

pub line_length-split : (s : List ℕ) {n : ℕ} → line_length s ≡ some n → Split s n
unfolding line_length
line_length-split [] e = let z : ◌≡◌ {A = ℕ} 0 1 = cc in absurd (omega arith)
line_length-split (b ∷ s) {n} e = go (eqb b 10) refl (λ m e'. line_length-split s e')
  where
    at_once : eqb b 10 ≡ true → Split (b ∷ s) 0
    at_once is = record { whole = ap (λ (x : ℕ). x ∷ s) (sym (eqb-true b 10 is)); inside = omega arith; one_line = refl }

    later : (m : ℕ) → eqb b 10 ≡ false → Split s m → Split (b ∷ s) (suc m)
    later m is r = record {
      whole = ap {B = List ℕ} (λ l. b ∷ l) r.whole;
      inside = omega (arith, r.inside);
      one_line = line_length-other b (take m s) is ∙ ap more r.one_line;
    }

    deeper : ((m : ℕ) → line_length s ≡ some m → Split s m) → eqb b 10 ≡ false
        → (o : Option ℕ) → line_length s ≡ o → more o ≡ some n → Split (b ∷ s) n
    deeper ih is none e' f = let z : ◌≡◌ {A = ℕ} 0 1 = cc in absurd (omega arith)
    deeper ih is (some m) e' f = let z : suc m ≡ n = cc in subst (Split (b ∷ s)) z (later m is (ih m e'))

    go : (t : Bool) → eqb b 10 ≡ t → ((m : ℕ) → line_length s ≡ some m → Split s m) → Split (b ∷ s) n
    go true is ih =
        let f : some 0 ≡ some n = sym (line_length_feed b s is) ∙ e in
        let z : 0 ≡ n = cc in
        subst (Split (b ∷ s)) z (at_once is)
    go false is ih = deeper ih is (line_length s) refl (sym (line_length-other b s is) ∙ e)
