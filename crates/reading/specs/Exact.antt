-- Readers that read just certain values, each from its own lines, and how they follow one another.
use Rattle.std.specs.Prelude.{ℕ, ◌+◌, ◌↔◌, length}
use Rattle.std.proofs.Math.Path.{◌≡◌, refl, sym, ap}
use Rattle.std.proofs.Common.{◌∙◌, add-zero, add_assoc, arith, length-append}
use mathlib.Core.List.Memᴰ.{head as here}
use mathlib.Core.List.Memᴰ.{tail as there}
use mathlib.Core.List.{List, [], ◌∷◌, ◌++◌, map, flat_map, append_assoc, append-nil}
use Rattle.counting.specs.Terms.{◌∈◌, Each2}
use Rattle.orm.specs.Diagram.{LineKind, Line}
use Rattle.orm.specs.Reader.{read, Reader, ◌>>=◌, pure, for_each}
use Rattle.orm.proofs.Laws.Readers.{bind_read, bind_cases}

-- `form` is how a line stands in what is read
module _ (form : LineKind → List ℕ → List ℕ) where
  -- Some lines, each in that form
  unfoldable pub written : List Line → List ℕ
  written ls = flat_map (λ (l : Line). form l.kind l.values) ls

  pub written_append : (ls ks : List Line) → written (ls ++ ks) ≡ written ls ++ written ks
  unfolding written flat_map
  written_append [] ks = refl
  written_append (l ∷ ls) ks =
      ap (λ (r : List ℕ). form l.kind l.values ++ r) (written_append ls ks)
      ∙ sym (append_assoc (form l.kind l.values) (written ls) (written ks))

  pub written_one : (l : Line) → written (l ∷ []) ≡ form l.kind l.values
  unfolding written flat_map
  written_one l = append-nil (form l.kind l.values)

  module _ {A : Type 0} where
    -- `a`, which `W` holds of, was read from its lines `L a`
    pub record Read (W : A → Type 0) (L : A → List Line) (n : ℕ) (s : List ℕ) (a : A) (n' : ℕ) (rest : List ℕ) : Type 0 where
      pub valid : W a
      pub from : s ≡ written (L a) ++ rest
      pub place : n' ≡ n + length (L a)

    -- `m` reads every value that `W` holds of from its lines, and nothing else from anything else
    pub record Exact (m : Reader A) (W : A → Type 0) (L : A → List Line) : Type 0 where
      pub only : (n : ℕ) (s : List ℕ) (a : A) (n' : ℕ) (rest : List ℕ) → m n s ≡ read a n' rest → Read W L n s a n' rest
      pub every : (a : A) → W a → (n : ℕ) (rest : List ℕ) → m n (written (L a) ++ rest) ≡ read a (n + length (L a)) rest

    -- A reader is exact for any equal form and equal lines
    pub exact_as : {m : Reader A} {W W' : A → Type 0} {L L' : A → List Line} → ((a : A) → W a ↔ W' a) → ((a : A) → W a → L a ≡ L' a)
        → Exact m W L → Exact m W' L'
    exact_as {m} {W} {W'} {L} {L'} e l x = record {
      only = λ n s a n' rest h.
          let r = x.only n s a n' rest h in
          let q : L a ≡ L' a = l a r.valid in
          record { valid = (e a).0 r.valid; from = rw (← q) r.from; place = rw (← q) r.place };
      every = λ a w n rest.
          let q : L a ≡ L' a = l a ((e a).1 w) in
          rw (← q) (x.every a ((e a).1 w) n rest);
    }

    pub pure-exact : (a : A) → Exact (pure a) (λ (b : A). b ≡ a) (λ (b : A). [])
    unfolding written flat_map
    pure-exact a = record {
      only = λ n s b n' rest e.
          let p : b ≡ a = cc in
          let q : s ≡ rest = cc in
          let r : n' ≡ n = cc in
          record { valid = p; from = q; place = rw r (sym (add-zero n)) };
      every = λ b e n rest. rw (e, add-zero);
    }

  -- What is read from some lines and then from others is read from both
  from-both : (ls ks : List Line) (rest : List ℕ) {s t : List ℕ} → s ≡ written ls ++ t → t ≡ written ks ++ rest → s ≡ written (ls ++ ks) ++ rest
  from-both ls ks rest p q =
      p ∙ ap (λ (r : List ℕ). written ls ++ r) q ∙ sym (append_assoc (written ls) (written ks) rest)
      ∙ ap (λ (r : List ℕ). r ++ rest) (sym (written_append ls ks))

  -- A reader and the one that follows it; `part` is what the first one read of the whole
  pub bind_exact : {A B : Type 0} (m : Reader A) (f : A → Reader B) {W : A → Type 0} {L : A → List Line}
      {W' : A → B → Type 0} {L' : A → B → List Line} (part : B → A)
      → ((a : A) (b : B) → W a → W' a b → part b ≡ a) → Exact m W L → ((a : A) → W a → Exact (f a) (W' a) (L' a))
      → Exact (m >>= f) (λ (b : B). W (part b) × W' (part b) b) (λ (b : B). L (part b) ++ L' (part b) b)
  bind_exact m f {W} {L} {W'} {L'} part known x y = record {
    only = λ n s b n' rest e.
        bind_cases m f n s e λ a i t p q.
        let h = x.only n s a i t p in
        let k = (y a h.valid).only i t b n' rest q in
        let same-a : part b ≡ a = known a b h.valid k.valid in
        record {
          valid = rw same-a (h.valid, k.valid);
          from = rw same-a (from-both (L a) (L' a b) rest h.from k.from);
          place = rw (same-a, k.place, h.place, length-append) (add_assoc n _ _);
        };
    every = λ b w n rest.
        let a = part b in
        let first = bind_read m f n _ a _ _ (x.every a w.0 n (written (L' a b) ++ rest)) in
        rw (written_append, append_assoc, length-append, ← add_assoc) (first ∙ (y a w.0).every b w.1 _ rest);
  }

  -- A reader of a first element, and a reader of the others that follows it
  module _ {A : Type 0} (W : A → Type 0) (W' : A → List A → Type 0) where
    abbrev pub ConsForm : List A → Type 0
    ConsForm [] = ⊥
    ConsForm (a ∷ bs) = W a × W' a bs

    module _ (L : A → List Line) (L' : List A → List Line) where
      abbrev pub ConsLines : List A → List Line
      ConsLines [] = []
      ConsLines (a ∷ bs) = L a ++ L' bs

      pub cons-exact : (m : Reader A) (f : A → Reader (List A)) → Exact m W L → ((a : A) → W a → Exact (f a) (W' a) L')
          → Exact (m >>= λ a. f a >>= λ bs. pure (a ∷ bs)) ConsForm ConsLines
      cons-exact m f x y = record { only = only; every = every }
        where
          only : (n : ℕ) (s : List ℕ) (os : List A) (n' : ℕ) (rest : List ℕ) → (m >>= λ a. f a >>= λ bs. pure (a ∷ bs)) n s ≡ read os n' rest
              → Read ConsForm ConsLines n s os n' rest
          only n s os n' rest e =
              bind_cases m _ n s e λ a i t p e'.
              let first = x.only n s a i t p in
              bind_cases (f a) _ i t e' λ bs j u q e''.
              let others = (y a first.valid).only i t bs j u q in
              let same-os : os ≡ a ∷ bs = cc in
              let same-n : n' ≡ j = cc in
              let same_rest : rest ≡ u = cc in
              rw (same-os, same-n, same_rest) (record {
                valid = (first.valid, others.valid);
                from = from-both (L a) (L' bs) u first.from others.from;
                place = rw length-append (omega (arith, first.place, others.place));
              })

          every : (os : List A) → ConsForm os → (n : ℕ) (rest : List ℕ)
              → (m >>= λ a. f a >>= λ bs. pure (a ∷ bs)) n (written (ConsLines os) ++ rest) ≡ read os (n + length (ConsLines os)) rest
          every [] w n rest = absurd w
          every (a ∷ bs) w n rest =
              rw (written_append, append_assoc, length-append, ← add_assoc)
              (bind_read m _ n _ a _ _ (x.every a w.0 n (written (L' bs) ++ rest))
              ∙ bind_read (f a) _ _ _ bs _ _ ((y a w.0).every bs w.1 (n + length (L a)) rest))

  -- One reader for each element
  module _ {X A : Type 0} (f : X → Reader A) (W : X → A → Type 0) (line_of : A → Line) where
    pub for_each-exact : (xs : List X) → ((x : X) → x ∈ xs → Exact (f x) (W x) (λ (a : A). line_of a ∷ []))
        → Exact (for_each f xs) (Each2 W xs) (map line_of)
    unfolding for_each
    for_each-exact [] h = exact_as none-form (λ os e. rw e) (pure-exact [])
      where
        none-form : (os : List A) → (os ≡ []) ↔ Each2 W [] os
        none-form [] = (λ e. tt, λ h. refl)
        none-form (o ∷ os) = (λ e. let z : ◌≡◌ {A = ℕ} 0 1 = cc in absurd (omega arith), λ h. absurd h)
    for_each-exact (x ∷ xs) h =
        exact_as cons-form cons-lines (cons-exact (W x) (λ a. Each2 W xs) (λ a. line_of a ∷ []) (map line_of) (f x) (λ a. for_each f xs)
        (h x (here refl)) (λ a w. for_each-exact xs (λ y m. h y (there m))))
      where
        cons-form : (os : List A) → ConsForm (W x) (λ a. Each2 W xs) os ↔ Each2 W (x ∷ xs) os
        cons-form [] = (λ h. h, λ h. h)
        cons-form (o ∷ os) = (λ h. h, λ h. h)

        cons-lines : (os : List A) → ConsForm (W x) (λ a. Each2 W xs) os
            → ConsLines (W x) (λ a. Each2 W xs) (λ a. line_of a ∷ []) (map line_of) os ≡ map line_of os
        cons-lines [] w = absurd w
        cons-lines (o ∷ os) w = refl
