-- Members with a mark each: those that are met get a stamp.
use Rattle.std.specs.Prelude.{ℕ, suc, ◌<◌, ◌≡◌, refl, Bool, true, false, not, ◌&&◌, ◌||◌, List, [], ◌∷◌, ◌++◌, eqb, length, get_or, replicate}
use Rattle.std.proofs.Common.{arith, sym, ap, ap₂, ◌∙◌, ne_eqb}
use Rattle.std.proofs.Math.Bool.{or-true, or-false, and-eq-true_iff}
use Rattle.std.proofs.lemmas.Bool.{false≢true}
use Rattle.counting.specs.Distinct.{all, member, within}
use Rattle.counting.proofs.Laws.Distinct.{member_append}
use Rattle.sorting.specs.Rising.{Rising}

-- The member was met, if its mark is no 0
unfoldable pub is_set : ℕ → Bool
is_set m = not (eqb m 0)

-- Stamp k if the member is met, else the mark as it was
abbrev pub stamped_if : Bool → ℕ → ℕ → ℕ
stamped_if true k m = k
stamped_if false k m = m

-- Those of the values that are members
unfoldable pub among : List ℕ → List ℕ → List ℕ
among ws [] = []
among ws (v ∷ vs) = elim (member eqb v ws) [ true ↦ v ∷ among ws vs | false ↦ among ws vs ]

-- The members rise, and there is a mark for each
pub record Marked (ws ms : List ℕ) : Type 0 where
  pub rising : Rising ws
  pub long : length ms ≡ length ws

-- Each member was met or is among the values
unfoldable pub all_met : List ℕ → List ℕ → List ℕ → Bool
all_met [] ms vs = true
all_met (w ∷ ws) [] vs = true
all_met (w ∷ ws) (m ∷ ms) vs = (is_set m || member eqb w vs) && all_met ws ms vs

-- The values `vs` are met with stamp k
pub met-then : (k : ℕ) (ws ms ms' vs us : List ℕ) → 0 < k → length ms ≡ length ws → length ms' ≡ length ws
    → ((i : ℕ) → i < length ws → get_or ms' i 0 ≡ stamped_if (member eqb (get_or ws i 0) vs) k (get_or ms i 0)) → all_met ws ms' us ≡ all_met ws ms (vs ++ us)
unfolding all_met is_set
met-then k [] ms ms' vs us h e f p = refl
met-then k (w ∷ ws) [] ms' vs us h e f p = absurd (omega arith)
met-then k (w ∷ ws) (m ∷ ms) [] vs us h e f p = absurd (omega arith)
met-then k (w ∷ ws) (m ∷ ms) (m' ∷ ms') vs us h e f p =
    ap₂ ◌&&◌ here (met-then k ws ms ms' vs us h (omega arith) (omega arith) (λ i l. p (suc i) (omega arith)))
  where
    go : (b : Bool) → (is_set (stamped_if b k m) || member eqb w us) ≡ (is_set m || (b || member eqb w us))
    go true = rw (ne_eqb k 0 (λ z. omega arith), or-true)
    go false = refl

    here : (is_set m' || member eqb w us) ≡ (is_set m || member eqb w (vs ++ us))
    here = rw (p 0 (omega arith), member_append eqb w vs us) (go (member eqb w vs))

pub met-end : (ws ms : List ℕ) → length ms ≡ length ws → all_met ws ms [] ≡ all is_set ms
unfolding all_met all member
met-end [] [] e = refl
met-end [] (m ∷ ms) e = absurd (omega arith)
met-end (w ∷ ws) [] e = absurd (omega arith)
met-end (w ∷ ws) (m ∷ ms) e = ap₂ ◌&&◌ (or-false (is_set m)) (met-end ws ms (omega arith))

-- Of members none of which was met before
pub met_start : (ws vs : List ℕ) → all_met ws (replicate (length ws) 0) vs ≡ within eqb ws vs
unfolding all_met is_set within
met_start [] vs = refl
met_start (w ∷ ws) vs = ap (λ (b : Bool). member eqb w vs && b) (met_start ws vs)

-- ---- the values that are members

pub among-all : (ws vs : List ℕ) → within eqb vs ws ≡ true → among ws vs ≡ vs
unfolding among within
among-all ws [] h = refl
among-all ws (v ∷ vs) h =
    let (p, q) = (and-eq-true_iff (member eqb v ws) (within eqb vs ws)).0 h in rw (among, p, among-all ws vs q)

pub member-among : (x : ℕ) (ws vs : List ℕ) → member eqb x ws ≡ true → member eqb x (among ws vs) ≡ member eqb x vs
unfolding among member
member-among x ws [] h = refl
member-among x ws (v ∷ vs) h = go (member eqb v ws) refl (member-among x ws vs h)
  where
    go : (b : Bool) → member eqb v ws ≡ b → member eqb x (among ws vs) ≡ member eqb x vs
        → member eqb x (elim b [ true ↦ v ∷ among ws vs | false ↦ among ws vs ]) ≡ (eqb x v || member eqb x vs)
    go true q ih = rw ih
    go false q ih =
        let other : ¬ (x ≡ v) = λ e. false≢true (sym q ∙ (rw e at h)) in rw (ne_eqb x v other) ih
