-- The groups of a diagram are the last sets, in file order; the one with a number is found in a walk over the predicates.
use Rattle.std.specs.Prelude.{ℕ, suc, ◌+◌, ◌≤◌, ◌<◌, ◌≡◌, length}
use Rattle.std.proofs.Math.Path.{refl}
use Rattle.std.proofs.Common.{sym, ap, ap₂, ◌∙◌, ⊎_elim, eq-eqb, ne_eqb, length-append}
use Rattle.std.proofs.Math.Option.{none, some, some-injective, none-ne-some}
use mathlib.Core.List.Memᴰ
use mathlib.Core.List.{List, [], ◌∷◌, ◌++◌, map, flat_map, map-append}
use mathlib.Core.List.Memᴰ.{head as here}
use mathlib.Core.List.Memᴰ.{tail as there}
use native.Mathlib.Omega.{arith}
use Rattle.std.proofs.Math.Nat.{suc_inj}
use Rattle.std.proofs.Math.Decide.{ℕ_discrete}
use Rattle.counting.specs.Lists.{up_from, map_from}
use Rattle.counting.proofs.Laws.Index.{of-map_from, at-below}
use Rattle.counting.proofs.Laws.Range.{up_from_append, up_from_no_repeats}
use Rattle.counting.specs.Terms.{◌∈◌, NoRepeats}
use Rattle.orm.specs.Diagram.{Frequency, Predicate, Diagram, all_groups}
use Rattle.orm.specs.Sets.{Placed, placed_from, placed, first_pred, first_role, first_group, set_count}
use Rattle.orm.specs.Outcome.{refused, accepted}
use Rattle.orm.specs.Meaning.{Between}
use Rattle.orm.specs.Average.{PlacedGroup, groups_of_placed, placed_groups, group_numbered, group_in}

-- ---- one group, and the others

module _ (number : ℕ) (g : PlacedGroup) (gs : List PlacedGroup) where
  pub numbered-here : number ≡ suc g.own → group_numbered number (g ∷ gs) ≡ some g
  unfolding group_numbered
  numbered-here e = rw (eq-eqb number (suc g.own) e, group_numbered) refl

  pub numbered-there : ¬ (number ≡ suc g.own) → group_numbered number (g ∷ gs) ≡ group_numbered number gs
  unfolding group_numbered
  numbered-there n = rw (ne_eqb number (suc g.own) n, group_numbered) refl

-- The group that is found is one of them, and has the number
pub numbered-one : (number : ℕ) (gs : List PlacedGroup) {g : PlacedGroup} → group_numbered number gs ≡ some g → (g ∈ gs) × (number ≡ suc g.own)
unfolding group_numbered
numbered-one number [] {g} e = absurd (none-ne-some g e)
numbered-one number (h ∷ gs) {g} e = elim (ℕ_discrete number (suc h.own)) [
  | yes q ↦ let same : h ≡ g = some-injective h g (sym (numbered-here number h gs q) ∙ e) in
      (here (sym same), q ∙ ap (λ (x : PlacedGroup). suc x.own) same)
  | no n ↦ let (m, q) = numbered-one number gs (sym (numbered-there number h gs n) ∙ e) in (there m, q)
]

-- Where none is found, none has it
pub numbered-none : (number : ℕ) (gs : List PlacedGroup) → group_numbered number gs ≡ none → (g : PlacedGroup) → g ∈ gs → ¬ (number ≡ suc g.own)
unfolding group_numbered
numbered-none number [] e g x3 p = elim x3 [ ]
numbered-none number (h ∷ gs) e g (here q) p =
    absurd (none-ne-some h (sym e ∙ numbered-here number h gs (p ∙ ap (λ (x : PlacedGroup). suc x.own) q)))
numbered-none number (h ∷ gs) e g (there m) p = elim (ℕ_discrete number (suc h.own)) [
  | yes q ↦ none-ne-some h (sym e ∙ numbered-here number h gs q)
  | no n ↦ numbered-none number gs (sym (numbered-there number h gs n) ∙ e) g m p
]

-- and where none has it, none is found
pub no_number : (number : ℕ) (gs : List PlacedGroup) → ((g : PlacedGroup) → g ∈ gs → ¬ (number ≡ suc g.own)) → group_numbered number gs ≡ none
unfolding group_numbered
no_number number [] n = refl
no_number number (g ∷ gs) n = numbered-there number g gs (n g (here refl)) ∙ no_number number gs (λ h m. n h (there m))

-- Each is found by its number, where no two have the same
numbered : (g : PlacedGroup) (gs : List PlacedGroup) → NoRepeats (map (λ (h : PlacedGroup). h.own) gs) → g ∈ gs
    → group_numbered (suc g.own) gs ≡ some g
numbered g [] n x'' = elim x'' [ ]
numbered g (h ∷ gs) n (here e) = rw e (numbered-here (suc h.own) h gs refl)
numbered g (h ∷ gs) n (there m) =
    let apart : ¬ (suc g.own ≡ suc h.own) = λ q. n.0 (rw (suc_inj q) at (Memᴰ.map (λ (k : PlacedGroup). k.own) m)) in
    numbered-there (suc g.own) h gs apart ∙ numbered g gs n.1 m

-- ---- the groups of a predicate, whose set is r, and those behind

abbrev groups_from : ℕ → ℕ → List Frequency → List PlacedGroup
groups_from r q fs = map_from (λ (i : ℕ) (f : Frequency). record { own = i; predicate = r; frequency = f }) q fs

module _ (r number : ℕ) (gs : List PlacedGroup) where
  among-from : (q : ℕ) (fs : List Frequency) → q < number → number ≤ q + length fs
      → (g : PlacedGroup) × (group_numbered number (groups_from r q fs ++ gs) ≡ some g) × (g.predicate ≡ r)
  unfolding map_from
  among-from q [] a b = absurd (omega arith)
  among-from q (f ∷ fs) a b = elim (ℕ_discrete number (suc q)) [
    | yes e ↦ (record { own = q; predicate = r; frequency = f }, numbered-here number _ _ e, refl)
    | no n ↦ let (g, e, p) = among-from (suc q) fs (omega arith) (omega arith) in (g, numbered-there number _ _ n ∙ e, p)
  ]

  past-from : (q : ℕ) (fs : List Frequency) → ¬ Between (suc q) number (q + length fs) → group_numbered number (groups_from r q fs ++ gs) ≡ group_numbered number gs
  unfolding map_from
  past-from q [] n = refl
  past-from q (f ∷ fs) n =
      numbered-there number _ _ (λ e. n (omega arith, omega arith)) ∙ past-from (suc q) fs (λ b. n (omega (arith, b.0), omega (arith, b.1)))

module _ (number : ℕ) (x : Placed) (gs : List PlacedGroup) where
  pub among-groups : x.groups < number → number ≤ x.groups + length x.predicate.groups
      → (g : PlacedGroup) × (group_numbered number (groups_of_placed x ++ gs) ≡ some g) × (g.predicate ≡ x.own)
  unfolding groups_of_placed
  among-groups a b = among-from x.own number gs x.groups x.predicate.groups a b

  pub past-groups : ¬ Between (suc x.groups) number (x.groups + length x.predicate.groups)
      → group_numbered number (groups_of_placed x ++ gs) ≡ group_numbered number gs
  unfolding groups_of_placed
  past-groups n = past-from x.own number gs x.groups x.predicate.groups n

-- No group has a number up to the first group's set
pub below_all : (number r p q : ℕ) (ps : List Predicate) → number ≤ q → group_numbered number (flat_map groups_of_placed (placed_from r p q ps)) ≡ none
unfolding placed_from flat_map group_numbered
below_all number r p q [] h = refl
below_all number r p q (x ∷ ps) h =
    past-groups number (record { predicate = x; own = r; roles = p; groups = q }) _ (λ b. omega (arith, b.0))
    ∙ below_all number (suc r) (p + length x.roles) (q + length x.groups) ps (omega arith)

-- ---- all groups, by their numbers and by their frequencies

owns-from : (r q : ℕ) (fs : List Frequency) → map (λ (g : PlacedGroup). g.own) (groups_from r q fs) ≡ up_from q (length fs)
unfolding map_from up_from
owns-from r q [] = refl
owns-from r q (f ∷ fs) = ap (q ∷◌) (owns-from r (suc q) fs)

owns : (r p q : ℕ) (ps : List Predicate)
    → map (λ (g : PlacedGroup). g.own) (flat_map groups_of_placed (placed_from r p q ps)) ≡ up_from q (length (flat_map (λ (x : Predicate). x.groups) ps))
unfolding placed_from flat_map groups_of_placed up_from
owns r p q [] = refl
owns r p q (x ∷ ps) = rw (map-append, length-append, up_from_append) (ap₂ ◌++◌ (owns-from r q x.groups) (owns (suc r) _ _ ps))

pub numbers-are : (d : Diagram) → map (λ (g : PlacedGroup). g.own) (placed_groups d) ≡ up_from (first_group d) (length (all_groups d))
unfolding placed_groups placed all_groups
numbers-are d = owns _ _ _ d.preds

pub numbered-placed : (d : Diagram) {g : PlacedGroup} → g ∈ placed_groups d → group_numbered (suc g.own) (placed_groups d) ≡ some g
numbered-placed d {g} m = numbered g (placed_groups d) (rw (numbers-are d) (up_from_no_repeats _ _)) m

frequencies-from : (r q : ℕ) (fs : List Frequency) → map (λ (g : PlacedGroup). g.frequency) (groups_from r q fs) ≡ fs
unfolding map_from
frequencies-from r q [] = refl
frequencies-from r q (f ∷ fs) = ap (f ∷◌) (frequencies-from r (suc q) fs)

frequencies : (r p q : ℕ) (ps : List Predicate)
    → map (λ (g : PlacedGroup). g.frequency) (flat_map groups_of_placed (placed_from r p q ps)) ≡ flat_map (λ (x : Predicate). x.groups) ps
unfolding placed_from flat_map groups_of_placed
frequencies r p q [] = refl
frequencies r p q (x ∷ ps) = rw map-append (ap₂ ◌++◌ (frequencies-from r q x.groups) (frequencies (suc r) _ _ ps))

pub frequencies-are : (d : Diagram) → map (λ (g : PlacedGroup). g.frequency) (placed_groups d) ≡ all_groups d
unfolding placed_groups placed all_groups
frequencies-are d = frequencies _ _ _ d.preds

-- ---- the sets of a group and of its predicate are among those of the diagram

abbrev Below : ℕ → ℕ → PlacedGroup → Type 0
Below r q g = (g.predicate < r) × (g.own < q)

below_each : (r p q : ℕ) (ps : List Predicate) {g : PlacedGroup} → g ∈ flat_map groups_of_placed (placed_from r p q ps)
    → Below (r + length ps) (q + length (flat_map (λ (x : Predicate). x.groups) ps)) g
unfolding placed_from flat_map groups_of_placed
below_each r p q [] m = absurd (Memᴰ.not-nil m)
below_each r p q (x ∷ ps) {g} m =
    let counts : length (x.groups ++ flat_map (λ (y : Predicate). y.groups) ps) ≡ length x.groups + length (flat_map (λ (y : Predicate). y.groups) ps) =
    length-append x.groups _ in
    ⊎_elim
    (λ l. let (k, f, at, e) = of-map_from _ q x.groups l in rw e (omega arith, omega (arith, counts, at-below at)))
    (λ l. let b = below_each (suc r) (p + length x.roles) (q + length x.groups) ps l in (omega (arith, b.0), omega (arith, counts, b.1)))
    (Memᴰ.append_cases (groups_of_placed (record { predicate = x; own = r; roles = p; groups = q })) m)

pub group-among : (d : Diagram) {g : PlacedGroup} → g ∈ placed_groups d → Below (set_count d) (set_count d) g
unfolding placed_groups placed set_count first_group first_role first_pred all_groups
group-among d m = let b = below_each (first_pred d) (first_role d) (first_group d) d.preds m in (omega (arith, b.0), omega (arith, b.1))

-- ---- the group in a diagram, or none

module _ (d : Diagram) (number : ℕ) where
  pub is-group : {g : PlacedGroup} → group_numbered number (placed_groups d) ≡ some g → group_in d number ≡ accepted g
  unfolding group_in
  is-group e = rw (e, group_in) refl

  pub no_group : group_numbered number (placed_groups d) ≡ none → group_in d number ≡ refused 10 number 0
  unfolding group_in
  no_group e = rw (e, group_in) refl
