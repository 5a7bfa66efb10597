-- The predicates of a diagram with their sets: `placed_from` and what is made from it.
use Rattle.std.specs.Prelude.{ℕ, suc, ◌+◌, ◌≡◌, refl, length}
use Rattle.std.proofs.Common.{ap, subst, ⊎_elim, add-zero, add-suc, suc-add, arith, length-append}
use mathlib.Core.List.Memᴰ
use mathlib.Core.List.Memᴰ.{head as here}
use mathlib.Core.List.Memᴰ.{tail as there}
use mathlib.Core.List.{List, [], ◌∷◌, ◌++◌, map, flat_map, flatten, zip_with}
use Rattle.counting.proofs.Laws.Index.{at_append_cases, at_append_left, at_append_right}
use Rattle.counting.specs.Index.{At, first, later}
use Rattle.counting.specs.Lists.{up_from}
use Rattle.counting.proofs.Laws.Range.{up_from_append}
use Rattle.counting.specs.Terms.{◌∈◌}
use Rattle.orm.specs.Diagram.{ObjectType, Predicate, Role}
use Rattle.orm.specs.Meaning.{EachPred, EachType}
use Rattle.orm.specs.Sets.{Placed, placed_from}

-- The sets of a predicate's roles and of its groups
abbrev pub role_sets : Placed → List ℕ
role_sets x = up_from x.roles (length x.predicate.roles)

abbrev pub group_sets : Placed → List ℕ
group_sets x = up_from x.groups (length x.predicate.groups)

pub own-sets : (r p q : ℕ) (ps : List Predicate) → map (λ (x : Placed). x.own) (placed_from r p q ps) ≡ up_from r (length ps)
unfolding placed_from up_from
own-sets r p q [] = refl
own-sets r p q (x ∷ ps) = ap (r ∷◌) (own-sets (suc r) _ _ ps)

pub role-sets : (r p q : ℕ) (ps : List Predicate)
    → flat_map role_sets (placed_from r p q ps) ≡ up_from p (length (flat_map (λ (x : Predicate). x.roles) ps))
unfolding placed_from up_from flat_map
role-sets r p q [] = refl
role-sets r p q (x ∷ ps) = rw (length-append, up_from_append) (ap (up_from p (length x.roles) ++◌) (role-sets (suc r) _ _ ps))

pub group-sets : (r p q : ℕ) (ps : List Predicate)
    → flat_map group_sets (placed_from r p q ps) ≡ up_from q (length (flat_map (λ (x : Predicate). x.groups) ps))
unfolding placed_from up_from flat_map
group-sets r p q [] = refl
group-sets r p q (x ∷ ps) = rw (length-append, up_from_append) (ap (up_from q (length x.groups) ++◌) (group-sets (suc r) _ _ ps))

-- A predicate's number
pub placed_at : (r p q : ℕ) (ps : List Predicate) {x : Placed} → x ∈ placed_from r p q ps → (k : ℕ) × At x.predicate ps k × (x.own ≡ r + k)
unfolding placed_from
placed_at r p q [] m = absurd (Memᴰ.not-nil m)
placed_at r p q (y ∷ ps) (here e) = (0, first (ap (λ (z : Placed). z.predicate) e), rw (e, add-zero))
placed_at r p q (y ∷ ps) (there m) = let (k, h, e) = placed_at (suc r) _ _ ps m in (suc k, later h, omega arith)

-- The predicate of a role that is given by its number in the diagram
pub role-placed : (r p q : ℕ) (ps : List Predicate) {k : ℕ} {a : Role} → At a (flat_map (λ (x : Predicate). x.roles) ps) k
    → (x : Placed) × (x ∈ placed_from r p q ps) × (j : ℕ) × At a x.predicate.roles j × (p + k ≡ x.roles + j)
unfolding placed_from flat_map
role-placed r p q [] {k = k} {a = a} h = elim h [ ]
role-placed r p q (y ∷ ps) {k} h =
    ⊎_elim (λ l. (record { predicate = y; own = r; roles = p; groups = q }, here refl, k, l, refl))
    (λ (i, e, l). let (x, m, j, l', e') = role-placed (suc r) (p + length y.roles) (q + length y.groups) ps l in
    (x, there m, j, l', omega arith))
    (at_append_cases y.roles h)

-- A predicate's role by its number in the diagram
pub placed-role : (r p q : ℕ) (ps : List Predicate) {x : Placed} {j : ℕ} {a : Role} → x ∈ placed_from r p q ps → At a x.predicate.roles j
    → (k : ℕ) × At a (flat_map (λ (y : Predicate). y.roles) ps) k × (x.roles + j ≡ p + k)
unfolding placed_from flat_map
placed-role r p q [] m h = absurd (Memᴰ.not-nil m)
placed-role r p q (y ∷ ps) {x} {j} {a} (here e) h =
    let same_predicate : x.predicate ≡ y = ap (λ (z : Placed). z.predicate) e in
    let same_roles : x.roles ≡ p = ap (λ (z : Placed). z.roles) e in
    (j, at_append_left _ (subst (λ (z : Predicate). At a z.roles j) same_predicate h), omega arith)
placed-role r p q (y ∷ ps) (there m) h =
    let (k, l, e) = placed-role (suc r) (p + length y.roles) (q + length y.groups) ps m h in
    (length y.roles + k, at_append_right y.roles l, omega arith)

-- What is made of each predicate and its rows
pub flatten-placed : {A : Type 0} (f : Predicate → List (List ℕ) → List A) (g : Placed → List (List ℕ)) (r p q : ℕ) (ps : List Predicate)
    → flatten (zip_with f ps (map g (placed_from r p q ps))) ≡ flat_map (λ x. f x.predicate (g x)) (placed_from r p q ps)
unfolding placed_from flat_map flatten zip_with
flatten-placed f g r p q [] = refl
flatten-placed f g r p q (x ∷ ps) = rw (flatten-placed f g (suc r) (p + length x.roles) (q + length x.groups) ps)

pub each-pred : (P : Predicate → List (List ℕ) → Type 0) (g : Placed → List (List ℕ)) (r p q : ℕ) (ps : List Predicate)
    → ((x : Placed) → x ∈ placed_from r p q ps → P x.predicate (g x)) → EachPred P ps (map g (placed_from r p q ps))
unfolding placed_from
each-pred P g r p q [] h = tt
each-pred P g r p q (x ∷ ps) h = (h _ (here refl), each-pred P g (suc r) _ _ ps (λ y m. h y (there m)))

pub each-type : (P : ℕ → ObjectType → List ℕ → Type 0) (g : ℕ → List ℕ) (n : ℕ) (ts : List ObjectType)
    → ((a : ℕ) (t : ObjectType) → At t ts a → P (suc (n + a)) t (g (n + a))) → EachType P (suc n) ts (map g (up_from n (length ts)))
unfolding up_from
each-type P g n [] h = tt
each-type P g n (t ∷ ts) h =
    (rw add-zero at (h 0 t (first refl)), each-type P g (suc n) ts (λ a u l. rw (suc-add n a, ← add-suc n a) (h (suc a) u (later l))))
