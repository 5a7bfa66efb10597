-- Populations and the constraints K1 to K11 as propositions; `proofs/Laws/Decided` shows that the tests of `Constraints` decide them
-- (document 01, 'Constraints of a population').
use Rattle.std.specs.Prelude.{ℕ, suc, ◌≤◌, ◌≡◌, ◌⊎◌, List, [], ◌∷◌, length}
use Rattle.counting.specs.Lists.{same}
use Rattle.counting.specs.Distinct.{occurrences}
use Rattle.counting.specs.Terms.{◌∈◌, ◌⊆◌, Each, Each2, NoRepeats}
use Rattle.orm.specs.Diagram.{ObjectType, Role, Predicate, Diagram, all_roles}
use Rattle.orm.specs.Population.{Population, cells}
use Rattle.orm.specs.Constraints.{Played, Grouped, member_count, played, grouped, all_played, members_of}

-- `low..high`
abbrev pub Between : ℕ → ℕ → ℕ → Type 0
Between low n high = (low ≤ n) × (n ≤ high)

-- A statement of each type, with its number, and its members; of each predicate and its rows
abbrev pub EachType : (ℕ → ObjectType → List ℕ → Type 0) → ℕ → List ObjectType → List (List ℕ) → Type 0
EachType P number [] os = Unit {0}
EachType P number (t ∷ ts) [] = Unit {0}
EachType P number (t ∷ ts) (vs ∷ os) = P number t vs × EachType P (suc number) ts os

abbrev pub EachPred : (Predicate → List (List ℕ) → Type 0) → List Predicate → List (List (List ℕ)) → Type 0
EachPred P [] os = Unit {0}
EachPred P (p ∷ ps) [] = Unit {0}
EachPred P (p ∷ ps) (rows ∷ os) = P p rows × EachPred P ps os

-- ---- of the type with this number, and its members

-- K1 'a type's values differ'
abbrev pub M1 : ℕ → ObjectType → List ℕ → Type 0
M1 number t vs = NoRepeats vs

-- K2 'type size MIN..MAX'
abbrev pub M2 : ℕ → ObjectType → List ℕ → Type 0
M2 number t vs = Between t.min (length vs) t.max

-- The type gives FIRST and LAST: a root, or a subtype that does not write 0,0
abbrev pub HasRange : ObjectType → Type 0
HasRange t = (t.super ≡ 0) ⊎ (¬ ((t.first ≡ 0) × (t.last ≡ 0)))

-- K3 'root values in FIRST..LAST', and those of a subtype that gives them
abbrev pub M3 : ℕ → ObjectType → List ℕ → Type 0
M3 number t vs = HasRange t → (v : ℕ) → v ∈ vs → Between t.first v t.last

-- K4 'subtype within supertype'
abbrev pub M4 : Population → ℕ → ObjectType → List ℕ → Type 0
M4 o number t vs = ¬ (t.super ≡ 0) → vs ⊆ members_of o t.super

-- ---- of a predicate and its rows

-- K5 'rows differ'
abbrev pub M5 : Predicate → List (List ℕ) → Type 0
M5 p rows = NoRepeats rows

-- K6 'predicate size MIN..MAX'
abbrev pub M6 : Predicate → List (List ℕ) → Type 0
M6 p rows = Between p.min (length rows) p.max

-- K7 'each value belongs to the role's type'
abbrev pub M7 : Population → Predicate → List (List ℕ) → Type 0
M7 o p rows = (x : Played) → x ∈ played p rows → x.values ⊆ members_of o x.role.type

-- K8 'mandatory: every member of the type in that role'
abbrev pub M8 : Population → Predicate → List (List ℕ) → Type 0
M8 o p rows = (x : Played) → x ∈ played p rows → x.role.mand ≡ 1 → members_of o x.role.type ⊆ x.values

-- K9 'each occurring group combination occurs FMIN..FMAX times'
abbrev pub M9 : Predicate → List (List ℕ) → Type 0
M9 p rows =
    (x : Grouped) → x ∈ grouped p rows → (v : List ℕ) → v ∈ x.combinations
    → Between x.frequency.fmin (occurrences same v x.combinations) x.frequency.fmax

-- ---- of the type with this number, and its members, again

-- A value is in the column of a role, among these, that the type with this number plays
abbrev pub InRoleOf : ℕ → List Played → ℕ → Type 0
InRoleOf number l v = (x : Played) × (x ∈ l) × (x.role.type ≡ number) × (v ∈ x.values)

-- The type with this number plays one of these roles
abbrev pub Plays : ℕ → List Role → Type 0
Plays number rs = (r : Role) × (r ∈ rs) × (r.type ≡ number)

-- Each member of the type with this number must be in a role that the type plays: it is not independent, and not a 'subtype that plays no role'
-- (document 02, S-2)
abbrev pub MustPlay : Diagram → ℕ → ObjectType → Type 0
MustPlay d number t = (¬ (t.indep ≡ 1)) × ((t.super ≡ 0) ⊎ Plays number (all_roles d))

-- K10 'each member of a non-independent type is in a role that type plays', of a type that must play
abbrev pub M10 : Diagram → Population → ℕ → ObjectType → List ℕ → Type 0
M10 d o number t vs = MustPlay d number t → (v : ℕ) → v ∈ vs → InRoleOf number (all_played d o) v

-- ---- of a predicate and its rows, again

-- K11 'role members number RMIN..RMAX'
abbrev pub M11 : Predicate → List (List ℕ) → Type 0
M11 p rows = (x : Played) → x ∈ played p rows → Between x.role.rmin (member_count x) x.role.rmax

-- ---- the population

-- 'It meets the diagram's constraints when it breaks no K'; said of a population of the diagram's shape (`Shaped`)
pub record Meets (d : Diagram) (o : Population) : Type 0 where
  pub k1 : EachType M1 1 d.types o.types
  pub k2 : EachType M2 1 d.types o.types
  pub k3 : EachType M3 1 d.types o.types
  pub k4 : EachType (M4 o) 1 d.types o.types
  pub k5 : EachPred M5 d.preds o.preds
  pub k6 : EachPred M6 d.preds o.preds
  pub k7 : EachPred (M7 o) d.preds o.preds
  pub k8 : EachPred (M8 o) d.preds o.preds
  pub k9 : EachPred M9 d.preds o.preds
  pub k10 : EachType (M10 d o) 1 d.types o.types
  pub k11 : EachPred M11 d.preds o.preds

-- Every row has a cell for each role
abbrev pub Rows : Predicate → List (List ℕ) → Type 0
Rows p rows = Each (λ row. length row ≡ length p.roles) rows

-- Values for each type, and rows for each predicate
pub record Shaped (d : Diagram) (o : Population) : Type 0 where
  pub types : length o.types ≡ length d.types
  pub preds : Each2 Rows d.preds o.preds

-- The cells are a population of the diagram ('any list of cells in the order above, cut by its own size cells, that neither ends early
-- nor runs on'), and it meets the diagram's constraints
pub record ValidPopulation (d : Diagram) (s : List ℕ) : Type 0 where
  pub population : Population
  pub shaped : Shaped d population
  pub cells_of : s ≡ cells population
  pub meets : Meets d population
