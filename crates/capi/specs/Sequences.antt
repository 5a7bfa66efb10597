-- S-13, 'Limits in any sequence' (document 02), on running code, as one statement over the calls for C, with its one proof in `Sequences/Proof`.
-- `HasStarted`, `HasLowered` and `HasSurveyed` are what the contracts of `legshorgan_start`, `legshorgan_lower` and `legshorgan_survey` ensure, `Told`
-- what those of check and populating do.
use Rattle.std.specs.Prelude.{ℕ, ◌+◌, ◌≤◌, ◌<◌, ◌≡◌, ◌↔◌, List, [], ◌∷◌, ◌++◌, length, get_or, set, take, drop}
use Rattle.counting.specs.Totals.{sum_over}
use Rattle.fixpoint.specs.Limits.{Limit, value_of}
use Rattle.fixpoint.specs.Notions.{Stable}
use Rattle.counting.specs.Index.{At}
use Rattle.orm.specs.Diagram.{Diagram}
use Rattle.orm.specs.Sets.{set_count, upper, limits}
use Rattle.orm.specs.Meaning.{Between}
use Rattle.guarantee.specs.Sequences.{SomeBelow}
use Rattle.populate.specs.Demand3.{TableOf, Making, settled_sizes}
use Rattle.capi.specs.Told.{Told}
use Rattle.capi.specs.Ended.{HasStarted, HasLowered, HasSurveyed, RefusedWith}
pub mod Proof

-- Calls of `legshorgan_lower` one after another, with any numbers: the array before the first and behind the last, and how many of the calls lowered
-- an upper bound
pub data Calls (t : List ℕ) : ℕ → List ℕ → List ℕ → Type 0 where
  stop : {a : List ℕ} → Calls t 0 a a
  call : {m number : ℕ} {four a b c : List ℕ} → HasLowered t number four a b → Calls t m b c → Calls t (get_or four 2 0 + m) a c

-- A caller that applies limits one at a time 'from the starting ceilings': `legshorgan_start`, then any calls of `legshorgan_lower`, `lowered` of which
-- lower an upper bound. `end` are the upper bounds that then stand
pub record Caller (t : List ℕ) (lowered : ℕ) (end : List ℕ) : Type 0 where
  pub n : ℕ
  pub before : List ℕ
  pub first : List ℕ
  pub last : List ℕ
  pub started : HasStarted t (0 ∷ 0 ∷ 0 ∷ n ∷ []) before first
  pub calls : Calls t lowered first last
  pub front : end ≡ take n last

-- One that goes on 'until no limit lowers any': `legshorgan_survey` says so
pub record CarriesOn (t : List ℕ) (lowered : ℕ) (end : List ℕ) : Type 0 where
  pub caller : Caller t lowered end
  pub count : ℕ
  pub surveyed : HasSurveyed t caller.last (0 ∷ 0 ∷ 0 ∷ count ∷ [])

-- What a limit does that `legshorgan_lower` says lowers an upper bound: 'lowering one ceiling to that limit', and nothing else of the array
pub record LowersOne (d : Diagram) (number n : ℕ) (before after : List ℕ) : Type 0 where
  pub limit : Limit
  pub numbered : At limit (limits d) number
  pub above : value_of (take n before) limit.most < get_or (take n before) limit.target 0
  pub to : after ≡ set (take n before) limit.target (value_of (take n before) limit.most) ++ drop n before

pub record SequencesTold : Type 0 where
  -- 'each lowering one ceiling to that limit'; a limit that lowers none leaves the array as it was
  pub lowers : {t : List ℕ} {number : ℕ} {four before after : List ℕ} (x : TableOf t) → HasLowered t number four before after
      → {n : ℕ} → four ≡ 0 ∷ 0 ∷ 1 ∷ n ∷ [] → LowersOne x.diagram number n before after
  pub idle : {t : List ℕ} {number : ℕ} {four before after : List ℕ} → TableOf t → HasLowered t number four before after
      → {n : ℕ} → four ≡ 0 ∷ 0 ∷ 0 ∷ n ∷ [] → after ≡ before
  -- Every sequence ends: no more calls lower an upper bound than the starting ones add up to
  pub finite : {t : List ℕ} {m : ℕ} {end : List ℕ} (x : TableOf t) → Caller t m end → m ≤ sum_over (λ s. s) (upper x.diagram)
  -- 'carried on until no limit lowers any, the end ceilings are the same'
  pub carried_on : {t : List ℕ} {m : ℕ} {end : List ℕ} (x : TableOf t) → CarriesOn t m end → Stable (limits x.diagram) end
  pub same_end : {t : List ℕ} {m k : ℕ} {end other : List ℕ} → TableOf t → CarriesOn t m end → CarriesOn t k other → end ≡ other
  -- 'refused as emptied exactly when these are below the floor at some set', by check and by populating, whatever their arrays
  pub emptied : {t : List ℕ} {m : ℕ} {end four before after : List ℕ} {make : Making} (x : TableOf t) → CarriesOn t m end → Told t make four before after
      → ((set : ℕ) × (round : ℕ) × (four ≡ 7 ∷ set ∷ round ∷ 0 ∷ [])) ↔ SomeBelow x.diagram end
  -- 'otherwise they are the settled sizes', which check writes
  pub settled : {t : List ℕ} {m : ℕ} {end four before after : List ℕ} → TableOf t → CarriesOn t m end → Told t settled_sizes four before after
      → {rounds n : ℕ} → four ≡ 0 ∷ 0 ∷ rounds ∷ n ∷ [] → take n after ≡ end
  -- 10 for a number past the last limit, then 8 for an array with fewer numbers than there are sets; the array is as it was
  pub no_limit : {t : List ℕ} {number : ℕ} {four before after : List ℕ} (x : TableOf t) → HasLowered t number four before after
      → length (limits x.diagram) ≤ number → RefusedWith 10 number four before after
  pub too_short : {t : List ℕ} {number : ℕ} {four before after : List ℕ} (x : TableOf t) → HasLowered t number four before after
      → number < length (limits x.diagram) → length before < set_count x.diagram → RefusedWith 8 (set_count x.diagram) four before after
  -- `legshorgan_survey` says how many limits there are
  pub counted : {t : List ℕ} (sizes : List ℕ) {four : List ℕ} (x : TableOf t) → HasSurveyed t sizes four → {k n : ℕ} → four ≡ 0 ∷ 0 ∷ k ∷ n ∷ [] → n ≡ length (limits x.diagram)
  -- A table with a fault of form is refused with 1 to 6
  pub faults : {t : List ℕ} {number : ℕ} {four before after : List ℕ} → (TableOf t → ⊥) → HasLowered t number four before after
      → (fault : ℕ) × (line : ℕ) × Between 1 fault 6 × RefusedWith fault line four before after
