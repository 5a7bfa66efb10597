-- One fault noted, and the first entry.
use Prim.Native.Nat.{ℕ, suc, ◌+◌, ◌-◌, ◌≤◌, ◌<◌}
use native.Mathlib.Numerals.{add-one}
use native.Mathlib.Omega.{arith}
use mathlib.Core.Path.{◌≡◌}
use mathlib.Core.Bool.{Bool, true, false}
use mathlib.Core.List.{List}
use lib.ListN.{get_or, set}
use borrow.Author.Tests.{ne_eqb, lt-ltb, le-ltb}
use Rattle.orm.specs.Constraints.{valid, breaks}
use Rattle.faults.specs.Faults.{unless, is_lower, noted, lowered, first_entry}

module _ (b : Bool) (k n : ℕ) (e : List ℕ) where
  pub note_kept : b ≡ true → e ≡ lowered (unless b k n) e
  unfolding unless lowered
  note_kept h = rw h

  module _ (h : b ≡ false) where
    pub note_first : get_or e k 0 ≡ 0 → set e k n ≡ lowered (unless b k n) e
    unfolding unless lowered noted is_lower
    note_first z = rw (h, noted, z)

    pub note_lower : ¬ (get_or e k 0 ≡ 0) → n < get_or e k 0 → set e k n ≡ lowered (unless b k n) e
    unfolding unless lowered noted is_lower
    note_lower z l = rw (h, noted, ne_eqb (get_or e k 0) 0 z, lt-ltb n (get_or e k 0) l)

    pub note_higher : ¬ (get_or e k 0 ≡ 0) → get_or e k 0 ≤ n → e ≡ lowered (unless b k n) e
    unfolding unless lowered noted is_lower
    note_higher z l = rw (h, noted, ne_eqb (get_or e k 0) 0 z, le-ltb n (get_or e k 0) l)

-- ---- the first entry

module _ (e : List ℕ) (k : ℕ) where
  abbrev pub EntriesLeft : Type 0
  EntriesLeft = first_entry k (12 - k) e ≡ first_entry 1 11 e

  more : k < 12 → 12 - k ≡ suc (12 - suc k)
  more h = omega arith

  pub entries_none : EntriesLeft → 12 ≤ k → valid ≡ first_entry 1 11 e
  unfolding first_entry
  entries_none i h = let z : 12 - k ≡ 0 = omega arith in rw z at i

  pub entries-here : EntriesLeft → k < 12 → (get_or e k 0 ≡ 0 → ⊥) → breaks k (get_or e k 0) ≡ first_entry 1 11 e
  unfolding first_entry
  entries-here i h n = rw (more h, first_entry, ne_eqb (get_or e k 0) 0 n) at i

  pub entries-more : EntriesLeft → k < 12 → get_or e k 0 ≡ 0 → first_entry (k + 1) (12 - (k + 1)) e ≡ first_entry 1 11 e
  unfolding first_entry
  entries-more i h z = rw add-one (rw (more h, first_entry, z) at i)
