-- S-13, 'Limits in any sequence' (document 02), as one statement over the definitions of the calls: the record `Sequences` at the end of this file, with
-- its one proof in `proofs/Sequences/Proof`. The request, quoted at its fields:
--
--     The panel is to apply one limit at a time when a user edits. Show that for every sequence of single limits from the starting ceilings, each
--     lowering one ceiling to that limit, carried on until no limit lowers any, the end ceilings are the same. A diagram with no fault of form is
--     refused as emptied exactly when these are below the floor at some set; otherwise they are the settled sizes. Rounds and the set named in a
--     refusal still come from the rounds.
--
-- A sequence is a list of the limits' numbers, from 0. What holds only where each limit of it lowers an upper bound says so (`EachLowers`).
use Rattle.std.specs.Prelude.{ℕ, ◌≤◌, ◌<◌, ◌≡◌, ◌↔◌, true, false, List, map, ◌++◌, length, get_or}
use Rattle.counting.specs.Lists.{up_from}
use Rattle.counting.specs.Totals.{sum_over}
use Rattle.fixpoint.specs.Limits.{step_at, steps_by, lowers_at, any_lowers}
use Rattle.fixpoint.specs.Notions.{Lowers, LowersTo, EachLowers, Stable, ComesBack}
use Rattle.orm.specs.Diagram.{Diagram}
use Rattle.orm.specs.Text.{table_line}
use Rattle.orm.specs.Sets.{set_count, lower, upper, limits}
use Rattle.orm.specs.Outcome.{refused, accepted}
use Rattle.orm.specs.Calls.{diagram_in, check_call, populate_call}
use Rattle.orm.specs.SingleLimits.{start_call, lower_call, survey_call}
use Rattle.guarantee.specs.Settling.{RefusesBy}
use Rattle.guarantee.specs.Guarantee.{Populated, FaultOfForm}

-- 'from the starting ceilings': the upper bounds after these limits, in this order
abbrev pub upper_after_steps : Diagram → List ℕ → List ℕ
upper_after_steps d ks = steps_by (limits d) ks (upper d)

-- 'carried on until no limit lowers any'
abbrev pub CarriedOn : Diagram → List ℕ → Type 0
CarriedOn d ks = Stable (limits d) (upper_after_steps d ks)

-- 'below the floor at some set'
abbrev pub SomeBelow : Diagram → List ℕ → Type 0
SomeBelow d c = (s : ℕ) × (get_or c s 0 < get_or (lower d) s 0)

-- What the upper bounds say at which a sequence ends
pub record EndOf (t : List ℕ) (d : Diagram) (c : List ℕ) : Type 0 where
  -- 'refused as emptied exactly when these are below the floor at some set', whatever the buffer; 'Rounds and the set named in a refusal still come
  -- from the rounds'
  pub check_refuses : RefusesBy 7 d (lower d) (upper d) (SomeBelow d c) (check_call t)
  pub populate_refuses : RefusesBy 7 d (lower d) (upper d) (SomeBelow d c) (populate_call t)
  -- 'otherwise they are the settled sizes', of which and of whose rounds `Populated` says all that demand 3 does
  pub otherwise : ¬ SomeBelow d c → (p : Populated t d) × (p.settled ≡ c)

-- One limit put to use on upper bounds that a caller keeps, with whatever stands behind them, so that the next can follow
pub record OneLimit (t : List ℕ) (d : Diagram) (k : ℕ) (c rest : List ℕ) : Type 0 where
  pub accepts : lower_call t k (c ++ rest) ≡ accepted (record { lowers = lowers_at (limits d) k c; result = step_at (limits d) k c })
  pub as_many : length (step_at (limits d) k c) ≡ set_count d

-- Of a table of the diagram
pub record SequencesOf (t : List ℕ) (d : Diagram) : Type 0 where
  -- 'each lowering one ceiling to that limit': a limit that lowers anything does just this
  pub lowers_to : (k : ℕ) (c : List ℕ) → Lowers (limits d) k c → LowersTo (limits d) k c
  -- No sequence of limits that each lower one goes on for ever: it has at most so many as the starting upper bounds add up to
  pub finite : (ks : List ℕ) → EachLowers (limits d) ks (upper d) → length ks ≤ sum_over (λ x. x) (upper d)
  -- Some sequence of them is carried on to its end; and so is, sooner or later, every one that comes back to each limit again and again
  pub exist : (ks : List ℕ) × EachLowers (limits d) ks (upper d) × CarriedOn d ks
  pub reaches : (choice : ℕ → ℕ) → ComesBack (length (limits d)) choice → (n : ℕ) × CarriedOn d (map choice (up_from 0 n))
  -- 'the end ceilings are the same'
  pub same_end : (ks js : List ℕ) → CarriedOn d ks → CarriedOn d js → upper_after_steps d ks ≡ upper_after_steps d js
  pub end : (ks : List ℕ) → CarriedOn d ks → EndOf t d (upper_after_steps d ks)
  -- 'to apply one limit at a time': the starting upper bounds, one limit put to use on a caller's, and whether any lowers one; what is said of a limit,
  -- and of all, means just that
  pub start : (space : ℕ) → set_count d ≤ space → start_call t space ≡ accepted (upper d)
  pub one_limit : (k : ℕ) (c rest : List ℕ) → k < length (limits d) → length c ≡ set_count d → OneLimit t d k c rest
  pub survey : (c rest : List ℕ) → length c ≡ set_count d
      → survey_call t (c ++ rest) ≡ accepted (record { lowers = any_lowers (limits d) c; count = length (limits d) })
  pub says : (k : ℕ) (c : List ℕ) → (lowers_at (limits d) k c ≡ true) ↔ Lowers (limits d) k c
  pub idle : (k : ℕ) (c : List ℕ) → lowers_at (limits d) k c ≡ false → step_at (limits d) k c ≡ c
  pub none_lowers : (c : List ℕ) → (any_lowers (limits d) c ≡ false) ↔ Stable (limits d) c
  -- 10 for a number past the last, and then 8 where there are fewer upper bounds than sets
  pub no_limit : (k : ℕ) (buffer : List ℕ) → length (limits d) ≤ k → lower_call t k buffer ≡ refused 10 k 0
  pub too_short : (buffer : List ℕ) → length buffer < set_count d
      → (start_call t (length buffer) ≡ refused 8 (set_count d) 0) × (survey_call t buffer ≡ refused 8 (set_count d) 0)
      × ((k : ℕ) → k < length (limits d) → lower_call t k buffer ≡ refused 8 (set_count d) 0)

pub record Sequences : Type 0 where
  pub of_table : (t : List ℕ) (d : Diagram) → diagram_in table_line t ≡ accepted d → SequencesOf t d
  -- any other table has a fault of form, for which each call refuses it
  pub other_tables : (t : List ℕ) → ((d : Diagram) → ¬ (diagram_in table_line t ≡ accepted d))
      → FaultOfForm (start_call t) × ((k : ℕ) (buffer : List ℕ)
      → FaultOfForm (λ (space : ℕ). lower_call t k buffer) × FaultOfForm (λ (space : ℕ). survey_call t buffer))
