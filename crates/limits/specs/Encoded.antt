-- Limits written one after another, each by a code, the operands of products and sums beside.
-- What is full stays as it is (buffer: Places); `read` (Laws/Read) reads the limits back where there was room.
use Rattle.std.specs.Prelude.{ℕ, ◌≤◌, ◌≡◌, min, Bool, true, false, nat_eq, List, [], ◌∷◌, length, fold, flat_map, slice_index, if◌then◌else◌}
use Rattle.std.specs.Borrow.{MutBor}
use Rattle.fixpoint.specs.Limits.{Limit, Expr, product, sum, times, quotient}
use Rattle.buffer.specs.Written.{Place, place, place_of, put, puts}
use Rattle.lowering.specs.Sizes.{largest}
use Rattle.lowering.specs.declared.Limit as code
use Rattle.lowering.specs.declared.Most.{Most}
use Rattle.lowering.specs.declared.Most.TheVariants.{Size, Product, Sum, Times, Quotient}
use Rattle.limits.specs.declared.writer.Writer.{Writer}

-- Limits that functions write
abbrev pub size_limit : ℕ → ℕ → Limit
size_limit target set = record { target = target; most = product (set ∷ []) }

abbrev pub size_if : Bool → ℕ → ℕ → List Limit
size_if held target set = elim held as (λ _. List Limit) [ true ↦ size_limit target set ∷ [] | false ↦ [] ]

abbrev pub times_limit : ℕ → ℕ → ℕ → Limit
times_limit target factor set = record { target = target; most = times factor set }

abbrev pub quotient_limit : ℕ → ℕ → ℕ → Limit
quotient_limit target set divisor = record { target = target; most = quotient set divisor }

abbrev pub product_limit : ℕ → List ℕ → Limit
product_limit target sets = record { target = target; most = product sets }

abbrev pub sum_limit : ℕ → List ℕ → Limit
sum_limit target sets = record { target = target; most = sum sets }

-- The limits so far, and the operands
pub record Both : Type 0 where
  pub limits : Place code.Limit
  pub operands : Place ℕ

abbrev pub both : Place code.Limit → Place ℕ → Both
both limits operands = record { limits = limits; operands = operands }

abbrev pub both_of : Writer → Both
both_of w = both (place_of w.limits) (place_of w.operands)

abbrev pub with_code : Both → ℕ → Most → Both
with_code b target most = both (put b.limits (record { target = target; most = most })) b.operands

-- Operands, and behind them the code of their limit, which has their places
abbrev pub with_operands : (ℕ → ℕ → Most) → Both → ℕ → List ℕ → Both
with_operands most b target sets =
    let after : Place ℕ = puts b.operands sets in
    both (put b.limits (record { target = target; most = most (min largest b.operands.at) (min largest after.at) })) after

-- One limit more; the product of one size is that size
abbrev pub with_most : Both → ℕ → Expr → Both
with_most b target (product sets) =
    if nat_eq (length sets) 1 then with_code b target (Size (slice_index sets 0)) else with_operands Product b target sets
with_most b target (sum sets) = with_operands Sum b target sets
with_most b target (times k s) = with_code b target (Times k s)
with_most b target (quotient s k) = with_code b target (Quotient s k)

abbrev pub with_limit : Both → Limit → Both
with_limit b l = with_most b l.target l.most

-- These limits were written
pub record Encoded (old : Writer) (ls : List Limit) (new : Writer) : Type 0 where
  pub same_limits : new.limits.buffer.ghost_name ≡ old.limits.buffer.ghost_name
  pub same_operands : new.operands.buffer.ghost_name ≡ old.operands.buffer.ghost_name
  pub is : both_of new ≡ fold with_limit (both_of old) ls

-- On the way to that: `rest` comes to the whole
pub record Encoding (old : Writer) (whole : List Limit) (now : Writer) (rest : List Limit) : Type 0 where
  pub same_limits : now.limits.buffer.ghost_name ≡ old.limits.buffer.ghost_name
  pub same_operands : now.operands.buffer.ghost_name ≡ old.operands.buffer.ghost_name
  pub is : fold with_limit (both_of now) rest ≡ fold with_limit (both_of old) whole

-- Nothing is written as yet into these slices
pub record Begins (limits : MutBor (List code.Limit)) (operands : MutBor (List ℕ)) (new : Writer) : Type 0 where
  pub same_limits : new.limits.buffer.ghost_name ≡ limits.ghost_name
  pub same_operands : new.operands.buffer.ghost_name ≡ operands.ghost_name
  pub is : both_of new ≡ both (place limits.now 0) (place operands.now 0)

-- Nothing is written as yet, with room for so many limits and so many operands
pub record Fresh (o : Writer) (limits operands : ℕ) : Type 0 where
  pub limits_at : o.limits.at ≡ 0
  pub operands_at : o.operands.at ≡ 0
  pub limits_room : limits ≤ length o.limits.buffer.now
  pub operands_room : operands ≤ length o.operands.buffer.now

-- What a limit has among the operands, and how many those of all limits are
abbrev pub written_of : Expr → List ℕ
written_of (product sets) = if nat_eq (length sets) 1 then [] else sets
written_of (sum sets) = sets
written_of (times k s) = []
written_of (quotient s k) = []

abbrev pub written_count : List Limit → ℕ
written_count ls = length (flat_map (λ (l : Limit). written_of l.most) ls)
