-- Limits of the code, and those that they stand for.
use Rattle.std.specs.Prelude.{ℕ, zero, suc, ◌<◌, refl, List, [], ◌∷◌, map, length, slice_index_or, slice_range, All}
use Rattle.std.proofs.Common.{arith}
use Rattle.counting.specs.Index.{At, first, later}
use Rattle.counting.specs.Terms.{Each}
use Rattle.counting.proofs.Laws.Members.{each_nil, each-cons}
use Rattle.lowering.specs.Coded.{expr_of, limit_of, limits_of}
use Rattle.lowering.specs.Closed.{operands_of, Inside, Fed, Within, Closed}
use Rattle.lowering.specs.declared.Limit.{Limit}
use Rattle.lowering.specs.declared.Limits.{Limits}
use Rattle.lowering.specs.declared.Most.{Most}
use Rattle.lowering.specs.declared.Most.TheVariants.{Size, Product, Sum, Times, Quotient}

-- what holds at every index holds of each member
each-all : {A : Type 0} (P : A → Type 0) (xs : List A) → All P xs → Each P xs
each-all P [] h = each_nil P
each-all P (x ∷ xs) h = each-cons P (h 0 x (omega arith)) (each-all P xs (λ k d b. h (suc k) d (omega arith)))

-- what a function makes of an element stands at the same index
pub at-map : {A B : Type 0} (f : A → B) (xs : List A) (k : ℕ) (d : A) → k < length xs → At (f (slice_index_or xs k d)) (map f xs) k
at-map f [] k d h = absurd (omega arith)
at-map f (x ∷ xs) zero d h = first refl
at-map f (x ∷ xs) (suc k) d h = later (at-map f xs k d (omega arith))

-- Limits of the code that are whole speak of the first n sets alone
fed-operands : (n : ℕ) (ops : List ℕ) (m : Most) → Fed n ops m → Each (λ (s : ℕ). s < n) (operands_of (expr_of ops m))
fed-operands n ops (Size set) h = each-cons _ h (each_nil _)
fed-operands n ops (Product from to) h = each-all (λ s. s < n) (slice_range ops from to) h.each
fed-operands n ops (Sum from to) h = each-all (λ s. s < n) (slice_range ops from to) h.each
fed-operands n ops (Times factor set) h = each-cons _ h (each_nil _)
fed-operands n ops (Quotient set divisor) h = each-cons _ h (each_nil _)

within-inside : (n : ℕ) (ops : List ℕ) (ls : List Limit) → All (Within n ops) ls → Each (Inside n) (map (limit_of ops) ls)
within-inside n ops [] h = each_nil _
within-inside n ops (l ∷ ls) h =
    let w : Within n ops l = h 0 l (omega arith) in
    each-cons _ (record { target = w.target; operands = fed-operands n ops l.most w.most })
    (within-inside n ops ls (λ k d b. h (suc k) d (omega arith)))

pub closed-inside : {n : ℕ} (l : Limits) → Closed n l → Each (Inside n) (limits_of l)
closed-inside {n} l h = within-inside n l.operands.now l.limits.now h
