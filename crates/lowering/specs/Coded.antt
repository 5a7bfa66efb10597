-- The limits that those of the code stand for, with their operands in a list.
use Rattle.std.specs.Prelude.{ℕ, List, [], ◌∷◌, map, slice_range}
use Rattle.fixpoint.specs.Limits as paper
use Rattle.fixpoint.specs.Limits.{Expr, product, sum, times, quotient}
use Rattle.lowering.specs.declared.Limit.{Limit}
use Rattle.lowering.specs.declared.Limits.{Limits}
use Rattle.lowering.specs.declared.Most.{Most}
use Rattle.lowering.specs.declared.Most.TheVariants.{Size, Product, Sum, Times, Quotient}

-- A size is the product of one
abbrev pub expr_of : List ℕ → Most → Expr
expr_of ops (Size set) = product (set ∷ [])
expr_of ops (Product from to) = product (slice_range ops from to)
expr_of ops (Sum from to) = sum (slice_range ops from to)
expr_of ops (Times factor set) = times factor set
expr_of ops (Quotient set divisor) = quotient set divisor

abbrev pub limit_of : List ℕ → Limit → paper.Limit
limit_of ops l = record { target = l.target; most = expr_of ops l.most }

abbrev pub limits_of : Limits → List paper.Limit
limits_of l = map (limit_of l.operands.now) l.limits.now
