-- What the length took from the reader comes before what the case took, and the case lies within the buffer.
use Rattle.std.proofs.Common.{ℕ, ◌+◌, ◌≤◌, List, ◌++◌, arith, length, take, length-append, length-take-le}
use Rattle.std.proofs.KnownBytes.{Consumes-trans}
use Rattle.cases.proofs.next.Goals as goal

within_both : (bs xs rest : List ℕ) (n : ℕ) → length bs ≤ 8 → n ≤ length xs → length (bs ++ take n xs) ≤ 8 + length (xs ++ rest)
within_both bs xs rest n eight inside = omega (arith, length-append bs (take n xs), length-append xs rest, length-take-le n xs inside)

pub returns-in_err-got-clause-taken : goal.returns-in_err-got-clause-taken
returns-in_err-got-clause-taken g c =
    let first = c.next_number.ensures.taken in
    let then = c.read_full.ensures.taken in
    (_, within_both first.0 _ _ _ first.1 then.1, Consumes-trans _ _ _ _ _ first.2 then.2)

pub returns-clause-taken : goal.returns-clause-taken
returns-clause-taken g c =
    let first = c.next_number.ensures.taken in
    let then = c.read_full.ensures.taken in
    (_, within_both first.0 _ _ _ first.1 then.1, Consumes-trans _ _ _ _ _ first.2 then.2)
