-- Of each refusal document 01's number, place and round.
use Rattle.std.specs.Prelude.{ℕ}
use Rattle.orm.specs.Outcome.{Outcome, refused}
use Rattle.grammar.specs.Fault as fault
use Rattle.refusals.specs.declared.Refusal.{Refusal}
use Rattle.refusals.specs.declared.Refusal.TheVariants.{Faulty, Emptied, TooShort, Cells, NoSuch, Impossible}

abbrev pub number_of : Refusal → ℕ
number_of (Faulty f line) = fault.number_of f
number_of (Emptied set round) = 7
number_of (TooShort needed) = 8
number_of (Cells at) = 9
number_of (NoSuch number) = 10
number_of (Impossible set round) = 11

abbrev pub place_of : Refusal → ℕ
place_of (Faulty f line) = line
place_of (Emptied set round) = set
place_of (TooShort needed) = needed
place_of (Cells at) = at
place_of (NoSuch number) = number
place_of (Impossible set round) = set

abbrev pub round_of : Refusal → ℕ
round_of (Faulty f line) = 0
round_of (Emptied set round) = round
round_of (TooShort needed) = 0
round_of (Cells at) = 0
round_of (NoSuch number) = 0
round_of (Impossible set round) = round

-- the outcome of a call that refuses
abbrev pub refusal_of : {A : Type 0} → Refusal → Outcome A
refusal_of r = refused (number_of r) (place_of r) (round_of r)
