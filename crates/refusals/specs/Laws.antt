-- A refusal is told by its numbers.
use Rattle.std.specs.Prelude.{ℕ, ◌≡◌, refl}
use Rattle.std.proofs.Common.{arith}
use Rattle.orm.specs.Outcome.{Outcome, refused}
use Rattle.grammar.specs.Fault as fault
use Rattle.grammar.specs.Laws.Faults.{few-faults}
use Rattle.refusals.specs.Refusal.{refusal_of}
use Rattle.refusals.specs.declared.Refusal.{Refusal}
use Rattle.refusals.specs.declared.Refusal.TheVariants.{Faulty, Emptied, TooShort, Cells, NoSuch, Impossible}

module _ {A : Type 0} {place round : ℕ} where
  pub told-emptied : (r : Refusal) → refusal_of {A = A} r ≡ refused 7 place round → r ≡ Emptied place round
  told-emptied (Faulty f line) h = let q : fault.number_of f ≡ 7 = cc in absurd (omega (arith, few-faults f))
  told-emptied (Emptied set n) h = cc
  told-emptied (TooShort needed) h = let q : ◌≡◌ {A = ℕ} 8 7 = cc in absurd (omega arith)
  told-emptied (Cells at) h = let q : ◌≡◌ {A = ℕ} 9 7 = cc in absurd (omega arith)
  told-emptied (NoSuch number) h = let q : ◌≡◌ {A = ℕ} 10 7 = cc in absurd (omega arith)
  told-emptied (Impossible set n) h = let q : ◌≡◌ {A = ℕ} 11 7 = cc in absurd (omega arith)

  pub told-short : (r : Refusal) → refusal_of {A = A} r ≡ refused 8 place round → r ≡ TooShort place
  told-short (Faulty f line) h = let q : fault.number_of f ≡ 8 = cc in absurd (omega (arith, few-faults f))
  told-short (Emptied set n) h = let q : ◌≡◌ {A = ℕ} 7 8 = cc in absurd (omega arith)
  told-short (TooShort needed) h = cc
  told-short (Cells at) h = let q : ◌≡◌ {A = ℕ} 9 8 = cc in absurd (omega arith)
  told-short (NoSuch number) h = let q : ◌≡◌ {A = ℕ} 10 8 = cc in absurd (omega arith)
  told-short (Impossible set n) h = let q : ◌≡◌ {A = ℕ} 11 8 = cc in absurd (omega arith)
