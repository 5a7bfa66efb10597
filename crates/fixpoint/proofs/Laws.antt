-- The laws of rounds, of `run` and of limits put to use in any order hold of every list of limits.
pub mod Order
pub mod Round
pub mod Tests
pub mod Run
pub mod Decision
pub mod AnyOrder
use Rattle.std.specs.Prelude.{ℕ, ◌≡◌, List, length}
use Rattle.std.proofs.Common.{arith}
use Rattle.fixpoint.specs.Limits.{Limit}
use Rattle.fixpoint.specs.Laws.{RoundLaws, RunLaws, AnyOrderLaws}
use Rattle.fixpoint.proofs.Laws.Order.{value_of-monotone, greatest-unique}
use Rattle.fixpoint.proofs.Laws.Round.{le_round, round_≼, round-monotone, round_same, upper_after-sound}
use Rattle.fixpoint.proofs.Laws.Decision
use Rattle.fixpoint.proofs.Laws.AnyOrder

pub round-laws : (ls : List Limit) → RoundLaws ls
round-laws ls = record {
  value_monotone = value_of-monotone;
  monotone = round-monotone ls;
  lowers = round_≼ ls;
  exact = le_round ls;
  same = round_same ls;
  sound = upper_after-sound ls;
}

pub run-laws : (ls : List Limit) (lower start : List ℕ) → length lower ≡ length start → RunLaws ls lower start
run-laws ls lower start sized = record {
  at_unsatisfiable = λ e. Decision.ends ls lower start sized e;
  at_fixpoint = λ e. Decision.ends ls lower start sized e;
  unsatisfiable_iff = Decision.unsatisfiable_iff ls lower start sized;
  fixpoint_iff = Decision.fixpoint_iff ls lower start sized;
}

pub any_order-laws : (ls : List Limit) (start : List ℕ) → AnyOrderLaws ls start
any_order-laws ls start = record {
  says = AnyOrder.lowers_at-iff ls;
  idle = AnyOrder.lowers_at-idle ls;
  none_lowers = AnyOrder.any_lowers-iff ls;
  lowers_to = AnyOrder.lowers_to ls;
  finite = λ ks h. omega (arith, AnyOrder.lowers-within ls ks start h);
  exist = AnyOrder.steps-exist ls start;
  reaches = AnyOrder.reaches ls start;
  greatest = λ ks s. AnyOrder.steps-greatest ls ks start s;
  unique = λ ks js s u. greatest-unique (AnyOrder.steps-greatest ls ks start s) (AnyOrder.steps-greatest ls js start u);
  unsatisfiable_iff = λ ks s lower sized. Decision.unsatisfiable-iff-below ls lower start sized (AnyOrder.steps-greatest ls ks start s);
  fixpoint_iff = λ ks s lower sized. Decision.fixpoint-iff-above ls lower start sized (AnyOrder.steps-greatest ls ks start s);
}
