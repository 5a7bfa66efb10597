-- When a limit has a number, and when a buffer has room for the upper bounds.
use Rattle.std.specs.Prelude.{ℕ, ◌≤◌, ◌<◌, ◌≡◌, List, length, take}
use Rattle.std.proofs.Common.{lt-ltb, le-ltb}
use Rattle.orm.specs.Outcome.{refused, accepted}
use Rattle.orm.specs.SingleLimits.{numbered, front_of}

module _ (count k : ℕ) where
  pub number-there : k < count → numbered count k ≡ accepted k
  unfolding numbered
  number-there h = rw (lt-ltb k count h, numbered)

  pub number-none : count ≤ k → numbered count k ≡ refused 10 k 0
  unfolding numbered
  number-none h = rw (le-ltb k count h, numbered)

module _ (n : ℕ) (buffer : List ℕ) where
  pub front-there : n ≤ length buffer → front_of n buffer ≡ accepted (take n buffer)
  unfolding front_of
  front-there h = rw (le-ltb (length buffer) n h, front_of)

  pub front-short : length buffer < n → front_of n buffer ≡ refused 8 n 0
  unfolding front_of
  front-short h = rw (lt-ltb (length buffer) n h, front_of)
