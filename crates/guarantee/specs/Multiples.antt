-- S-12, 'A table of common multiples' (document 02), as one statement over the definitions: the record `Multiples` at the end of this file, with its one
-- proof in `proofs/Multiples/Proof`. The request, quoted at its fields:
--
--     Ship a constant table of the least common multiples of 1..64 with 1..64, 4,096 numbers, the row by the first. A small program generates it, and
--     its output, a line for each row with commas between, is the shipped source's numbers. Pairing uses the table where both sizes are 1 to 64, and
--     gives for all sizes the pairs it gave.
--
-- The shipped source has the numbers of `multiples`, by the contract of `multiples::table::number`; the program prints `multiples_text`, by that of
-- `multiples_main::print`.
use Rattle.std.specs.Prelude.{ℕ, ◌+◌, ◌/◌, ◌%◌, ◌≡◌, [], length}
use Rattle.pairing.specs.Pairing.{right_of}
use Rattle.pairing.specs.Multiples.{multiples, multiple_at, Listed, pairing_multiple}
use Rattle.pairing.specs.Divisors.{IsLcm}
use Rattle.orm.specs.Reader.{cut}
use Rattle.orm.specs.MultiplesText.{multiples_text, line_numbers}

pub record Multiples : Type 0 where
  -- 'a constant table of the least common multiples of 1..64 with 1..64, .. the row by the first': each is a common multiple, which divides every other
  pub rule : (a b : ℕ) → Listed a b → IsLcm a b (multiple_at a b)
  -- '4,096 numbers'
  pub numbers : length multiples ≡ 4096
  -- 'its output, a line for each row with commas between, is the shipped source's numbers': 64 lines of 64 numbers, and nothing behind them
  pub output : line_numbers 64 64 multiples_text ≡ cut multiples []
  -- 'Pairing uses the table where both sizes are 1 to 64'
  pub uses : (s t : ℕ) → Listed s t → pairing_multiple s t ≡ multiple_at s t
  -- 'and gives for all sizes the pairs it gave': the member of the second set is that of document 01; that of the first needs no multiple
  pub pairs : (s t i : ℕ) → (i + i / pairing_multiple s t) % t ≡ right_of s t i
