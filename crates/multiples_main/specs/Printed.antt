-- S-12 (document 02) on running code: what the program prints.
use Rattle.std.specs.Prelude.{◌≡◌, List, [], ℕ}
use Rattle.pairing.specs.Multiples.{multiples}
use Rattle.orm.specs.Reader.{cut}
use Rattle.orm.specs.MultiplesText.{multiples_text, line_numbers}

pub record Printed (text : List ℕ) : Type 0 where
  -- 'a line for each row with commas between'
  pub is : text ≡ multiples_text
  -- 'is the shipped source's numbers', which are those of `multiples` by the contract of `multiples::table::number`
  pub numbers : line_numbers 64 64 text ≡ cut multiples []
