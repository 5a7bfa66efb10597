-- The proof of S-12: the table's rule, and lines that are read as they were written.
use Rattle.std.specs.Prelude.{ℕ, ◌+◌, ◌/◌, ◌%◌, ◌≡◌, []}
use Rattle.std.proofs.Common.{sym, ap, subst, ◌∙◌, append-nil, arith}
use Rattle.counting.specs.Terms.{Each}
use Rattle.pairing.specs.Pairing.{right_of}
use Rattle.pairing.specs.Multiples.{multiple_rows, multiples, pairing_multiple}
use Rattle.pairing.proofs.Laws.{lcm_is_lcm}
use Rattle.pairing.specs.Divisors.{IsLcm}
use Rattle.pairing.proofs.Laws.Multiples.{multiples-rows, multiples-wide, multiples-small, multiples-length, multiple-is, pairing-multiple-is}
use Rattle.orm.specs.Reader.{cut}
use Rattle.orm.specs.MultiplesText.{multiples_text, line_numbers}
use Rattle.reading.specs.Lines.{Small}
use Rattle.reading.specs.Cutting.{lines-every}
use Rattle.guarantee.specs.Multiples.{Multiples}

short : Each Small multiple_rows
short r m v k = omega (arith, multiples-small r m v k)

read_back : line_numbers 64 64 multiples_text ≡ cut multiples []
unfolding multiples_text multiples
read_back = rw (append-nil, multiples-rows) at (lines-every 64 multiple_rows [] multiples-wide short)

same-pairs : (s t i : ℕ) → (i + i / pairing_multiple s t) % t ≡ right_of s t i
unfolding right_of
same-pairs s t i = ap (λ (m : ℕ). (i + i / m) % t) (pairing-multiple-is s t)

pub multiples_hold : Multiples
multiples_hold = record {
  rule = λ a b h. subst (IsLcm a b) (sym (multiple-is a b h)) (lcm_is_lcm a b);
  numbers = multiples-length;
  output = read_back;
  uses = λ s t h. pairing-multiple-is s t ∙ sym (multiple-is s t h);
  pairs = same-pairs;
}
