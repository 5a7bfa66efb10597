-- A buffer of 262,144 bytes or more takes the whole of the program's output, and what stands behind it stays.
use Rattle.std.specs.Prelude.{ℕ, ◌≤◌, ◌≡◌, true, List, leb, length, take, drop}
use Rattle.std.proofs.Common.{arith, sym, ap, ap₂, ◌∙◌, leb-true}
use Rattle.std.proofs.Math.Seq.{drop-append_seam}
use Rattle.orm.specs.Program.{program}
use Rattle.extent.specs.Output.{program-at-most}
use Rattle.buffer.specs.Written.{WroteAll}
use Rattle.buffer.specs.Laws.{wrote-end, wrote-front, wrote-whole}

-- Of any writing from the front on that has room
wrote-behind : {o xs o' : List ℕ} {to : ℕ} → WroteAll o xs o' to → length xs ≤ length o → drop to o' ≡ drop to o
wrote-behind {o} {xs} {o'} {to} w room =
    let e : to ≡ length xs = wrote-end w room in
    ap₂ {C = List ℕ} (λ (n : ℕ) (l : List ℕ). drop n l) e (wrote-whole w room) ∙ drop-append_seam xs (drop (length xs) o)
    ∙ ap (λ (n : ℕ). drop n o) (sym e)

-- Of a buffer with `n` bytes; the test computes where `n` is a numeral
module _ (input : List ℕ) {o o' : List ℕ} {to n : ℕ}
    (w : WroteAll o (program input) o' to) (long : length o ≡ n) (enough : leb 262144 n ≡ true) where
  room : length (program input) ≤ length o
  room = omega (arith, program-at-most input, long, leb-true 262144 n enough)

  pub output-length : to ≡ length (program input)
  output-length = wrote-end w room

  pub output-front : take to o' ≡ program input
  output-front = wrote-front w room

  pub output-behind : drop to o' ≡ drop to o
  output-behind = wrote-behind w room
