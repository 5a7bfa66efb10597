-- The table of multiples (document 02, S-12), as lists of inputs with their outcomes: the pairing's multiple of two sizes, and parts of the text.
use Rattle.std.specs.Prelude.{ℕ, ◌≡◌, refl, List, [], ◌∷◌, ◌++◌, map, length, take, drop}
use Rattle.pairing.specs.Multiples.{pairing_multiple}
use Rattle.orm.specs.Text.{bytes}
use Rattle.orm.specs.MultiplesText.{multiples_text}
use Rattle.orm.proofs.Cases.All.{everything}

record Case : Type 0 where
  left : ℕ
  right : ℕ
  multiple : ℕ

infix 50 ◌with◌is◌
◌with◌is◌ : ℕ → ℕ → ℕ → Case
a with b is m = record { left = a; right = b; multiple = m }

cases : List Case
cases =
    -- the corners of the table
    (1 with 1 is 1)
    ∷ (1 with 64 is 64)
    ∷ (64 with 1 is 64)
    ∷ (64 with 64 is 64)
    -- with no common divisor, with one, and one that divides the other
    ∷ (2 with 3 is 6)
    ∷ (63 with 64 is 4032)
    ∷ (64 with 63 is 4032)
    ∷ (59 with 61 is 3599)
    ∷ (4 with 6 is 12)
    ∷ (6 with 4 is 12)
    ∷ (64 with 48 is 192)
    ∷ (7 with 49 is 49)
    -- past the table, on either side
    ∷ (64 with 65 is 4160)
    ∷ (65 with 64 is 4160)
    ∷ (1 with 65 is 65)
    ∷ (65 with 65 is 65)
    ∷ (64 with 4096 is 4096)
    ∷ (4095 with 4096 is 16773120)
    -- 0 has no row
    ∷ (0 with 5 is 0)
    ∷ (5 with 0 is 0)
    ∷ (0 with 0 is 0)
    ∷ []

multiples-of : map (λ (c : Case). pairing_multiple c.left c.right) cases ≡ map (λ (c : Case). c.multiple) cases
unfolding everything ◌with◌is◌ cases
multiples-of = refl

-- A part of the text, from this byte on
record Part : Type 0 where
  from : ℕ
  text : List ℕ

parts : List Part
parts =
    record { from = 0; text = bytes "1,2,3,4,5,6,7,8,9,10,11," }
    -- where the first line ends, and the last
    ∷ record { from = 170; text = bytes ",61,62,63,64" ++ 10 ∷ bytes "2,2,6,4,10," }
    ∷ record { from = 16678; text = bytes ",3904,1984,4032,64" ++ 10 ∷ [] }
    ∷ []

multiples-printed : map (λ (p : Part). take (length p.text) (drop p.from multiples_text)) parts ≡ map (λ (p : Part). p.text) parts
unfolding everything parts
multiples-printed = refl
