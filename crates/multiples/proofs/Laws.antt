-- The table's rule, as the code needs it.
use Prim.Native.Nat.{ℕ, ◌+◌, ◌*◌, ◌-◌}
use mathlib.Core.Path.{◌≡◌, ap, ◌∙◌}
use lib.ListN.{get_or}
use Rattle.pairing.specs.Pairing.{lcm}
use Rattle.pairing.specs.Multiples.{multiples, multiple_at, Listed}
use Rattle.pairing.proofs.Laws.Multiples.{multiple-is}

pub multiple-found : (a b : ℕ) {i n r : ℕ} → Listed a b → i ≡ (a - 1) * 64 + (b - 1) → n ≡ get_or multiples i 0 → r ≡ n → r ≡ lcm a b
unfolding multiple_at
multiple-found a b h ei en er = er ∙ en ∙ ap (λ (i : ℕ). get_or multiples i 0) ei ∙ multiple-is a b h
