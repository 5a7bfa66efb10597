-- A float that does not differ from itself is no NaN.
use mathlib.Core.Path.{◌≡◌, sym, subst, ◌∙◌}
use mathlib.Core.Bool.{false, not}
use lib.Dec.{T}
use lib.Ieee.{Float, nan, inf, fin, ne, is_nan}
use lib.Ieee.Compare.{nan_differs}

pub is_number : (x : Float) → ne x x ≡ false → T (not (is_nan x))
unfolding is_nan
is_number nan e = absurd (subst T (sym nan_differs ∙ e) tt)
is_number (inf s) e = tt
is_number (fin s m k) e = tt
