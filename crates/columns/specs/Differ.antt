-- Rows, or the values of a column, differ just where each key occurs once.
use Rattle.std.specs.Prelude.{ℕ, zero, suc, ◌<◌, ◌≡◌, refl, Bool, List, [], ◌∷◌, map, eqb, length, get_or, drop}
use Rattle.std.proofs.Common.{ap₂, ◌∙◌, get_or-take}
use Rattle.std.proofs.Math.Logic.Iff
use Rattle.counting.specs.Lists.{same, combination}
use Rattle.counting.specs.Distinct.{occurrences, all_differ}
use Rattle.counting.specs.Terms.{Decides, ◌∈◌, Each, InjectiveOn}
use Rattle.counting.proofs.Laws.Members.{map_agree, no_repeats_map}
use Rattle.counting.proofs.Laws.Products.{rows_agree}
use Rattle.counting.proofs.Laws.Distinct.{bool_ext, all_decides, all_differ_decides}
use Rattle.counting.proofs.Laws.Instances.{eqb_decides, same_decides}
use Rattle.columns.specs.Single.{occurs, occurs-once, once-apart, no_repeats_of}
use Rattle.orm.specs.Population.{rows_of}
use Rattle.orm.proofs.Laws.Decided.{in_range_decides}
use Rattle.columns.specs.declared.column.Column.{Column}
use Rattle.columns.specs.declared.Rows.{Rows}
use Rattle.columns.specs.Values.{spaced, values_in, keys_of, keys_in, occurring}

-- Every row has `w` cells
pub record Wide (w : ℕ) (rows : List (List ℕ)) : Type 0 where
  pub each : Each (λ (row : List ℕ). length row ≡ w) rows

abbrev pub rows_held : Rows → List (List ℕ)
rows_held r = rows_of r.count r.width (drop r.start r.cells.now)

-- What each is mapped to occurs once, where the map tells them apart
once-differ : {A : Type 0} {eq : A → A → Bool} → Decides eq → (f : A → List ℕ) (xs : List A) → InjectiveOn f xs
    → occurring 1 1 (map f xs) (map f xs) ≡ all_differ eq xs
unfolding occurring
once-differ decides f xs inj =
    bool_ext _ _
    (Iff.trans (all_decides _ (λ v. in_range_decides 1 (occurrences same v (map f xs)) 1) (map f xs))
    (Iff.trans (
      λ h. no_repeats_of f xs (once-apart same_decides (map f xs) (λ a m. (h a m).1)),
      λ n a m. (occurs same_decides m, occurs-once same_decides (no_repeats_map f xs inj n) m),
    )
    (Iff.symm (all_differ_decides decides xs))))

-- ---- whole rows

-- Each of the columns below `w` is one of `js`
pub record Covers (w : ℕ) (js : List ℕ) : Type 0 where
  pub each : (j : ℕ) → j < w → j ∈ js

-- such columns tell rows of `w` cells apart
apart : (w : ℕ) (js : List ℕ) (rows : List (List ℕ)) → Covers w js → Wide w rows → InjectiveOn (combination js) rows
unfolding combination
apart w js rows c h a b m n e =
    rows_agree w rows h.each a b m n (λ j l. map_agree (λ (k : ℕ). get_or a k 0) (λ (k : ℕ). get_or b k 0) e (c.each j l))

pub rows-differ : (r : Rows) (js : List ℕ) {b : Bool} → Covers r.width js → Wide r.width (rows_held r)
    → b ≡ occurring 1 1 (keys_in r js) (keys_in r js) → b ≡ all_differ same (rows_held r)
unfolding keys_of
rows-differ r js c h e = e ∙ once-differ same_decides (combination js) (rows_held r) (apart r.width js (rows_held r) c h)

-- ---- the values of a column

keys_single : (n w : ℕ) (s : List ℕ) → 0 < w → keys_of n w (0 ∷ []) s ≡ map (λ (v : ℕ). v ∷ []) (spaced n w s)
unfolding keys_of rows_of spaced combination
keys_single zero w s h = refl
keys_single (suc n) w s h = ap₂ {C = List (List ℕ)} (λ x y. (x ∷ []) ∷ y) (get_or-take w s 0 0 h) (keys_single n w (drop w s) h)

pub values-differ : (c : Column) (r : Rows) {b : Bool} → r.cells.now ≡ c.cells.now → r.start ≡ c.start → r.width ≡ c.step → r.count ≡ c.count
    → b ≡ occurring 1 1 (keys_in r (0 ∷ [])) (keys_in r (0 ∷ [])) → b ≡ all_differ eqb (values_in c)
values-differ c r s p q t e =
    e ∙ rw (s, p, q, t, keys_single c.count c.step (drop c.start c.cells.now) c.reached.apart)
    (once-differ eqb_decides (λ (v : ℕ). v ∷ []) (values_in c) (λ a b m n q. cc))
