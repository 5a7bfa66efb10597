-- In `diagram=1` K11 asks no more than K6: a role has at least one member and at most 4096, as its predicate has rows.
use Rattle.std.specs.Prelude.{◌≡◌}
use Rattle.orm.specs.Diagram.{Diagram}
use Rattle.orm.specs.Population.{Population}
use Rattle.orm.specs.Meaning.{M6, M11, EachPred}
use Rattle.orm.specs.WellFormed.{WellFormed}

abbrev pub Unlimited : Diagram → Population → Type 0
Unlimited d o = WellFormed d → d.kind ≡ 1 → EachPred M6 d.preds o.preds → EachPred M11 d.preds o.preds
