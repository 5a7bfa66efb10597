-- What comes of two writings, one after the other.
use Rattle.std.specs.Prelude.{◌≡◌, List, ◌++◌, fold}
use Rattle.std.proofs.Common.{ap, sym, ◌∙◌}
use Rattle.std.proofs.lemmas.List.Sums.{fold-append}
use Rattle.buffer.specs.declared.output.Output.{Output}
use Rattle.buffer.specs.Written.{Wrote, put, place_of}

module _ {T : Type 0} {a b : Output T} {xs : List T} (w : Wrote a xs b) where
  pub wrote_more : {c : Output T} {ys zs : List T} → Wrote b ys c → zs ≡ xs ++ ys → Wrote a zs c
  wrote_more {c} {ys} v e = record {
    same = v.same ∙ w.same;
    is = v.is ∙ ap (λ s. fold put s ys) w.is ∙ sym (fold-append put (place_of a) xs ys) ∙ ap (fold put (place_of a)) (sym e);
  }
