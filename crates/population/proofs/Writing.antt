-- What stands at the front of a list after a writing, and a writing of nothing.
use Rattle.std.specs.Prelude.{ℕ, ◌≤◌, ◌≡◌, refl, List, [], length, take, drop, fold}
use Rattle.std.proofs.Common.{arith, ap, sym, ◌∙◌}
use Rattle.std.proofs.Math.Seq.{take_at}
use Rattle.buffer.specs.declared.output.Output.{Output}
use Rattle.buffer.specs.Written.{Wrote, WroteAll, place, place_of, put, puts}
use Rattle.buffer.specs.Laws.{wrote-end, wrote-whole, wrote-long}
pub use Rattle.selection.specs.Laws.Writes.{wrote_as, wrote_more}
use Rattle.population.specs.Plan.{Front}

module _ {T : Type 0} where
  pub wrote_none : (o : Output T) {xs : List T} → xs ≡ [] → Wrote o xs o
  wrote_none o e = record { same = refl; is = ap (fold put (place_of o)) (sym e) }

  pub front_as : {xs ys space : List T} {n : ℕ} → Front xs space n → xs ≡ ys → Front ys space n
  front_as f e = record { within = f.within; is = f.is ∙ e }

  pub fronted : (old : List T) {new xs : List T} {n : ℕ} → place new n ≡ puts (place old 0) xs → length xs ≤ length old → Front xs new n
  fronted old {new} {xs} {n} e room =
      let w : WroteAll old xs new n = record { is = e } in
      record {
        within = omega (arith, wrote-end w room, wrote-long w);
        is = ap (take n) (wrote-whole w room) ∙ take_at xs (drop (length xs) old) n (sym (wrote-end w room));
      }
