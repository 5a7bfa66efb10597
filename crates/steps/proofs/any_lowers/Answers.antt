use Rattle.std.proofs.Common.{rules}
use Rattle.std.specs.Prelude.{◌↔◌, Any, IsTrue}
use Rattle.fixpoint.specs.Limits.{lowers}
use Rattle.lowering.specs.Coded.{limit_of}
use Rattle.steps.specs.Laws.{any-is}
use Rattle.steps.proofs.any_lowers.Goals as goal

pub returns : goal.returns
returns c =
    let limit = limit_of c.args.limits.now.operands.now in
    let some : IsTrue c.any.result ↔ Any (λ x. IsTrue (lowers c.args.sizes.now (limit x))) c.args.limits.now.limits.now = search rules in
    any-is limit c.args.sizes.now c.args.limits.now.limits.now c.any.result some
