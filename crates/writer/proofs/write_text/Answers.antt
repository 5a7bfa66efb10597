-- `writer::write_text` meets its contract. Its parts are written one after another.
use Rattle.buffer.specs.Laws.{written_all}
use Rattle.table.specs.Laws.Valid.{valid-walkable}
use Rattle.writer.proofs.Texts.{text-is}
use Rattle.orm.specs.Text.{bytes}
use Rattle.std.proofs.Common.{rules}
use Rattle.writer.proofs.write_text.Goals as goal

pub push_types-requires-clause-walkable : goal.push_types-requires-clause-walkable
push_types-requires-clause-walkable c = search (rules, valid-walkable)

pub push_preds-requires : goal.push_preds-requires
push_preds-requires c = search (rules, valid-walkable)

pub returns : goal.returns
unfolding bytes
returns c =
    let written = text-is c.args.t.now c.requires c.push_types.ensures c.push_count.ensures c.push_preds.ensures c.push_count-2.ensures in
    search (rules, written_all c.new-out.ensures written)
