-- `writer::write_valid` meets its contract. There is room for every text, or the length is found out first.
use Rattle.writer.proofs.Answers.{short-outcome, short-kept, room-found, room_most, whole-outcome, whole-written}
use Rattle.std.proofs.Common.{rules}
use Rattle.writer.proofs.write_valid.Goals as goal
use Rattle.writer.proofs.write_valid.Goals.{then-text-lt-MOST_TEXT+else-text-needed, else-text-lt-MOST_TEXT}

pub returns-then-text-needed : goal.returns-then-text-needed
returns-then-text-needed c = search (rules, short-outcome, short-kept)

pub returns : goal.returns
returns c =
    elim c.if-text-lt-MOST_TEXT.branch [
      | then-text-lt-MOST_TEXT+else-text-needed w ↦ record {
        result_value = search (rules, whole-outcome, room-found);
        text_after = search (rules, whole-written, room-found);
      }
      | else-text-lt-MOST_TEXT w ↦ record {
        result_value = search (rules, whole-outcome, room_most);
        text_after = search (rules, whole-written, room_most);
      }
    ]
