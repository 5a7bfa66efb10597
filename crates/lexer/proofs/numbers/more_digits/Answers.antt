use Rattle.std.proofs.Common.{arith, rules, ◌+◌, ◌-◌, ◌≡◌, suc}
use Rattle.lexer.proofs.Digits.{digit-small, digits-end, digits-other, digits-many, digits_more, few-times, few-plus, few-more}
use Rattle.lexer.proofs.numbers.more_digits.Goals as goal

pub returns-then-not-is_ascii_digit-clause-value : goal.returns-then-not-is_ascii_digit-clause-value
returns-then-not-is_ascii_digit-clause-value c = search (rules, digits-other)

pub returns-then-most-at-clause-value : goal.returns-then-most-at-clause-value
returns-then-most-at-clause-value c =
    digits-many _ _ _ _ c.loop-at.invariant.rest c.loop-at-test.true c.is_ascii_digit.ensures.value c.if-not-is_ascii_digit.false (omega arith)

pub overflow_mul-value : goal.overflow_mul-value
overflow_mul-value c = search (rules, few-times)

pub overflow_add-value : goal.overflow_add-value
overflow_add-value c = search (rules, few-plus, digit-small)

pub loop-at-preserved : goal.loop-at-preserved
loop-at-preserved c =
    let left : c.args.start + c.args.most - c.loop-at.at ≡ suc (c.args.start + c.args.most - (c.loop-at.at + 1)) = omega arith in
    record {
      passed = omega arith;
      few = few-more _ _ _ _ c.loop-at.invariant.few (digit-small _ c.is_ascii_digit.ensures.value c.if-not-is_ascii_digit.false) left;
      rest = digits_more _ _ _ _ c.loop-at.invariant.rest c.loop-at-test.true c.is_ascii_digit.ensures.value c.if-not-is_ascii_digit.false left;
    }

pub returns-clause-value : goal.returns-clause-value
returns-clause-value c = search (rules, digits-end)
