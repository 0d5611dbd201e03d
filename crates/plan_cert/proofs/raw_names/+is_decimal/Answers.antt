use Rattle.std.proofs.Common.{arith}
use Rattle.plan_cert.proofs.Decimals.{decimal_not_empty, decimal_one, decimal_more, decimal_other, empty_from_length}
use Rattle.plan_cert.proofs.raw_names.+is_decimal.Goals as goal

pub returns-in_default : goal.returns-in_default
returns-in_default t c =
    (λ no. absurd (cc), λ is. absurd (decimal_not_empty c.args.name.now c.args.number (omega arith) c.in_default.ensures.cases is))

pub returns-then-last-number : goal.returns-then-last-number
returns-then-last-number t c =
    (λ no. absurd (cc), λ is. absurd (decimal_other c.args.name.now c.in-Some.front.now c.in-Some.last.now c.args.number (omega arith) c.in-Some.ensures.cases.0 c.if-last-number.true is))

pub returns-then-number-lt10 : goal.returns-then-number-lt10
returns-then-number-lt10 t c =
    let both = decimal_one c.args.name.now c.in-Some.front.now c.in-Some.last.now c.args.number (omega arith) c.in-Some.ensures.cases.0 c.if-last-number.false in
    let empty = empty_from_length c.in-Some.front.now c.is_empty.result c.is_empty.ensures in
    (λ yes. both.0 (empty.0 yes), λ is. empty.1 (both.1 is))

pub returns-else-number-lt10 : goal.returns-else-number-lt10
returns-else-number-lt10 t c =
    let both = decimal_more c.args.name.now c.in-Some.front.now c.in-Some.last.now c.args.number (omega arith) (omega arith) c.in-Some.ensures.cases.0 c.if-last-number.false in
    (λ yes. both.0 (c.is_decimal.ensures.0 yes), λ is. c.is_decimal.ensures.1 (both.1 is))
