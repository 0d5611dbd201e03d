use Rattle.std.proofs.Common.{sym}
use Rattle.net_drivers.proofs.LinkLaws.{nth-is, nth-none}
use Rattle.net_drivers.proofs.links.nth.Goals as goal

pub returns-then-place-numbers : goal.returns-then-place-numbers
returns-then-place-numbers c = sym (nth-is c.args.numbers.now c.args.place c.if-place-numbers.true)

pub returns-else-place-numbers : goal.returns-else-place-numbers
returns-else-place-numbers c = sym (nth-none c.args.numbers.now c.args.place c.if-place-numbers.false)
