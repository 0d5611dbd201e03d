use Rattle.std.proofs.Common.{◌≡◌, sym, ◌∙◌, ap, arith, rules}
use Rattle.std.proofs.lemmas.Int.{ints}
use Rattle.class_ends.proofs.AskSteps.{requirement-within, ask-value}
use Rattle.class_ends.proofs.asks.ask.Goals as goal

pub overflow_sub-result : goal.overflow_sub-result
overflow_sub-result c =
    let within = requirement-within c.args.all.now c.requires.sound c.args.«class».now c.args.capture.now c.requires.launch_clock c.requires.capture_clock c.in-Some.time (sym c.in-Some.ensures) in
    omega (arith, ints, within.least, within.most, c.requires.amount.low, c.requires.amount.high)

pub returns-in-Some : goal.returns-in-Some
returns-in-Some c =
    let within = requirement-within c.args.all.now c.requires.sound c.args.«class».now c.args.capture.now c.requires.launch_clock c.requires.capture_clock c.in-Some.time (sym c.in-Some.ensures) in
    ask-value c.in-Some.time c.args.capture.now.amount _ _ c.in-Some.ensures (omega (arith, ints, within.least, within.most, c.requires.amount.low, c.requires.amount.high))
