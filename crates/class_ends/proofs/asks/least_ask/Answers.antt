use Rattle.std.proofs.Common.{◌≡◌, ◌<◌, List, length, map, sym, ◌∙◌, ap, subst, arith}
use Rattle.std.specs.Prelude.{◌-ℤ◌}
use Rattle.std.specs.Option.{option_map}
use Rattle.bud_design.specs.Exceptions.{class_requirement}
use Rattle.std.proofs.lemmas.List.{length-map}
use Rattle.bud_base.proofs.Trials.{rest_of, rest_of-next}
use Rattle.bud_design.specs.declared.clocks.Capture.{Capture}
use Rattle.class_ends.specs.Asks.{capture_item}
use Rattle.class_ends.proofs.AskSteps.{IsAsking, capture_at, found-item, IsAsking-more, asked-from_asking}
use Rattle.class_ends.proofs.asks.least_ask.Goals as goal

pub bounds-captures-item : goal.bounds-captures-item
bounds-captures-item c =
    let first = found-item _ _ _ _ _ c.in-Some.item c.in-Some.is c.loop-next.invariant in
    omega (arith, first.within, length-map c.args.all.now.captures capture_item, ap (λ (xs : List Capture). length xs) c.as_slice-captures.ensures)

pub next-next-requires : goal.next-next-requires
next-next-requires c =
    let first = found-item _ _ _ _ _ c.in-Some.item c.in-Some.is c.loop-next.invariant in
    omega (arith, first.within, c.requires.links.room)

pub loop-next-smaller : goal.loop-next-smaller
loop-next-smaller c =
    let first = found-item _ _ _ _ _ c.in-Some.item c.in-Some.is c.loop-next.invariant in
    subst (λ k. rest_of (map capture_item c.args.all.now.captures) c.next-next.result < k) (sym (ap (rest_of (map capture_item c.args.all.now.captures)) c.in-Some.is))
    (rest_of-next _ _ _ _ first.within (c.next-next.ensures ∙ c.requires.links.next _ first.within))

pub loop-next-preserved : goal.loop-next-preserved
loop-next-preserved c =
    let first = found-item _ _ _ _ _ c.in-Some.item c.in-Some.is c.loop-next.invariant in
    let f = class_requirement c.args.all.now c.args.«class».now in
    let ask = subst (λ (xs : List Capture). c.ask.result ≡ option_map (λ r. r -ℤ (capture_at xs c.in-Some.item.0).amount) (f (capture_at xs c.in-Some.item.0))) c.as_slice-captures.ensures c.ask.ensures in
    subst (IsAsking c.args.all.now.captures c.args.pin.0 f c.next-next.result) (sym c.with_ask-least.ensures)
    (IsAsking-more c.args.all.now.captures c.args.pin.0 f c.loop-next.next c.loop-next.least c.in-Some.item c.ask.result c.next-next.result c.in-Some.is ask
    (c.next-next.ensures ∙ c.requires.links.next _ first.within) c.loop-next.invariant)

pub returns : goal.returns
returns c = asked-from_asking _ _ _ c.loop-next.next c.loop-next.least c.in_default.is c.loop-next.invariant
