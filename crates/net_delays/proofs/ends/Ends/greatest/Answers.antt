use Rattle.std.proofs.Common.{◌≡◌, ◌<◌, ◌+◌, Option, Some, None, ℕ, sym, ◌∙◌, ap, subst, refl, arith, length}
use Rattle.std.proofs.lemmas.List.{get_or_read}
use Rattle.net_delays.specs.Alongs.{sum_of, along_at, next_at, IsNextEnd, IsEndAt}
use Rattle.net_delays.proofs.EndSteps.{greatest_from-first, greatest-more, greatest-end, IsEndAt-any}
use Rattle.net_delays.proofs.ends.Ends.greatest.Goals as goal

pub loop-next-init : goal.loop-next-init
loop-next-init c =
    let within : c.args.pin.0 < length c.args.self.now.first.items = omega (arith, c.requires.pin, c.requires.ends.pins_are) in
    let first = c.requires.ends.lists.first c.args.pin.0 within in
    rw (get_or_read _ _ _ within c.index-next.ensures None) (first.stands, greatest_from-first _ _ _ _ first)

pub loop-next-preserved : goal.loop-next-preserved
loop-next-preserved c =
    let here : IsEndAt c.args.alongs.now c.args.pin.0 0 (Some c.in-Some.number) = subst (IsEndAt c.args.alongs.now c.args.pin.0 0) c.in-Some.is c.loop-next.invariant.0 in
    let within : c.in-Some.number < length c.args.self.now.next.items = omega (arith, here.1, c.requires.ends.size) in
    let further : IsNextEnd c.args.alongs.now c.args.pin.0 (c.in-Some.number + 1) (next_at c.args.self.now.next.items c.in-Some.number)
    = subst (λ v. IsNextEnd c.args.alongs.now v (c.in-Some.number + 1) (next_at c.args.self.now.next.items c.in-Some.number)) here.2 (c.requires.ends.lists.next c.in-Some.number (omega arith) here.1) in
    rw (get_or_read _ _ _ within c.index-next-in-Some.ensures None)
    (IsEndAt-any _ _ _ _ further.stands, greatest-more _ _ _ c.in-Some.number _ _ _ _ c.in-Some.is here.1 here.2 further c.later-best.ensures c.loop-next.invariant.1)

pub returns : goal.returns
returns c = greatest-end _ _ _ _ _ c.in_default.is c.loop-next.invariant.1
