use Rattle.std.proofs.Common.{◌≡◌, ◌==◌, ◌&&◌, ◌||◌, List, length, get_or, take, ◌∙◌, ap, arith, rules}
use Rattle.bud_base.specs.declared.ids.PinId.{PinId}
use Rattle.bud_design.specs.Exceptions.{has_pin, group_after}
use Rattle.class_steps.specs.Groups.{holds}
use Rattle.class_steps.proofs.GroupSets.{groups-more}
use Rattle.class_steps.proofs.groups.add_groups.Goals as goal

pub loop-place-preserved : goal.loop-place-preserved
loop-place-preserved c = λ q.
    let e = c.args.exception.now in
    let steps : c.in-Ok.steps ≡ c.loop-place.place = search rules in
    let h = holds c.args.pins.now.keys q in
    let a = e.number == q.number in
    let g = c.as_slice.result.now in
    let is : g ≡ get_or e.groups c.loop-place.place c.group-item.result = c.as_slice.ensures ∙ (c.group-item.is ∙ ap (λ gs. get_or gs c.loop-place.place c.group-item.result) c.as_slice-group-items.ensures) in
    c.in_ok-add_group.ensures q
    ∙ (ap (λ b. b || (a && (c.in-Ok.steps == q.steps && has_pin g q.pin.0))) (c.loop-place.invariant q)
    ∙ (ap (λ n. (h || (a && has_pin (group_after q.steps (take c.loop-place.place e.groups)) q.pin.0)) || (a && (n == q.steps && has_pin g q.pin.0))) steps
    ∙ groups-more h a e.groups c.loop-place.place q.steps q.pin.0 g c.group-item.result (omega (arith, c.loop-place-test.true, ap (λ (gs : List (List PinId)). length gs) c.as_slice-group-items.ensures)) is))
