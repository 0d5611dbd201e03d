use Rattle.std.proofs.Common.{◌≡◌, Some, sym, ◌∙◌, subst}
use Rattle.std.specs.Prelude.{All}
use Rattle.timing_objects.specs.Objects.{meant}
use Rattle.timing_objects.specs.Within.{IsPinIn}
use Rattle.timing_objects.proofs.ThingLaws.{meant-pins}
use Rattle.timing_objects.proofs.judging.things_in.Goals as goal

pub all_may_be-requires : goal.all_may_be-requires
all_may_be-requires c =
    let is : meant c.args.scene.now c.args.role c.args.clocks.now c.args.object.now ≡ Some c.in-Some.things = sym c.in-Ok.ensures ∙ c.in-Some.is in
    subst (All (IsPinIn c.args.scene.now.design)) (sym c.as_slice.ensures) (meant-pins c.args.scene.now c.args.clocks.now c.args.role c.args.object.now c.in-Some.things is)
