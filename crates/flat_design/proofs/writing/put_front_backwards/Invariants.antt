use Rattle.std.proofs.Common.{◌≡◌, ◌<◌, ◌++◌, length, reverse}
use Rattle.flat_design.specs.declared.texts.Form.TheVariants.{Printed}
use Rattle.flat_design.specs.Fronts.{front}
use Rattle.flat_design.proofs.writing.put_front_backwards.Given as goal

abbrev pub invariant-loop-parent : goal.invariant-loop-parent
invariant-loop-parent l =
    (l.text.items ++ reverse (front Printed l.places l.place) ≡ l.initial.text.items ++ reverse (front Printed l.places l.initial.place))
    × (l.place < length l.places)

abbrev pub decreases-loop-parent : goal.decreases-loop-parent
decreases-loop-parent l = l.place
