use Rattle.std.proofs.Common.{◌≡◌, ◌<◌, length}
use Rattle.std.specs.Str.{bytes_eq}
use Rattle.flat_design.specs.Fronts.{front}
use Rattle.flat_design.proofs.names.is_front.Given as goal

abbrev pub invariant-loop-parent : goal.invariant-loop-parent
invariant-loop-parent l = (bytes_eq (front l.form l.places l.place) l.rest ≡ bytes_eq (front l.form l.places l.fn.place) l.text) × (l.place < length l.places)

abbrev pub decreases-loop-parent : goal.decreases-loop-parent
decreases-loop-parent l = l.place
