use Rattle.std.proofs.Common.{◌≡◌, drop}
use Rattle.sdc_writer.specs.Texts.{names_as}
use Rattle.sdc_writer.specs.Printable.{has_some}
use Rattle.sdc_writer.proofs.objects.has_kind.Given as goal

-- there is one among all where there is one among those that are left
abbrev pub invariant-loop-object : goal.invariant-loop-object
invariant-loop-object l = has_some (names_as l.kind l.objects) ≡ has_some (names_as l.kind (drop l.object-index l.objects))
