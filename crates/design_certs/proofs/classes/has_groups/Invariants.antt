use Rattle.std.proofs.Common.{◌≡◌, drop}
use Rattle.design_certs.specs.DesignCerts.{has_groups}
use Rattle.design_certs.proofs.classes.has_groups.Given as goal

abbrev pub invariant-loop-exception : goal.invariant-loop-exception
invariant-loop-exception l = has_groups l.exceptions l.number ≡ has_groups (drop l.exception-index l.exceptions) l.number
