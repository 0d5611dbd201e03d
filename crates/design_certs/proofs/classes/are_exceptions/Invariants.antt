use Rattle.std.proofs.Common.{◌≡◌, drop, map}
use Rattle.std.specs.Prelude.{◌↔◌}
use Rattle.design_certs.specs.DesignCerts.{exception_line}
use Rattle.design_certs.proofs.classes.are_exceptions.Given as goal

-- what is left decides
abbrev pub invariant-loop-met : goal.invariant-loop-met
invariant-loop-met l = (l.rest ≡ map (exception_line l.exceptions) (drop l.met-index l.mets)) ↔ (l.fn.lines ≡ map (exception_line l.exceptions) l.mets)
