use Rattle.std.proofs.Common.{◌≡◌, ◌++◌, drop, map}
use Rattle.std.specs.List.{AllByRecursion}
use Rattle.cert_text.specs.Writing.{IsTextException}
use Rattle.design_certs.specs.DesignCerts.{exception_line}
use Rattle.design_certs.proofs.classes.exception_lines.Given as goal

abbrev pub invariant-loop-met : goal.invariant-loop-met
invariant-loop-met l = record {
  same : l.lines.items ++ map (exception_line l.exceptions) (drop l.met-index l.mets) ≡ map (exception_line l.exceptions) l.mets;
  numbers : AllByRecursion IsTextException l.lines.items;
}
