use Rattle.std.proofs.Common.{◌≡◌, ◌++◌, drop}
use Rattle.std.specs.List.{AllByRecursion}
use Rattle.plan_cert.specs.Names.{HasClassNumbers}
use Rattle.design_certs.specs.DesignCerts.{class_lines}
use Rattle.design_certs.proofs.classes.class_lines.Given as goal

abbrev pub invariant-loop-number : goal.invariant-loop-number
invariant-loop-number l = record {
  same : l.lines.items ++ class_lines l.all l.number (drop l.number l.classes) ≡ class_lines l.all 0 l.classes;
  numbers : AllByRecursion HasClassNumbers l.lines.items;
}
