use Rattle.std.proofs.Common.{◌≡◌, ◌++◌, drop}
use Rattle.std.specs.List.{flat_map}
use Rattle.cert_text.specs.Writing.{class_line}
use Rattle.cert_text.proofs.writer.put_classes.Given as goal

-- the lines so far and those of what is left are all lines
abbrev pub invariant-loop-class : goal.invariant-loop-class
invariant-loop-class l = l.out.items ++ flat_map class_line (drop l.class-index l.classes) ≡ l.fn.out.items ++ flat_map class_line l.classes
