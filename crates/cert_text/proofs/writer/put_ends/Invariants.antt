use Rattle.std.proofs.Common.{◌≡◌, ◌++◌, drop}
use Rattle.std.specs.List.{flat_map}
use Rattle.cert_text.specs.Writing.{end_line}
use Rattle.cert_text.proofs.writer.put_ends.Given as goal

-- the lines so far and those of what is left are all lines
abbrev pub invariant-loop-end : goal.invariant-loop-end
invariant-loop-end l = l.out.items ++ flat_map end_line (drop l.end-index l.ends) ≡ l.fn.out.items ++ flat_map end_line l.ends
