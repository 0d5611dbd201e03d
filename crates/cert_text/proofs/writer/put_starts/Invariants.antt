use Rattle.std.proofs.Common.{◌≡◌, ◌++◌, drop}
use Rattle.std.specs.List.{flat_map}
use Rattle.cert_text.specs.Writing.{start_line}
use Rattle.cert_text.proofs.writer.put_starts.Given as goal

-- the lines so far and those of what is left are all lines
abbrev pub invariant-loop-start : goal.invariant-loop-start
invariant-loop-start l = l.out.items ++ flat_map start_line (drop l.start-index l.starts) ≡ l.fn.out.items ++ flat_map start_line l.starts
