use Rattle.std.proofs.Common.{◌≡◌, ◌++◌, drop, map}
use Rattle.std.specs.List.{flat_map}
use Rattle.line_text.specs.Written.{spaced}
use Rattle.cert_text.specs.Writing.{exception_field}
use Rattle.cert_text.proofs.writer.put_exceptions.Given as goal

-- the exceptions so far and what is left are all exceptions
abbrev pub invariant-loop-exception : goal.invariant-loop-exception
invariant-loop-exception l = l.out.items ++ flat_map spaced (map exception_field (drop l.exception-index l.exceptions)) ≡ l.fn.out.items ++ flat_map spaced (map exception_field l.exceptions)
