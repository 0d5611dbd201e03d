use Rattle.std.proofs.Common.{◌≡◌, ◌≤◌, drop, length}
use Rattle.timing_scopes.specs.Resolving.{resolved, resolved_from}
use Rattle.timing_scopes.proofs.commands.scope_of.Given as goal

abbrev pub invariant-loop-command : goal.invariant-loop-command
invariant-loop-command l = (resolved l.scene l.commands ≡ resolved_from l.scene l.scope (drop l.command-index l.commands)) × (length l.scope.clocks ≤ l.command-index)
