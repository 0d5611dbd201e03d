use Rattle.std.proofs.Common.{◌≡◌, ◌<◌, length}
use Rattle.budget_designs.specs.Designs.{numbered}
use Rattle.budget_designs.proofs.designs.numbers.Given as goal

-- the commands so far, numbered
abbrev pub invariant-loop-command : goal.invariant-loop-command
invariant-loop-command l = record {
  numbered : l.list ≡ numbered l.yielded;
  few : length l.list < 2147483648;
}
