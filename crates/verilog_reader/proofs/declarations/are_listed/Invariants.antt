use Rattle.std.proofs.Common.{◌≡◌, drop}
use Rattle.std.specs.Prelude.{is_none}
use Rattle.std.specs.List.{list_all}
use Rattle.verilog_reader.proofs.declarations.are_listed.Given as goal

-- what is left decides
abbrev pub invariant-loop-port : goal.invariant-loop-port
invariant-loop-port l = list_all (λ p. is_none p.declared) (drop l.port-index l.ports) ≡ list_all (λ p. is_none p.declared) l.ports
