use Rattle.std.proofs.Common.{◌∙◌, ap, sym, sum_by}
use Rattle.module_nets.specs.Numbers.{capped, range_width}
use Rattle.module_nets.proofs.WidthLaws.{length-port_bits}
use Rattle.module_nets.proofs.headers.Header.new.Goals as goal

pub invariant_of-result-clause-counted : goal.invariant_of-result-clause-counted
invariant_of-result-clause-counted c =
    c.port_width-bits.ensures ∙ (ap (λ ps. capped (sum_by (λ p. range_width p.range) ps)) c.as_slice-ports.ensures ∙ ap capped (sym (length-port_bits c.args.«module».now)))
