use Rattle.std.proofs.Common.{◌∙◌, arith}
use Rattle.sdf_reader.proofs.NameLemmas.{printed_ends}
use Rattle.sdf_reader.proofs.names.printed.Goals as goal

pub returns : goal.returns
returns c = c.from_vec.ensures ∙ printed_ends c.args.divider c.args.bytes.now c.loop-byte.byte-index c.loop-byte.escape c.loop-byte.out.items _ (omega arith) c.loop-byte.invariant
