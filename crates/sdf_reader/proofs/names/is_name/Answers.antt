use Rattle.std.proofs.Common.{sym, arith, ◌∙◌}
use Rattle.sdf_reader.proofs.NameLemmas.{name_turn, name_fails, name_ends}
use Rattle.sdf_reader.proofs.names.is_name.Goals as goal

pub returns-in_default : goal.returns-in_default
returns-in_default c = name_fails c.args.divider c.loop-byte.place c.args.bytes.now c.loop-byte.byte-index _ (omega arith) (sym c.in_default.ensures) c.loop-byte.invariant

pub loop-byte-preserved : goal.loop-byte-preserved
loop-byte-preserved c = name_turn c.args.divider c.loop-byte.place c.in-Some.next c.args.bytes.now c.loop-byte.byte-index _ (omega arith) (sym c.in-Some.ensures) c.loop-byte.invariant

pub returns : goal.returns
returns c = c.is_outside.ensures ∙ name_ends c.args.divider c.loop-byte.place c.args.bytes.now c.loop-byte.byte-index _ (omega arith) c.loop-byte.invariant
