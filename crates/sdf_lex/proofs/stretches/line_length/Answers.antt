use Rattle.std.proofs.Common.{rules}
use Rattle.sdf_lex.proofs.WordLemmas.{line_found, line_turn, line_open}
use Rattle.sdf_lex.proofs.stretches.line_length.Goals as goal

pub loop-place-preserved : goal.loop-place-preserved
loop-place-preserved c = record {
  same = line_turn c.args.bytes.now c.loop-place.place c.loop-place.invariant.same c.loop-place-test.true c.if-bytes-place-ne10.true;
  within = search rules;
}

pub returns-else-bytes-place-ne10-clause-length : goal.returns-else-bytes-place-ne10-clause-length
returns-else-bytes-place-ne10-clause-length c = line_found c.args.bytes.now c.loop-place.place c.loop-place.invariant.same c.loop-place-test.true c.if-bytes-place-ne10.false

pub returns-after-loop-place-clause-length : goal.returns-after-loop-place-clause-length
returns-after-loop-place-clause-length c = line_open c.args.bytes.now c.loop-place.place c.loop-place.invariant.same c.loop-place-test.false
