use Rattle.std.proofs.Common.{sym, arith}
use Rattle.std.proofs.lemmas.List.{take_rest, length-drop}
use Rattle.sdf_lex.proofs.WordLemmas.{word_turn, word_ends, word_found}
use Rattle.sdf_lex.proofs.stretches.word_length.Goals as goal

pub loop-place-preserved : goal.loop-place-preserved
loop-place-preserved c = record {
  same = word_turn c.args.bytes.now c.loop-place.place c.unit-size.result c.loop-place.invariant.same (rw take_rest at (sym c.unit-size.ensures.piece)) (omega arith) c.unit-size.ensures.small;
  within = omega (arith, length-drop c.loop-place.place c.args.bytes.now, rw take_rest at c.unit-size.ensures.within);
}

pub returns-after-loop-place-clause-length : goal.returns-after-loop-place-clause-length
returns-after-loop-place-clause-length c = word_ends c.args.bytes.now c.loop-place.place c.loop-place.invariant.same c.loop-place-test.false

pub returns-then-size-eq0-clause-length : goal.returns-then-size-eq0-clause-length
returns-then-size-eq0-clause-length c = word_found c.args.bytes.now c.loop-place.place c.unit-size.result c.loop-place.invariant.same (rw take_rest at c.unit-size.ensures.piece) c.if-size-eq0.true
