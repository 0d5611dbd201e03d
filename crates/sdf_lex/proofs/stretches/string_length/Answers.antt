use Rattle.std.proofs.Common.{sym, rules}
use Rattle.sdf_lex.proofs.WordLemmas.{string_found, string_turn, string_open}
use Rattle.sdf_lex.proofs.stretches.string_length.Goals as goal

pub returns-then-byte-eq34-clause-length : goal.returns-then-byte-eq34-clause-length
returns-then-byte-eq34-clause-length c = sym (string_found c.args.bytes.now c.loop-place.place c.loop-place.invariant.same c.loop-place-test.true c.if-byte-eq34.true)

pub loop-place-preserved : goal.loop-place-preserved
loop-place-preserved c = record {
  same = string_turn c.args.bytes.now c.loop-place.place _ c.loop-place.invariant.same c.loop-place-test.true c.if-byte-eq34.false c.string_unit-place.ensures;
  within = search rules;
}

pub returns-clause-length : goal.returns-clause-length
returns-clause-length c = sym (string_open c.args.bytes.now c.loop-place.place c.loop-place.invariant.same c.loop-place-test.false)
