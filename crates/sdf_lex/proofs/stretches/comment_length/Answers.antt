use Rattle.std.proofs.Common.{sym, rules}
use Rattle.sdf_lex.proofs.WordLemmas.{comment_found, comment_turn, comment_open}
use Rattle.sdf_lex.proofs.stretches.comment_length.Goals as goal
use Rattle.sdf_lex.proofs.stretches.comment_length.Goals.{else-bytes-place-eq42-via-then-bytes-place-eq42+else-bytes-place-eq47, else-bytes-place-eq42-via-else-bytes-place-eq42}

pub returns-then-bytes-place-eq47-clause-length : goal.returns-then-bytes-place-eq47-clause-length
returns-then-bytes-place-eq47-clause-length c =
    sym (comment_found c.args.bytes.now c.loop-place.place c.loop-place.invariant.same c.loop-place-test.true c.if-bytes-place-eq42.true c.if-bytes-place-eq47.true)

pub loop-place-preserved : goal.loop-place-preserved
loop-place-preserved c = record {
  same = comment_turn c.args.bytes.now c.loop-place.place c.loop-place.invariant.same c.loop-place-test.true
      (elim c.else-bytes-place-eq42.branch [
        | else-bytes-place-eq42-via-then-bytes-place-eq42+else-bytes-place-eq47 w ↦ λ first second. w.if-bytes-place-eq47.false second
        | else-bytes-place-eq42-via-else-bytes-place-eq42 w ↦ λ first second. w.if-bytes-place-eq42.false first
      ]);
  within = search rules;
}

pub returns-clause-length : goal.returns-clause-length
returns-clause-length c = sym (comment_open c.args.bytes.now c.loop-place.place c.loop-place.invariant.same c.loop-place-test.false)
