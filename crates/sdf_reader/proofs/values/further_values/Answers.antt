use Rattle.std.proofs.Common.{sym, ◌∙◌, rules, refl, arith}
use Rattle.sdf_reader.specs.Found.{found_of}
use Rattle.sdf_reader.proofs.ValueLemmas.{values_turn, values_fail, values_full, values_end}
use Rattle.sdf_reader.proofs.values.further_values.Goals as goal
use Rattle.sdf_reader.proofs.values.further_values.Goals.{then-loop-further-test+else-begins_open, else-loop-further-test}

pub returns-in_default-clause-read : goal.returns-in_default-clause-read
returns-in_default-clause-read c =
    values_fail c.loop-further.further c.args.unit (found_of c.loop-further.found) _ c.loop-further-test.true (sym c.begins_open.ensures ∙ c.if-begins_open.true) c.in_default.ensures.read c.loop-further.invariant.same

pub loop-further-preserved : goal.loop-further-preserved
loop-further-preserved c = record {
  same = values_turn c.loop-further.further _ c.args.unit (found_of c.loop-further.found) (found_of c.in-Some.more) _ c.loop-further-test.true refl (sym c.begins_open.ensures ∙ c.if-begins_open.true)
      c.in-Some.ensures.read c.loop-further.invariant.same;
  follows = search rules;
}

pub returns-clause-read : goal.returns-clause-read
returns-clause-read c = elim c.loop-further-test.branch [
  | then-loop-further-test+else-begins_open w ↦
      values_end c.loop-further.further c.args.unit (found_of c.loop-further.found) _ (sym w.begins_open.ensures ∙ w.if-begins_open.false) c.loop-further.invariant.same
  | else-loop-further-test w ↦ values_full c.loop-further.further c.args.unit (found_of c.loop-further.found) _ (omega (arith, w.loop-further-test.false)) c.loop-further.invariant.same
]
