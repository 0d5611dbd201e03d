use Rattle.std.proofs.Common.{sym, rules, arith}
use Rattle.std.proofs.lemmas.Grind.{common_steps}
use Rattle.path_requirements.proofs.Searching.{kind-past, kind-here}
use Rattle.path_requirements.proofs.matching.kind_met.Goals as goal
use Rattle.path_requirements.proofs.matching.kind_met.Goals.{else-exception-met-via-then-exception-met+then-met-len+else-names, else-exception-met-via-then-exception-met+else-met-len, else-exception-met-via-else-exception-met}

pub returns-then-place-exceptions : goal.returns-then-place-exceptions
returns-then-place-exceptions c = sym (kind-past c.args.exceptions.now c.args.capture.now c.args.met c.place_of-place.result c.if-place-exceptions.true c.place_of-place.ensures.found)

pub returns-then-names : goal.returns-then-names
returns-then-names c =
    let here = kind-here c.args.exceptions.now c.args.capture.now c.args.met c.place_of-place.result c.index-exceptions-place.result (omega arith) (search rules) c.place_of-place.ensures.found in
    grind (arith, common_steps)

pub returns-else-exception-met : goal.returns-else-exception-met
returns-else-exception-met c =
    let here = kind-here c.args.exceptions.now c.args.capture.now c.args.met c.place_of-place.result c.index-exceptions-place.result (omega arith) (search rules) c.place_of-place.ensures.found in
    elim c.else-exception-met.branch [
      | else-exception-met-via-then-exception-met+then-met-len+else-names w ↦ grind (arith, common_steps)
      | else-exception-met-via-then-exception-met+else-met-len w ↦ grind (arith, common_steps)
      | else-exception-met-via-else-exception-met w ↦ grind (arith, common_steps)
    ]
