use Rattle.std.proofs.Common.{set, ◌∙◌, ap, arith}
use Rattle.std.proofs.lemmas.List.{get_or_default}
use Rattle.std.proofs.lemmas.List.Edits.{map_over_more}
use Rattle.timing_scopes.specs.Resolving.{raised}
use Rattle.timing_scopes.proofs.delays.raise.Goals as goal

pub loop-y-preserved : goal.loop-y-preserved
loop-y-preserved c =
    let ys = c.loop-y.delays in
    let i = c.loop-y.y-index in
    ap (λ z. set ys i z) c.raised.ensures
    ∙ map_over_more (raised c.args.x) c.args.delays.now ys i _ (omega arith) c.loop-y.invariant (get_or_default ys i _ _ (omega arith))
