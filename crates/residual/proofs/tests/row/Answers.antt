use Rattle.std.proofs.Common.{◌∙◌}
use mir.Syntax.{w64}
use Rattle.std.proofs.lemmas.Int.{to_z-of_z}
use Rattle.residual.proofs.Rows.{Meets-row}
use Rattle.residual.proofs.tests.row.Goals as goal

pub returns-clause-meets : goal.returns-clause-meets
returns-clause-meets c =
    Meets-row c.args.weights.0 c.args.weights.1 _ _ (rw (to_z-of_z w64 c.args.require c.ranges.require) c.requires) (c.from_vec.ensures ∙ c.in_ok-vec.ensures.items) (c.from_vec-2.ensures ∙ c.in_ok-vec-2.ensures.items)
    (c.from_vec-3.ensures ∙ c.in_ok-vec-3.ensures.items)
