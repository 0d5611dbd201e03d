use Rattle.std.proofs.Common.{◌+◌, ◌<◌, length, arith, ap, sym, subst, ◌∙◌}
use Rattle.residual.specs.Leaving.{leaving}
use Rattle.residual.specs.Networks.{Network}
use Rattle.residual.proofs.nets.Net.degree.Goals as goal

pub degree-requires : goal.degree-requires
degree-requires c =
    let P : Network → Type 0 = λ n. c.args.node.0 < n.nodes + 1 in
    omega (arith, subst P (sym c.self.view_is) c.requires, c.self.invariant.listed.size)

pub returns : goal.returns
returns c =
    let P : Network → Type 0 = λ n. c.args.node.0 < n.nodes + 1 in
    c.degree.ensures ∙ ap length (c.self.invariant.listed.each c.args.node.0 (subst P (sym c.self.view_is) c.requires)) ∙ ap (λ (n : Network). length (leaving n c.args.node.0)) c.self.view_is
