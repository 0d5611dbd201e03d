use Rattle.std.proofs.Common.{◌+◌, ◌<◌, ℕ, List, length, get_or, arith, ap, sym, subst, ◌∙◌}
use Rattle.residual.specs.Leaving.{leaving}
use Rattle.residual.specs.Networks.{Network}
use Rattle.residual.proofs.nets.Net.arc_at.Goals as goal

pub key_at-requires-clause-node : goal.key_at-requires-clause-node
key_at-requires-clause-node c =
    let P : Network → Type 0 = λ n. c.args.node.0 < n.nodes + 1 in
    omega (arith, subst P (sym c.self.view_is) c.requires.node, c.self.invariant.listed.size)

pub key_at-requires-clause-place : goal.key_at-requires-clause-place
key_at-requires-clause-place c =
    let P : Network → Type 0 = λ n. c.args.node.0 < n.nodes + 1 in
    let same = ap length (c.self.invariant.listed.each c.args.node.0 (subst P (sym c.self.view_is) c.requires.node)) in
    omega (arith, same, ap (λ (n : Network). length (leaving n c.args.node.0)) c.self.view_is, c.requires.place)

pub returns : goal.returns
returns c =
    let P : Network → Type 0 = λ n. c.args.node.0 < n.nodes + 1 in
    c.key_at.ensures ∙ ap (λ (ks : List ℕ). get_or ks c.args.place 0) (c.self.invariant.listed.each c.args.node.0 (subst P (sym c.self.view_is) c.requires.node))
    ∙ ap (λ (n : Network). get_or (leaving n c.args.node.0) c.args.place 0) c.self.view_is
