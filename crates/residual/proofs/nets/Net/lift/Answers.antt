use Rattle.std.proofs.Common.{◌≡◌, ◌+ℤ◌, arith, true, refl, sym, ap, subst, ◌∙◌}
use Rattle.std.proofs.lemmas.Int.{ints}
use Rattle.bud_flow.specs.Sums.{number_at}
use Rattle.node_potentials.specs.Rounds.{Round}
use Rattle.residual.specs.Networks.{Network, IsLawful}
use Rattle.residual.specs.Insides.{network_of}
use Rattle.residual.proofs.Laws.{IsLawful-lifted}
use Rattle.residual.proofs.Keeping.{lifted_is}
use Rattle.residual.proofs.nets.Net.lift.Goals as goal

pub returns-clause-lifted : goal.returns-clause-lifted
returns-clause-lifted c =
    let before : Network = network_of c.self.inside in
    let with_round : Round → Network = λ r. record before { kept = r.kept; potentials = r.present; is_open = true } in
    let P : Network → Type 0 = λ n. c.potential_of.result ≡ number_at n.potentials c.args.node.0 in
    let was : c.potential_of.result ≡ number_at c.args.self.now.potentials c.args.node.0 = subst P c.self.view_is c.potential_of.ensures in
    ap with_round c.put.ensures ∙ lifted_is before c.args.self.now c.args.node.0 c.args.by _ _ c.self.view_is refl (omega (arith, ints, was, c.ranges.by.sfits, c.requires.small.low, c.requires.small.high))

-- the law, which the network had before, holds of the network that the lift makes
pub returns-clause-lawful : goal.returns-clause-lawful
returns-clause-lawful c =
    subst IsLawful (sym (returns-clause-lifted c))
    (IsLawful-lifted c.args.self.now c.args.node.0 (number_at c.args.self.now.potentials c.args.node.0 +ℤ c.args.by) (subst IsLawful c.self.view_is c.self.invariant.lawful) c.requires.node c.requires.small)

pub invariant_of-self : goal.invariant_of-self
invariant_of-self c = record { lawful = returns-clause-lawful c; excess_size = c.self.invariant.excess_size; excesses = c.self.invariant.excesses; listed = c.self.invariant.listed; ways = c.self.invariant.ways }
