use Rattle.std.proofs.Common.{pos, ◌^◌, sym, subst}
use Rattle.residual.specs.Bounds.{AllWithin}
use Rattle.residual.specs.Insides.{network_of}
use Rattle.residual.proofs.Keeping.{excesses-within}
use Rattle.residual.proofs.nets.Net.excess.Goals as goal

pub number_in-requires-clause-within : goal.number_in-requires-clause-within
number_in-requires-clause-within c =
    subst (AllWithin (pos (2 ^ 113))) (sym c.deref.ensures.value) (excesses-within (network_of c.self.inside) c.self.inside.excess.items c.self.invariant.lawful c.self.invariant.excesses)
