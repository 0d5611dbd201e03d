use Rattle.bud_shelf.proofs.Names.{no_long-put}
use Rattle.bud_shelf.proofs.safe.SafeShelf.add.Goals as goal

pub invariant_of-self : goal.invariant_of-self
invariant_of-self c =
    no_long-put c.put.result c.self.inside.stored c.put.new.self c.args.name.now c.args.bytes.now c.self.invariant (rw c.in_ok-from_slice.ensures.items at c.put.ensures.ok) c.put.ensures.err
