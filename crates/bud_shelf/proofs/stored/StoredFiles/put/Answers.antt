use Rattle.std.proofs.Common.{sym, arith}
use Rattle.bud_shelf.proofs.KeptLists.{stored_of-set, stored_of-push}
use Rattle.bud_shelf.proofs.stored.StoredFiles.put.Goals as goal

pub returns-in-Some-clause-ok : goal.returns-in-Some-clause-ok
returns-in-Some-clause-ok c =
    rw (← c.self.view_is)
    (rw c.index_mut.ensures.value
    (stored_of-set c.args.name.now c.args.content c.self.inside.kept.items 0 c.in-Some.place c.in-Some.place c.index_mut.result.now (omega arith) (rw c.as_slice.ensures.value at (sym c.in-Some.ensures.first))))

pub returns-in_ok-push-in-None-clause-ok : goal.returns-in_ok-push-in-None-clause-ok
returns-in_ok-push-in-None-clause-ok c =
    rw (← c.self.view_is, c.in_ok-push-in-None.ensures.items)
    (stored_of-push c.args.name.now c.self.inside.kept.items 0 _ c.in_ok-name-in-None.ensures.ok (rw c.as_slice.ensures.value at (sym c.in-None.ensures.first)))
