use Rattle.std.proofs.Common.{sym, arith}
use Rattle.bud_shelf.proofs.KeptLists.{IsContent-some, IsContent-none}
use Rattle.bud_shelf.proofs.stored.content_of.Goals as goal

pub returns-in-Some : goal.returns-in-Some
returns-in-Some c =
    IsContent-some c.args.name.now c.args.kept.now 0 c.in-Some.place c.in-Some.place c.index-kept-place.result (omega arith) (sym c.in-Some.ensures.first)

pub returns-in-None : goal.returns-in-None
returns-in-None c = IsContent-none c.args.name.now c.args.kept.now 0 (sym c.in-None.ensures.first)
