use Rattle.bud_base.proofs.Joining.{Joins-append}
use Rattle.bud_base.proofs.laws.joined_lists_join.Goals as goal

pub returns : goal.returns
returns c = Joins-append
