use Rattle.bud_base.proofs.Joining.{Joins-split}
use Rattle.bud_base.proofs.laws.joined_lists_part.Goals as goal

pub returns : goal.returns
returns c = Joins-split
