use Rattle.bud_base.proofs.LiveLemmas.{IsLive-iff_path}
use Rattle.bud_base.proofs.laws.live_nodes_lie_on_paths.Goals as goal

pub returns : goal.returns
returns c = IsLive-iff_path
