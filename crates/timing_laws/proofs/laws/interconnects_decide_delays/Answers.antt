use Rattle.timing_laws.proofs.WireDelays.{interconnects-decide}
use Rattle.timing_laws.proofs.laws.interconnects_decide_delays.Goals as goal

pub returns : goal.returns
returns c = λ d xs f g design. interconnects-decide d design xs f g
