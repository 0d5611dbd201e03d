use Rattle.std.proofs.Common.{◌≡◌, drop}
use Rattle.bud_design.specs.Lists.{first_some}
use Rattle.module_nets.specs.Nets.{piece_net}
use Rattle.module_nets.proofs.widths.first_net.Given as goal

abbrev pub invariant-loop-piece : goal.invariant-loop-piece
invariant-loop-piece l = first_some piece_net l.pieces ≡ first_some piece_net (drop l.piece-index l.pieces)
