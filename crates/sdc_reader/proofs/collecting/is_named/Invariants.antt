use Rattle.std.proofs.Common.{◌≡◌, drop}
use Rattle.sdc_reader.specs.Collecting.{is_named}
use Rattle.sdc_reader.proofs.collecting.is_named.Given as goal
use Rattle.std.proofs.Common.{false}

-- what is left decides
abbrev pub invariant-loop-opened : goal.invariant-loop-opened
invariant-loop-opened l = is_named l.kind l.owned (drop l.opened-index l.words) ≡ is_named l.kind false l.words
