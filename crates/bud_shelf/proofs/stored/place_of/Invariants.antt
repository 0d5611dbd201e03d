use Rattle.std.proofs.Common.{◌≡◌, drop}
use Rattle.std.specs.List.{position_from}
use Rattle.bud_shelf.specs.Kept.{has_name}
use Rattle.bud_shelf.proofs.stored.place_of.Given as goal

abbrev pub invariant-loop-place : goal.invariant-loop-place
invariant-loop-place l = position_from (has_name l.name) 0 l.kept ≡ position_from (has_name l.name) l.place (drop l.place l.kept)
