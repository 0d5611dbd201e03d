use Rattle.std.proofs.Common.{◌≤◌, drop}
use Rattle.budget_top.proofs.WritingLaws.{GoesOn}
use Rattle.budget_top.proofs.finish.keep.Given as goal

abbrev pub invariant-loop-write : goal.invariant-loop-write
invariant-loop-write g l =
    GoesOn (g.S.Shelf.files l.fn.shelf) (g.S.Shelf.files l.shelf) l.writes (drop l.write-index l.writes) × (g.S.Shelf.faults l.fn.shelf ≤ g.S.Shelf.faults l.shelf)
