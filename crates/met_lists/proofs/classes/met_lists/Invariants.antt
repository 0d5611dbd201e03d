use Rattle.met_lists.specs.Classes.{AreMet}
use Rattle.met_lists.proofs.classes.met_lists.Given as goal

abbrev pub invariant-loop-place : goal.invariant-loop-place
invariant-loop-place l = AreMet l.launches l.exceptions l.place l.lists
