use Rattle.flat_design.specs.Keyed.{HaveKeys}
use Rattle.flat_design.proofs.keys.place_keys.Given as goal

abbrev pub invariant-loop-place : goal.invariant-loop-place
invariant-loop-place l = HaveKeys l.places l.place l.keys.items
