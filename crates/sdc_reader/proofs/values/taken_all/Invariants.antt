use Rattle.std.proofs.Common.{◌≡◌, map, take}
use Rattle.sdc_reader.specs.Values.{taken}
use Rattle.sdc_reader.proofs.values.taken_all.Given as goal

-- the objects so far
abbrev pub invariant-loop-one : goal.invariant-loop-one
invariant-loop-one l = l.objects.items ≡ map (taken l.ports) (take l.one-index l.found)
