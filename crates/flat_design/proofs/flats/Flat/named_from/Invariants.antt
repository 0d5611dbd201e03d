use Rattle.std.proofs.Common.{◌≡◌, ◌<◌, ◌≤◌, ◌-◌}
use Rattle.flat_design.specs.Kinds.{low_of, count_of, named_from, keyed, name_key}
use Rattle.flat_design.proofs.flats.Flat.named_from.Given as goal

abbrev pub invariant-loop-number : goal.invariant-loop-number
invariant-loop-number l =
    (named_from l.kind l.form l.self l.name l.start ≡ named_from l.kind l.form l.self l.name l.number)
    × (low_of l.kind ≤ l.number)
    × (l.number ≤ count_of l.kind l.self)
    × (l.number < count_of l.kind l.self → keyed l.kind l.self l.number ≡ name_key l.form l.name)

abbrev pub decreases-loop-number : goal.decreases-loop-number
decreases-loop-number l = count_of l.kind l.self - l.number
