use Rattle.std.proofs.Common.{◌==◌, ◌&&◌, ◌-◌, ◌≤◌, ◌<◌, ◌≡◌, length}
use Rattle.std.specs.Prelude.{nat_lt}
use Rattle.name_tables.specs.Chained.{key_at}
use Rattle.met_lists.specs.Lists.{Notes}
use Rattle.met_lists.proofs.lists.note_key.Given as goal

-- the launches of the key before the next one have met the exception
abbrev pub invariant-loop-next : goal.invariant-loop-next
invariant-loop-next l =
    Notes l.turn l.pins.keys.items (λ v. nat_lt v l.next && key_at l.keyed.keys.items v == l.key) l.initial.lists l.lists × (l.next ≤ length l.keyed.keys.items)
    × (l.next < length l.keyed.keys.items → key_at l.keyed.keys.items l.next ≡ l.key)

abbrev pub decreases-loop-next : goal.decreases-loop-next
decreases-loop-next l = length l.keyed.keys.items - l.next
