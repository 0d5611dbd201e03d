use Rattle.std.proofs.Common.{arith, ap, sym}
use Rattle.search_heap.specs.Entries.{free_count, fresh}
use Rattle.search_heap.proofs.Ordering.{free_count-first, free_count-again, free_count-some, IsFarther-nearer, reached-first, reached-nearer, reached-kept}
use Rattle.search_heap.proofs.offers.reach_in.Goals as goal

pub offer_first-requires-clause-room : goal.offer_first-requires-clause-room
offer_first-requires-clause-room c = omega (arith, c.requires.room, free_count-some c.args.entries.now c.args.near.node.0 c.requires.node c.in-None.is)

pub returns-in-None-clause-entries : goal.returns-in-None-clause-entries
returns-in-None-clause-entries c = reached-first c.args.entries.now c.offer_first.new.entries c.args.near.node.0 c.args.near.distance c.args.by c.in-None.is c.offer_first.ensures.entries

pub returns-in-None-clause-few : goal.returns-in-None-clause-few
returns-in-None-clause-few c =
    omega (arith, ap free_count c.offer_first.ensures.entries, free_count-first c.args.entries.now c.args.near.node.0 (fresh c.args.near.distance c.args.by) c.requires.node c.in-None.is)

pub offer_nearer-requires-clause-farther : goal.offer_nearer-requires-clause-farther
offer_nearer-requires-clause-farther c = IsFarther-nearer c.args.entries.now c.args.near.node.0 c.in-Some.entry c.args.near.distance c.in-Some.is (sym c.if-is_nearer_than.ensures)

pub returns-then-is_nearer_than-clause-entries : goal.returns-then-is_nearer_than-clause-entries
returns-then-is_nearer_than-clause-entries c =
    reached-nearer c.args.entries.now c.offer_nearer.new.entries c.args.near.node.0 c.in-Some.entry c.args.near.distance c.args.by c.in-Some.is (sym c.if-is_nearer_than.ensures) c.offer_nearer.ensures.entries

pub returns-then-is_nearer_than-clause-few : goal.returns-then-is_nearer_than-clause-few
returns-then-is_nearer_than-clause-few c =
    omega (arith, ap free_count c.offer_nearer.ensures.entries, free_count-again c.args.entries.now c.args.near.node.0 c.in-Some.entry (fresh c.args.near.distance c.args.by) c.in-Some.is)

pub returns-else-is_nearer_than-clause-entries : goal.returns-else-is_nearer_than-clause-entries
returns-else-is_nearer_than-clause-entries c =
    reached-kept c.args.entries.now c.args.near.node.0 c.in-Some.entry c.args.near.distance c.args.by c.in-Some.is (sym c.if-is_nearer_than.ensures)
