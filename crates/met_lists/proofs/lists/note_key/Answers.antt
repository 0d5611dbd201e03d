use Rattle.std.proofs.Common.{◌<◌, ◌≤◌, ◌==◌, ◌&&◌, length, arith}
use Rattle.std.specs.Prelude.{nat_lt}
use Rattle.name_tables.specs.Chained.{key_at}
use Rattle.met_lists.proofs.ChainSteps.{next-first, next-next, passed-first, passed-more, passed-all}
use Rattle.met_lists.proofs.NoteSteps.{Notes-none, Notes-join, Notes-same}
use Rattle.met_lists.proofs.lists.note_key.Goals as goal

pub loop-next-init : goal.loop-next-init
loop-next-init c =
    let keys = c.args.keyed.now.keys.items in
    let next = c.first-next.result in
    let is = next-first (key_at keys) (length keys) c.args.keyed.now.chains c.args.key next c.requires.chained c.first-next.ensures in (
      Notes-none c.args.turn.now c.args.pins.now.keys.items (λ v. nat_lt v next && key_at keys v == c.args.key) c.args.lists.now c.requires.sizes
          (λ v below. passed-first (key_at keys) (length keys) c.args.key next v is),
      is.within,
      is.here,
    )

pub note-requires-clause-sizes : goal.note-requires-clause-sizes
note-requires-clause-sizes c = c.loop-next.invariant.0.sizes

pub loop-next-smaller : goal.loop-next-smaller
loop-next-smaller c =
    let keys = c.args.keyed.now.keys.items in
    let below : c.loop-next.next < length keys = omega (arith, c.loop-next-test.true) in
    let here = c.loop-next.invariant.2 below in
    let is = next-next (key_at keys) (length keys) c.args.keyed.now.chains c.args.key c.loop-next.next c.next-next.result c.requires.chained below here c.next-next.ensures in
    omega (arith, is.behind, below)

pub loop-next-preserved : goal.loop-next-preserved
loop-next-preserved c =
    let keys = c.args.keyed.now.keys.items in
    let pins = c.args.pins.now.keys.items in
    let last = c.loop-next.next in
    let next = c.next-next.result in
    let below : c.loop-next.next < length keys = omega (arith, c.loop-next-test.true) in
    let here = c.loop-next.invariant.2 below in
    let is = next-next (key_at keys) (length keys) c.args.keyed.now.chains c.args.key last next c.requires.chained below here c.next-next.ensures in (
      Notes-join c.args.turn.now pins (λ v. nat_lt v last && key_at keys v == c.args.key) (λ v. last == v) (λ v. nat_lt v next && key_at keys v == c.args.key) c.args.lists.now c.loop-next.lists
          c.note.new.lists (λ v below. passed-more (key_at keys) (length keys) c.args.key last next v here is) c.loop-next.invariant.0 c.in_ok-note.ensures,
      is.within,
      is.here,
    )

pub returns : goal.returns
returns c =
    let keys = c.args.keyed.now.keys.items in
    let next = c.loop-next.next in
    let all : length keys ≤ next = omega (arith, c.loop-next-test.false) in
    Notes-same c.args.turn.now c.args.pins.now.keys.items (λ v. nat_lt v next && key_at keys v == c.args.key) (λ v. key_at keys v == c.args.key) c.args.lists.now c.loop-next.lists
    (λ v below. passed-all (key_at keys) (length keys) c.args.key next v all (omega (arith, below, c.requires.count))) c.loop-next.invariant.0
