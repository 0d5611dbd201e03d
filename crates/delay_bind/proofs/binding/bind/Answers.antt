use Rattle.std.proofs.Common.{length, ap, subst, arith}
use Rattle.std.specs.List.{All}
use Rattle.bud_syntax.specs.declared.delays.SdfRow.{SdfRow}
use Rattle.bud_design.specs.declared.timings.Timing.{Timing}
use Rattle.bud_design.specs.TimingRules.{StartsInLeaf, IsSoundTiming}
use Rattle.delay_bind.specs.Entries.{Entries, through_of, along_of}
use Rattle.delay_bind.specs.Binding.{entries_in, AreRead}
use Rattle.delay_bind.specs.Leaves.{AreSoundEntries, StandsInLeaves}
use Rattle.delay_bind.proofs.BoundLaws.{IfOk-made}
use Rattle.delay_bind.proofs.EntryLaws.{AreSoundEntries-accepted, few-taken}
use Rattle.delay_bind.proofs.SoundTimings.{StartsInLeaf-made, StandsInLeaves-made, IsSoundTiming-made}
use Rattle.delay_bind.proofs.binding.bind.Goals as goal

pub timing_of-requires-clause-throughs : goal.timing_of-requires-clause-throughs
timing_of-requires-clause-throughs c =
    let d = c.args.flat.now in
    let rows = c.args.sdf.now.rows in
    let e = entries_in c.in_ok-lists.lists in
    let read : AreRead d rows e = rw c.as_slice.ensures at c.in_ok-lists.ensures in
    let few = few-taken (λ (row : SdfRow). through_of d row row.kind) rows in
    let same = ap (λ (x : Entries). length x.throughs) read.entries in
    omega (arith, few, same, c.requires.size)

pub timing_of-requires-clause-alongs : goal.timing_of-requires-clause-alongs
timing_of-requires-clause-alongs c =
    let d = c.args.flat.now in
    let rows = c.args.sdf.now.rows in
    let e = entries_in c.in_ok-lists.lists in
    let read : AreRead d rows e = rw c.as_slice.ensures at c.in_ok-lists.ensures in
    let few = few-taken (λ (row : SdfRow). along_of d row row.kind) rows in
    let same = ap (λ (x : Entries). length x.alongs) read.entries in
    omega (arith, few, same, c.requires.size)

pub timing_of-requires-clause-sound : goal.timing_of-requires-clause-sound
timing_of-requires-clause-sound c =
    let d = c.args.flat.now in
    let rows = c.args.sdf.now.rows in
    let e = entries_in c.in_ok-lists.lists in
    let read : AreRead d rows e = rw c.as_slice.ensures at c.in_ok-lists.ensures in
    subst (AreSoundEntries d) read.entries (AreSoundEntries-accepted d rows read.accepted c.requires.ranges)

pub returns-clause-sound : goal.returns-clause-sound
returns-clause-sound c =
    let d = c.args.flat.now in
    let rows = c.args.sdf.now.rows in
    let e = entries_in c.in_ok-lists.lists in
    let read : AreRead d rows e = rw c.as_slice.ensures at c.in_ok-lists.ensures in
    let sound = subst (AreSoundEntries d) read.entries (AreSoundEntries-accepted d rows read.accepted c.requires.ranges) in
    IfOk-made d e (IsSoundTiming d) c.timing_of.result (IsSoundTiming-made d c.wires-wires.ensures.kept.is_design e sound) c.timing_of.ensures

pub returns-clause-pairs : goal.returns-clause-pairs
returns-clause-pairs c =
    let d = c.args.flat.now in
    let rows = c.args.sdf.now.rows in
    let e = entries_in c.in_ok-lists.lists in
    let read : AreRead d rows e = rw c.as_slice.ensures at c.in_ok-lists.ensures in
    let sound = subst (AreSoundEntries d) read.entries (AreSoundEntries-accepted d rows read.accepted c.requires.ranges) in
    IfOk-made d e (λ (t : Timing). All (StartsInLeaf d) t.pairs) c.timing_of.result (StartsInLeaf-made d c.wires-wires.ensures.kept.is_design e sound) c.timing_of.ensures

pub returns-clause-leaves : goal.returns-clause-leaves
returns-clause-leaves c =
    let d = c.args.flat.now in
    let rows = c.args.sdf.now.rows in
    let e = entries_in c.in_ok-lists.lists in
    let read : AreRead d rows e = rw c.as_slice.ensures at c.in_ok-lists.ensures in
    let sound = subst (AreSoundEntries d) read.entries (AreSoundEntries-accepted d rows read.accepted c.requires.ranges) in
    IfOk-made d e (StandsInLeaves d) c.timing_of.result (StandsInLeaves-made d c.wires-wires.ensures.kept.is_design e sound) c.timing_of.ensures
