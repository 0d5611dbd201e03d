use Rattle.std.proofs.Common.{◌≡◌, ℕ, ℤ, List, Option, pos, ◌+◌, ◌^◌, ◌≤ℤ◌, false, length, to_z, of_z, arith, refl, ap}
use mir.Syntax.{w128}
use Rattle.std.specs.Prelude.{int_lt}
use Rattle.std.proofs.lemmas.Int.{ints}
use Rattle.bud_base.specs.Soundness.{IsSound}
use Rattle.bud_base.specs.declared.problems.Problem.{Problem}
use Rattle.residual.specs.Bounds.{IsWithin}
use Rattle.residual.specs.Balances.{HasRoom}
use Rattle.residual.specs.Networks.{Network, IsLawful, Fits, AreReduced}
use Rattle.search_heap.specs.declared.entries.Entry.{Entry as Found}
use Rattle.search_heap.specs.declared.entries.Near.{Near}
use Rattle.flow_solver.specs.declared.entries.Entry.{Entry}
use Rattle.flow_solver.proofs.Spreading.{IsTakenNext, IsScanning-first}
use Rattle.flow_solver.proofs.Taking.{next_of, near-within, size-after, taken-next, there-next, free_count-next, IsSearching-next, nearest-exists, free_count}
use Rattle.flow_solver.proofs.Lifting.{last-within}
use Rattle.flow_solver.specs.Spreading.{entries_of}
use Rattle.flow_solver.proofs.Founds.{scanned-same}
use Rattle.flow_solver.proofs.searches.search.Goals as goal

no_lack : (result excess : ℤ) → result ≡ excess → IsWithin (pos (2 ^ 113)) result → int_lt (to_z w128 (of_z w128 result)) (pos 0) ≡ false → pos 0 ≤ℤ excess
no_lack result excess is within test = let same : to_z w128 (of_z w128 result) ≡ result = omega (arith, ints, within.low, within.high) in grind (arith, ints)

small : (net : Network) (p : Problem) (entries after : List (Option Entry)) (found : List (Option Found)) (near : Near) (count : ℕ) → IsSound p → IsLawful net → Fits net p → HasRoom net → AreReduced net net.potentials
    → IsTakenNext net entries after found near count → IsWithin (pos (2 ^ 60)) near.distance
small net p entries after found near count sound lawful fits room reduced next =
    let one = last-within net p after near.distance (count + 1) sound lawful fits room reduced (taken-next net entries after found near count reduced next) in
    record { low = omega (arith, ints, one.low); high = omega (arith, ints, one.high) }

pub unreachable-requires : goal.unreachable-requires
unreachable-requires g c =
    nearest-exists c.args.net.now c.args.problem.now (entries_of c.nodes.front.entries) c.nodes.front.entries c.nodes.invariant.last (length c.nodes.front.taken) c.requires.sound c.requires.lawful c.requires.fits c.requires.room c.nodes.invariant.spread
    c.nodes.invariant.none c.in_default.ensures.1

pub excess-requires : goal.excess-requires
excess-requires g c = near-within c.args.net.now (entries_of c.nodes.front.entries) c.nodes.front c.nearest.new.self c.in-Some.near c.nodes.invariant c.in-Some.ensures

pub returns-then-excess-lt0-clause-taken : goal.returns-then-excess-lt0-clause-taken
returns-then-excess-lt0-clause-taken g c =
    let next = next_of c.args.net.now c.nodes.front c.nearest.new.self c.in-Some.near c.nodes.invariant c.in-Some.ensures in
    (length c.nodes.front.taken + 1, taken-next c.args.net.now (entries_of c.nodes.front.entries) (entries_of c.nearest.new.self.entries) c.nearest.new.self.entries c.in-Some.near (length c.nodes.front.taken) c.requires.reduced next)

pub returns-then-excess-lt0-clause-there : goal.returns-then-excess-lt0-clause-there
returns-then-excess-lt0-clause-there g c =
    there-next c.args.net.now (entries_of c.nodes.front.entries) (entries_of c.nearest.new.self.entries) c.nearest.new.self.entries c.in-Some.near (length c.nodes.front.taken)
    (next_of c.args.net.now c.nodes.front c.nearest.new.self c.in-Some.near c.nodes.invariant c.in-Some.ensures)

pub returns-then-excess-lt0-clause-size : goal.returns-then-excess-lt0-clause-size
returns-then-excess-lt0-clause-size g c = size-after c.args.net.now (entries_of c.nodes.front.entries) c.nodes.front c.nearest.new.self c.in-Some.near c.nodes.invariant c.in-Some.ensures

pub scan-requires-clause-node : goal.scan-requires-clause-node
scan-requires-clause-node g c = near-within c.args.net.now (entries_of c.nodes.front.entries) c.nodes.front c.nearest.new.self c.in-Some.near c.nodes.invariant c.in-Some.ensures

pub scan-requires-clause-small : goal.scan-requires-clause-small
scan-requires-clause-small g c =
    small c.args.net.now c.args.problem.now (entries_of c.nodes.front.entries) (entries_of c.nearest.new.self.entries) c.nearest.new.self.entries c.in-Some.near (length c.nodes.front.taken) c.requires.sound c.requires.lawful c.requires.fits c.requires.room c.requires.reduced
    (next_of c.args.net.now c.nodes.front c.nearest.new.self c.in-Some.near c.nodes.invariant c.in-Some.ensures)

pub scan-requires-clause-room : goal.scan-requires-clause-room
scan-requires-clause-room g c = size-after c.args.net.now (entries_of c.nodes.front.entries) c.nodes.front c.nearest.new.self c.in-Some.near c.nodes.invariant c.in-Some.ensures

pub nodes-preserved : goal.nodes-preserved
nodes-preserved g c =
    let next = next_of c.args.net.now c.nodes.front c.nearest.new.self c.in-Some.near c.nodes.invariant c.in-Some.ensures in
    IsSearching-next c.args.net.now (entries_of c.nodes.front.entries) c.nodes.front c.nearest.new.self c.scan.new.front c.in-Some.near _ next c.nodes.invariant.none
    (no_lack _ _ c.excess.ensures.excess c.excess.ensures.small c.if-excess-lt0.false) c.in-Some.ensures.1 c.scan.ensures.taken refl
    (c.scan.ensures.scanned (entries_of c.nearest.new.self.entries) (length c.nodes.front.taken + 1)
    (IsScanning-first c.args.net.now (entries_of c.nodes.front.entries) (entries_of c.nearest.new.self.entries) c.nearest.new.self.entries c.in-Some.near (length c.nodes.front.taken) next))

pub nodes-smaller : goal.nodes-smaller
nodes-smaller g c =
    let next = next_of c.args.net.now c.nodes.front c.nearest.new.self c.in-Some.near c.nodes.invariant c.in-Some.ensures in
    omega (
      arith,
      free_count-next c.args.net.now (entries_of c.nodes.front.entries) (entries_of c.nearest.new.self.entries) c.nearest.new.self.entries c.in-Some.near (length c.nodes.front.taken) next,
      ap free_count (scanned-same c.args.net.now (entries_of c.nearest.new.self.entries) c.scan.new.front.entries c.in-Some.near (length c.nodes.front.taken + 1) _
          (c.scan.ensures.scanned (entries_of c.nearest.new.self.entries) (length c.nodes.front.taken + 1)
          (IsScanning-first c.args.net.now (entries_of c.nodes.front.entries) (entries_of c.nearest.new.self.entries) c.nearest.new.self.entries c.in-Some.near (length c.nodes.front.taken) next))),
    )
