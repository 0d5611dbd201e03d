use Rattle.std.proofs.Common.{◌≡◌, ℕ, length, arith, subst, ◌∙◌}
use Rattle.residual.specs.Leaving.{leaving}
use Rattle.flow_solver.specs.Spreading.{IsScanning}
use Rattle.flow_solver.proofs.Looking.{AreLookedAlong-none, AreLookedAlong-more, IsKey-leaving}
use Rattle.flow_solver.proofs.searches.scan.Goals as goal

pub loop-place-init : goal.loop-place-init
loop-place-init g c = AreLookedAlong-none c.args.net.now c.args.near c.args.front.now

pub arc_at-arc-requires-clause-place : goal.arc_at-arc-requires-clause-place
arc_at-arc-requires-clause-place g c = omega (arith, c.loop-place-test.true, c.degree-place-end.ensures)

pub look_along-requires-clause-key : goal.look_along-requires-clause-key
look_along-requires-clause-key g c = IsKey-leaving c.args.net.now c.args.near.node.0 c.loop-place.place c.arc_at-arc.result (omega (arith, c.loop-place-test.true, c.degree-place-end.ensures)) c.arc_at-arc.ensures

pub look_along-requires-clause-room : goal.look_along-requires-clause-room
look_along-requires-clause-room g c = c.loop-place.invariant.size ∙ c.requires.room

pub loop-place-preserved : goal.loop-place-preserved
loop-place-preserved g c =
    AreLookedAlong-more c.args.net.now c.args.near c.args.front.now c.loop-place.front c.look_along.new.front c.loop-place.place c.arc_at-arc.result c.requires.lawful c.requires.reduced
    (omega (arith, c.loop-place-test.true, c.degree-place-end.ensures)) c.arc_at-arc.ensures c.look_along.ensures c.loop-place.invariant

pub returns-clause-scanned : goal.returns-clause-scanned
returns-clause-scanned g c = λ entries count scanning.
    let P : ℕ → Type 0 = λ k. IsScanning c.args.net.now entries c.loop-place.front.entries c.args.near count k in
    let all : c.loop-place.place ≡ length (leaving c.args.net.now c.args.near.node.0) = omega (arith, c.loop-place-test.false, c.loop-place.auto.place-end, c.degree-place-end.ensures) in
    subst P all (c.loop-place.invariant.scanned entries count scanning)

pub returns-clause-taken : goal.returns-clause-taken
returns-clause-taken g c = c.loop-place.invariant.taken

pub returns-clause-room : goal.returns-clause-room
returns-clause-room g c = c.loop-place.invariant.size ∙ c.requires.room
