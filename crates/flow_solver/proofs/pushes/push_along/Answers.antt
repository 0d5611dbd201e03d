use Rattle.std.proofs.Common.{◌≡◌, ◌<◌, ℤ, to_z, of_z, arith, sym, subst}
use mir.Syntax.{w128}
use Rattle.std.proofs.lemmas.Int.{ints, to_z-of_z}
use Rattle.residual.specs.declared.arcs.Look.{Look}
use Rattle.flow_solver.specs.Entries.{place_at}
use Rattle.flow_solver.specs.Pushes.{IsAmount, IsPushed}
use Rattle.flow_solver.proofs.PushSteps.{IsPushed-none, CanPush-next, IsPushed-more, place-falls_next}
use Rattle.flow_solver.specs.Spreading.{entries_of}
use Rattle.flow_solver.proofs.pushes.push_along.Goals as goal

pub way-init : goal.way-init
way-init g c =
    let same : to_z w128 (of_z w128 c.args.amount) ≡ c.args.amount = to_z-of_z w128 c.args.amount c.ranges.amount in
    IsPushed-none c.args.net.now (entries_of c.args.front.now.entries) c.args.node.0 _ (omega (arith, ints, same, c.requires.amount.positive)) c.requires.lawful c.requires.reduced c.requires.taken

pub look-requires : goal.look-requires
look-requires g c =
    let P : ℤ → Type 0 = λ a. IsAmount c.args.net.now (entries_of c.args.front.now.entries) c.args.node.0 a in
    (CanPush-next c.args.net.now c.way.net (entries_of c.args.front.now.entries) c.args.node.0 c.way.at.0 c.in-Some.arc _ c.requires.tree (subst P (sym (to_z-of_z w128 c.args.amount c.ranges.amount)) c.requires.amount) c.way.invariant (sym c.in-Some.ensures)).is_key

pub push-requires-clause-key : goal.push-requires-clause-key
push-requires-clause-key g c =
    let P : ℤ → Type 0 = λ a. IsAmount c.args.net.now (entries_of c.args.front.now.entries) c.args.node.0 a in
    (CanPush-next c.args.net.now c.way.net (entries_of c.args.front.now.entries) c.args.node.0 c.way.at.0 c.in-Some.arc _ c.requires.tree (subst P (sym (to_z-of_z w128 c.args.amount c.ranges.amount)) c.requires.amount) c.way.invariant (sym c.in-Some.ensures)).is_key

pub push-requires-clause-tight : goal.push-requires-clause-tight
push-requires-clause-tight g c =
    let P : ℤ → Type 0 = λ a. IsAmount c.args.net.now (entries_of c.args.front.now.entries) c.args.node.0 a in
    (CanPush-next c.args.net.now c.way.net (entries_of c.args.front.now.entries) c.args.node.0 c.way.at.0 c.in-Some.arc _ c.requires.tree (subst P (sym (to_z-of_z w128 c.args.amount c.ranges.amount)) c.requires.amount) c.way.invariant (sym c.in-Some.ensures)).tight

pub push-requires-clause-room : goal.push-requires-clause-room
push-requires-clause-room g c =
    let P : ℤ → Type 0 = λ a. IsAmount c.args.net.now (entries_of c.args.front.now.entries) c.args.node.0 a in
    (CanPush-next c.args.net.now c.way.net (entries_of c.args.front.now.entries) c.args.node.0 c.way.at.0 c.in-Some.arc _ c.requires.tree (subst P (sym (to_z-of_z w128 c.args.amount c.ranges.amount)) c.requires.amount) c.way.invariant (sym c.in-Some.ensures)).room

pub way-smaller : goal.way-smaller
way-smaller g c =
    let P : Look → Type 0 = λ r. place_at (entries_of c.args.front.now.entries) r.from.0 < place_at (entries_of c.args.front.now.entries) c.way.at.0 in
    subst P (sym c.look.ensures.look) (place-falls_next c.args.net.now c.way.net (entries_of c.args.front.now.entries) c.args.node.0 c.way.at.0 c.in-Some.arc _ c.requires.tree c.way.invariant (sym c.in-Some.ensures))

pub way-preserved : goal.way-preserved
way-preserved g c =
    let P : ℤ → Type 0 = λ a. IsAmount c.args.net.now (entries_of c.args.front.now.entries) c.args.node.0 a in
    let Q : Look → Type 0 = λ r. IsPushed c.args.net.now c.push.new.self (entries_of c.args.front.now.entries) c.args.node.0 (to_z w128 (of_z w128 c.args.amount)) r.from.0 in
    subst Q (sym c.look.ensures.look)
    (IsPushed-more c.args.net.now c.way.net c.push.new.self (entries_of c.args.front.now.entries) c.args.node.0 c.way.at.0 c.in-Some.arc _ c.requires.tree (subst P (sym (to_z-of_z w128 c.args.amount c.ranges.amount)) c.requires.amount)
    c.way.invariant (sym c.in-Some.ensures) c.push.ensures.pushed c.push.ensures.lawful)
