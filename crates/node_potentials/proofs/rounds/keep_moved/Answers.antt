use Rattle.std.proofs.Common.{◌≡◌, ℤ, to_z, of_z, w64, arith, refl, ◌∙◌}
use mir.Val.{SFits}
use Rattle.std.proofs.lemmas.Int.{to_z-of_z}
use Rattle.node_potentials.specs.Moves.{node_at}
use Rattle.node_potentials.proofs.Keeping.{AreKeptTo-none, AreKeptTo-more, none-kept, all-kept}
use Rattle.node_potentials.proofs.rounds.keep_moved.Goals as goal

told : (result potential : ℤ) → SFits w64 result → result ≡ potential → to_z w64 (of_z w64 result) ≡ potential
told result potential fits is = to_z-of_z w64 result fits ∙ is

pub loop-place-init : goal.loop-place-init
loop-place-init c = AreKeptTo-none c.args.kept.now c.args.present.now c.args.is_moved.now c.args.moved.now c.args.count c.requires.noted c.requires.same

pub bounds-moved-place : goal.bounds-moved-place
bounds-moved-place c = omega (arith, c.loop-place-test.true, c.requires.noted.few, c.requires.noted.size)

pub potential_at-requires : goal.potential_at-requires
potential_at-requires c = omega (arith, c.requires.noted.inside c.loop-place.place c.loop-place-test.true, c.requires.present)

pub bounds-kept-node : goal.bounds-kept-node
bounds-kept-node c = omega (arith, c.requires.noted.inside c.loop-place.place c.loop-place-test.true, c.requires.kept, c.loop-place.auto.kept)

pub bounds-is_moved-node : goal.bounds-is_moved-node
bounds-is_moved-node c = omega (arith, c.requires.noted.inside c.loop-place.place c.loop-place-test.true, c.loop-place.auto.is_moved)

pub loop-place-preserved : goal.loop-place-preserved
loop-place-preserved c =
    AreKeptTo-more c.loop-place.kept c.args.present.now c.loop-place.is_moved c.args.moved.now c.loop-place.place c.args.count (node_at c.args.moved.now c.loop-place.place) _ refl
    (told c.potential_at.result _ (record { sfits = c.potential_at.type_inv }) c.potential_at.ensures)
    (omega (arith, c.requires.noted.inside c.loop-place.place c.loop-place-test.true, c.requires.kept, c.loop-place.auto.kept))
    (omega (arith, c.requires.noted.inside c.loop-place.place c.loop-place-test.true, c.loop-place.auto.is_moved)) c.loop-place.invariant

pub returns-clause-kept : goal.returns-clause-kept
returns-clause-kept c =
    all-kept c.loop-place.kept c.args.present.now c.loop-place.is_moved c.args.moved.now c.loop-place.place c.args.count (omega (arith, c.loop-place-test.false)) (omega (arith, c.loop-place.auto.kept, c.requires.kept, c.requires.present))
    c.loop-place.invariant

pub returns-clause-none : goal.returns-clause-none
returns-clause-none c = none-kept c.loop-place.kept c.args.present.now c.loop-place.is_moved c.args.moved.now c.loop-place.place c.args.count (omega (arith, c.loop-place-test.false)) c.loop-place.invariant
