use Rattle.std.proofs.Common.{◌≡◌, ◌-◌, ◌+◌, ℕ, Some, None, take, ap, arith, sym, ◌∙◌}
use Rattle.std.specs.Option.{option_map}
use Rattle.bud_design.specs.Policies.{share_of as share_by}
use Rattle.policy_lines.specs.Shares.{share_seen}
use Rattle.std.proofs.lemmas.Int.{ints}
use Rattle.policy_lines.proofs.SoundShares.{share-sound}
use Rattle.policy_lines.proofs.LineLaws.{last_of, last_of-here, last_of-before}
use Rattle.policy_lines.proofs.shares.last_share.Goals as goal

pub returns-in-Some-clause-share : goal.returns-in-Some-clause-share
returns-in-Some-clause-share c =
    let f = share_by c.args.flat.now c.args.graph.now.arcs c.args.arc.0 c.args.clock.now in
    let last : c.loop-place.place ≡ c.loop-place.place - 1 + 1 = omega (arith, c.loop-place-test.true) in
    let given : f c.index-lines-place.result ≡ Some (share_seen c.in-Some.share) = sym c.share_of-given.ensures ∙ ap (option_map share_seen) c.in-Some.is in
    let here = last_of-here f c.args.lines.now (c.loop-place.place - 1) c.index-lines-place.result (share_seen c.in-Some.share) (omega (arith, c.loop-place-test.true, c.loop-place.invariant.1))
    (sym c.index-lines-place.is) given in
    sym (c.loop-place.invariant.0 ∙ (ap (λ (n : ℕ). last_of f (take n c.args.lines.now)) last ∙ here))

pub returns-in-Some-clause-sound : goal.returns-in-Some-clause-sound
returns-in-Some-clause-sound c = λ lines.
    share-sound c.args.flat.now c.args.graph.now.arcs c.args.lines.now c.args.arc.0 c.args.clock.now (share_seen c.in-Some.share) (returns-in-Some-clause-share c) lines

pub returns-clause-sound : goal.returns-clause-sound
returns-clause-sound c = λ lines. record { low = omega (arith, ints); high = omega (arith, ints); most = omega arith }

pub loop-place-preserved : goal.loop-place-preserved
loop-place-preserved c =
    let f = share_by c.args.flat.now c.args.graph.now.arcs c.args.arc.0 c.args.clock.now in
    let last : c.loop-place.place ≡ c.loop-place.place - 1 + 1 = omega (arith, c.loop-place-test.true) in
    let given : f c.index-lines-place.result ≡ None = sym c.share_of-given.ensures ∙ ap (option_map share_seen) c.in_default.is in
    let before = last_of-before f c.args.lines.now (c.loop-place.place - 1) c.index-lines-place.result (omega (arith, c.loop-place-test.true, c.loop-place.invariant.1))
    (sym c.index-lines-place.is) given in (
      c.loop-place.invariant.0 ∙ (ap (λ (n : ℕ). last_of f (take n c.args.lines.now)) last ∙ before),
      omega (arith, c.loop-place.invariant.1),
    )
