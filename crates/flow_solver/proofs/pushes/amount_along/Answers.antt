use Rattle.std.proofs.Common.{◌≡◌, ◌<◌, ◌-ℤ◌, ◌^◌, ◌⊎◌, ℕ, ℤ, pos, to_z, of_z, arith, refl, sym, ap, subst, ◌∙◌, inl, inr}
use mir.Syntax.{w128}
use mir.Val.{SFits}
use Rattle.std.proofs.lemmas.Int.{ints, to_z-of_z}
use Rattle.residual.specs.Bounds.{IsWithin}
use Rattle.residual.specs.Networks.{residual, excess_at}
use Rattle.residual.specs.declared.arcs.Look.{Look}
use Rattle.flow_solver.specs.Entries.{place_at}
use Rattle.flow_solver.proofs.Amounts.{IsMeasured, IsMeasured-first, IsMeasured-more, IsAmount-all, tight_at, place-falls}
use Rattle.flow_solver.specs.Spreading.{entries_of}
use Rattle.flow_solver.proofs.pushes.amount_along.Goals as goal

-- what a node lacks, as the code has it
lacked : (result excess : ℤ) → result ≡ excess → IsWithin (pos (2 ^ 113)) result → to_z w128 (of_z w128 (pos 0 -ℤ to_z w128 (of_z w128 result))) ≡ pos 0 -ℤ excess
lacked result excess is within = omega (arith, ints, is, within.low, within.high)

within_same : (b : ℕ) (r : ℤ) → IsWithin (pos (2 ^ 113)) r → to_z w128 (of_z w128 r) ≡ r
within_same b r within = omega (arith, ints, within.low, within.high)

room_same : (r : ℤ) → IsWithin (pos (2 ^ 80)) r → to_z w128 (of_z w128 r) ≡ r
room_same r within = omega (arith, ints, within.low, within.high)

-- the smaller of two amounts, of which the code tells
picked : (told one other : ℤ) (shown a b : ℤ) → told ≡ shown → one ≡ a → other ≡ b → (shown ≡ one) ⊎ (shown ≡ other) → (told ≡ a) ⊎ (told ≡ b)
picked told one other shown a b is is_one is_other which = elim which [ inl e ↦ inl (is ∙ e ∙ is_one) | inr e ↦ inr (is ∙ e ∙ is_other) ]

pub way-init : goal.way-init
way-init g c =
    let is = lacked c.excess-amount.result (excess_at c.args.net.now c.args.node.0) c.excess-amount.ensures.excess c.excess-amount.ensures.small in
    IsMeasured-first c.args.net.now (entries_of c.args.front.now.entries) c.args.node.0 _ c.requires.taken is c.requires.lacks
    (omega (arith, ints, is, c.excess-amount.ensures.excess, c.excess-amount.ensures.small.low))

pub look-look-requires : goal.look-look-requires
look-look-requires g c = (tight_at c.args.net.now (entries_of c.args.front.now.entries) c.way.at.0 c.in-Some.arc c.requires.tree c.way.invariant.taken (sym c.in-Some.ensures)).2.is_key

pub way-smaller : goal.way-smaller
way-smaller g c =
    let P : Look → Type 0 = λ r. place_at (entries_of c.args.front.now.entries) r.from.0 < place_at (entries_of c.args.front.now.entries) c.way.at.0 in
    subst P (sym c.look-look.ensures.look) (place-falls c.args.net.now (entries_of c.args.front.now.entries) c.way.at.0 c.in-Some.arc c.requires.tree c.way.invariant.taken (sym c.in-Some.ensures))

pub way-preserved : goal.way-preserved
way-preserved g c =
    let fits : SFits w128 c.smaller-amount.result = record { sfits = c.smaller-amount.type_inv } in
    let told : to_z w128 (of_z w128 c.smaller-amount.result) ≡ c.smaller-amount.result = to_z-of_z w128 c.smaller-amount.result fits in
    let room : to_z w128 (of_z w128 c.look-look.result.room) ≡ (residual c.args.net.now c.in-Some.arc).room
    = room_same c.look-look.result.room c.look-look.ensures.room ∙ ap (λ (r : Look). r.room) c.look-look.ensures.look in
    let more = IsMeasured-more c.args.net.now (entries_of c.args.front.now.entries) c.args.node.0 (to_z w128 c.way.amount-bits) (to_z w128 (of_z w128 c.smaller-amount.result)) c.way.at.0 c.in-Some.arc
    c.requires.tree c.way.invariant (sym c.in-Some.ensures)
    (omega (arith, ints, told, c.smaller-amount.ensures.one)) (omega (arith, ints, told, room, c.smaller-amount.ensures.other))
    (picked _ _ _ c.smaller-amount.result _ _ told refl room c.smaller-amount.ensures.either) in
    let P : Look → Type 0 = λ r. IsMeasured c.args.net.now (entries_of c.args.front.now.entries) c.args.node.0 (to_z w128 (of_z w128 c.smaller-amount.result)) r.from.0 in
    subst P (sym c.look-look.ensures.look) more

pub returns-clause-amount : goal.returns-clause-amount
returns-clause-amount g c =
    let fits : SFits w128 c.smaller.result = record { sfits = c.smaller.type_inv } in
    let told : to_z w128 (of_z w128 c.smaller.result) ≡ c.smaller.result = to_z-of_z w128 c.smaller.result fits in
    let excess : to_z w128 (of_z w128 c.excess.result) ≡ excess_at c.args.net.now c.way.at.0 = within_same 0 c.excess.result c.excess.ensures.small ∙ c.excess.ensures.excess in
    IsAmount-all c.args.net.now (entries_of c.args.front.now.entries) c.args.node.0 (to_z w128 c.way.amount-bits) (to_z w128 (of_z w128 c.smaller.result)) c.way.at.0 c.requires.tree c.way.invariant (sym c.in_default.ensures)
    (omega (arith, ints, told, c.smaller.ensures.one)) (omega (arith, ints, told, excess, c.smaller.ensures.other))
    (picked _ _ _ c.smaller.result _ _ told refl excess c.smaller.ensures.either)
