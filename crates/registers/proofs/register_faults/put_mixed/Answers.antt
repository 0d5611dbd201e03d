use Rattle.std.specs.Prelude.{suc}
use Rattle.std.proofs.Common.{◌≡◌, ◌+◌, ◌-◌, ◌<◌, ℕ, [], length, get_or, arith, refl, sym, ap, subst, ◌∙◌}
use Rattle.std.proofs.lemmas.List.{get_or_default}
use Rattle.bud_design.specs.declared.designs.Pin.{Pin}
use Rattle.bud_design.specs.Designs.{pin_at}
use Rattle.registers.specs.FaultLists.{fault_at, first_mixed, put_fault}
use Rattle.registers.proofs.FaultSteps.{mixed_more, put-size}
use Rattle.registers.proofs.register_faults.put_mixed.Goals as goal

pub loop-low-preserved : goal.loop-low-preserved
loop-low-preserved c =
    let one : c.loop-low.low - 1 + 1 ≡ c.loop-low.low = omega arith in
    let left : suc (length c.args.pins.now - c.loop-low.low) ≡ length c.args.pins.now - (c.loop-low.low - 1) = omega (arith, c.loop-low.invariant.0) in
    let inside : c.loop-low.low - 1 < length c.args.pins.now = omega (arith, c.loop-low.invariant.0) in
    let place : (get_or c.args.pins.now (c.loop-low.low - 1) c.index-pins-low.result).place ≡ (pin_at c.args.pins.now (c.loop-low.low - 1)).place =
    ap (λ (p : Pin). p.place) (get_or_default c.args.pins.now (c.loop-low.low - 1) c.index-pins-low.result (pin_at [] 0) inside) in
    let here : (pin_at c.args.pins.now (c.loop-low.low - 1)).place < length c.args.faults.now = c.requires.places (c.loop-low.low - 1) (pin_at [] 0) inside in
    rw (c.put.ensures, ← left) (
      omega (arith, c.loop-low.invariant.0),
      put-size _ _ _ ∙ c.loop-low.invariant.1,
      λ p. mixed_more c.args.pins.now c.args.marks.now _ (c.loop-low.low - 1) (length c.args.pins.now - c.loop-low.low) _ _ place
          (omega (arith, place, here, c.loop-low.invariant.1)) c.mixed_at.ensures
          (λ q. subst (λ n. fault_at c.loop-low.faults q ≡ first_mixed c.args.pins.now c.args.marks.now n (length c.args.pins.now - c.loop-low.low) q) (sym one) (c.loop-low.invariant.2 q)) p,
    )
