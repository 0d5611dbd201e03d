use Rattle.std.proofs.Common.{◌≡◌, length, arith, refl, sym, ap, subst, ◌∙◌}
use Rattle.registers.proofs.register_faults.fault_of_registers.Goals as goal

pub returns : goal.returns
returns c = λ setups marks.
    c.judge.ensures c.args.flat.now setups (sym c.pins-pins.ensures.lent)
    (let places = ap length c.places-places.ensures.lent in omega (arith, places, c.deref_mut.ensures.len, c.in_ok-faults.ensures.len)) marks
