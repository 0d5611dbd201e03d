use Rattle.std.proofs.Common.{arith, ap}
use Rattle.std.specs.Option.{option_map}
use Rattle.bud_base.specs.declared.ids.PinId.{PinId}
use Rattle.net_delays.proofs.sums.add_at.Goals as goal

pub slice_copy_out-sums : goal.slice_copy_out-sums
slice_copy_out-sums c =
    let below = c.requires.drivers c.args.pin.0 c.in-Some.driver.0 (ap (option_map (λ (u : PinId). u.0)) c.in-Some.is) in
    omega (arith, below, c.requires.sizes)
