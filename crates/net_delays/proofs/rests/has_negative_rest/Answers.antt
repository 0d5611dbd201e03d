use Rattle.std.proofs.Common.{◌≡◌, Option, Some, arith, ap}
use Rattle.std.proofs.lemmas.Int.{ints}
use Rattle.std.specs.Option.{option_map}
use Rattle.bud_base.specs.declared.ids.PinId.{PinId}
use Rattle.net_delays.specs.Drives.{drive_of}
use Rattle.net_delays.proofs.rests.has_negative_rest.Goals as goal

pub returns-in-Some : goal.returns-in-Some
returns-in-Some c =
    let from = c.requires.within c.args.along.from.0 in
    let driver = c.requires.within c.in-Some.driver.0 in
    let time = c.requires.sound.time in
    let driven : drive_of c.args.drivers.now c.args.along.to.0 ≡ Some c.in-Some.driver.0 = ap (option_map (λ (u : PinId). u.0)) c.in-Some.is in
    rw driven (grind (arith, ints, from.low, from.high, driver.low, driver.high, time.low, time.high))
