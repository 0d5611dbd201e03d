use Rattle.std.proofs.Common.{List, ℕ, length, ap, sym, ◌∙◌}
use Rattle.std.proofs.lemmas.List.{length-map}
use Rattle.bud_design.specs.declared.clocks.Launch.{Launch}
use Rattle.met_lists.proofs.launches.LaunchTable.of.Goals as goal

pub returns : goal.returns
returns c =
    let pins = c.in_ok-of.ensures.keys_are ∙ c.in_ok-pins.ensures in
    let clocks = c.in_ok-of-2.ensures.keys_are ∙ c.in_ok-clocks.ensures in
    let launches = c.args.launches.now in
    let pin_count = ap (λ (xs : List ℕ). length xs) pins ∙ length-map launches (λ (l : Launch). l.pin.0) in
    let clock_count = ap (λ (xs : List ℕ). length xs) clocks ∙ length-map launches (λ (l : Launch). l.clock) in
    record { pins = pins; clocks = clocks; tabled = record { count = clock_count ∙ sym pin_count; by_pin = c.in_ok-of.ensures.found; by_clock = c.in_ok-of-2.ensures.found } }
