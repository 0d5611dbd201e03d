use Rattle.std.proofs.Common.{◌≡◌, ◌<◌, ◌+◌, ℕ, length, sym, ◌∙◌, ap, subst, arith}
use Rattle.elaborations.specs.Elaborations.{first_pin, place_of}
use Rattle.design_wires.proofs.NumberLaws.{place-within}
use Rattle.design_wires.proofs.numbers.Numbers.number_of.Goals as goal

pub first_of-requires : goal.first_of-requires
first_of-requires c =
    subst (λ (p : ℕ). p < length c.args.self.now.places.now) (sym c.place_of-place.ensures) (place-within c.args.self.now.places.now c.args.home c.args.pin.instance c.requires.home c.requires.within.kid)

pub overflow_add-result : goal.overflow_add-result
overflow_add-result c =
    let first : c.first_of.result ≡ first_pin c.args.self.now.pins.now (place_of c.args.self.now.places.now c.args.home c.args.pin.instance) =
    c.first_of.ensures ∙ ap (first_pin c.args.self.now.pins.now) c.place_of-place.ensures in
    omega (arith, first, c.requires.within.below, c.args.self.now.few)

pub returns : goal.returns
returns c = ap (λ n. n + c.args.pin.bit) (c.first_of.ensures ∙ ap (first_pin c.args.self.now.pins.now) c.place_of-place.ensures)
