-- The pins of places, port by port and bit by bit.
use Rattle.std.specs.Prelude.{◌≡◌, ℕ, ◌<◌, ◌+◌, List, [], ◌∷◌, ◌++◌, map, flat_map, take, length, Option, Some, None, slice_index_or}
use Rattle.std.proofs.Common.{arith, sym, ◌∙◌, refl, ap}
use Rattle.std.proofs.lemmas.List.{append_assoc, append-nil, map-append, length-map, take_more, get_or-map}
use Rattle.std.proofs.lemmas.List.Concat.{flat_map-append}
use Rattle.std.proofs.Math.Seq.{take-length}
use Rattle.bud_syntax.specs.declared.modules.Port.{Port}
use Rattle.bud_syntax.specs.declared.modules.Range.{Range}
use Rattle.bud_syntax.specs.declared.modules.Module.{Module}
use Rattle.bud_design.specs.declared.designs.Pin.{Pin}
use Rattle.bud_design.specs.Designs.{pin_at}
use Rattle.bud_design.specs.Names.{printed}
use Rattle.module_nets.specs.Nets.{PortBit, range_bits, numbers_between}
use Rattle.module_nets.specs.Numbers.{range_width}
use Rattle.module_nets.proofs.SpanLaws.{number_at}
use Rattle.module_nets.proofs.WidthLaws.{length-range_bits}
use Rattle.elaborations.specs.Elaborations.{pins_at}
use Rattle.hierarchy.specs.Placing.{steps_from, port_pin, port_pins}

-- one bit more of a vector
pub vector-more : (place : ℕ) (p : Port) (r : Range) (old now next : List Pin) (steps n : ℕ) → steps < range_width (Some r) → n ≡ steps_from r.left r.right steps
    → now ≡ old ++ take steps (map (port_pin place p) (range_bits (Some r))) → next ≡ now ++ port_pin place p (Some n) ∷ []
    → next ≡ old ++ take (steps + 1) (map (port_pin place p) (range_bits (Some r)))
vector-more place p r old now next steps n below number so_far more =
    let bits = range_bits (Some r) in
    let long : steps < length bits = omega (arith, below, length-range_bits (Some r)) in
    let short : steps < length (numbers_between r.left r.right) = omega (arith, long, length-map (numbers_between r.left r.right) (λ n. Some n)) in
    let within : steps < length (map (port_pin place p) bits) = omega (arith, long, length-map bits (port_pin place p)) in
    let bit : slice_index_or bits steps None ≡ Some n =
    get_or-map (λ n. Some n) (numbers_between r.left r.right) steps 0 None short ∙ ap (λ k. Some k) (number_at r.left r.right steps below ∙ sym number) in
    let pin : slice_index_or (map (port_pin place p) bits) steps (pin_at [] 0) ≡ port_pin place p (Some n) = get_or-map (port_pin place p) bits steps None (pin_at [] 0) long ∙ ap (port_pin place p) bit in
    more ∙ (ap (λ xs. xs ++ port_pin place p (Some n) ∷ []) so_far
    ∙ (append_assoc old (take steps (map (port_pin place p) bits)) (port_pin place p (Some n) ∷ [])
    ∙ ap (λ xs. old ++ xs) (sym (take_more (map (port_pin place p) bits) steps (pin_at [] 0) within ∙ ap (λ v. take steps (map (port_pin place p) bits) ++ v ∷ []) pin))))

map-twice : {X Y Z : Type 0} (g : Y → Z) (f : X → Y) (xs : List X) → map g (map f xs) ≡ map (λ x. g (f x)) xs
map-twice g f [] = refl
map-twice g f (x ∷ xs) = ap (λ ys. g (f x) ∷ ys) (map-twice g f xs)

-- the pins of a place are those of its ports
ports-are : (place : ℕ) (ps : List Port)
    → map (λ (b : PortBit). record { place = place; port = printed b.port; bit = b.bit; dir = b.dir }) (flat_map (λ (p : Port). map (λ (b : Option ℕ). record { port = p.name; bit = b; dir = p.dir }) (range_bits p.range)) ps)
    ≡ flat_map (port_pins place) ps
ports-are place [] = refl
ports-are place (p ∷ ps) =
    let g : PortBit → Pin = λ b. record { place = place; port = printed b.port; bit = b.bit; dir = b.dir } in
    let h : Option ℕ → PortBit = λ b. record { port = p.name; bit = b; dir = p.dir } in
    map-append g (map h (range_bits p.range)) (flat_map (λ (p : Port). map (λ (b : Option ℕ). record { port = p.name; bit = b; dir = p.dir }) (range_bits p.range)) ps)
    ∙ (ap (λ xs. xs ++ map g (flat_map (λ (p : Port). map (λ (b : Option ℕ). record { port = p.name; bit = b; dir = p.dir }) (range_bits p.range)) ps)) (map-twice g h (range_bits p.range))
    ∙ ap (λ xs. port_pins place p ++ xs) (ports-are place ps))

pub pins-are : (place : ℕ) (m : Module) → pins_at place m ≡ flat_map (port_pins place) m.ports
pins-are place m = ports-are place m.ports

-- one port more
pub ports-more : (place : ℕ) (ps : List Port) (i : ℕ) (p : Port) (old now next : List Pin) → i < length ps → p ≡ slice_index_or ps i p
    → now ≡ old ++ flat_map (port_pins place) (take i ps) → next ≡ now ++ port_pins place p → next ≡ old ++ flat_map (port_pins place) (take (i + 1) ps)
ports-more place ps i p old now next below read so_far more =
    more ∙ (ap (λ xs. xs ++ port_pins place p) so_far
    ∙ (append_assoc old (flat_map (port_pins place) (take i ps)) (port_pins place p)
    ∙ ap (λ xs. old ++ xs) (sym (ap (flat_map (port_pins place)) (take_more ps i p below ∙ ap (λ q. take i ps ++ q ∷ []) (sym read))
    ∙ (flat_map-append (port_pins place) (take i ps) (p ∷ []) ∙ ap (λ xs. flat_map (port_pins place) (take i ps) ++ xs) (append-nil (port_pins place p)))))))

pub take-whole : (old now xs : List Pin) (n : ℕ) → n ≡ length xs → now ≡ old ++ take n xs → now ≡ old ++ xs
take-whole old now xs n whole is = is ∙ (ap (λ k. old ++ take k xs) whole ∙ ap (λ ys. old ++ ys) (take-length xs))

pub ports-whole : (place : ℕ) (m : Module) (old now : List Pin) (n : ℕ) → n ≡ length m.ports → now ≡ old ++ flat_map (port_pins place) (take n m.ports) → now ≡ old ++ pins_at place m
ports-whole place m old now n whole is =
    is ∙ (ap (λ k. old ++ flat_map (port_pins place) (take k m.ports)) whole
    ∙ (ap (λ ps. old ++ flat_map (port_pins place) ps) (take-length m.ports) ∙ ap (λ vs. old ++ vs) (sym (pins-are place m))))
