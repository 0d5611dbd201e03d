-- The port bits of a module are its first net bits, and the bits of its declared nets come next.
use Rattle.std.proofs.Common.{◌≡◌, ℕ, zero, suc, ◌+◌, ◌<◌, ◌≤◌, Bool, true, false, cond, Option, Some, None, List, [], ◌∷◌, ◌++◌, get_or, length, map, filter, replicate, All, refl, sym, ap, ◌∙◌, subst, arith, length-append, append_assoc}
use Rattle.std.specs.List.{flat_map, range_with_len}
use Rattle.std.proofs.lemmas.List.{length-map, map-append, get_or-append-add}
use Rattle.std.proofs.lemmas.List.Elements.{All-head, All-tail}
use Rattle.bud_syntax.specs.declared.modules.Dir.{Dir}
use Rattle.bud_syntax.specs.declared.modules.Port.{Port}
use Rattle.bud_syntax.specs.declared.modules.NetDecl.{NetDecl}
use Rattle.bud_syntax.specs.declared.modules.Module.{Module}
use Rattle.module_nets.specs.Nets.{NetBit, PortBit, bit_of, range_bits, net_bits, all_bits, port_bits}
use Rattle.module_nets.specs.Numbers.{Net, net_of, module_nets, range_width, IsNamedApart}
use Rattle.module_nets.proofs.Bytes.{by_test}
use Rattle.module_nets.proofs.NetLaws.{bits_of_net, own_bits, all_bits_are, port_nets, declared_nets, scalar_nets}
use Rattle.module_nets.proofs.WidthLaws.{length-range_bits}
use Rattle.net_drivers.specs.declared.slots.Slot.{Slot}
use Rattle.net_drivers.specs.declared.slots.Slot.TheVariants.{Constant}
use Rattle.net_drivers.specs.Drivers.{Drive, drive, constant}
use Rattle.net_drivers.specs.Joints.{directions}
use Rattle.net_drivers.specs.Numbering.{bit_at, named}
use Rattle.net_drivers.specs.Slots.{Put, constant_bits, net_puts, constant_puts, widths}
use Rattle.net_drivers.proofs.JointLaws.{dirs_of}
use Rattle.module_nets.specs.Numbers.{bits_in}

abbrev pub named_port_bits : List PortBit → List NetBit
named_port_bits bs = map (λ b. bit_of b.port b.bit) bs

abbrev pub bits_of_port : Port → List PortBit
bits_of_port p = map (λ b. record { port = p.name; bit = b; dir = p.dir }) (range_bits p.range)

abbrev pub bits_of_ports : List Port → List PortBit
bits_of_ports ports = flat_map bits_of_port ports

port_named : (p : Port) (bs : List (Option ℕ)) → named_port_bits (map (λ b. record { port = p.name; bit = b; dir = p.dir }) bs) ≡ map (bit_of p.name) bs
port_named p [] = refl
port_named p (b ∷ bs) = ap (λ xs. bit_of p.name b ∷ xs) (port_named p bs)

pub ports_named : (ports : List Port) → named_port_bits (bits_of_ports ports) ≡ flat_map bits_of_net (map (λ p. net_of p.name p.range) ports)
ports_named [] = refl
ports_named (p ∷ ports) = map-append (λ b. bit_of b.port b.bit) (bits_of_port p) (bits_of_ports ports) ∙ (ap (λ xs. xs ++ named_port_bits (bits_of_ports ports)) (port_named p (range_bits p.range)) ∙ ap (λ xs. map (bit_of p.name) (range_bits p.range) ++ xs) (ports_named ports))

port_directed : (p : Port) (bs : List (Option ℕ)) → dirs_of (map (λ b. record { port = p.name; bit = b; dir = p.dir }) bs) ≡ replicate (length bs) p.dir
port_directed p [] = refl
port_directed p (b ∷ bs) = ap (λ xs. p.dir ∷ xs) (port_directed p bs)

pub ports_directed : (ports : List Port) → dirs_of (bits_of_ports ports) ≡ directions ports
ports_directed [] = refl
ports_directed (p ∷ ports) =
    map-append (λ b. b.dir) (bits_of_port p) (bits_of_ports ports)
    ∙ (ap (λ xs. xs ++ dirs_of (bits_of_ports ports)) (port_directed p (range_bits p.range) ∙ ap (λ n. replicate n p.dir) (length-range_bits p.range))
    ∙ ap (λ xs. replicate (range_width p.range) p.dir ++ xs) (ports_directed ports))

-- a part of a list of bits has its numbers one behind the other
pub part_numbers : (bits pre part post : List NetBit) → bits ≡ pre ++ (part ++ post) → part ≡ map (bit_at bits) (range_with_len (length pre) (length part))
part_numbers bits pre [] post is = refl
part_numbers bits pre (b ∷ part) post is =
    let none : NetBit = record { net = []; bit = None } in
    let here : bit_at bits (length pre) ≡ b = ap (λ xs. bit_at xs (length pre)) is ∙ (ap (λ k. get_or (pre ++ (b ∷ (part ++ post))) k none) (zero-right (length pre)) ∙ get_or-append-add pre (b ∷ (part ++ post)) 0 none) in
    let moved : bits ≡ (pre ++ b ∷ []) ++ (part ++ post) = is ∙ sym (append_assoc pre (b ∷ []) (part ++ post)) in
    let longer : length (pre ++ b ∷ []) ≡ length pre + 1 = length-append pre (b ∷ []) in
    let rest : part ≡ map (bit_at bits) (range_with_len (length pre + 1) (length part)) = part_numbers bits (pre ++ b ∷ []) part post moved ∙ ap (λ k. map (bit_at bits) (range_with_len k (length part))) longer in
    ap (λ x. x ∷ part) (sym here) ∙ ap (λ xs. bit_at bits (length pre) ∷ xs) rest
  where
    zero-right : (n : ℕ) → n ≡ n + 0
    zero-right n = omega arith

constant_named : (bits : List NetBit) (first width : ℕ) → map (named bits) (constant_bits first width) ≡ map (λ b. drive b constant) (map (bit_at bits) (range_with_len first width))
constant_named bits first zero = refl
constant_named bits first (suc width) = ap (λ ds. drive (bit_at bits first) constant ∷ ds) (constant_named bits (first + 1) width)

-- the drives of constant nets
abbrev pub constant_drives : List NetDecl → List Drive
constant_drives nets = flat_map (λ n. map (λ b. drive b constant) (bits_of_net (net_of n.name n.range))) (filter (λ n. n.constant) nets)

net_named : (bits pre : List NetBit) (n : NetDecl) (post : List NetBit) → bits ≡ pre ++ (bits_of_net (net_of n.name n.range) ++ post)
    → map (named bits) (constant_bits (length pre) (range_width n.range)) ≡ map (λ b. drive b constant) (bits_of_net (net_of n.name n.range))
net_named bits pre n post is =
    let part = bits_of_net (net_of n.name n.range) in
    let width : length part ≡ range_width n.range = length-map (range_bits n.range) (bit_of n.name) ∙ length-range_bits n.range in
    constant_named bits (length pre) (range_width n.range)
    ∙ ap (map (λ b. drive b constant)) (ap (λ w. map (bit_at bits) (range_with_len (length pre) w)) (sym width) ∙ sym (part_numbers bits pre part post is))

pub constants_named : (bits pre : List NetBit) (nets : List NetDecl) (post : List NetBit) → bits ≡ pre ++ (flat_map bits_of_net (map (λ n. net_of n.name n.range) nets) ++ post)
    → map (named bits) (constant_puts (length pre) nets) ≡ constant_drives nets
constants_named bits pre [] post is = refl
constants_named bits pre (n ∷ nets) post is =
    let part = bits_of_net (net_of n.name n.range) in
    let others = flat_map bits_of_net (map (λ x. net_of x.name x.range) nets) in
    let here : bits ≡ pre ++ (part ++ (others ++ post)) = is ∙ ap (λ xs. pre ++ xs) (append_assoc part others post) in
    let moved : bits ≡ (pre ++ part) ++ (others ++ post) = here ∙ sym (append_assoc pre part (others ++ post)) in
    let width : length part ≡ range_width n.range = length-map (range_bits n.range) (bit_of n.name) ∙ length-range_bits n.range in
    let longer : length (pre ++ part) ≡ length pre + range_width n.range = length-append pre part ∙ ap (λ w. length pre + w) width in
    let rest : map (named bits) (constant_puts (length pre + range_width n.range) nets) ≡ constant_drives nets
    = ap (λ k. map (named bits) (constant_puts k nets)) (sym longer) ∙ constants_named bits (pre ++ part) nets post moved in
    let split = map-append (named bits) (net_puts (length pre) n) (constant_puts (length pre + range_width n.range) nets) in
    by_test n.constant
    (λ yes'. split ∙ (ap (λ ds. map (named bits) (net_puts (length pre) n) ++ ds) rest ∙ rw yes' (ap (λ ds. ds ++ constant_drives nets) (net_named bits pre n (others ++ post) here))))
    (λ not'. split ∙ (ap (λ ds. map (named bits) (net_puts (length pre) n) ++ ds) rest ∙ rw not' refl))
