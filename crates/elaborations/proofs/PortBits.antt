-- The bits of a module's ports differ in port or number, where the names of its ports differ.
use Rattle.std.specs.Prelude.{◌≡◌, ℕ, ◌<◌, ◌+◌, ◌-◌, nat_le, Bool, true, false, List, [], ◌∷◌, map, flat_map, reverse, length, Option, Some, None, All, AllPairs, slice_index_or}
use Rattle.std.specs.List.{range_with_len}
use Rattle.std.specs.Str.{bytes_eq}
use Rattle.std.proofs.Common.{true≢false, arith, sym, ◌∙◌, refl, ap}
use Rattle.std.proofs.lemmas.List.{length-reverse, get_or-reverse}
use Rattle.std.proofs.lemmas.List.FromFn.{length-range_with_len, get_or-range_with_len}
use Rattle.std.proofs.lemmas.List.Elements.{All-nil, All-head, All-tail, All-append, All-map, All-weaker}
use Rattle.std.proofs.lemmas.List.Kept.{AllPairs-cons}
use Rattle.std.proofs.lemmas.Slice.Eq.{bytes_eq-Decides}
use Rattle.bud_syntax.specs.declared.modules.Range.{Range}
use Rattle.bud_syntax.specs.declared.modules.Port.{Port}
use Rattle.bud_syntax.specs.declared.modules.Module.{Module}
use Rattle.bud_design.proofs.ClassLaws.{pairs-head, pairs-tail}
use Rattle.module_nets.specs.Nets.{PortBit, numbers_between, range_bits, port_bits}
use Rattle.elaborations.specs.Ports.{HasPortsOnce}
use Rattle.elaborations.proofs.Lists.{AllPairs-append}

abbrev Apart : {X : Type 0} → X → X → Type 0
Apart x y = x ≡ y → ⊥

AllPairs-map : {X Y : Type 0} (R : Y → Y → Type 0) (f : X → Y) (xs : List X) → AllPairs (λ x y. R (f x) (f y)) xs → AllPairs R (map f xs)
AllPairs-map R f [] pairs = λ i j d less below. absurd (omega (arith, less, below))
AllPairs-map R f (x ∷ xs) pairs =
    AllPairs-cons R (f x) (map f xs) (All-map (R (f x)) f xs (pairs-head (λ x y. R (f x) (f y)) x xs pairs)) (AllPairs-map R f xs (pairs-tail (λ x y. R (f x) (f y)) x xs pairs))

range-apart : (a n : ℕ) → AllPairs Apart (range_with_len a n)
range-apart a n i j d less below = λ same.
    let short : j < n = omega (arith, below, length-range_with_len a n) in
    omega (arith, same, less, get_or-range_with_len a n i d (omega (arith, short, less)), get_or-range_with_len a n j d short)

reverse-apart : (xs : List ℕ) → AllPairs Apart xs → AllPairs Apart (reverse xs)
reverse-apart xs pairs i j d less below = λ same.
    let within : j < length xs = omega (arith, below, length-reverse xs) in
    let upper : i < length xs = omega (arith, within, less) in
    pairs (length xs - 1 - j) (length xs - 1 - i) d (omega (arith, less, within)) (omega (arith, upper))
    (sym (get_or-reverse xs j d within) ∙ (sym same ∙ get_or-reverse xs i d upper))

between-apart : (left right : ℕ) → AllPairs Apart (numbers_between left right)
between-apart left right = by_order (nat_le left right) refl
  where
    by_order : (b : Bool) → nat_le left right ≡ b → AllPairs Apart (numbers_between left right)
    by_order true is = rw is (range-apart left (right + 1 - left))
    by_order false is = rw is (reverse-apart (range_with_len right (left + 1 - right)) (range-apart right (left + 1 - right)))

some-same : (m n : ℕ) → Some m ≡ Some n → m ≡ n
some-same m n same = ap or_zero same
  where
    or_zero : Option ℕ → ℕ
    or_zero None = 0
    or_zero (Some n) = n

bits-apart : (range : Option Range) → AllPairs Apart (range_bits range)
bits-apart None = λ i j d less below. absurd (omega (arith, less, below))
bits-apart (Some r) = AllPairs-map Apart (λ n. Some n) (numbers_between r.left r.right)
    (λ i j d less below same. between-apart r.left r.right i j d less below (some-same (slice_index_or (numbers_between r.left r.right) i d) (slice_index_or (numbers_between r.left r.right) j d) same))

-- two bits differ in port or number
abbrev pub BitsApart : PortBit → PortBit → Type 0
BitsApart b c = b.port ≡ c.port → b.bit ≡ c.bit → ⊥

abbrev bits_of_one : Port → List PortBit
bits_of_one p = map (λ b. record { port = p.name; bit = b; dir = p.dir }) (range_bits p.range)

one-port : (p : Port) → AllPairs BitsApart (bits_of_one p)
one-port p = AllPairs-map BitsApart (λ b. record { port = p.name; bit = b; dir = p.dir }) (range_bits p.range) (λ i j d less below port bit. bits-apart p.range i j d less below bit)

named-of : (p : Port) → All (λ b. b.port ≡ p.name) (bits_of_one p)
named-of p = All-map (λ b. b.port ≡ p.name) (λ b. record { port = p.name; bit = b; dir = p.dir }) (range_bits p.range) (λ k d below. refl)

-- a port name that differs from those of the ports
others-named : (name : List ℕ) (ps : List Port) → All (λ p. bytes_eq name p.name ≡ false) ps → All (λ b. bytes_eq name b.port ≡ false) (flat_map bits_of_one ps)
others-named name [] all = All-nil (λ b. bytes_eq name b.port ≡ false)
others-named name (p ∷ ps) all =
    All-append (λ b. bytes_eq name b.port ≡ false) (bits_of_one p) (flat_map bits_of_one ps)
    (All-weaker (λ b. b.port ≡ p.name) (λ b. bytes_eq name b.port ≡ false) (λ b is. ap (bytes_eq name) is ∙ All-head (λ p. bytes_eq name p.name ≡ false) p ps all) (bits_of_one p) (named-of p))
    (others-named name ps (All-tail (λ p. bytes_eq name p.name ≡ false) p ps all))

ports-apart : (ps : List Port) → AllPairs (λ p q. bytes_eq p.name q.name ≡ false) ps → AllPairs BitsApart (flat_map bits_of_one ps)
ports-apart [] differ = λ i j d less below. absurd (omega (arith, less, below))
ports-apart (p ∷ ps) differ =
    AllPairs-append BitsApart (bits_of_one p) (flat_map bits_of_one ps) (one-port p) (ports-apart ps (pairs-tail (λ p q. bytes_eq p.name q.name ≡ false) p ps differ))
    (All-weaker (λ b. b.port ≡ p.name) (λ b. All (BitsApart b) (flat_map bits_of_one ps))
    (λ b is. All-weaker (λ c. bytes_eq p.name c.port ≡ false) (BitsApart b)
    (λ c apart port bit. true≢false (sym ((bytes_eq-Decides p.name c.port).1 (sym is ∙ port)) ∙ apart)) (flat_map bits_of_one ps)
    (others-named p.name ps (pairs-head (λ p q. bytes_eq p.name q.name ≡ false) p ps differ)))
    (bits_of_one p) (named-of p))

pub port_bits-apart : (m : Module) → HasPortsOnce m → AllPairs BitsApart (port_bits m)
port_bits-apart m once = ports-apart m.ports once
