-- The bits of a net, a bit and a part stand one behind the other among all net bits.
use Rattle.std.proofs.Common.{◌≡◌, ℕ, ◌+◌, ◌-◌, ◌<◌, ◌≤◌, min, max, nat_le, nat_lt, ◌||◌, Bool, true, false, Option, Some, None, List, [], ◌∷◌, ◌++◌, get_or, length, map, refl, sym, ap, ◌∙◌, subst, arith, length-append, if◌then◌else◌}
use Rattle.std.specs.List.{flat_map, range_with_len}
use Rattle.std.specs.Str.{bytes_eq}
use Rattle.std.proofs.lemmas.Bool.{leb-true, leb-false, le-leb, ltb-false}
use Rattle.std.proofs.lemmas.Option.{none-some, same_Some}
use Rattle.std.proofs.lemmas.List.{length-map, get_or-map, get_or-reverse, get_or_append_left, get_or-append-add, ext_get_or}
use Rattle.std.proofs.lemmas.List.Concat.{flat_map-cons}
use Rattle.std.proofs.lemmas.List.FromFn.{length-range_with_len, get_or-range_with_len}
use Rattle.bud_design.specs.Lists.{has_name}
use Rattle.bud_syntax.specs.declared.modules.Range.{Range}
use Rattle.bud_syntax.specs.declared.modules.Module.{Module}
use Rattle.module_nets.specs.Entering.{is_outside}
use Rattle.module_nets.specs.Gathering.{place_among}
use Rattle.module_nets.specs.NetTables.{bit_at, IsSpan}
use Rattle.module_nets.specs.Nets.{NetBit, bit_of, numbers_between, range_bits, range_of, net_bits, all_bits}
use Rattle.module_nets.specs.Numbers.{Net, module_nets, distance, range_width, place_in, bits_before, capped, IsNamedApart}
use Rattle.module_nets.specs.declared.gathering.NetPlace.{NetPlace}
use Rattle.module_nets.proofs.Bytes.{by_test, bytes_same, bytes_turned}
use Rattle.module_nets.proofs.NetLaws.{ranged, ranged_is, bits_of_net, all_bits_are}
use Rattle.module_nets.proofs.WidthLaws.{length-numbers_between, length-range_bits}

-- ---- numbers between bounds
abbrev pub step : ℕ → ℕ → ℕ → ℕ
step a b j = if nat_le a b then a + j else a - j

pub number_at : (a b j : ℕ) → j < distance a b + 1 → get_or (numbers_between a b) j 0 ≡ step a b j
number_at a b j within =
    by_test (nat_le a b)
    (λ h. let up : a ≤ b = leb-true a b h in
    rw h (get_or-range_with_len a (b + 1 - a) j 0 (omega (arith, up, within))))
    (λ h. let down : b < a = leb-false a b h in
    let len : length (range_with_len b (a + 1 - b)) ≡ a + 1 - b = length-range_with_len b (a + 1 - b) in
    let below : j < length (range_with_len b (a + 1 - b)) = omega (arith, down, within, len) in
    rw h (get_or-reverse (range_with_len b (a + 1 - b)) j 0 below
    ∙ (ap (λ n. get_or (range_with_len b (a + 1 - b)) (n - 1 - j) 0) len
    ∙ (get_or-range_with_len b (a + 1 - b) (a + 1 - b - 1 - j) 0 (omega (arith, down, within)) ∙ omega (arith, down, within)))))

-- a number within bounds
pub record IsWithin (l r n : ℕ) : Type 0 where
  pub low : min l r ≤ n
  pub high : n ≤ max l r

or_parts : (a b : Bool) → (a || b) ≡ false → (a ≡ false) × (b ≡ false)
or_parts true b none = absurd (cc)
or_parts false b none = (refl, none)

pub not_outside : (r : Range) (n : ℕ) → is_outside (Some r) n ≡ false → IsWithin r.left r.right n
not_outside r n inside =
    let parts = or_parts (nat_lt n (min r.left r.right)) (nat_lt (max r.left r.right) n) inside in
    record { low = ltb-false n (min r.left r.right) parts.0; high = ltb-false (max r.left r.right) n parts.1 }

pub step_within : (l r a b j : ℕ) → IsWithin l r a → IsWithin l r b → j < distance a b + 1 → IsWithin l r (step a b j)
step_within l r a b j ina inb within =
    by_test (nat_le a b)
    (λ h. let up : a ≤ b = leb-true a b h in
    record { low = rw h (omega (arith, up, within, ina.low)); high = rw h (omega (arith, up, within, inb.high)) })
    (λ h. let down : b < a = leb-false a b h in
    record { low = rw h (omega (arith, down, within, inb.low)); high = rw h (omega (arith, down, within, ina.high)) })

-- bits that stand one behind the other keep their steps
pub step_moves : (before l r a b j : ℕ) → IsWithin l r a → IsWithin l r b → j < distance a b + 1 → step (before + distance l a) (before + distance l b) j ≡ before + distance l (step a b j)
step_moves before l r a b j ina inb within =
    by_test (nat_le a b)
    (λ h. let up : a ≤ b = leb-true a b h in
    by_test (nat_le (before + distance l a) (before + distance l b))
    (λ g. let rise = leb-true (before + distance l a) (before + distance l b) g in rw (h, g) (omega (arith, up, rise, within, ina.low, ina.high, inb.low, inb.high)))
    (λ g. let fall = leb-false (before + distance l a) (before + distance l b) g in rw (h, g) (omega (arith, up, fall, within, ina.low, ina.high, inb.low, inb.high))))
    (λ h. let down : b < a = leb-false a b h in
    by_test (nat_le (before + distance l a) (before + distance l b))
    (λ g. let rise = leb-true (before + distance l a) (before + distance l b) g in rw (h, g) (omega (arith, down, rise, within, ina.low, ina.high, inb.low, inb.high)))
    (λ g. let fall = leb-false (before + distance l a) (before + distance l b) g in rw (h, g) (omega (arith, down, fall, within, ina.low, ina.high, inb.low, inb.high))))

pub distance_moves : (before l r a b : ℕ) → IsWithin l r a → IsWithin l r b → distance (before + distance l a) (before + distance l b) ≡ distance a b
distance_moves before l r a b ina inb = omega (arith, ina.low, ina.high, inb.low, inb.high)

pub place_at_left : (l r n : ℕ) → IsWithin l r n → step l r (distance l n) ≡ n
place_at_left l r n inside =
    by_test (nat_le l r)
    (λ h. let up : l ≤ r = leb-true l r h in rw h (omega (arith, up, inside.low, inside.high)))
    (λ h. let down : r < l = leb-false l r h in rw h (omega (arith, down, inside.low, inside.high)))

pub distance_within : (l r n : ℕ) → IsWithin l r n → distance l n < distance l r + 1
distance_within l r n inside = omega (arith, inside.low, inside.high)

-- ---- places of nets
pub place_is : (before : ℕ) (nets : List Net) (q : List ℕ) → has_name (map (λ n. n.name) nets) q ≡ true
    → place_among before nets q ≡ Some (record { range = ranged nets q; first = capped (before + bits_before nets q) })
place_is before [] q there = absurd (cc)
place_is before (n ∷ nets) q there =
    by_test (bytes_eq n.name q)
    (λ h. let same : before ≡ before + 0 = omega arith in rw h (ap (λ b. Some (record { range = n.range; first = capped b })) same))
    (λ h. let turned : bytes_eq q n.name ≡ false = bytes_turned q n.name ∙ h in
    let there_on : has_name (map (λ x. x.name) nets) q ≡ true = rw turned at there in
    let on : before + range_width n.range + bits_before nets q ≡ before + (range_width n.range + bits_before nets q) = omega arith in
    rw h (place_is (before + range_width n.range) nets q there_on ∙ ap (λ b. Some (record { range = ranged nets q; first = capped b })) on))

length-bits_of_net : (n : Net) → length (bits_of_net n) ≡ range_width n.range
length-bits_of_net n = length-map (range_bits n.range) (bit_of n.name) ∙ length-range_bits n.range

-- the bit at a place in a net
pub record IsBitThere (bits : List NetBit) (n : ℕ) (b : NetBit) : Type 0 where
  pub is : (d : NetBit) → get_or bits n d ≡ b
  pub within : n < length bits

bit_there : (nets : List Net) (q : List ℕ) (j : ℕ) → has_name (map (λ n. n.name) nets) q ≡ true → j < range_width (ranged nets q)
    → IsBitThere (flat_map bits_of_net nets) (bits_before nets q + j) (bit_of q (get_or (range_bits (ranged nets q)) j None))
bit_there [] q j there below = absurd (cc)
bit_there (n ∷ nets) q j there below =
    by_test (bytes_eq n.name q)
    (λ h.
    let name : n.name ≡ q = bytes_same n.name q h in
    let range : ranged (n ∷ nets) q ≡ n.range = rw h refl in
    let before : bits_before (n ∷ nets) q ≡ 0 = rw h refl in
    let place : bits_before (n ∷ nets) q + j ≡ j = omega (arith, before) in
    let within : j < length (bits_of_net n) = omega (arith, below, ap range_width range, length-bits_of_net n) in
    let within_bits : j < length (range_bits n.range) = omega (arith, below, ap range_width range, length-range_bits n.range) in
    let here : IsBitThere (bits_of_net n ++ flat_map bits_of_net nets) j (bit_of n.name (get_or (range_bits n.range) j None)) =
    record {
      is = λ d. get_or_append_left (bits_of_net n) (flat_map bits_of_net nets) d j within ∙ get_or-map (bit_of n.name) (range_bits n.range) j None d within_bits;
      within = omega (arith, within, length-append (bits_of_net n) (flat_map bits_of_net nets));
    } in
    let P : List NetBit → Type 0 = λ bits. IsBitThere bits (bits_before (n ∷ nets) q + j) (bit_of q (get_or (range_bits (ranged (n ∷ nets) q)) j None)) in
    subst P (sym (flat_map-cons bits_of_net n nets))
    (let Q : ℕ → Type 0 = λ k. IsBitThere (bits_of_net n ++ flat_map bits_of_net nets) k (bit_of q (get_or (range_bits (ranged (n ∷ nets) q)) j None)) in
    subst Q (sym place)
    (let R : NetBit → Type 0 = IsBitThere (bits_of_net n ++ flat_map bits_of_net nets) j in
    subst R (ap (λ x. bit_of x (get_or (range_bits n.range) j None)) name ∙ ap (λ r. bit_of q (get_or (range_bits r) j None)) (sym range)) here)))
    (λ h.
    let turned : bytes_eq q n.name ≡ false = bytes_turned q n.name ∙ h in
    let there_on : has_name (map (λ x. x.name) nets) q ≡ true = rw turned at there in
    let range : ranged (n ∷ nets) q ≡ ranged nets q = rw h refl in
    let before : bits_before (n ∷ nets) q ≡ range_width n.range + bits_before nets q = rw h refl in
    let rest = bit_there nets q j there_on (omega (arith, below, ap range_width range)) in
    let place : length (bits_of_net n) + (bits_before nets q + j) ≡ bits_before (n ∷ nets) q + j = omega (arith, before, length-bits_of_net n) in
    let there_is : IsBitThere (bits_of_net n ++ flat_map bits_of_net nets) (length (bits_of_net n) + (bits_before nets q + j)) (bit_of q (get_or (range_bits (ranged nets q)) j None)) =
    record {
      is = λ d. get_or-append-add (bits_of_net n) (flat_map bits_of_net nets) (bits_before nets q + j) d ∙ rest.is d;
      within = omega (arith, rest.within, length-append (bits_of_net n) (flat_map bits_of_net nets));
    } in
    let P : List NetBit → Type 0 = λ bits. IsBitThere bits (bits_before (n ∷ nets) q + j) (bit_of q (get_or (range_bits (ranged (n ∷ nets) q)) j None)) in
    subst P (sym (flat_map-cons bits_of_net n nets))
    (let Q : ℕ → Type 0 = λ k. IsBitThere (bits_of_net n ++ flat_map bits_of_net nets) k (bit_of q (get_or (range_bits (ranged (n ∷ nets) q)) j None)) in
    subst Q place
    (let R : NetBit → Type 0 = IsBitThere (bits_of_net n ++ flat_map bits_of_net nets) (length (bits_of_net n) + (bits_before nets q + j)) in
    subst R (ap (λ r. bit_of q (get_or (range_bits r) j None)) (sym range)) there_is)))

-- the place of a net in its module
pub record Stands (m : Module) (q : List ℕ) (place : NetPlace) : Type 0 where
  pub apart : IsNamedApart m
  pub there : has_name (map (λ n. n.name) (module_nets m)) q ≡ true
  pub range : place.range ≡ range_of m q
  pub first : place.first ≡ bits_before (module_nets m) q
  pub small : length (all_bits m) ≤ 8388608

pub bit_stands : (m : Module) (q : List ℕ) (j : ℕ) → IsNamedApart m → has_name (map (λ n. n.name) (module_nets m)) q ≡ true → j < range_width (range_of m q)
    → IsBitThere (all_bits m) (bits_before (module_nets m) q + j) (bit_of q (get_or (range_bits (range_of m q)) j None))
bit_stands m q j apart there below =
    let range = ranged_is m q in
    let P : List NetBit → Type 0 = λ bits. IsBitThere bits (bits_before (module_nets m) q + j) (bit_of q (get_or (range_bits (range_of m q)) j None)) in
    subst P (sym (all_bits_are m apart))
    (let R : NetBit → Type 0 = IsBitThere (flat_map bits_of_net (module_nets m)) (bits_before (module_nets m) q + j) in
    subst R (ap (λ r. bit_of q (get_or (range_bits r) j None)) range)
    (bit_there (module_nets m) q j there (omega (arith, below, ap range_width range))))

width_some : (range : Option Range) → 0 < range_width range
width_some None = omega arith
width_some (Some r) = omega arith

pub stands : (m : Module) (q : List ℕ) (found : Option NetPlace) (place : NetPlace) (bits : ℕ) → IsNamedApart m → has_name (map (λ n. n.name) (module_nets m)) q ≡ true
    → found ≡ place_among 0 (module_nets m) q → found ≡ Some place → bits ≡ capped (length (all_bits m)) → bits ≤ 8388608 → Stands m q place
stands m q found place bits apart there found_is is bits_is small =
    let same : place ≡ record { range = ranged (module_nets m) q; first = capped (0 + bits_before (module_nets m) q) } =
    same_Some place (record { range = ranged (module_nets m) q; first = capped (0 + bits_before (module_nets m) q) }) (sym is ∙ (found_is ∙ place_is 0 (module_nets m) q there)) in
    let first : place.first ≡ capped (0 + bits_before (module_nets m) q) = ap (λ p. p.first) same in
    let total : length (all_bits m) ≤ 8388608 = omega (arith, bits_is, small) in
    let within = (bit_stands m q 0 apart there (width_some (range_of m q))).within in
    record {
      apart = apart;
      there = there;
      range = ap (λ p. p.range) same ∙ ranged_is m q;
      first = omega (arith, first, within, total);
      small = total;
    }

pub not_found : (m : Module) (q : List ℕ) (found : Option NetPlace) → has_name (map (λ n. n.name) (module_nets m)) q ≡ true → found ≡ place_among 0 (module_nets m) q → found ≡ None → ⊥
not_found m q found there found_is none =
    none-some (record { range = ranged (module_nets m) q; first = capped (0 + bits_before (module_nets m) q) }) (sym none ∙ (found_is ∙ place_is 0 (module_nets m) q there))

-- ---- spans
pub number_there : (m : Module) (q : List ℕ) (r : Range) (n : ℕ) → IsNamedApart m → has_name (map (λ x. x.name) (module_nets m)) q ≡ true → range_of m q ≡ Some r → IsWithin r.left r.right n
    → IsBitThere (all_bits m) (bits_before (module_nets m) q + distance r.left n) (bit_of q (Some n))
number_there m q r n apart there range inside =
    let below = distance_within r.left r.right n inside in
    let one = bit_stands m q (distance r.left n) apart there (omega (arith, below, ap range_width range)) in
    let number : get_or (numbers_between r.left r.right) (distance r.left n) 0 ≡ n = number_at r.left r.right (distance r.left n) below ∙ place_at_left r.left r.right n inside in
    let bits : get_or (range_bits (range_of m q)) (distance r.left n) None ≡ Some n =
    ap (λ x. get_or (range_bits x) (distance r.left n) None) range
    ∙ (get_or-map (λ k. Some k) (numbers_between r.left r.right) (distance r.left n) 0 None (omega (arith, below, length-numbers_between r.left r.right)) ∙ ap (λ k. Some k) number) in
    let R : NetBit → Type 0 = IsBitThere (all_bits m) (bits_before (module_nets m) q + distance r.left n) in
    subst R (ap (bit_of q) bits) one

pub numbers_one : (a : ℕ) → numbers_between a a ≡ a ∷ []
numbers_one a =
    let up : nat_le a a ≡ true = le-leb a a (omega arith) in
    let one : a + 1 - a ≡ 1 = omega arith in
    rw (up, one) refl

-- one bit
pub span_one : (m : Module) (n : ℕ) (b : NetBit) → IsBitThere (all_bits m) n b → IsSpan m (Some b ∷ []) (record { first = n; last = n })
span_one m n b there = record {
  numbered = sym (ap (map (λ k. Some (bit_at m k))) (numbers_one n) ∙ ap (λ x. Some x ∷ []) (there.is (record { net = []; bit = None })));
  first = there.within;
  last = there.within;
}

-- the bits from one number to another
pub span_part : (m : Module) (q : List ℕ) (r : Range) (a b : ℕ) → IsNamedApart m → has_name (map (λ x. x.name) (module_nets m)) q ≡ true → range_of m q ≡ Some r → IsWithin r.left r.right a → IsWithin r.left r.right b
    → IsSpan m (map (λ n. Some (bit_of q (Some n))) (numbers_between a b)) (record { first = bits_before (module_nets m) q + distance r.left a; last = bits_before (module_nets m) q + distance r.left b })
span_part m q r a b apart there range ina inb =
    let before : ℕ = bits_before (module_nets m) q in
    let first : ℕ = before + distance r.left a in
    let last : ℕ = before + distance r.left b in
    let left : List (Option NetBit) = map (λ n. Some (bit_of q (Some n))) (numbers_between a b) in
    let right : List (Option NetBit) = map (λ k. Some (bit_at m k)) (numbers_between first last) in
    let moved = distance_moves before r.left r.right a b ina inb in
    let len_left : length left ≡ distance a b + 1 = length-map (numbers_between a b) (λ n. Some (bit_of q (Some n))) ∙ length-numbers_between a b in
    let len_right : length right ≡ distance a b + 1 = length-map (numbers_between first last) (λ k. Some (bit_at m k)) ∙ (length-numbers_between first last ∙ ap (λ d. d + 1) moved) in
    record {
      numbered = ext_get_or None left right (len_left ∙ sym len_right)
          (λ j below.
          let near : j < distance a b + 1 = omega (arith, below, len_left) in
          let far : j < distance first last + 1 = omega (arith, near, moved) in
          let n : ℕ = step a b j in
          let there_is = number_there m q r n apart there range (step_within r.left r.right a b j ina inb near) in
          get_or-map (λ k. Some (bit_of q (Some k))) (numbers_between a b) j 0 None (omega (arith, near, length-numbers_between a b))
          ∙ (ap (λ k. Some (bit_of q (Some k))) (number_at a b j near)
          ∙ (sym (ap (λ x. Some x) (there_is.is (record { net = []; bit = None })))
          ∙ (ap (λ k. Some (bit_at m k)) (sym (number_at first last j far ∙ step_moves before r.left r.right a b j ina inb near))
          ∙ sym (get_or-map (λ k. Some (bit_at m k)) (numbers_between first last) j 0 None (omega (arith, far, length-numbers_between first last)))))));
      first = (number_there m q r a apart there range ina).within;
      last = (number_there m q r b apart there range inb).within;
    }

-- ---- what the code makes of a place
net_bits_scalar : (m : Module) (q : List ℕ) → range_of m q ≡ None → map (λ b. Some b) (net_bits m q) ≡ Some (bit_of q None) ∷ []
net_bits_scalar m q scalar = ap (λ r. map (λ b. Some b) (map (bit_of q) (range_bits r))) scalar

pub scalar_span : (m : Module) (q : List ℕ) (place : NetPlace) → Stands m q place → place.range ≡ None
    → IsSpan m (map (λ b. Some b) (net_bits m q)) (record { first = place.first; last = place.first })
scalar_span m q place stood scalar =
    let range : range_of m q ≡ None = sym stood.range ∙ scalar in
    let there = bit_stands m q 0 stood.apart stood.there (width_some (range_of m q)) in
    let bit : bit_of q (get_or (range_bits (range_of m q)) 0 None) ≡ bit_of q None = ap (λ r. bit_of q (get_or (range_bits r) 0 None)) range in
    let at_first : bits_before (module_nets m) q + 0 ≡ place.first = omega (arith, stood.first) in
    let P : NetBit → Type 0 = IsBitThere (all_bits m) (bits_before (module_nets m) q + 0) in
    let Q : ℕ → Type 0 = λ n. IsBitThere (all_bits m) n (bit_of q None) in
    let R : List (Option NetBit) → Type 0 = λ bits. IsSpan m bits (record { first = place.first; last = place.first }) in
    subst R (sym (net_bits_scalar m q range)) (span_one m place.first (bit_of q None) (subst Q at_first (subst P bit there)))

-- a number of the net, as the code counts it
pub counted_number : (m : Module) (q : List ℕ) (place : NetPlace) (r : Range) (n found : ℕ) → Stands m q place → place.range ≡ Some r → IsWithin r.left r.right n
    → found ≡ capped (place.first + place_in place.range (Some n)) → found ≡ bits_before (module_nets m) q + distance r.left n
counted_number m q place r n found stood range inside is =
    let there = number_there m q r n stood.apart stood.there (sym stood.range ∙ range) inside in
    let within = there.within in
    let place_is : place_in place.range (Some n) ≡ distance r.left n = ap (λ x. place_in x (Some n)) range in
    omega (arith, is, stood.first, stood.small, within, place_is)

spans_as : (m : Module) (bits : List (Option NetBit)) (a b c d : ℕ) → a ≡ c → b ≡ d → IsSpan m bits (record { first = c; last = d }) → IsSpan m bits (record { first = a; last = b })
spans_as m bits a b c d first last span =
    let P : ℕ → Type 0 = λ x. IsSpan m bits (record { first = x; last = b }) in
    let Q : ℕ → Type 0 = λ x. IsSpan m bits (record { first = c; last = x }) in
    subst P (sym first) (subst Q (sym last) span)

pub part_span : (m : Module) (q : List ℕ) (place : NetPlace) (r : Range) (a b first last : ℕ) → Stands m q place → place.range ≡ Some r → IsWithin r.left r.right a → IsWithin r.left r.right b
    → first ≡ capped (place.first + place_in place.range (Some a)) → last ≡ capped (place.first + place_in place.range (Some b))
    → IsSpan m (map (λ n. Some (bit_of q (Some n))) (numbers_between a b)) (record { first = first; last = last })
part_span m q place r a b first last stood range ina inb first_is last_is =
    spans_as m (map (λ n. Some (bit_of q (Some n))) (numbers_between a b)) first last (bits_before (module_nets m) q + distance r.left a) (bits_before (module_nets m) q + distance r.left b)
    (counted_number m q place r a first stood range ina first_is) (counted_number m q place r b last stood range inb last_is)
    (span_part m q r a b stood.apart stood.there (sym stood.range ∙ range) ina inb)

pub bit_span : (m : Module) (q : List ℕ) (place : NetPlace) (r : Range) (n found : ℕ) → Stands m q place → place.range ≡ Some r → IsWithin r.left r.right n
    → found ≡ capped (place.first + place_in place.range (Some n)) → IsSpan m (Some (bit_of q (Some n)) ∷ []) (record { first = found; last = found })
bit_span m q place r n found stood range inside is =
    let number = counted_number m q place r n found stood range inside is in
    spans_as m (Some (bit_of q (Some n)) ∷ []) found found (bits_before (module_nets m) q + distance r.left n) (bits_before (module_nets m) q + distance r.left n) number number
    (span_one m (bits_before (module_nets m) q + distance r.left n) (bit_of q (Some n)) (number_there m q r n stood.apart stood.there (sym stood.range ∙ range) inside))

left_within : (l r : ℕ) → IsWithin l r l
left_within l r = record { low = omega arith; high = omega arith }

right_within : (l r : ℕ) → IsWithin l r r
right_within l r = record { low = omega arith; high = omega arith }

map-thrice : {X Y Z W : Type 0} (f : X → Y) (g : Y → Z) (h : Z → W) (xs : List X) → map h (map g (map f xs)) ≡ map (λ x. h (g (f x))) xs
map-thrice f g h [] = refl
map-thrice f g h (x ∷ xs) = ap (λ ys. h (g (f x)) ∷ ys) (map-thrice f g h xs)

pub vector_span : (m : Module) (q : List ℕ) (place : NetPlace) (r : Range) (last : ℕ) → Stands m q place → place.range ≡ Some r
    → last ≡ capped (place.first + place_in place.range (Some r.right)) → IsSpan m (map (λ b. Some b) (net_bits m q)) (record { first = place.first; last = last })
vector_span m q place r last stood range last_is =
    let own : range_of m q ≡ Some r = sym stood.range ∙ range in
    let bits : map (λ b. Some b) (net_bits m q) ≡ map (λ n. Some (bit_of q (Some n))) (numbers_between r.left r.right) =
    ap (λ x. map (λ b. Some b) (map (bit_of q) (range_bits x))) own ∙ map-thrice (λ n. Some n) (bit_of q) (λ b. Some b) (numbers_between r.left r.right) in
    let first : place.first ≡ bits_before (module_nets m) q + distance r.left r.left = omega (arith, stood.first) in
    let P : List (Option NetBit) → Type 0 = λ bs. IsSpan m bs (record { first = place.first; last = last }) in
    subst P (sym bits)
    (spans_as m (map (λ n. Some (bit_of q (Some n))) (numbers_between r.left r.right)) place.first last (bits_before (module_nets m) q + distance r.left r.left) (bits_before (module_nets m) q + distance r.left r.right)
    first (counted_number m q place r r.right last stood range (right_within r.left r.right) last_is)
    (span_part m q r r.left r.right stood.apart stood.there own (left_within r.left r.right) (right_within r.left r.right)))

-- ---- selects that are not refused
pub record IsInside (range : Option Range) (n : ℕ) : Type 0 where
  pub bounds : Range
  pub is : range ≡ Some bounds
  pub within : IsWithin bounds.left bounds.right n

pub inside_of : (range : Option Range) (n : ℕ) → is_outside range n ≡ false → IsInside range n
inside_of None n inside = absurd (cc)
inside_of (Some r) n inside = record { bounds = r; is = refl; within = not_outside r n inside }

pub unrefused : {X : Type 0} (test : Bool) (x : X) → (if test then Some x else None) ≡ None → test ≡ false
unrefused true x none = absurd (none-some x (sym none))
unrefused false x none = refl

pub both_inside : (a b : Bool) → (a || b) ≡ false → (a ≡ false) × (b ≡ false)
both_inside a b none = or_parts a b none
