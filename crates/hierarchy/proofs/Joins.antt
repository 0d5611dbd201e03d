-- The wires of an instance tree join its pins, and no two end at one pin.
use Rattle.std.specs.Prelude.{◌≡◌, ℕ, ◌<◌, ◌+◌, Bool, true, false, List, [], length, Option, Some, None, All, AllPairs, Contains, slice_index_or, if◌then◌else◌}
use Rattle.std.specs.List.{AllZip, range_with_len}
use Rattle.std.proofs.Common.{true≢false, arith, sym, ◌∙◌, refl, ap, subst}
use Rattle.std.proofs.lemmas.List.Elements.{All-nil, All-map, All-weaker, All-contains, All-contains_itself}
use Rattle.std.proofs.lemmas.List.Kept.{AllPairs-filter}
use Rattle.std.proofs.lemmas.List.FromFn.{length-range_with_len, get_or-range_with_len}
use Rattle.bud_syntax.specs.declared.modules.Dir.{Dir}
use Rattle.bud_syntax.specs.declared.modules.Dir.TheVariants.{Input, Output, Inout}
use Rattle.bud_syntax.specs.declared.modules.Module.{Module}
use Rattle.bud_design.specs.declared.designs.Place.{Place}
use Rattle.bud_design.specs.declared.designs.Pin.{Pin}
use Rattle.bud_design.specs.declared.designs.Wire.{Wire}
use Rattle.bud_design.specs.Designs.{place_at, pin_at, is_input, is_output}
use Rattle.module_nets.specs.Nets.{same_number}
use Rattle.net_drivers.specs.declared.pins.LocalPin.{LocalPin}
use Rattle.net_drivers.specs.declared.pins.LocalWire.{LocalWire}
use Rattle.net_drivers.specs.Drivers.{local_wires}
use Rattle.elaborations.specs.Elaborations.{all_wires, wires_in, wire_at, local_wires_of, pin_number, place_of, first_pin, module_of, instances_in}
use Rattle.elaborations.specs.Walks.{children, StandsFor, IsOf, HasInside, IsInstanceTree}
use Rattle.elaborations.proofs.Driving.{IsOwnBit, IsLocalAt, JoinsRightly, local-wires-right}
use Rattle.elaborations.proofs.Lists.{AllZip-at, AllZip-length, All-flat_map, by_lt, filter-range-within}
use Rattle.elaborations.proofs.PinNumbers.{IsPinOf, pin-of}
use Rattle.elaborations.proofs.Siblings.{no_instance}
use Rattle.design_wires.specs.Gathering.{IsKid, IsPinIn, JoinsPins}
use Rattle.design_wires.specs.Sorting.{EndApart}
use Rattle.hierarchy.proofs.Loads.{wire-of}

some-module : (m n : Module) → Some m ≡ Some n → m ≡ n
some-module m n same = ap (or_first m) same
  where
    or_first : Module → Option Module → Module
    or_first m None = m
    or_first m (Some x) = x

some-number : (m n : ℕ) → Some m ≡ Some n → m ≡ n
some-number m n same = cc

parent-of : (o : Option ℕ) (p : ℕ) → same_number o (Some p) ≡ true → o ≡ Some p
parent-of None p is = absurd (true≢false (sym is))
parent-of (Some q) p is = ap (λ k. Some k) (grind (arith, is))

one-way : (d : Dir) → is_output d ≡ true → is_input d ≡ true → ⊥
one-way Input out in' = true≢false (sym out)
one-way Output out in' = true≢false (sym in')
one-way Inout out in' = true≢false (sym out)

range-rises : (n : ℕ) → AllPairs (λ x y. x < y) (range_with_len 0 n)
range-rises n i j e less within =
    let short : j < n = omega (arith, within, length-range_with_len 0 n) in
    omega (arith, less, get_or-range_with_len 0 n i e (omega (arith, short, less)), get_or-range_with_len 0 n j e short)

abbrev pin_with : Option ℕ → ℕ → LocalPin
pin_with o k = record { instance = o; bit = k }

-- places in a place are listed once
kid-once : (places : List Place) (p i j : ℕ) → i < length (instances_in places p) → j < length (instances_in places p)
    → slice_index_or (instances_in places p) i 0 ≡ slice_index_or (instances_in places p) j 0 → i ≡ j
kid-once places p i j belowi belowj same =
    let rise = AllPairs-filter (λ x y. x < y) (λ q. same_number (place_at places q).parent (Some p)) (range_with_len 0 (length places)) (range-rises (length places)) in
    by_lt i j (λ less. absurd (omega (arith, rise i j 0 less belowj, same)))
    (λ more. by_lt j i (λ less. absurd (omega (arith, rise j i 0 less belowi, same))) (λ most. omega (arith, more, most)))

module _ (modules : List Module) (places : List Place) (pins : List Pin) (tree : IsInstanceTree modules places pins) where
  bit-of : (q k : ℕ) (m : Module) (passes : Dir → Bool) → q < length places → module_of modules (place_at places q) ≡ Some m → IsOwnBit passes m k
      → (first_pin pins q + k < length pins) × (((pin_at pins (first_pin pins q + k)).place ≡ q) × (passes (pin_at pins (first_pin pins q + k)).dir ≡ true))
  bit-of q k m passes less called bit =
      let at : IsPinOf modules places (length places) q k m = pin-of modules places (length places) q k m less called bit.below in
      subst (λ ps. (first_pin ps q + k < length ps) × (((pin_at ps (first_pin ps q + k)).place ≡ q) × (passes (pin_at ps (first_pin ps q + k)).dir ≡ true))) (sym tree.pins_are)
      (at.within, (ap (λ v. v.place) at.is, ap (λ v. passes v.dir) at.is ∙ bit.dir))

  abbrev dir_at : (Dir → Bool) → (Dir → Bool) → Option ℕ → Dir → Bool
  dir_at own below None d = own d
  dir_at own below (Some i) d = below d

  -- a pin of a module at a place
  record IsPinAt (own below : Dir → Bool) (p : ℕ) (l : LocalPin) : Type 0 where
    in_design : IsPinIn places pins p l
    place_is : (pin_at pins (pin_number places pins p l)).place ≡ place_of places p l.instance
    dir : dir_at own below l.instance (pin_at pins (pin_number places pins p l)).dir ≡ true

  pin-at : (own below : Dir → Bool) (p : ℕ) (m : Module) → p < length places → IsOf modules places p m → AllZip (StandsFor modules places) m.instances (children places p 0 (length places))
      → (o : Option ℕ) (k : ℕ) → IsLocalAt own below modules m o k → IsPinAt own below p (record { instance = o; bit = k })
  pin-at own below p m less is_of zipped None k bit =
      let at = bit-of p k m own less is_of.called bit in
      record { in_design = record { kid = tt; below = at.0 }; place_is = at.1.0; dir = at.1.1 }
  pin-at own below p m less is_of zipped (Some i) k bit =
      let kids = children places p 0 (length places) in
      let short : i < length kids = omega (arith, bit.instance, AllZip-length (StandsFor modules places) m.instances kids zipped) in
      let stands = AllZip-at (StandsFor modules places) m.instances kids no_instance 0 zipped i short in
      let within = filter-range-within (λ q. same_number (place_at places q).parent (Some p)) 0 (length places) i 0 short in
      let same : stands.1.child ≡ bit.child = some-module stands.1.child bit.child (sym stands.1.called ∙ bit.called) in
      let at = bit-of (slice_index_or kids i 0) k bit.child below (omega (arith, within.0.1)) (stands.1.is_of.called ∙ ap (λ m. Some m) same) bit.bit in
      record { in_design = record { kid = short; below = at.0 }; place_is = at.1.0; dir = at.1.1 }

  -- a wire of a module at a place
  record IsAt (p : ℕ) (l : LocalWire) : Type 0 where
    within : p < length places
    from : IsPinAt is_input is_output p l.from
    to : IsPinAt is_output is_input p l.to

  its-wires : (most p : ℕ) → p < length places → All (IsAt p) (local_wires_of most modules (module_of modules (place_at places p)))
  its-wires most p less =
      let filled = tree.filled p less in
      subst (λ o. All (IsAt p) (local_wires_of most modules o)) (sym filled.is_of.called)
      (by_leaf filled.«module» filled.«module».leaf refl filled.is_of filled.inside)
    where
      by_leaf : (m : Module) (leaf : Bool) → m.leaf ≡ leaf → IsOf modules places p m → HasInside leaf modules places m (children places p 0 (length places))
          → All (IsAt p) (if leaf then [] else local_wires most modules m)
      by_leaf m true leaf is_of inside = All-nil (IsAt p)
      by_leaf m false leaf is_of inside =
          All-weaker (JoinsRightly modules m) (IsAt p)
          (λ l joins. record { within = less; from = pin-at is_input is_output p m less is_of inside.0 l.from.instance l.from.bit joins.0; to = pin-at is_output is_input p m less is_of inside.0 l.to.instance l.to.bit joins.1 })
          (local_wires most modules m) (local-wires-right modules m most)

  -- the wires of each place join pins
  pub join-pins : (most p : ℕ) → p < length places → All (JoinsPins places pins p) (local_wires_of most modules (module_of modules (place_at places p)))
  join-pins most p less =
      All-weaker (IsAt p) (JoinsPins places pins p) (λ l at. record { from = at.from.in_design; to = at.to.in_design })
      (local_wires_of most modules (module_of modules (place_at places p))) (its-wires most p less)

  -- where a wire comes from
  record IsWireOf (most : ℕ) (w : Wire) : Type 0 where
    place : ℕ
    local : LocalWire
    has : Contains (local_wires_of most modules (module_of modules (place_at places place))) local
    at : IsAt place local
    is : wire_at places pins place local ≡ w

  wires-of : (most : ℕ) → All (IsWireOf most) (all_wires most modules places pins)
  wires-of most =
      All-flat_map (IsWireOf most) (wires_in most modules places pins) 0 (length places)
      (λ p low high.
      let less : p < length places = omega (arith, high) in
      let locals = local_wires_of most modules (module_of modules (place_at places p)) in
      All-map (IsWireOf most) (wire_at places pins p) locals
      (λ k d below. record {
        place = p;
        local = slice_index_or locals k d;
        has = All-contains_itself locals k d below;
        at = its-wires most p less k d below;
        is = refl;
      }))

  -- the last pin determines place and pin of the module
  same-pin : (p q : ℕ) (a b : LocalPin) → IsPinAt is_output is_input p a → IsPinAt is_output is_input q b → pin_number places pins p a ≡ pin_number places pins q b → (p ≡ q) × (a ≡ b)
  same-pin p q a b ata atb same = by_instances a.instance b.instance refl refl
    where
      kids : place_of places p a.instance ≡ place_of places q b.instance
      kids = sym ata.place_is ∙ (ap (λ v. (pin_at pins v).place) same ∙ atb.place_is)

      bits : (r s : ℕ) → place_of places p a.instance ≡ r → place_of places q b.instance ≡ s → r ≡ s → a.bit ≡ b.bit
      bits r s isr iss is =
          let left : first_pin pins r + a.bit ≡ first_pin pins s + b.bit = ap (λ k. first_pin pins k + a.bit) (sym isr) ∙ (same ∙ ap (λ k. first_pin pins k + b.bit) iss) in
          omega (arith, left, ap (first_pin pins) is)

      pins-same : a.instance ≡ b.instance → a.bit ≡ b.bit → a ≡ b
      pins-same i k = ap (λ o. pin_with o a.bit) i ∙ ap (pin_with b.instance) k

      by_instances : (i j : Option ℕ) → a.instance ≡ i → b.instance ≡ j → (p ≡ q) × (a ≡ b)
      by_instances None None isa isb =
          let p-is-q : p ≡ q = ap (place_of places p) (sym isa) ∙ (kids ∙ ap (place_of places q) isb) in
          (p-is-q, pins-same (isa ∙ sym isb) (bits p q (ap (place_of places p) isa) (ap (place_of places q) isb) p-is-q))
      by_instances None (Some j) isa isb =
          absurd (one-way (pin_at pins (pin_number places pins p a)).dir
          (subst (λ o. dir_at is_output is_input o (pin_at pins (pin_number places pins p a)).dir ≡ true) isa ata.dir)
          (subst (λ v. is_input (pin_at pins v).dir ≡ true) (sym same) (subst (λ o. dir_at is_output is_input o (pin_at pins (pin_number places pins q b)).dir ≡ true) isb atb.dir)))
      by_instances (Some i) None isa isb =
          absurd (one-way (pin_at pins (pin_number places pins q b)).dir
          (subst (λ o. dir_at is_output is_input o (pin_at pins (pin_number places pins q b)).dir ≡ true) isb atb.dir)
          (subst (λ v. is_input (pin_at pins v).dir ≡ true) same (subst (λ o. dir_at is_output is_input o (pin_at pins (pin_number places pins p a)).dir ≡ true) isa ata.dir)))
      by_instances (Some i) (Some j) isa isb =
          let belowi : i < length (instances_in places p) = subst (IsKid places p) isa ata.in_design.kid in
          let belowj : j < length (instances_in places q) = subst (IsKid places q) isb atb.in_design.kid in
          let kid : slice_index_or (instances_in places p) i 0 ≡ slice_index_or (instances_in places q) j 0 = ap (place_of places p) (sym isa) ∙ (kids ∙ ap (place_of places q) isb) in
          let inp = filter-range-within (λ q. same_number (place_at places q).parent (Some p)) 0 (length places) i 0 belowi in
          let inq = filter-range-within (λ r. same_number (place_at places r).parent (Some q)) 0 (length places) j 0 belowj in
          let p-is-q : p ≡ q = some-number p q (sym (parent-of (place_at places (slice_index_or (instances_in places p) i 0)).parent p inp.1)
          ∙ (ap (λ r. (place_at places r).parent) kid ∙ parent-of (place_at places (slice_index_or (instances_in places q) j 0)).parent q inq.1)) in
          let i-is-j : i ≡ j = kid-once places p i j belowi (subst (λ r. j < length (instances_in places r)) (sym p-is-q) belowj) (kid ∙ ap (λ r. slice_index_or (instances_in places r) j 0) (sym p-is-q)) in
          (p-is-q, pins-same (isa ∙ (ap (λ k. Some k) i-is-j ∙ sym isb)) (bits (slice_index_or (instances_in places p) i 0) (slice_index_or (instances_in places q) j 0) (ap (place_of places p) isa) (ap (place_of places q) isb) kid))

  local-same : (most : ℕ) (o : Option Module) (a b : LocalWire) → Contains (local_wires_of most modules o) a → Contains (local_wires_of most modules o) b → a.to ≡ b.to → a ≡ b
  local-same most None a b hasa hasb to = absurd (All-contains (λ (x : LocalWire). ⊥) [] a (All-nil (λ (x : LocalWire). ⊥)) hasa)
  local-same most (Some m) a b hasa hasb to = by_leaf m.leaf hasa hasb
    where
      by_leaf : (leaf : Bool) → Contains (if leaf then [] else local_wires most modules m) a → Contains (if leaf then [] else local_wires most modules m) b → a ≡ b
      by_leaf true hasa hasb = absurd (All-contains (λ (x : LocalWire). ⊥) [] a (All-nil (λ (x : LocalWire). ⊥)) hasa)
      by_leaf false hasa hasb = wire-of modules m most a b hasa hasb to

  -- no two wires of the tree end at one pin
  pub end-apart : (most : ℕ) → EndApart (all_wires most modules places pins)
  end-apart most w x hasw hasx same =
      let first = All-contains (IsWireOf most) (all_wires most modules places pins) w (wires-of most) hasw in
      let second = All-contains (IsWireOf most) (all_wires most modules places pins) x (wires-of most) hasx in
      let pins-same : pin_number places pins first.place first.local.to ≡ pin_number places pins second.place second.local.to = ap (λ y. y.to.0) first.is ∙ (same ∙ sym (ap (λ y. y.to.0) second.is)) in
      let both = same-pin first.place second.place first.local.to second.local.to first.at.to second.at.to pins-same in
      let has : Contains (local_wires_of most modules (module_of modules (place_at places first.place))) second.local =
      subst (λ q. Contains (local_wires_of most modules (module_of modules (place_at places q))) second.local) (sym both.0) second.has in
      let locals : first.local ≡ second.local = local-same most (module_of modules (place_at places first.place)) first.local second.local first.has has both.1 in
      sym first.is ∙ (ap (wire_at places pins first.place) locals ∙ (ap (λ q. wire_at places pins q second.local) both.0 ∙ second.is))
