-- A timing that is bound keeps what every timing does.
use Rattle.std.specs.List.{All, AllZip, list_any, range_with_len}
use Rattle.std.specs.Option.{option_or}
use Rattle.std.proofs.Common.{◌≡◌, ℕ, ◌<◌, ◌==◌, ◌&&◌, not, Bool, true, false, cond, List, [], ◌∷◌, length, map, filter, get_or, unwrap_or, Option, Some, None, ℤ, pos, ◌≤ℤ◌, int_le, int_lt, negsuc, ◌||◌, refl, sym, ap, subst, ◌∙◌, arith, true≢false}
use Rattle.std.proofs.lemmas.Int.{ints}
use Rattle.std.proofs.lemmas.Bool.{eqb-true, eq-eqb}
use Rattle.std.proofs.lemmas.Option.{same_Some, none-some}
use Rattle.std.proofs.lemmas.Slice.Zip.{AllZip-long}
use Rattle.std.proofs.lemmas.List.Elements.{All-nil, All-cons, All-head, All-tail, All-weaker, All-filter}
use Rattle.std.proofs.lemmas.List.Folds.{Any-from_list_any, list_any_at, list_any_none}
use Rattle.std.proofs.lemmas.List.FromFn.{length-range_with_len, get_or-range_with_len}
use Rattle.bud_base.proofs.FindLemmas.{find-none, option_or-none, option_map-none}
use Rattle.bud_syntax.specs.declared.edges.Edge.{Edge}
use Rattle.bud_design.specs.declared.designs.Wire.{Wire}
use Rattle.bud_design.specs.declared.timings.Pair.{Pair}
use Rattle.bud_design.specs.declared.timings.Check.{Check}
use Rattle.bud_design.specs.declared.timings.LaunchEdge.{LaunchEdge}
use Rattle.bud_design.specs.declared.timings.Timing.{Timing}
use Rattle.bud_design.specs.Arcs.{is_clocked}
use Rattle.bud_design.specs.Designs.{Design, pin_at, bits_of, is_input}
use Rattle.bud_design.specs.DesignRules.{IsDesign}
use Rattle.bud_design.specs.Lists.{first_some, greater, greatest}
use Rattle.bud_design.specs.TimingRules.{IsDelay, IsSoundPair, StartsInLeaf, IsSoundCheck, IsSoundTiming}
use Rattle.net_delays.specs.Alongs.{ending_at}
use Rattle.net_delays.specs.Nets.{number_into, sum_into, IsRest, IsWireDelay, AreWireDelays, HasNegativeRest, HaveRoom}
use Rattle.net_delays.specs.declared.alongs.Along.{Along}
use Rattle.registers.specs.Registers.{is_clock_pin, launch_edge, has_edge, both_or, unless_one, mixed_edge, latch, register_fault, IsLaunchEdge, IsCheck, IsPair}
use Rattle.registers.specs.declared.entries.Through.{Through}
use Rattle.registers.specs.declared.entries.Setup.{Setup}
use Rattle.delay_bind.specs.Entries.{Entries, named_fault, refusal_of}
use Rattle.delay_bind.specs.Binding.{IsMade}
use Rattle.delay_bind.specs.Leaves.{IsLeafPin, StandsInLeaves, IsSoundThrough, IsSoundSetup, IsSoundNet, AreSoundEntries}

-- what holds of each element of two lists holds of those of the second
All-zipped : {A B : Type 0} (R : A → B → Type 0) (P : A → Type 0) (Q : B → Type 0) → ((a : A) (b : B) → P a → R a b → Q b) → (xs : List A) (ys : List B) → All P xs → AllZip R xs ys → All Q ys
All-zipped R P Q step [] [] each zip = All-nil Q
All-zipped R P Q step [] (y ∷ ys) each zip = absurd zip
All-zipped R P Q step (x ∷ xs) [] each zip = absurd zip
All-zipped R P Q step (x ∷ xs) (y ∷ ys) each zip = All-cons Q y ys (step x y (All-head P x xs each) zip.0) (All-zipped R P Q step xs ys (All-tail P x xs each) zip.1)

-- the greatest of some numbers is one of them
greatest-such : (P : ℤ → Type 0) (zs : List ℤ) (v : ℤ) → All P zs → greatest zs ≡ Some v → P v
greatest-such P [] v each e = absurd (none-some v e)
greatest-such P (z ∷ zs) v each e = subst P (same_Some (greater z (greatest zs)) v e) (by_rest (greatest zs) (λ y is. greatest-such P zs y (All-tail P z zs each) is))
  where
    by_test : (y : ℤ) (b : Bool) → P y → P (cond b y z)
    by_test y true such = such
    by_test y false such = All-head P z zs each

    by_rest : (o : Option ℤ) → ((y : ℤ) → o ≡ Some y → P y) → P (greater z o)
    by_rest None rest = All-head P z zs each
    by_rest (Some y) rest = by_test y (int_le z y) (rest y refl)

greatest-or : (P : ℤ → Type 0) (zs : List ℤ) → All P zs → P (pos 0) → P (unwrap_or (greatest zs) (pos 0))
greatest-or P zs each zero_is = by_value (greatest zs) refl
  where
    by_value : (o : Option ℤ) → greatest zs ≡ o → P (unwrap_or o (pos 0))
    by_value None e = zero_is
    by_value (Some v) e = greatest-such P zs v each e

-- one of the elements that pass gives the greatest number
pub record IsOneOf {X : Type 0} (p : X → Bool) (f : X → ℤ) (Q : X → Type 0) (v : ℤ) : Type 0 where
  pub one : X
  pub passes : p one ≡ true
  pub gives : f one ≡ v
  pub such : Q one

module _ {X : Type 0} (p : X → Bool) (f : X → ℤ) (Q : X → Type 0) where
  all-passing : (xs : List X) → All Q xs → All (IsOneOf p f Q) (map f (filter p xs))
  all-passing [] each = All-nil (IsOneOf p f Q)
  all-passing (x ∷ xs) each = by_test (p x) refl (all-passing xs (All-tail Q x xs each))
    where
      by_test : (b : Bool) → p x ≡ b → All (IsOneOf p f Q) (map f (filter p xs)) → All (IsOneOf p f Q) (map f (cond b (x ∷ filter p xs) (filter p xs)))
      by_test true is rest = All-cons (IsOneOf p f Q) (f x) (map f (filter p xs)) (record { one = x; passes = is; gives = refl; such = All-head Q x xs each }) rest
      by_test false is rest = rest

  pub greatest-passing : (xs : List X) (v : ℤ) → All Q xs → greatest (map f (filter p xs)) ≡ Some v → IsOneOf p f Q v
  greatest-passing xs v each e = greatest-such (IsOneOf p f Q) (map f (filter p xs)) v (all-passing xs each) e

-- some element of a list that passes
any-such : {X : Type 0} (p : X → Bool) (Q : X → Type 0) (xs : List X) → All Q xs → list_any p xs ≡ true → (x : X) × ((p x ≡ true) × Q x)
any-such p Q xs each has =
    let found = Any-from_list_any p xs has in
    (found.1, (found.4, subst Q found.3 (each found.0 found.1 found.2)))

pub and-both : (a b : Bool) → a && b ≡ true → (a ≡ true) × (b ≡ true)
and-both true b both = (refl, both)
and-both false b both = absurd (true≢false (sym both))

not-both : (a b : Bool) → (a ≡ true → b ≡ false → ⊥) → b ≡ false → a ≡ false
not-both true b never is = absurd (never refl is)
not-both false b never is = refl

by-truth : (b : Bool) → (b ≡ true → ⊥) → b ≡ false
by-truth true never = absurd (never refl)
by-truth false never = refl

not-false : (b : Bool) → not b ≡ true → b ≡ false
not-false true e = absurd (true≢false (sym e))
not-false false e = refl

-- 1. the delays of wires
no-negative : (rests : List ℤ) → list_any (λ z. int_lt z (pos 0)) rests ≡ false → All (λ z. pos 0 ≤ℤ z) rests
no-negative [] none = All-nil (λ z. pos 0 ≤ℤ z)
no-negative (z ∷ zs) none = by_test (int_lt z (pos 0)) refl none (no-negative zs)
  where
    by_test : (b : Bool) → int_lt z (pos 0) ≡ b → (b || list_any (λ y. int_lt y (pos 0)) zs) ≡ false → (list_any (λ y. int_lt y (pos 0)) zs ≡ false → All (λ y. pos 0 ≤ℤ y) zs) → All (λ y. pos 0 ≤ℤ y) (z ∷ zs)
    by_test true is quiet rest = absurd (true≢false quiet)
    by_test false is quiet rest = All-cons (λ y. pos 0 ≤ℤ y) z zs (grind (arith, ints)) (rest quiet)

number-least : (ws : List Wire) (zs : List ℤ) (v : ℕ) → All (λ z. pos 0 ≤ℤ z) zs → pos 0 ≤ℤ number_into ws zs v
number-least [] zs v each = omega (arith, ints)
number-least (w ∷ ws) [] v each = omega (arith, ints)
number-least (w ∷ ws) (z ∷ zs) v each = by_test (w.to.0 == v) (number-least ws zs v (All-tail (λ y. pos 0 ≤ℤ y) z zs each))
  where
    by_test : (b : Bool) → pos 0 ≤ℤ number_into ws zs v → pos 0 ≤ℤ cond b z (number_into ws zs v)
    by_test true rest = All-head (λ y. pos 0 ≤ℤ y) z zs each
    by_test false rest = rest

sum-least : (d : Design) (zs : List ℤ) (vs : List ℕ) → All (λ z. pos 0 ≤ℤ z) zs → pos 0 ≤ℤ sum_into d zs vs
sum-least d zs [] each = omega (arith, ints)
sum-least d zs (v ∷ vs) each = (let first = number-least d.wires zs v each in let rest = sum-least d zs vs each in omega (arith, ints, first, rest))

module _ (d : Design) (alongs : List Along) (numbers : List ℤ) (sound : All (IsSoundNet d) alongs) (delays : AreWireDelays d alongs numbers) (room : HaveRoom d alongs numbers) where
  wire-least : (w : Wire) (z : ℤ) → (HasNegativeRest d alongs numbers w.to.0 → ⊥) → IsWireDelay d alongs numbers w.to.0 z → pos 0 ≤ℤ z
  wire-least w z quiet delay =
      let none = by-truth (list_any (λ y. int_lt y (pos 0)) delay.rests) (λ some. quiet (record { rests = delay.rests; are_rests = delay.are_rests; negative = some })) in
      subst (λ y. pos 0 ≤ℤ y) (sym delay.number_is) (greatest-or (λ y. pos 0 ≤ℤ y) delay.rests (no-negative delay.rests none) (omega (arith, ints)))

  all-least : All (λ z. pos 0 ≤ℤ z) numbers
  all-least = All-zipped (λ (w : Wire) z. IsWireDelay d alongs numbers w.to.0 z) (λ w. HasNegativeRest d alongs numbers w.to.0 → ⊥) (λ z. pos 0 ≤ℤ z) wire-least d.wires numbers room delays

  rest-most : (x : Along) (z : ℤ) → IsSoundNet d x → IsRest d numbers x z → z ≤ℤ pos 1000000000
  rest-most x z one rest =
      let before = sum-least d numbers rest.before all-least in
      let is = rest.rest_is in
      let high = one.time.high in
      omega (arith, ints, before, is, high)

  wire-most : (w : Wire) (z : ℤ) → Unit {0} → IsWireDelay d alongs numbers w.to.0 z → z ≤ℤ pos 1000000000
  wire-most w z any delay =
      subst (λ y. y ≤ℤ pos 1000000000) (sym delay.number_is)
      (greatest-or (λ y. y ≤ℤ pos 1000000000) delay.rests
      (All-zipped (IsRest d numbers) (IsSoundNet d) (λ y. y ≤ℤ pos 1000000000) rest-most (ending_at alongs w.to.0) delay.rests (All-filter (λ (x : Along). x.to.0 == w.to.0) (IsSoundNet d) alongs sound) delay.are_rests)
      (omega (arith, ints)))

  all-most : All (λ z. z ≤ℤ pos 1000000000) numbers
  all-most = All-zipped (λ (w : Wire) z. IsWireDelay d alongs numbers w.to.0 z) (λ w. Unit {0}) (λ z. z ≤ℤ pos 1000000000) wire-most d.wires numbers (λ k e below. tt) delays

  wires-sound : All IsDelay numbers
  wires-sound = λ k e below. record { low = all-least k e below; high = all-most k e below }

-- 2. no register is refused
first_some-none : {X Y : Type 0} (f : X → Option Y) (xs : List X) → first_some f xs ≡ None → All (λ x. f x ≡ None) xs
first_some-none f [] e = All-nil (λ x. f x ≡ None)
first_some-none f (x ∷ xs) e = (let parts = option_or-none (f x) (first_some f xs) e in All-cons (λ y. f y ≡ None) x xs parts.0 (first_some-none f xs parts.1))

in-range : (P : ℕ → Type 0) (n v : ℕ) → All P (range_with_len 0 n) → v < n → P v
in-range P n v each below =
    let is : get_or (range_with_len 0 n) v 0 ≡ v = omega (arith, get_or-range_with_len 0 n v 0 below) in
    subst P is (each v 0 (let size = length-range_with_len 0 n in omega (arith, below, size)))

passing-all : {X : Type 0} (p : X → Bool) (P : X → Type 0) (xs : List X) → All P (filter p xs) → All (λ x. p x ≡ true → P x) xs
passing-all p P [] each = All-nil (λ x. p x ≡ true → P x)
passing-all p P (x ∷ xs) each = by_test (p x) refl each (passing-all p P xs)
  where
    by_test : (b : Bool) → p x ≡ b → All P (cond b (x ∷ filter p xs) (filter p xs)) → (All P (filter p xs) → All (λ y. p y ≡ true → P y) xs) → All (λ y. p y ≡ true → P y) (x ∷ xs)
    by_test true is all rest = All-cons (λ y. p y ≡ true → P y) x xs (λ passes. All-head P x (filter p xs) all) (rest (All-tail P x (filter p xs) all))
    by_test false is all rest = All-cons (λ y. p y ≡ true → P y) x xs (λ passes. absurd (true≢false (sym passes ∙ is))) (rest all)

module _ (d : Design) (design : IsDesign d) (e : Entries) (sound : AreSoundEntries d e) where
  clock-such : (v : ℕ) → is_clock_pin e.setups v ≡ true → (s : Setup) × ((s.clock.0 ≡ v) × IsSoundSetup d s)
  clock-such v clock = (let found = any-such (λ (s : Setup). s.clock.0 == v) (IsSoundSetup d) e.setups sound.setups clock in (found.0, (eqb-true found.0.clock.0 v found.1.0, found.1.1)))

  clock-within : (v : ℕ) → is_clock_pin e.setups v ≡ true → v < length d.pins
  clock-within v clock = (let found = clock-such v clock in subst (λ u. u < length d.pins) found.1.0 found.1.1.within.clock)

  clock-leaf : (v : ℕ) → is_clock_pin e.setups v ≡ true → IsLeafPin d v
  clock-leaf v clock = (let found = clock-such v clock in subst (IsLeafPin d) found.1.0 found.1.1.clock_leaf)

  -- a clock pin has a launch edge
  has-edge : refusal_of d e ≡ None → (v : ℕ) → is_clock_pin e.setups v ≡ true → (edge : Edge) × (launch_edge e.throughs e.setups v ≡ Some edge)
  has-edge none v clock =
      let below = clock-within v clock in
      let quiet : register_fault d e.throughs e.setups ≡ None = option_map-none (named_fault d) (register_fault d e.throughs e.setups) none in
      let place = (pin_at d.pins v).place in
      let inside : place < length d.places = design.in_places v _ below in
      let here = in-range (λ p. option_or (first_some (mixed_edge e.throughs e.setups) (bits_of d p)) (latch d e.throughs e.setups p) ≡ None) (length d.places) place (first_some-none _ (range_with_len 0 (length d.places)) quiet) inside in
      let bits = first_some-none (mixed_edge e.throughs e.setups) (bits_of d place) (option_or-none _ (latch d e.throughs e.setups place) here).0 in
      let mine = in-range (λ u. ((pin_at d.pins u).place == place) ≡ true → mixed_edge e.throughs e.setups u ≡ None) (length d.pins) v (passing-all (λ u. (pin_at d.pins u).place == place) (λ u. mixed_edge e.throughs e.setups u ≡ None) (range_with_len 0 (length d.pins)) bits) below
      (eq-eqb place place refl) in
      by_edge (launch_edge e.throughs e.setups v) (subst (λ b. cond b (unless_one v (launch_edge e.throughs e.setups v)) None ≡ None) clock mine)
    where
      by_edge : (o : Option Edge) → unless_one v o ≡ None → (edge : Edge) × (o ≡ Some edge)
      by_edge None one = absurd (none-some _ (sym one))
      by_edge (Some edge) one = (edge, refl)

  -- 3. pairs
  module _ (t : Timing) (made : IsMade d e t) where
    pair-one : (x : Pair) → IsPair d e.throughs e.setups x → IsOneOf (λ (u : Through). u.from.0 == x.from.0 && u.to.0 == x.to.0) (λ (u : Through). u.value) (IsSoundThrough d) x.value
    pair-one x is = greatest-passing (λ (u : Through). u.from.0 == x.from.0 && u.to.0 == x.to.0) (λ (u : Through). u.value) (IsSoundThrough d) e.throughs x.value sound.throughs is.value

    pair-sound : (x : Pair) → IsPair d e.throughs e.setups x → int_lt x.value (pos 0) ≡ false → IsSoundPair d x
    pair-sound x is least =
        let found = pair-one x is in
        let ends = and-both (found.one.from.0 == x.from.0) (found.one.to.0 == x.to.0) found.passes in
        record {
          from = subst (λ v. v < length d.pins) (eqb-true found.one.from.0 x.from.0 ends.0) found.such.within.from;
          to = subst (λ v. v < length d.pins) (eqb-true found.one.to.0 x.to.0 ends.1) found.such.within.to;
          value = record { low = grind (arith, ints); high = subst (λ z. z ≤ℤ pos 1000000000) found.gives found.such.time.high };
        }

    pair-starts : (x : Pair) → IsPair d e.throughs e.setups x → StartsInLeaf d x
    pair-starts x is =
        let found = pair-one x is in
        let ends = and-both (found.one.from.0 == x.from.0) (found.one.to.0 == x.to.0) found.passes in
        let from = eqb-true found.one.from.0 x.from.0 ends.0 in
        record {
          leaf = subst (IsLeafPin d) from found.such.leaf;
          input = subst (λ v. is_input (pin_at d.pins v).dir ≡ true) from found.such.input;
        }

    pub StartsInLeaf-made : All (StartsInLeaf d) t.pairs
    StartsInLeaf-made = All-weaker (IsPair d e.throughs e.setups) (StartsInLeaf d) pair-starts t.pairs made.timing.pairs.sound

    pairs-sound : All (IsSoundPair d) t.pairs
    pairs-sound =
        let least = find-none (λ (x : Pair). int_lt x.value (pos 0)) t.pairs made.delays in
        λ k x below. pair-sound (get_or t.pairs k x) (made.timing.pairs.sound k x below) (least k x below)

    -- 4. checks and clock pins
    check-one : (x : Check) → IsCheck e.setups x → IsOneOf (λ (s : Setup). s.pin.0 == x.pin.0 && (s.clock.0 == x.clock.0 && has_edge x.edge (both_or s.edge))) (λ (s : Setup). s.value) (λ s. IsSoundSetup d s × (is_clock_pin e.setups s.clock.0 ≡ true)) x.amount
    check-one x is =
        greatest-passing (λ (s : Setup). s.pin.0 == x.pin.0 && (s.clock.0 == x.clock.0 && has_edge x.edge (both_or s.edge))) (λ (s : Setup). s.value) (λ s. IsSoundSetup d s × (is_clock_pin e.setups s.clock.0 ≡ true)) e.setups x.amount
        (λ k s below. (sound.setups k s below, list_any_at (λ (u : Setup). u.clock.0 == (get_or e.setups k s).clock.0) e.setups k s below (eq-eqb (get_or e.setups k s).clock.0 (get_or e.setups k s).clock.0 refl)))
        is.amount

    clocked : (v : ℕ) → is_clock_pin e.setups v ≡ true → is_clocked t v ≡ true
    clocked v clock =
        let edge = has-edge made.registers v clock in
        let x : LaunchEdge = record { pin = record { 0 = v }; edge = edge.0 } in
        let stands = made.timing.edges.complete x (record { clock_pin = clock; edge = edge.1 }) in
        list_any_at (λ (y : LaunchEdge). y.pin.0 == v) t.edges stands.0 x stands.1 (eq-eqb (get_or t.edges stands.0 x).pin.0 v (ap (λ (y : LaunchEdge). y.pin.0) stands.2))

    not-clocked : (v : ℕ) → is_clock_pin e.setups v ≡ false → is_clocked t v ≡ false
    not-clocked v none = list_any_none (λ (y : LaunchEdge). y.pin.0 == v) t.edges (λ k y below. by-truth ((get_or t.edges k y).pin.0 == v) (λ same.
        true≢false (sym (made.timing.edges.sound k y below).clock_pin ∙ (ap (is_clock_pin e.setups) (eqb-true (get_or t.edges k y).pin.0 v same) ∙ none))))

    check-sound : (x : Check) → IsCheck e.setups x → IsSoundCheck d t x
    check-sound x is =
        let found = check-one x is in
        let pins = and-both (found.one.pin.0 == x.pin.0) (found.one.clock.0 == x.clock.0 && has_edge x.edge (both_or found.one.edge)) found.passes in
        let clocks = and-both (found.one.clock.0 == x.clock.0) (has_edge x.edge (both_or found.one.edge)) pins.1 in
        let data_parts = and-both _ (not (is_clock_pin e.setups x.pin.0)) is.data_pin in
        record {
          pin = subst (λ v. v < length d.pins) (eqb-true found.one.pin.0 x.pin.0 pins.0) found.such.0.within.pin;
          at_data_pin = not-clocked x.pin.0 (not-false (is_clock_pin e.setups x.pin.0) data_parts.1);
          clock = clocked x.clock.0 (subst (λ v. is_clock_pin e.setups v ≡ true) (eqb-true found.one.clock.0 x.clock.0 clocks.0) found.such.1);
          low = subst (λ z. negsuc 999999999 ≤ℤ z) found.gives found.such.0.time.low;
          high = subst (λ z. z ≤ℤ pos 1000000000) found.gives found.such.0.time.high;
        }

    check-leaf : (x : Check) → IsCheck e.setups x → IsLeafPin d x.pin.0
    check-leaf x is =
        let found = check-one x is in
        let pins = and-both (found.one.pin.0 == x.pin.0) (found.one.clock.0 == x.clock.0 && has_edge x.edge (both_or found.one.edge)) found.passes in
        subst (IsLeafPin d) (eqb-true found.one.pin.0 x.pin.0 pins.0) found.such.0.pin_leaf

    pub StandsInLeaves-made : StandsInLeaves d t
    StandsInLeaves-made = record {
      checks = All-weaker (IsCheck e.setups) (λ (x : Check). IsLeafPin d x.pin.0) check-leaf t.checks made.timing.checks.sound;
      edges = All-weaker (IsLaunchEdge e.throughs e.setups) (λ (x : LaunchEdge). IsLeafPin d x.pin.0) (λ x is. clock-leaf x.pin.0 is.clock_pin) t.edges made.timing.edges.sound;
    }

    pub IsSoundTiming-made : IsSoundTiming d t
    IsSoundTiming-made = record {
      one_each = AllZip-long (λ (w : Wire) z. IsWireDelay d e.alongs t.wires w.to.0 z) d.wires t.wires made.timing.wires;
      wires = wires-sound d e.alongs t.wires sound.alongs made.timing.wires made.rests;
      pairs = pairs-sound;
      pair_order = made.timing.pairs.rising;
      checks = All-weaker (IsCheck e.setups) (IsSoundCheck d t) check-sound t.checks made.timing.checks.sound;
      check_order = made.timing.checks.rising;
      edges = All-weaker (IsLaunchEdge e.throughs e.setups) (λ (x : LaunchEdge). x.pin.0 < length d.pins) (λ x is. clock-within x.pin.0 is.clock_pin) t.edges made.timing.edges.sound;
      edge_order = made.timing.edges.rising;
    }
