-- The numbers of pins: those of a place stand together, in the order of its module's port bits.
use Rattle.std.specs.Prelude.{◌≡◌, ℕ, ◌<◌, ◌≤◌, ◌+◌, ◌-◌, ◌==◌, Bool, true, false, List, [], ◌∷◌, ◌++◌, map, flat_map, length, Option, Some, None, All, AllPairs, slice_index_or, zero, suc}
use Rattle.std.specs.List.{position_from, range_with_len}
use Rattle.std.proofs.Common.{arith, sym, ◌∙◌, refl, ap, subst, eq-eqb}
use Rattle.std.proofs.lemmas.Bool.Decides.{Decides-eqb}
use Rattle.std.proofs.lemmas.List.{length-map}
use Rattle.std.proofs.lemmas.List.Elements.{All-nil, All-head, All-tail, All-map, All-weaker}
use Rattle.std.proofs.lemmas.Grind.{flat_map-append}
use Rattle.bud_syntax.specs.declared.modules.Module.{Module}
use Rattle.bud_syntax.specs.declared.modules.Dir.TheVariants.{Input}
use Rattle.bud_design.specs.declared.designs.Place.{Place}
use Rattle.bud_design.specs.declared.designs.Pin.{Pin}
use Rattle.bud_design.specs.Designs.{place_at, pin_at}
use Rattle.bud_design.specs.Names.{printed}
use Rattle.module_nets.specs.Nets.{PortBit, port_bits}
use Rattle.elaborations.specs.Elaborations.{first_pin, or_zero, module_of, pins_at}
use Rattle.elaborations.specs.Walks.{IsInstanceTree, pins_in, pins_of_module}
use Rattle.elaborations.proofs.Lists.{All-flat_map, AllPairs-append, flat_map-at, comes-from, range-append}

abbrev pub no_bit : PortBit
no_bit = record { port = []; bit = None; dir = Input }

abbrev no_pin : Pin
no_pin = record { place = 0; port = []; bit = None; dir = Input }

abbrev pub pin_of : ℕ → PortBit → Pin
pin_of place b = record { place = place; port = printed b.port; bit = b.bit; dir = b.dir }

map-at : {X Y : Type 0} (f : X → Y) (xs : List X) (k : ℕ) (d : X) (e : Y) → k < length xs → slice_index_or (map f xs) k e ≡ f (slice_index_or xs k d)
map-at f [] k d e below = absurd (omega (arith, below))
map-at f (x ∷ xs) zero d e below = refl
map-at f (x ∷ xs) (suc k) d e below = map-at f xs k d e (omega (arith, below))

-- the pins of a place stand at it
in-its-place : (p : ℕ) (o : Option Module) → All (λ v. v.place ≡ p) (pins_of_module p o)
in-its-place p None = All-nil (λ v. v.place ≡ p)
in-its-place p (Some m) = All-map (λ v. v.place ≡ p) (pin_of p) (port_bits m) (λ k d below. refl)

-- the first that passes stands behind those that don't
position-behind : {X : Type 0} (test : X → Bool) (n : ℕ) (xs ys : List X) → All (λ x. test x ≡ false) xs → position_from test n (xs ++ ys) ≡ position_from test (n + length xs) ys
position-behind test n [] ys none = ap (λ k. position_from test k ys) (omega arith)
position-behind test n (x ∷ xs) ys none =
    rw (All-head (λ x. test x ≡ false) x xs none)
    (position-behind test (n + 1) xs ys (All-tail (λ x. test x ≡ false) x xs none) ∙ ap (λ k. position_from test k ys) (omega arith))

module _ (modules : List Module) (places : List Place) where
  -- how many pins stand before those of a place
  abbrev pub pins_before : ℕ → ℕ
  pins_before p = length (flat_map (pins_in modules places) (range_with_len 0 p))

  pub pins-of-all : (n : ℕ) → All (λ v. v.place < n) (flat_map (pins_in modules places) (range_with_len 0 n))
  pins-of-all n = All-flat_map (λ v. v.place < n) (pins_in modules places) 0 n
      (λ p least most. All-weaker (λ v. v.place ≡ p) (λ v. v.place < n) (λ v is. omega (arith, is, most)) (pins_in modules places p) (in-its-place p (module_of modules (place_at places p))))

  pub pins-together : (a n : ℕ) → AllPairs (λ u v. u.place ≤ v.place) (flat_map (pins_in modules places) (range_with_len a n))
  pins-together a zero = λ i j d less below. absurd (omega (arith, less, below))
  pins-together a (suc n) =
      let here = in-its-place a (module_of modules (place_at places a)) in
      AllPairs-append (λ u v. u.place ≤ v.place) (pins_in modules places a) (flat_map (pins_in modules places) (range_with_len (a + 1) n))
      (λ i j d less below. omega (arith, here i d (omega (arith, less, below)), here j d below))
      (pins-together (a + 1) n)
      (All-weaker (λ v. v.place ≡ a) (λ u. All (λ v. u.place ≤ v.place) (flat_map (pins_in modules places) (range_with_len (a + 1) n)))
      (λ u is. All-flat_map (λ v. u.place ≤ v.place) (pins_in modules places) (a + 1) n
      (λ p least most. All-weaker (λ v. v.place ≡ p) (λ v. u.place ≤ v.place) (λ v at. omega (arith, at, is, least)) (pins_in modules places p) (in-its-place p (module_of modules (place_at places p)))))
      (pins_in modules places a) here)

  -- the number of the first pin of a place that has one
  first-of : (n p : ℕ) → p < n → 0 < length (pins_in modules places p) → first_pin (flat_map (pins_in modules places) (range_with_len 0 n)) p ≡ pins_before p
  first-of n p less some = by_rest (n - (p + 1)) (omega (arith, less))
    where
      at_first : (v : Pin) (vs : List Pin) (k : ℕ) → v.place ≡ p → position_from (λ v. v.place == p) k (v ∷ vs) ≡ Some k
      at_first v vs k is = rw (eq-eqb v.place p is) refl

      begins : (vs back : List Pin) (k : ℕ) → 0 < length vs → All (λ v. v.place ≡ p) vs → position_from (λ v. v.place == p) k (vs ++ back) ≡ Some k
      begins [] back k some all = absurd (omega (arith, some))
      begins (v ∷ vs) back k some all = at_first v (vs ++ back) k (All-head (λ v. v.place ≡ p) v vs all)

      other : (v : Pin) → v.place < p → (v.place == p) ≡ false
      other v low = by_test (v.place == p) refl
        where
          by_test : (b : Bool) → (v.place == p) ≡ b → b ≡ false
          by_test true is = absurd (omega (arith, low, (Decides-eqb v.place p).0 is))
          by_test false is = refl

      by_rest : (r : ℕ) → n ≡ p + suc r → first_pin (flat_map (pins_in modules places) (range_with_len 0 n)) p ≡ pins_before p
      by_rest r same =
          let front = flat_map (pins_in modules places) (range_with_len 0 p) in
          let back = flat_map (pins_in modules places) (range_with_len (p + 1) r) in
          let whole : flat_map (pins_in modules places) (range_with_len 0 n) ≡ front ++ (pins_in modules places p ++ back) =
          ap (λ n. flat_map (pins_in modules places) (range_with_len 0 n)) same ∙ (ap (flat_map (pins_in modules places)) (range-append 0 p (suc r))
          ∙ (flat_map-append (pins_in modules places) (range_with_len 0 p) (range_with_len (0 + p) (suc r)) ∙ ap (λ q. front ++ flat_map (pins_in modules places) (range_with_len q (suc r))) (zero_plus p))) in
          ap (λ vs. first_pin vs p) whole
          ∙ ap or_zero (position-behind (λ v. v.place == p) 0 front (pins_in modules places p ++ back) (All-weaker (λ v. v.place < p) (λ v. (v.place == p) ≡ false) other front (pins-of-all p))
          ∙ (begins (pins_in modules places p) back (0 + length front) some (in-its-place p (module_of modules (place_at places p))) ∙ ap (λ k. Some k) (zero_plus (length front))))
        where
          zero_plus : (k : ℕ) → 0 + k ≡ k
          zero_plus k = omega arith

  -- the pin of a place's k-th port bit
  pub record IsPinOf (n p k : ℕ) (m : Module) : Type 0 where
    pub within : first_pin (flat_map (pins_in modules places) (range_with_len 0 n)) p + k < length (flat_map (pins_in modules places) (range_with_len 0 n))
    pub is : pin_at (flat_map (pins_in modules places) (range_with_len 0 n)) (first_pin (flat_map (pins_in modules places) (range_with_len 0 n)) p + k) ≡ pin_of p (slice_index_or (port_bits m) k no_bit)

  pub pin-of : (n p k : ℕ) (m : Module) → p < n → module_of modules (place_at places p) ≡ Some m → k < length (port_bits m) → IsPinOf n p k m
  pin-of n p k m less called below =
      let pins : pins_in modules places p ≡ pins_at p m = ap (pins_of_module p) called in
      let long : length (pins_in modules places p) ≡ length (port_bits m) = ap length pins ∙ length-map (port_bits m) (pin_of p) in
      let at = flat_map-at (pins_in modules places) 0 p n k no_pin less (subst (λ q. k < length (pins_in modules places q)) (zero_plus p) (omega (arith, below, long))) in
      let first = first-of n p less (omega (arith, below, long)) in
      record {
        within = omega (arith, first, at.0);
        is = ap (λ q. pin_at (flat_map (pins_in modules places) (range_with_len 0 n)) (q + k)) first ∙ (at.1
            ∙ (ap (λ q. slice_index_or (pins_in modules places q) k no_pin) (sym (zero_plus p)) ∙ (ap (λ vs. slice_index_or vs k no_pin) pins ∙ map-at (pin_of p) (port_bits m) k no_bit no_pin below)));
      }
    where
      zero_plus : (k : ℕ) → k ≡ 0 + k
      zero_plus k = omega arith

-- the place, the module and the port bit that a pin is of
pub record IsFromPlace (modules : List Module) (places : List Place) (pins : List Pin) (v : ℕ) : Type 0 where
  pub place : ℕ
  pub less : place < length places
  pub «module» : Module
  pub called : module_of modules (place_at places place) ≡ Some «module»
  pub number : ℕ
  pub below : number < length (port_bits «module»)
  pub at : v ≡ first_pin pins place + number
  pub is : pin_at pins v ≡ pin_of place (slice_index_or (port_bits «module») number no_bit)

pub pins-from-place : (modules : List Module) (places : List Place) (pins : List Pin) → IsInstanceTree modules places pins → (v : ℕ) → v < length pins → IsFromPlace modules places pins v
pins-from-place modules places pins tree v below =
    let whole = flat_map (pins_in modules places) (range_with_len 0 (length places)) in
    let from = comes-from (pins_in modules places) 0 (length places) v (subst (λ ps. v < length ps) tree.pins_are below) in
    let filled = tree.filled from.number from.less in
    let inside : from.place < length (pins_in modules places from.number) = subst (λ q. from.place < length (pins_in modules places q)) (sym (zero_plus from.number)) from.below in
    let long : length (pins_in modules places from.number) ≡ length (port_bits filled.«module») =
    ap (λ o. length (pins_of_module from.number o)) filled.is_of.called ∙ length-map (port_bits filled.«module») (pin_of from.number) in
    let short : from.place < length (port_bits filled.«module») = omega (arith, inside, long) in
    let first = first-of modules places (length places) from.number from.less (omega (arith, inside)) in
    let at : v ≡ first_pin whole from.number + from.place = from.is ∙ ap (λ k. k + from.place) (sym first) in
    let its = pin-of modules places (length places) from.number from.place filled.«module» from.less filled.is_of.called short in
    subst (λ ps. IsFromPlace modules places ps v) (sym tree.pins_are) (record {
      place = from.number;
      less = from.less;
      «module» = filled.«module»;
      called = filled.is_of.called;
      number = from.place;
      below = short;
      at = at;
      is = ap (pin_at whole) at ∙ its.is;
    })
  where
    zero_plus : (k : ℕ) → k ≡ 0 + k
    zero_plus k = omega arith
