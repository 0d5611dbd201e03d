-- What objects stand for is in the design, and each way that an object is judged.
use Rattle.std.proofs.Common.{◌≡◌, ℕ, ◌+◌, ◌<◌, ◌==◌, Bool, true, false, List, [], ◌∷◌, map, filter, length, get_or, Option, Some, None, Ok, Err, refl, sym, ◌∙◌, ap, subst, inl, inr, arith, ◌⊎◌}
use Rattle.std.specs.Prelude.{find, All}
use Rattle.std.specs.List.{list_all, position_from, range_with_len}
use Rattle.std.specs.Option.{option_map, option_or}
use Rattle.std.specs.Str.{bytes_eq}
use Rattle.std.proofs.lemmas.List.Elements.{All-nil, All-cons, All-head, All-tail, All-map, All-append, All-filter, All-weaker}
use Rattle.std.proofs.lemmas.List.FromFn.{length-range_with_len, get_or-range_with_len}
use Rattle.bud_base.specs.declared.ids.PinId.{PinId}
use Rattle.bud_syntax.specs.declared.constraints.Object.{Object}
use Rattle.bud_syntax.specs.declared.constraints.Object.TheVariants.{Ports, Pins, Cells, Clocks, Any, AllInputs, AllOutputs, AllClocks}
use Rattle.bud_design.specs.declared.clocks.Clock.{Clock}
use Rattle.bud_design.specs.Clocks.{clock_called}
use Rattle.bud_design.specs.Designs.{Design, pin_at, bits_of, bits_of_port, leads_vector, is_pin_of, pins_of, pin_name, place_name, named_pins, named_cells, named_ports, is_input, is_output}
use Rattle.bud_design.specs.Lists.{only}
use Rattle.bud_design.specs.Names.{Named, object_of, meaning, plain, bit_name}
use Rattle.timing_objects.specs.declared.faults.ResolveFault.TheVariants.{ClockTwice}
use Rattle.timing_objects.specs.declared.things.Role.{Role}
use Rattle.timing_objects.specs.declared.things.Role.TheVariants.{Source, Input, Output, Start, End, Through}
use Rattle.timing_objects.specs.declared.things.Thing.{Thing}
use Rattle.timing_objects.specs.declared.things.Thing.TheVariants as thing
use Rattle.timing_objects.specs.Objects.{Subject, a_pin, clock_named, port_named, cell_named, pin_named, bare_part, bare_named, object_text, meant, unknown, may_be, misfit, is_free, things_in}
use Rattle.timing_objects.specs.PortNames.{numbers}
use Rattle.timing_objects.specs.Within.{IsThingIn, IsPinIn}

-- ---- what a search gives
none-some : {X : Type 0} (x : X) {P : Type 0} → None ≡ Some x → P
none-some x e = absurd (cc)

some-same : {X : Type 0} (x y : X) → Some x ≡ Some y → x ≡ y
some-same x y e = cc

map-some : {X Y : Type 0} (f : X → Y) (o : Option X) (y : Y) → option_map f o ≡ Some y → (x : X) × ((o ≡ Some x) × (y ≡ f x))
map-some f None y e = none-some y e
map-some f (Some x) y e = (x, (refl, sym (some-same (f x) y e)))

or-some : {X : Type 0} (a b : Option X) (x : X) → option_or a b ≡ Some x → (a ≡ Some x) ⊎ (b ≡ Some x)
or-some None b x e = inr e
or-some (Some y) b x e = inl e

find-all : {X : Type 0} (P : X → Type 0) (p : X → Bool) (xs : List X) (x : X) → All P xs → find p xs ≡ Some x → P x
find-all P p [] x all found = none-some x found
find-all P p (y ∷ ys) x all found = by_test (p y) refl (find-all P p ys x (All-tail P y ys all))
  where
    by_test : (b : Bool) → p y ≡ b → (find p ys ≡ Some x → P x) → P x
    by_test true e rest = (let here : find p (y ∷ ys) ≡ Some y = rw e refl in subst P (some-same y x (sym here ∙ found)) (All-head P y ys all))
    by_test false e rest = (let later : find p (y ∷ ys) ≡ find p ys = rw e refl in rest (sym later ∙ found))

only-all : {X : Type 0} (P : X → Type 0) (xs : List X) (x : X) → All P xs → only xs ≡ Some x → P x
only-all P [] x all found = none-some x found
only-all P (y ∷ []) x all found = subst P (some-same y x found) (All-head P y [] all)
only-all P (y ∷ z ∷ zs) x all found = none-some x found

object-all : {X : Type 0} (P : X → Type 0) (o : Option (Named X)) (x : X) → ((n : Named X) → o ≡ Some n → P n.object) → object_of o ≡ Some x → P x
object-all P None x all found = none-some x found
object-all P (Some n) x all found = subst P (some-same n.object x found) (all n refl)

-- what a name means is one of the objects
pub meaning-all : {X : Type 0} (P : X → Type 0) (objects : List (Named X)) (name : List ℕ) (x : X) → All (λ o. P o.object) objects → meaning objects name ≡ Some x → P x
meaning-all P objects name x all found =
    elim (or-some (object_of (find (λ o. bytes_eq o.name name) objects)) (object_of (only (filter (λ o. bytes_eq (plain o.name) name) objects))) x found) [
      | inl by_name ↦ object-all P (find (λ o. bytes_eq o.name name) objects) x (λ n e. find-all (λ o. P o.object) (λ o. bytes_eq o.name name) objects n all e) by_name
      | inr by_plain ↦ object-all P (only (filter (λ o. bytes_eq (plain o.name) name) objects)) x
          (λ n e. only-all (λ o. P o.object) (filter (λ o. bytes_eq (plain o.name) name) objects) n (All-filter (λ o. bytes_eq (plain o.name) name) (λ o. P o.object) objects all) e) by_plain
    ]

pub position-below : {X : Type 0} (p : X → Bool) (xs : List X) (k i : ℕ) → position_from p k xs ≡ Some i → i < k + length xs
position-below p [] k i found = none-some i found
position-below p (x ∷ xs) k i found = by_test (p x) refl (position-below p xs (k + 1) i)
  where
    by_test : (b : Bool) → p x ≡ b → (position_from p (k + 1) xs ≡ Some i → i < k + 1 + length xs) → i < k + length (x ∷ xs)
    by_test true e rest = (let here : position_from p k (x ∷ xs) ≡ Some k = rw e refl in let same : k ≡ i = some-same k i (sym here ∙ found) in omega arith)
    by_test false e rest = (let later : position_from p k (x ∷ xs) ≡ position_from p (k + 1) xs = rw e refl in let below = rest (sym later ∙ found) in omega (arith, below))

-- ---- numbers in range
range-below : (n : ℕ) → All (λ v. v < n) (range_with_len 0 n)
range-below n k d below = omega (arith, get_or-range_with_len 0 n k d (omega (arith, below, length-range_with_len 0 n)), below, length-range_with_len 0 n)

pub bits-below : (d : Design) (p : ℕ) → All (λ v. v < length d.pins) (bits_of d p)
bits-below d p = All-filter (λ v. (pin_at d.pins v).place == p) (λ v. v < length d.pins) (range_with_len 0 (length d.pins)) (range-below (length d.pins))

pins-below : (d : Design) (root : ℕ) → All (λ (o : Named ℕ). o.object < length d.pins) (named_pins d root)
pins-below d root =
    All-map (λ (o : Named ℕ). o.object < length d.pins) (λ v. record { name = pin_name d root v; object = v }) (pins_of d root)
    (All-filter (is_pin_of d root) (λ v. v < length d.pins) (range_with_len 0 (length d.pins)) (range-below (length d.pins)))

cells-below : (d : Design) (root : ℕ) → All (λ (o : Named ℕ). o.object < length d.places) (named_cells d root)
cells-below d root =
    All-map (λ (o : Named ℕ). o.object < length d.places) (λ p. record { name = place_name d.places root p; object = p }) _
    (All-filter _ (λ p. p < length d.places) (range_with_len 0 (length d.places)) (range-below (length d.places)))

ports-below : (d : Design) (root : ℕ) → All (λ (o : Named (List ℕ)). All (λ v. v < length d.pins) o.object) (named_ports d root)
ports-below d root =
    All-append (λ (o : Named (List ℕ)). All (λ v. v < length d.pins) o.object) _ _
    (All-map (λ (o : Named (List ℕ)). All (λ v. v < length d.pins) o.object) (λ v. record { name = bit_name (pin_at d.pins v).port (pin_at d.pins v).bit; object = v ∷ [] }) (bits_of d root)
    (All-weaker (λ v. v < length d.pins) (λ v. All (λ u. u < length d.pins) (v ∷ [])) (λ v below. All-cons (λ u. u < length d.pins) v [] below (All-nil (λ u. u < length d.pins))) (bits_of d root) (bits-below d root)))
    (All-map (λ (o : Named (List ℕ)). All (λ v. v < length d.pins) o.object) (λ v. record { name = (pin_at d.pins v).port; object = bits_of_port d root (pin_at d.pins v).port }) (filter (leads_vector d root) (bits_of d root))
    (λ k e below. All-filter (λ v. bytes_eq (pin_at d.pins v).port (pin_at d.pins (get_or (filter (leads_vector d root) (bits_of d root)) k e)).port) (λ v. v < length d.pins) (bits_of d root) (bits-below d root)))

-- pins by their numbers
pub unnumber : (pins : List PinId) (vs : List ℕ) → numbers pins ≡ vs → pins ≡ map (λ v. record { 0 = v }) vs
unnumber pins vs is = back pins ∙ ap (map (λ (v : ℕ). record { 0 = v })) is
  where
    back : (pins : List PinId) → pins ≡ map (λ v. record { 0 = v }) (numbers pins)
    back [] = refl
    back (v ∷ vs) = ap (λ (us : List PinId). v ∷ us) (back vs)

-- ---- what objects stand for
module _ (s : Subject) (clocks : List Clock) where
  abbrev In : Thing → Type 0
  In x = IsThingIn s.design (length clocks) x

  one-in : (x : Thing) → In x → All In (x ∷ [])
  one-in x here = All-cons In x [] here (All-nil In)

  pins-in : (vs : List ℕ) → All (λ v. v < length s.design.pins) vs → All In (map a_pin vs)
  pins-in vs below = All-map In a_pin vs below

  clock-in : (name : List ℕ) (things : List Thing) → clock_named clocks name ≡ Some things → All In things
  clock-in name things e =
      let found = map-some (λ c. thing.Clock c ∷ []) (clock_called clocks name) things e in
      let below = position-below (λ c. bytes_eq c.name name) clocks 0 found.0 found.1.0 in
      subst (All In) (sym found.1.1) (one-in (thing.Clock found.0) (omega (arith, below)))

  port-in : (name : List ℕ) (things : List Thing) → port_named s name ≡ Some things → All In things
  port-in name things e =
      let found = map-some (map a_pin) (meaning (named_ports s.design s.root) name) things e in
      subst (All In) (sym found.1.1) (pins-in found.0 (meaning-all (All (λ v. v < length s.design.pins)) (named_ports s.design s.root) name found.0 (ports-below s.design s.root) found.1.0))

  cell-in : (name : List ℕ) (things : List Thing) → cell_named s name ≡ Some things → All In things
  cell-in name things e =
      let found = map-some (λ p. thing.Cell p ∷ []) (meaning (named_cells s.design s.root) name) things e in
      subst (All In) (sym found.1.1) (one-in (thing.Cell found.0) (meaning-all (λ p. p < length s.design.places) (named_cells s.design s.root) name found.0 (cells-below s.design s.root) found.1.0))

  pin-in : (name : List ℕ) (things : List Thing) → pin_named s name ≡ Some things → All In things
  pin-in name things e =
      let found = map-some (λ v. a_pin v ∷ []) (meaning (named_pins s.design s.root) name) things e in
      subst (All In) (sym found.1.1) (one-in (a_pin found.0) (meaning-all (λ v. v < length s.design.pins) (named_pins s.design s.root) name found.0 (pins-below s.design s.root) found.1.0))

  part-in : (name : List ℕ) (things : List Thing) → bare_part s clocks name ≡ Some things → All In things
  part-in name things e = elim (or-some (clock_named clocks name) (option_or (port_named s name) (option_or (cell_named s name) (pin_named s name))) things e) [
    | inl clock ↦ clock-in name things clock
    | inr others ↦ elim (or-some (port_named s name) (option_or (cell_named s name) (pin_named s name)) things others) [
      | inl port ↦ port-in name things port
      | inr rest ↦ elim (or-some (cell_named s name) (pin_named s name) things rest) [ inl cell ↦ cell-in name things cell | inr pin ↦ pin-in name things pin ]
    ]
  ]

  bare-in : (role : Role) (name : List ℕ) (things : List Thing) → bare_named s role clocks name ≡ Some things → All In things
  bare-in Source name things e = port-in name things e
  bare-in Input name things e = port-in name things e
  bare-in Output name things e = port-in name things e
  bare-in Start name things e = part-in name things e
  bare-in End name things e = part-in name things e
  bare-in Through name things e = elim (or-some (port_named s name) (pin_named s name) things e) [ inl port ↦ port-in name things port | inr pin ↦ pin-in name things pin ]

  pub meant-in : (role : Role) (o : Object) (things : List Thing) → meant s role clocks o ≡ Some things → All (IsThingIn s.design (length clocks)) things
  meant-in role (Ports name) things e = port-in name things e
  meant-in role (Pins name) things e = pin-in name things e
  meant-in role (Cells name) things e = cell-in name things e
  meant-in role (Clocks name) things e = clock-in name things e
  meant-in role (Any name) things e = bare-in role name things e
  meant-in role AllInputs things e =
      subst (All In) (some-same _ things e) (pins-in _ (All-filter (λ v. is_input (pin_at s.design.pins v).dir) (λ v. v < length s.design.pins) (bits_of s.design s.root) (bits-below s.design s.root)))
  meant-in role AllOutputs things e =
      subst (All In) (some-same _ things e) (pins-in _ (All-filter (λ v. is_output (pin_at s.design.pins v).dir) (λ v. v < length s.design.pins) (bits_of s.design s.root) (bits-below s.design s.root)))
  meant-in role AllClocks things e =
      subst (All In) (some-same _ things e) (All-map In (λ c. thing.Clock c) (range_with_len 0 (length clocks)) (range-below (length clocks)))

  pin-of : (x : Thing) → In x → IsPinIn s.design x
  pin-of (thing.Pin v) below = below
  pin-of (thing.Cell p) below = tt
  pin-of (thing.Clock c) below = tt

  pub meant-pins : (role : Role) (o : Object) (things : List Thing) → meant s role clocks o ≡ Some things → All (IsPinIn s.design) things
  meant-pins role o things e = All-weaker In (IsPinIn s.design) pin-of things (meant-in role o things e)

  -- ---- each way that an object is judged
  pub things-unknown : (role : Role) (o : Object) → meant s role clocks o ≡ None → things_in s role clocks o ≡ Err (unknown o)
  things-unknown role o none = rw none refl

  pub things-misfit : (role : Role) (o : Object) (things : List Thing) → meant s role clocks o ≡ Some things → list_all (may_be s role) things ≡ false
      → things_in s role clocks o ≡ Err (misfit role (object_text o))
  things-misfit role o things is fits = rw (is, fits) refl

  pub things-twice : (role : Role) (o : Object) (things : List Thing) → meant s role clocks o ≡ Some things → list_all (may_be s role) things ≡ true
      → list_all (is_free role clocks) things ≡ false → things_in s role clocks o ≡ Err (ClockTwice (object_text o))
  things-twice role o things is fits free = rw (is, fits, free) refl

  pub things-ok : (role : Role) (o : Object) (things : List Thing) → meant s role clocks o ≡ Some things → list_all (may_be s role) things ≡ true
      → list_all (is_free role clocks) things ≡ true → things_in s role clocks o ≡ Ok things
  things-ok role o things is fits free = rw (is, fits, free) refl
