-- Which pin drives a load depends on the load alone.
use Rattle.std.specs.Prelude.{◌≡◌, ℕ, suc, ◌+◌, Bool, true, false, List, [], ◌∷◌, ◌++◌, map, filter_map, length, Option, Some, None, All, Contains, slice_index_or}
use Rattle.std.specs.Option.{option_map}
use Rattle.std.proofs.Common.{arith, sym, ◌∙◌, refl, ap}
use Rattle.std.proofs.lemmas.List.{append_assoc, length-append, get_or-append-add}
use Rattle.std.proofs.lemmas.List.Elements.{All-nil, All-cons, All-head, All-tail, All-append, All-contains}
use Rattle.bud_syntax.specs.declared.modules.Instance.{Instance}
use Rattle.bud_syntax.specs.declared.modules.Module.{Module}
use Rattle.bud_design.specs.Designs.{is_input, is_output}
use Rattle.module_nets.specs.Nets.{NetBit, PortBit, bit_of, port_bits, joined_bits, module_called}
use Rattle.net_drivers.specs.declared.pins.LocalPin.{LocalPin}
use Rattle.net_drivers.specs.declared.pins.LocalWire.{LocalWire}
use Rattle.net_drivers.specs.Drivers.{drives, driver, Load, load_if, own_loads, input_loads, child_loads, instance_loads, loads, local_wires, local_pin}
use Rattle.elaborations.proofs.Siblings.{no_instance}

some-same : {X : Type 0} (x y : X) → Some x ≡ Some y → x ≡ y
some-same x y same = ap (or_else x) same
  where
    or_else : {X : Type 0} → X → Option X → X
    or_else d None = d
    or_else d (Some z) = z

-- the element behind a front
seam : {X : Type 0} (whole front back : List X) (x d : X) (k : ℕ) → whole ≡ front ++ x ∷ back → k ≡ length front → slice_index_or whole k d ≡ x
seam whole front back x d k is at =
    let none : length front + 0 ≡ k = omega (arith, at) in
    ap (λ ys. slice_index_or ys k d) is ∙ (ap (λ j. slice_index_or (front ++ x ∷ back) j d) (sym none) ∙ get_or-append-add front (x ∷ back) 0 d)

snoc : {X : Type 0} (whole front : List X) (x : X) (back : List X) → whole ≡ front ++ x ∷ back → whole ≡ (front ++ x ∷ []) ++ back
snoc whole front x back is = is ∙ sym (append_assoc front (x ∷ []) back)

one_more : {X : Type 0} (front : List X) (x : X) (k : ℕ) → k ≡ length front → suc k ≡ length (front ++ x ∷ [])
one_more front x k at = omega (arith, at, length-append front (x ∷ []))

module _ (modules : List Module) (m : Module) where
  abbrev kid_bits : Instance → Option Module → List (Option NetBit)
  kid_bits x None = []
  kid_bits x (Some child) = joined_bits m child x

  abbrev own_bits : List (Option NetBit)
  own_bits = map (λ b. Some (bit_of b.port b.bit)) (port_bits m)

  -- the net bit at a pin of the module
  abbrev pub bit_on : Option ℕ → ℕ → Option NetBit
  bit_on None k = slice_index_or own_bits k None
  bit_on (Some i) k = slice_index_or (kid_bits (slice_index_or m.instances i no_instance) (module_called modules (slice_index_or m.instances i no_instance).«module»)) k None

  abbrev Hangs : Load → Type 0
  Hangs l = bit_on l.at.instance l.at.bit ≡ Some l.bit

  if-hangs : (b : Bool) (i : Option ℕ) (k : ℕ) (n : Option NetBit) → bit_on i k ≡ n → All Hangs (load_if b (local_pin i k) n)
  if-hangs false i k n is = All-nil Hangs
  if-hangs true i k None is = All-nil Hangs
  if-hangs true i k (Some n) is = All-cons Hangs (record { at = local_pin i k; bit = n }) [] is (All-nil Hangs)

  own-hang : (k : ℕ) (front : List (Option NetBit)) (bs : List PortBit) → own_bits ≡ front ++ map (λ b. Some (bit_of b.port b.bit)) bs → k ≡ length front → All Hangs (own_loads k bs)
  own-hang k front [] is at = All-nil Hangs
  own-hang k front (b ∷ bs) is at =
      All-append Hangs (load_if (is_output b.dir) (local_pin None k) (Some (bit_of b.port b.bit))) (own_loads (suc k) bs)
      (if-hangs (is_output b.dir) None k (Some (bit_of b.port b.bit)) (seam own_bits front (map (λ b. Some (bit_of b.port b.bit)) bs) (Some (bit_of b.port b.bit)) None k is at))
      (own-hang (suc k) (front ++ Some (bit_of b.port b.bit) ∷ []) bs (snoc own_bits front (Some (bit_of b.port b.bit)) (map (λ b. Some (bit_of b.port b.bit)) bs) is) (one_more front (Some (bit_of b.port b.bit)) k at))

  inputs-hang : (i : ℕ) (x : Instance) (child : Module) → slice_index_or m.instances i no_instance ≡ x → module_called modules x.«module» ≡ Some child
      → (k : ℕ) (front : List (Option NetBit)) (bs : List PortBit) (ns : List (Option NetBit)) → joined_bits m child x ≡ front ++ ns → k ≡ length front → All Hangs (input_loads i k bs ns)
  inputs-hang i x child at_i called k front [] ns is at = All-nil Hangs
  inputs-hang i x child at_i called k front (b ∷ bs) [] is at = All-nil Hangs
  inputs-hang i x child at_i called k front (b ∷ bs) (n ∷ ns) is at =
      let its : kid_bits (slice_index_or m.instances i no_instance) (module_called modules (slice_index_or m.instances i no_instance).«module») ≡ joined_bits m child x =
      ap (λ y. kid_bits y (module_called modules y.«module»)) at_i ∙ ap (kid_bits x) called in
      All-append Hangs (load_if (is_input b.dir) (local_pin (Some i) k) n) (input_loads i (suc k) bs ns)
      (if-hangs (is_input b.dir) (Some i) k n (ap (λ bits. slice_index_or bits k None) its ∙ seam (joined_bits m child x) front ns n None k is at))
      (inputs-hang i x child at_i called (suc k) (front ++ n ∷ []) bs ns (snoc (joined_bits m child x) front n ns is) (one_more front n k at))

  child-hang : (i : ℕ) (x : Instance) (o : Option Module) → slice_index_or m.instances i no_instance ≡ x → module_called modules x.«module» ≡ o → All Hangs (child_loads m i x o)
  child-hang i x None at_i called = All-nil Hangs
  child-hang i x (Some child) at_i called = inputs-hang i x child at_i called 0 [] (port_bits child) (joined_bits m child x) refl refl

  instances-hang : (i : ℕ) (front xs : List Instance) → m.instances ≡ front ++ xs → i ≡ length front → All Hangs (instance_loads modules m i xs)
  instances-hang i front [] is at = All-nil Hangs
  instances-hang i front (x ∷ xs) is at =
      All-append Hangs (child_loads m i x (module_called modules x.«module»)) (instance_loads modules m (suc i) xs)
      (child-hang i x (module_called modules x.«module») (seam m.instances front xs x no_instance i is at) refl)
      (instances-hang (suc i) (front ++ x ∷ []) xs (snoc m.instances front x xs is) (one_more front x i at))

  loads-hang : All Hangs (loads modules m)
  unfolding loads
  loads-hang =
      All-append Hangs (own_loads 0 (port_bits m)) (instance_loads modules m 0 m.instances) (own-hang 0 [] (port_bits m) refl refl) (instances-hang 0 [] m.instances refl refl)

  -- the net bit at the last pin, which the first pin drives
  pub record IsDriven (most : ℕ) (w : LocalWire) : Type 0 where
    pub bit : NetBit
    pub hangs : bit_on w.to.instance w.to.bit ≡ Some bit
    pub driven : driver most (drives modules m) bit ≡ Some w.from

  wires-driven : (most : ℕ) (ls : List Load) → All Hangs ls → All (IsDriven most) (filter_map (λ l. option_map (λ p. record { from = p; to = l.at }) (driver most (drives modules m) l.bit)) ls)
  wires-driven most [] all = All-nil (IsDriven most)
  wires-driven most (l ∷ ls) all = by_driver (driver most (drives modules m) l.bit) refl (wires-driven most ls (All-tail Hangs l ls all))
    where
      by_driver : (o : Option LocalPin) → driver most (drives modules m) l.bit ≡ o → All (IsDriven most) (filter_map (λ l. option_map (λ p. record { from = p; to = l.at }) (driver most (drives modules m) l.bit)) ls)
          → All (IsDriven most) (filter_map (λ l. option_map (λ p. record { from = p; to = l.at }) (driver most (drives modules m) l.bit)) (l ∷ ls))
      by_driver None is rest = rw is rest
      by_driver (Some p) is rest =
          rw is (All-cons (IsDriven most) (record { from = p; to = l.at }) _ (record { bit = l.bit; hangs = All-head Hangs l ls all; driven = is }) rest)

  abbrev wire_between : LocalPin → LocalPin → LocalWire
  wire_between a b = record { from = a; to = b }

  same-wire : (w x : LocalWire) → w.from ≡ x.from → w.to ≡ x.to → w ≡ x
  same-wire w x from to = ap (λ a. wire_between a w.to) from ∙ ap (wire_between x.from) to

  -- a wire of a module is determined by its last pin
  pub wire-of : (most : ℕ) (w x : LocalWire) → Contains (local_wires most modules m) w → Contains (local_wires most modules m) x → w.to ≡ x.to → w ≡ x
  wire-of most w x hasw hasx to =
      let all = wires-driven most (loads modules m) loads-hang in
      let first = All-contains (IsDriven most) (local_wires most modules m) w all hasw in
      let second = All-contains (IsDriven most) (local_wires most modules m) x all hasx in
      let bits : first.bit ≡ second.bit = some-same first.bit second.bit (sym first.hangs ∙ (ap (λ (t : LocalPin). bit_on t.instance t.bit) to ∙ second.hangs)) in
      same-wire w x (some-same w.from x.from (sym first.driven ∙ (ap (driver most (drives modules m)) bits ∙ second.driven))) to
