-- What drives a net bit is a pin that can, and a load is a pin that can be one.
use Rattle.std.specs.Prelude.{◌≡◌, ℕ, ◌<◌, ◌+◌, Bool, true, false, List, [], ◌∷◌, ◌++◌, map, filter, find, flat_map, filter_map, length, Option, Some, None, All, slice_index_or, zero, suc}
use Rattle.std.specs.Option.{option_map}
use Rattle.std.proofs.Common.{true≢false, arith, sym, ◌∙◌, refl, ap, subst}
use Rattle.std.proofs.lemmas.List.{length-append, get_or-append-add}
use Rattle.std.proofs.lemmas.List.Elements.{All-nil, All-cons, All-head, All-tail, All-append}
use Rattle.bud_syntax.specs.declared.modules.Dir.{Dir}
use Rattle.bud_syntax.specs.declared.modules.Instance.{Instance}
use Rattle.bud_syntax.specs.declared.modules.Assign.{Assign}
use Rattle.bud_syntax.specs.declared.modules.Module.{Module}
use Rattle.bud_syntax.specs.declared.modules.NetDecl.{NetDecl}
use Rattle.bud_design.specs.Designs.{is_input, is_output}
use Rattle.module_nets.specs.Nets.{NetBit, PortBit, same_bit, bit_of, net_bits, port_bits, expression_bits, joined_bits, module_called}
use Rattle.net_drivers.specs.declared.pins.LocalPin.{LocalPin}
use Rattle.net_drivers.specs.declared.pins.LocalWire.{LocalWire}
use Rattle.net_drivers.specs.Drivers.{Source, pin, constant, assigned, Drive, drive, drive_if, input_drives, output_drives, child_drives, instance_drives, pair_drives, assign_drives, drives, source_of, through, driver, Load, load_if, own_loads, input_loads, child_loads, instance_loads, loads, local_wires, local_pin}
use Rattle.elaborations.proofs.PinNumbers.{no_bit}
use Rattle.elaborations.proofs.Siblings.{no_instance}
use Rattle.elaborations.proofs.Tops.{find-all}

-- a port bit, of a direction, of the module itself or of one of its instances
pub record IsOwnBit (passes : Dir → Bool) (m : Module) (k : ℕ) : Type 0 where
  pub below : k < length (port_bits m)
  pub dir : passes (slice_index_or (port_bits m) k no_bit).dir ≡ true

pub record IsChildBit (passes : Dir → Bool) (modules : List Module) (m : Module) (i k : ℕ) : Type 0 where
  pub instance : i < length m.instances
  pub child : Module
  pub called : module_called modules (slice_index_or m.instances i no_instance).«module» ≡ Some child
  pub bit : IsOwnBit passes child k

abbrev pub IsLocalAt : (Dir → Bool) → (Dir → Bool) → List Module → Module → Option ℕ → ℕ → Type 0
IsLocalAt own below modules m None k = IsOwnBit own m k
IsLocalAt own below modules m (Some i) k = IsChildBit below modules m i k

abbrev pub IsLocal : (Dir → Bool) → (Dir → Bool) → List Module → Module → LocalPin → Type 0
IsLocal own below modules m p = IsLocalAt own below modules m p.instance p.bit

abbrev pub IsDriving : List Module → Module → LocalPin → Type 0
IsDriving modules m p = IsLocal is_input is_output modules m p

abbrev pub IsLoading : List Module → Module → LocalPin → Type 0
IsLoading modules m p = IsLocal is_output is_input modules m p

abbrev DrivesRightly : List Module → Module → Source → Type 0
DrivesRightly modules m (pin p) = IsDriving modules m p
DrivesRightly modules m constant = Unit {0}
DrivesRightly modules m (assigned b) = Unit {0}

module _ (modules : List Module) (m : Module) where
  abbrev Right : Drive → Type 0
  Right x = DrivesRightly modules m x.source

  if-right : (b : Bool) (n : Option NetBit) (s : Source) → (b ≡ true → DrivesRightly modules m s) → All Right (drive_if b n s)
  if-right false n s right = All-nil Right
  if-right true None s right = All-nil Right
  if-right true (Some n) s right = All-cons Right (drive n s) [] (right refl) (All-nil Right)

  -- the bits behind the first k of a list
  suffix-own : (m : Module) (passes : Dir → Bool) (front : List PortBit) (b : PortBit) (bs : List PortBit) → port_bits m ≡ front ++ b ∷ bs → passes b.dir ≡ true → IsOwnBit passes m (length front)
  suffix-own m passes front b bs is dir =
      let none : length front + 0 ≡ length front = omega arith in
      let at : slice_index_or (port_bits m) (length front) no_bit ≡ b =
      ap (λ xs. slice_index_or xs (length front) no_bit) is ∙ (ap (λ k. slice_index_or (front ++ b ∷ bs) k no_bit) (sym none) ∙ get_or-append-add front (b ∷ bs) 0 no_bit) in
      record { below = omega (arith, ap length is, length-append front (b ∷ bs)); dir = ap (λ b. passes b.dir) at ∙ dir }

  snoc : {X : Type 0} (front : List X) (b : X) (bs : List X) → front ++ b ∷ bs ≡ (front ++ b ∷ []) ++ bs
  snoc [] b bs = refl
  snoc (x ∷ xs) b bs = ap (λ ys. x ∷ ys) (snoc xs b bs)

  one-more : {X : Type 0} (front : List X) (b : X) (k : ℕ) → k ≡ length front → suc k ≡ length (front ++ b ∷ [])
  one-more front b k is = omega (arith, is, length-append front (b ∷ []))

  inputs-right : (k : ℕ) (front bs : List PortBit) → port_bits m ≡ front ++ bs → k ≡ length front → All Right (input_drives k bs)
  inputs-right k front [] is at = All-nil Right
  inputs-right k front (b ∷ bs) is at =
      All-append Right (drive_if (is_input b.dir) (Some (bit_of b.port b.bit)) (pin (local_pin None k))) (input_drives (suc k) bs)
      (if-right (is_input b.dir) (Some (bit_of b.port b.bit)) (pin (local_pin None k)) (λ dir. subst (IsOwnBit is_input m) (sym at) (suffix-own m is_input front b bs is dir)))
      (inputs-right (suc k) (front ++ b ∷ []) bs (is ∙ snoc front b bs) (one-more front b k at))

  outputs-right : (i : ℕ) (child : Module) → i < length m.instances → module_called modules (slice_index_or m.instances i no_instance).«module» ≡ Some child
      → (k : ℕ) (front bs : List PortBit) (ns : List (Option NetBit)) → port_bits child ≡ front ++ bs → k ≡ length front → All Right (output_drives i k bs ns)
  outputs-right i child within called k front [] ns is at = All-nil Right
  outputs-right i child within called k front (b ∷ bs) [] is at = All-nil Right
  outputs-right i child within called k front (b ∷ bs) (n ∷ ns) is at =
      All-append Right (drive_if (is_output b.dir) n (pin (local_pin (Some i) k))) (output_drives i (suc k) bs ns)
      (if-right (is_output b.dir) n (pin (local_pin (Some i) k))
      (λ dir. record { instance = within; child = child; called = called; bit = subst (IsOwnBit is_output child) (sym at) (suffix-own child is_output front b bs is dir) }))
      (outputs-right i child within called (suc k) (front ++ b ∷ []) bs ns (is ∙ snoc front b bs) (one-more front b k at))

  instance-at : (front : List Instance) (x : Instance) (xs : List Instance) → m.instances ≡ front ++ x ∷ xs → (length front < length m.instances) × (slice_index_or m.instances (length front) no_instance ≡ x)
  instance-at front x xs is =
      let none : length front + 0 ≡ length front = omega arith in (
        omega (arith, ap length is, length-append front (x ∷ xs)),
        ap (λ ys. slice_index_or ys (length front) no_instance) is ∙ (ap (λ k. slice_index_or (front ++ x ∷ xs) k no_instance) (sym none) ∙ get_or-append-add front (x ∷ xs) 0 no_instance),
      )

  child-right : (i : ℕ) (x : Instance) (o : Option Module) → (i < length m.instances) × (slice_index_or m.instances i no_instance ≡ x) → module_called modules x.«module» ≡ o → All Right (child_drives m i x o)
  child-right i x None at called = All-nil Right
  child-right i x (Some child) at called =
      outputs-right i child at.0 (ap (λ y. module_called modules y.«module») at.1 ∙ called) 0 [] (port_bits child) (joined_bits m child x) refl refl

  instances-right : (i : ℕ) (front xs : List Instance) → m.instances ≡ front ++ xs → i ≡ length front → All Right (instance_drives modules m i xs)
  instances-right i front [] is at = All-nil Right
  instances-right i front (x ∷ xs) is at =
      All-append Right (child_drives m i x (module_called modules x.«module»)) (instance_drives modules m (suc i) xs)
      (child-right i x (module_called modules x.«module») (subst (λ k. (k < length m.instances) × (slice_index_or m.instances k no_instance ≡ x)) (sym at) (instance-at front x xs is)) refl)
      (instances-right (suc i) (front ++ x ∷ []) xs (is ∙ snoc front x xs) (one-more front x i at))

  pairs-right : (ls rs : List (Option NetBit)) → All Right (pair_drives ls rs)
  pairs-right [] rs = All-nil Right
  pairs-right (l ∷ ls) [] = All-nil Right
  pairs-right (l ∷ ls) (r ∷ rs) = All-append Right (drive_if true l (assigned r)) (pair_drives ls rs) (if-right true l (assigned r) (λ is. tt)) (pairs-right ls rs)

  assigns-right : (xs : List Assign) → All Right (flat_map (assign_drives m) xs)
  assigns-right [] = All-nil Right
  assigns-right (x ∷ xs) = All-append Right (assign_drives m x) (flat_map (assign_drives m) xs) (pairs-right (expression_bits m x.left) (expression_bits m x.right)) (assigns-right xs)

  bits-right : (bs : List NetBit) → All Right (map (λ b. drive b constant) bs)
  bits-right [] = All-nil Right
  bits-right (b ∷ bs) = All-cons Right (drive b constant) (map (λ b. drive b constant) bs) tt (bits-right bs)

  constants-right : (ns : List NetDecl) → All Right (flat_map (λ n. map (λ b. drive b constant) (net_bits m n.name)) ns)
  constants-right [] = All-nil Right
  constants-right (n ∷ ns) = All-append Right (map (λ b. drive b constant) (net_bits m n.name)) (flat_map (λ n. map (λ b. drive b constant) (net_bits m n.name)) ns) (bits-right (net_bits m n.name)) (constants-right ns)

  drives-right : All Right (drives modules m)
  unfolding drives
  drives-right =
      let constants = flat_map (λ n. map (λ b. drive b constant) (net_bits m n.name)) (filter (λ n. n.constant) m.nets) in
      let assigns = flat_map (assign_drives m) m.assigns in
      All-append Right (input_drives 0 (port_bits m)) (constants ++ (instance_drives modules m 0 m.instances ++ assigns)) (inputs-right 0 [] (port_bits m) refl refl)
      (All-append Right constants (instance_drives modules m 0 m.instances ++ assigns) (constants-right (filter (λ n. n.constant) m.nets))
      (All-append Right (instance_drives modules m 0 m.instances) assigns (instances-right 0 [] m.instances refl refl) (assigns-right m.assigns)))

  source-right : (b : NetBit) (s : Source) → source_of (drives modules m) b ≡ Some s → DrivesRightly modules m s
  source-right b s is = by_found (find (λ x. same_bit x.bit b) (drives modules m)) refl is
    where
      by_found : (o : Option Drive) → find (λ x. same_bit x.bit b) (drives modules m) ≡ o → option_map (λ x. x.source) o ≡ Some s → DrivesRightly modules m s
      by_found None found is = absurd (true≢false (ap is_none is))
        where
          is_none : Option Source → Bool
          is_none None = true
          is_none (Some x) = false
      by_found (Some x) found is = subst (DrivesRightly modules m) (ap (source_or s) is) (find-all Right (λ x. same_bit x.bit b) (drives modules m) x drives-right found)
        where
          source_or : Source → Option Source → Source
          source_or d None = d
          source_or d (Some x) = x

  through-right : (follow : NetBit → Option LocalPin) (o : Option Source) (p : LocalPin) → ((s : Source) → o ≡ Some s → DrivesRightly modules m s) → ((b : NetBit) → follow b ≡ Some p → IsDriving modules m p) → through follow o ≡ Some p → IsDriving modules m p
  through-right follow None p right on is = absurd (none-some is)
    where
      none-some : None ≡ Some p → ⊥
      none-some same = true≢false (ap is_none same)
        where
          is_none : Option LocalPin → Bool
          is_none None = true
          is_none (Some x) = false
  through-right follow (Some (pin q)) p right on is = subst (IsDriving modules m) (ap (pin_or p) is) (right (pin q) refl)
    where
      pin_or : LocalPin → Option LocalPin → LocalPin
      pin_or d None = d
      pin_or d (Some x) = x
  through-right follow (Some constant) p right on is = absurd (none-some is)
    where
      none-some : None ≡ Some p → ⊥
      none-some same = true≢false (ap is_none same)
        where
          is_none : Option LocalPin → Bool
          is_none None = true
          is_none (Some x) = false
  through-right follow (Some (assigned None)) p right on is = absurd (none-some is)
    where
      none-some : None ≡ Some p → ⊥
      none-some same = true≢false (ap is_none same)
        where
          is_none : Option LocalPin → Bool
          is_none None = true
          is_none (Some x) = false
  through-right follow (Some (assigned (Some b))) p right on is = on b is

  pub driver-right : (most : ℕ) (b : NetBit) (p : LocalPin) → driver most (drives modules m) b ≡ Some p → IsDriving modules m p
  unfolding driver
  driver-right zero b p is = through-right (λ next. None) (source_of (drives modules m) b) p (source-right b) (λ next none. absurd (none-some none)) is
    where
      none-some : None ≡ Some p → ⊥
      none-some same = true≢false (ap is_none same)
        where
          is_none : Option LocalPin → Bool
          is_none None = true
          is_none (Some x) = false
  driver-right (suc most) b p is = through-right (driver most (drives modules m)) (source_of (drives modules m) b) p (source-right b) (λ next is. driver-right most next p is) is

  -- ---- loads
  abbrev Loaded : Load → Type 0
  Loaded l = IsLoading modules m l.at

  if-loaded : (b : Bool) (p : LocalPin) (n : Option NetBit) → (b ≡ true → IsLoading modules m p) → All Loaded (load_if b p n)
  if-loaded false p n right = All-nil Loaded
  if-loaded true p None right = All-nil Loaded
  if-loaded true p (Some n) right = All-cons Loaded (record { at = p; bit = n }) [] (right refl) (All-nil Loaded)

  own-loaded : (k : ℕ) (front bs : List PortBit) → port_bits m ≡ front ++ bs → k ≡ length front → All Loaded (own_loads k bs)
  own-loaded k front [] is at = All-nil Loaded
  own-loaded k front (b ∷ bs) is at =
      All-append Loaded (load_if (is_output b.dir) (local_pin None k) (Some (bit_of b.port b.bit))) (own_loads (suc k) bs)
      (if-loaded (is_output b.dir) (local_pin None k) (Some (bit_of b.port b.bit)) (λ dir. subst (IsOwnBit is_output m) (sym at) (suffix-own m is_output front b bs is dir)))
      (own-loaded (suc k) (front ++ b ∷ []) bs (is ∙ snoc front b bs) (one-more front b k at))

  inputs-loaded : (i : ℕ) (child : Module) → i < length m.instances → module_called modules (slice_index_or m.instances i no_instance).«module» ≡ Some child
      → (k : ℕ) (front bs : List PortBit) (ns : List (Option NetBit)) → port_bits child ≡ front ++ bs → k ≡ length front → All Loaded (input_loads i k bs ns)
  inputs-loaded i child within called k front [] ns is at = All-nil Loaded
  inputs-loaded i child within called k front (b ∷ bs) [] is at = All-nil Loaded
  inputs-loaded i child within called k front (b ∷ bs) (n ∷ ns) is at =
      All-append Loaded (load_if (is_input b.dir) (local_pin (Some i) k) n) (input_loads i (suc k) bs ns)
      (if-loaded (is_input b.dir) (local_pin (Some i) k) n
      (λ dir. record { instance = within; child = child; called = called; bit = subst (IsOwnBit is_input child) (sym at) (suffix-own child is_input front b bs is dir) }))
      (inputs-loaded i child within called (suc k) (front ++ b ∷ []) bs ns (is ∙ snoc front b bs) (one-more front b k at))

  child-loaded : (i : ℕ) (x : Instance) (o : Option Module) → (i < length m.instances) × (slice_index_or m.instances i no_instance ≡ x) → module_called modules x.«module» ≡ o → All Loaded (child_loads m i x o)
  child-loaded i x None at called = All-nil Loaded
  child-loaded i x (Some child) at called =
      inputs-loaded i child at.0 (ap (λ y. module_called modules y.«module») at.1 ∙ called) 0 [] (port_bits child) (joined_bits m child x) refl refl

  instances-loaded : (i : ℕ) (front xs : List Instance) → m.instances ≡ front ++ xs → i ≡ length front → All Loaded (instance_loads modules m i xs)
  instances-loaded i front [] is at = All-nil Loaded
  instances-loaded i front (x ∷ xs) is at =
      All-append Loaded (child_loads m i x (module_called modules x.«module»)) (instance_loads modules m (suc i) xs)
      (child-loaded i x (module_called modules x.«module») (subst (λ k. (k < length m.instances) × (slice_index_or m.instances k no_instance ≡ x)) (sym at) (instance-at front x xs is)) refl)
      (instances-loaded (suc i) (front ++ x ∷ []) xs (is ∙ snoc front x xs) (one-more front x i at))

  loads-loaded : All Loaded (loads modules m)
  unfolding loads
  loads-loaded =
      All-append Loaded (own_loads 0 (port_bits m)) (instance_loads modules m 0 m.instances) (own-loaded 0 [] (port_bits m) refl refl) (instances-loaded 0 [] m.instances refl refl)

  -- ---- wires
  abbrev pub JoinsRightly : LocalWire → Type 0
  JoinsRightly w = IsDriving modules m w.from × IsLoading modules m w.to

  wires-right : (most : ℕ) (ls : List Load) → All Loaded ls → All JoinsRightly (filter_map (λ l. option_map (λ p. record { from = p; to = l.at }) (driver most (drives modules m) l.bit)) ls)
  wires-right most [] all = All-nil JoinsRightly
  wires-right most (l ∷ ls) all = by_driver (driver most (drives modules m) l.bit) refl (wires-right most ls (All-tail Loaded l ls all))
    where
      by_driver : (o : Option LocalPin) → driver most (drives modules m) l.bit ≡ o → All JoinsRightly (filter_map (λ l. option_map (λ p. record { from = p; to = l.at }) (driver most (drives modules m) l.bit)) ls)
          → All JoinsRightly (filter_map (λ l. option_map (λ p. record { from = p; to = l.at }) (driver most (drives modules m) l.bit)) (l ∷ ls))
      by_driver None is rest = rw is rest
      by_driver (Some p) is rest = rw is (All-cons JoinsRightly (record { from = p; to = l.at }) _ (driver-right most l.bit p is, All-head Loaded l ls all) rest)

  -- each wire of a module leads from a pin that drives to one that is a load
  pub local-wires-right : (most : ℕ) → All JoinsRightly (local_wires most modules m)
  local-wires-right most = wires-right most (loads modules m) loads-loaded
