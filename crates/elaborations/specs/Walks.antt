-- What the walk over the instances makes: which place stands for which instance, and which pins it has.
use Rattle.std.specs.Prelude.{◌≡◌, ℕ, ◌+◌, ◌++◌, ◌<◌, ◌≤◌, ◌⊎◌, Bool, true, false, List, [], map, length, filter, flat_map, Option, Some, None}
use Rattle.std.specs.List.{AllZip, range_with_len}
use Rattle.bud_syntax.specs.declared.modules.Instance.{Instance}
use Rattle.bud_syntax.specs.declared.modules.Module.{Module}
use Rattle.bud_design.specs.declared.designs.Place.{Place}
use Rattle.bud_design.specs.declared.designs.Pin.{Pin}
use Rattle.bud_design.specs.Designs.{place_at}
use Rattle.bud_design.specs.Lists.{first_again}
use Rattle.bud_design.specs.Names.{printed}
use Rattle.module_nets.specs.Nets.{same_number, module_called}
use Rattle.elaborations.specs.Elaborations.{module_of, pins_at}

-- the places of these numbers that stand in a place
abbrev pub children : List Place → ℕ → ℕ → ℕ → List ℕ
children places p from count = filter (λ q. same_number (place_at places q).parent (Some p)) (range_with_len from count)

-- the place is one of the module
pub record IsOf (modules : List Module) (places : List Place) (p : ℕ) (m : Module) : Type 0 where
  pub called : module_of modules (place_at places p) ≡ Some m
  pub leaf : (place_at places p).leaf ≡ m.leaf

-- the place stands for the instance
pub record StandsFor (modules : List Module) (places : List Place) (i : Instance) (q : ℕ) : Type 0 where
  pub name : (place_at places q).name ≡ printed i.name
  pub child : Module
  pub called : module_called modules i.«module» ≡ Some child
  pub is_of : IsOf modules places q child

-- the names of a module's ports, nets and instances
abbrev pub own_names : Module → List (List ℕ)
own_names m = map (λ p. p.name) m.ports ++ (map (λ n. n.name) m.nets ++ map (λ i. i.name) m.instances)

-- inside a cell stands nothing; inside a plain instance stand its module's instances, in order, and no name is there twice
abbrev pub HasInside : Bool → List Module → List Place → Module → List ℕ → Type 0
HasInside true modules places m inside = inside ≡ []
HasInside false modules places m inside = AllZip (StandsFor modules places) m.instances inside × (first_again [] (own_names m) ≡ None)

-- the place is one of a module and holds what that says, as far as the places of these numbers go
pub record IsFilled (modules : List Module) (places : List Place) (from count p : ℕ) : Type 0 where
  pub «module» : Module
  pub is_of : IsOf modules places p «module»
  pub inside : HasInside «module».leaf modules places «module» (children places p from count)

-- the place stands in the place here, or in a place of these numbers before it
pub record HasItsParent (places : List Place) (here from p : ℕ) : Type 0 where
  pub parent : ℕ
  pub parent_is : (place_at places p).parent ≡ Some parent
  pub before : (parent ≡ here) ⊎ (from ≤ parent × parent < p)
  pub name : List ℕ
  pub name_is : (place_at places p).name ≡ printed name

abbrev pub pins_of_module : ℕ → Option Module → List Pin
pins_of_module p None = []
pins_of_module p (Some m) = pins_at p m

-- the pins of a place
abbrev pub pins_in : List Module → List Place → ℕ → List Pin
pins_in modules places p = pins_of_module p (module_of modules (place_at places p))

-- places of these numbers stand for the instances in the place here, with all that is inside them, and these are their pins
pub record AreInside (modules : List Module) (instances : List Instance) (here from count : ℕ) (places : List Place) (pins : List Pin) : Type 0 where
  pub inside : AllZip (StandsFor modules places) instances (children places here from count)
  pub filled : (p : ℕ) → from ≤ p → p < from + count → IsFilled modules places from count p
  pub parents : (p : ℕ) → from ≤ p → p < from + count → HasItsParent places here from p
  pub pins_are : pins ≡ flat_map (pins_in modules places) (range_with_len from count)

-- the places are the tree of instances below a plain top, each place before those inside it, and the pins are their port bits in order
pub record IsInstanceTree (modules : List Module) (places : List Place) (pins : List Pin) : Type 0 where
  pub some : 0 < length places
  pub no_parent : (place_at places 0).parent ≡ None
  pub plain_top : (place_at places 0).leaf ≡ false
  pub below : (p : ℕ) → 1 ≤ p → p < length places → HasItsParent places 0 1 p
  pub filled : (p : ℕ) → p < length places → IsFilled modules places 0 (length places) p
  pub pins_are : pins ≡ flat_map (pins_in modules places) (range_with_len 0 (length places))
