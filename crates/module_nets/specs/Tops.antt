-- The top of a netlist, and its refusals.
use Rattle.std.specs.Prelude.{◌≡◌, ℕ, ◌<◌, length, Bool, ◌&&◌, not, List, [], ◌∷◌, map, filter, flat_map, Option, Some, None, Result, Ok, Err, false, slice_index_or, if◌then◌else◌}
use Rattle.std.specs.Option.{option_map}
use Rattle.bud_syntax.specs.declared.modules.Module.{Module}
use Rattle.module_nets.specs.declared.faults.ElabFault.{ElabFault}
use Rattle.module_nets.specs.declared.faults.ElabFault.TheVariants.{ModuleTwice, NoTop, ManyTops, NoMemory}
use Rattle.bud_design.specs.Lists.{first_again, has_name}
use Rattle.bud_design.specs.Names.{Named, printed, meaning}

-- modules by their printed identifiers
abbrev pub named_modules : List Module → List (Named Module)
named_modules modules = map (λ m. record { name = printed m.name; object = m }) modules

-- the module that a name means
abbrev pub meant : List Module → List ℕ → Option Module
meant modules name = meaning (named_modules modules) name

-- a module that a name means, unless it is a leaf
abbrev pub plain_module : List ℕ → Option Module → Result Module ElabFault
plain_module name None = Err (NoTop (Some name))
plain_module name (Some m) = if m.leaf then Err (NoTop (Some name)) else Ok m

-- a module that is no cell and that no module of these names instantiates
abbrev pub is_root : (List ℕ → Bool) → Module → Bool
is_root instantiated m = not m.leaf && not (instantiated m.name)

-- the names of the modules that are instantiated
abbrev pub instantiated : List Module → List (List ℕ)
instantiated modules = flat_map (λ n. map (λ i. i.«module») n.instances) modules

-- the plain modules that no module instantiates
abbrev pub roots : List Module → List Module
roots modules = filter (is_root (has_name (instantiated modules))) modules

abbrev pub one_root : List Module → Result Module ElabFault
one_root [] = Err (NoTop None)
one_root (m ∷ []) = Ok m
one_root (m ∷ n ∷ ms) = Err (ManyTops (printed m.name) (printed n.name))

abbrev pub chosen : List Module → Option (List ℕ) → Result Module ElabFault
chosen modules None = one_root (roots modules)
chosen modules (Some name) = plain_module name (meant modules name)

-- the first module whose name stands before
abbrev pub module_twice : List Module → Option ElabFault
module_twice modules = option_map (λ name. ModuleTwice (printed name)) (first_again [] (map (λ m. m.name) modules))

abbrev pub unless_refused : Option ElabFault → Result Module ElabFault → Result Module ElabFault
unless_refused None top = top
unless_refused (Some fault) top = Err fault

-- the top module: the one that is named, or the one root
abbrev pub top_module : List Module → Option (List ℕ) → Result Module ElabFault
top_module modules top = unless_refused (module_twice modules) (chosen modules top)

-- the module at a place below the number of modules
abbrev pub module_at : List Module → ℕ → Module
module_at modules k = slice_index_or modules k (record { name = []; leaf = false; ports = []; nets = []; assigns = []; instances = [] })

-- want of memory may come at any time; any other fault refuses the top
abbrev pub IsTopRefusal : Result Module ElabFault → ElabFault → Type 0
IsTopRefusal top NoMemory = Unit {0}
IsTopRefusal top fault = top ≡ Err fault

-- the number of the top, or why there is none
abbrev pub IsTop : List Module → Option (List ℕ) → Result ℕ ElabFault → Type 0
IsTop modules top (Ok k) = (k < length modules) × (top_module modules top ≡ Ok (module_at modules k))
IsTop modules top (Err fault) = IsTopRefusal (top_module modules top) fault

-- the number of the module that a name means, unless it is a leaf
abbrev pub IsPlainNumber : List Module → List ℕ → Option ℕ → Type 0
IsPlainNumber modules name None = plain_module name (meant modules name) ≡ Err (NoTop (Some name))
IsPlainNumber modules name (Some k) = (k < length modules) × (plain_module name (meant modules name) ≡ Ok (module_at modules k))
