-- What each answer of the elaboration says.
use Rattle.std.specs.Prelude.{◌≡◌, ℕ, List, Option, Some, Ok, Err}
use Rattle.std.proofs.Common.{sym, ◌∙◌, ap}
use Rattle.bud_syntax.specs.declared.modules.Module.{Module}
use Rattle.bud_design.specs.declared.designs.Place.{Place}
use Rattle.bud_design.specs.declared.designs.Pin.{Pin}
use Rattle.bud_design.specs.Designs.{Design}
use Rattle.module_nets.specs.declared.faults.ElabFault.{ElabFault}
use Rattle.module_nets.specs.declared.faults.ElabFault.TheVariants.{ModuleTwice, NoTop, ManyTops, TooDeep, InoutPort, NameTwice, TooLarge, UnknownModule, Recursive, UnknownPort, Select, Width, TwoDrivers, NoMemory}
use Rattle.module_nets.specs.Tops.{chosen, module_twice, unless_refused, top_module}
use Rattle.elaborations.specs.Elaborations.{Built, ◌>>=◌, elaborated, enter, top_entry, top_built, IsFlatDesign, IsElaborateAnswer}
use Rattle.hierarchy.specs.declared.walks.Walk.{Walk}
use Rattle.hierarchy.specs.Elaborating.{IsDesignOf}
use Rattle.hierarchy.specs.Walking.{built_of, IsFault}

-- a fault of the elaboration
pub fault-answer : (modules : List Module) (top : Option (List ℕ)) (fault : ElabFault) → IsFault (elaborated modules top) fault → IsElaborateAnswer modules top (Err fault)
fault-answer modules top (ModuleTwice name) is = is
fault-answer modules top (NoTop name) is = is
fault-answer modules top (ManyTops a b) is = is
fault-answer modules top (TooDeep n) is = is
fault-answer modules top (InoutPort name) is = is
fault-answer modules top (NameTwice name) is = is
fault-answer modules top (TooLarge n) is = is
fault-answer modules top (UnknownModule name) is = is
fault-answer modules top (Recursive name) is = is
fault-answer modules top (UnknownPort name) is = is
fault-answer modules top (Select name) is = is
fault-answer modules top (Width name) is = is
fault-answer modules top (TwoDrivers name) is = is
fault-answer modules top NoMemory is = tt

-- a module whose name stands before refuses all
pub twice-refused : (modules : List Module) (top : Option (List ℕ)) (fault : ElabFault) → module_twice modules ≡ Some fault → elaborated modules top ≡ Err fault
twice-refused modules top fault is = ap (λ o. unless_refused o (chosen modules top) >>= (λ m. enter 257 modules (top_entry m) 0 (top_built m))) is

-- so does a top that isn't there
pub top-refused : (modules : List Module) (top : Option (List ℕ)) (fault : ElabFault) → top_module modules top ≡ Err fault → elaborated modules top ≡ Err fault
top-refused modules top fault is = ap (λ r. r >>= (λ m. enter 257 modules (top_entry m) 0 (top_built m))) is

-- the top is walked over
pub top-walked : (modules : List Module) (top : Option (List ℕ)) (m : Module) → top_module modules top ≡ Ok m → elaborated modules top ≡ enter 257 modules (top_entry m) 0 (top_built m)
top-walked modules top m is = ap (λ r. r >>= (λ m. enter 257 modules (top_entry m) 0 (top_built m))) is

-- the design of a walk
pub design-answer : (modules : List Module) (top : Option (List ℕ)) (w : Walk) (d : Design) → elaborated modules top ≡ Ok (built_of w) → IsDesignOf modules w d → IsFlatDesign modules top d
design-answer modules top w d built is =
    let made : List Place → List Pin → Built = λ ps us. record { places = ps; pins = us; count = w.count } in
    record {
      count = w.count;
      built = built ∙ (ap (λ ps. Ok (made ps w.pins.items)) (sym is.places) ∙ ap (λ us. Ok (made d.places us)) (sym is.pins));
      wires = is.wires;
    }
