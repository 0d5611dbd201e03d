-- The places and pins of an elaborated netlist are its tree of instances.
use Rattle.std.specs.Prelude.{◌≡◌, ℕ, ◌<◌, Bool, true, false, List, [], ◌∷◌, ◌++◌, length, Option, Some, None, Result, Ok, Err}
use Rattle.std.proofs.Common.{true≢false, arith, sym, ◌∙◌, refl, ap, subst, append-nil}
use Rattle.bud_syntax.specs.declared.modules.Module.{Module}
use Rattle.bud_design.specs.declared.designs.Place.{Place}
use Rattle.bud_design.specs.declared.designs.Pin.{Pin}
use Rattle.bud_design.specs.Names.{printed}
use Rattle.module_nets.specs.declared.faults.ElabFault.{ElabFault}
use Rattle.module_nets.specs.Nets.{module_called}
use Rattle.module_nets.specs.Tops.{top_module}
use Rattle.elaborations.specs.Elaborations.{Built, ◌>>=◌, pins_at, enter, top_entry, top_built, elaborated, module_of}
use Rattle.elaborations.specs.Walks.{children, IsFilled, AreInside, HasInside, pins_in, IsInstanceTree}
use Rattle.elaborations.proofs.Lists.{by_lt}
use Rattle.elaborations.proofs.Called.{called-printed}
use Rattle.elaborations.proofs.Walks.{filled-with}
use Rattle.elaborations.proofs.Growing.{IsClean, enter-grows}
use Rattle.elaborations.proofs.Tops.{top-called}

abbrev top_place : Module → Place
top_place m = record { name = []; «module» = printed m.name; leaf = m.leaf; parent = None }

-- the tree below a top, from what is inside it
tree-below : (modules : List Module) (m : Module) (more : List Place) (new : List Pin) → module_called modules m.name ≡ Some m → m.leaf ≡ false → IsClean m
    → AreInside modules m.instances 0 1 (length more) (top_place m ∷ more) new → IsInstanceTree modules (top_place m ∷ more) (pins_at 0 m ++ new)
tree-below modules m more new called plain clean inside = record {
  some = omega arith;
  no_parent = refl;
  plain_top = plain;
  below = λ p least most. inside.parents p least (omega (arith, most));
  filled = λ p most. filled p most;
  pins_are = ap (λ ps. ps ++ new) (sym its-pins) ∙ ap (λ ps. pins_in modules (top_place m ∷ more) 0 ++ ps) inside.pins_are;
}
  where
    its-module : module_of modules (top_place m) ≡ Some m
    its-module = called-printed modules m.name m called

    its-pins : pins_in modules (top_place m ∷ more) 0 ≡ pins_at 0 m
    its-pins = rw its-module refl

    filled : (p : ℕ) → p < length (top_place m ∷ more) → IsFilled modules (top_place m ∷ more) 0 (length (top_place m ∷ more)) p
    filled p most = by_lt p 1
        (λ short. subst (IsFilled modules (top_place m ∷ more) 0 (length (top_place m ∷ more))) (zero-of p short) (record {
          «module» = m;
          is_of = record { called = its-module; leaf = refl };
          inside = subst (λ b. HasInside b modules (top_place m ∷ more) m (children (top_place m ∷ more) 0 0 (length (top_place m ∷ more)))) (sym plain) (inside.inside, clean);
        }))
        (λ long. filled-with modules (top_place m ∷ more) 1 (length more) 0 (length (top_place m ∷ more)) p refl (inside.filled p long (omega (arith, most))))
      where
        zero-of : (p : ℕ) → p < 1 → 0 ≡ p
        zero-of p short = omega (arith, short)

abbrev is_done : Result Built ElabFault → Bool
is_done (Ok b) = true
is_done (Err fault) = false

-- elaboration makes the tree of instances
pub elaborated_tree : (modules : List Module) (top : Option (List ℕ)) (built : Built) → elaborated modules top ≡ Ok built → IsInstanceTree modules built.places built.pins
elaborated_tree modules top built done = by_top (top_module modules top) refl done
  where
    by_top : (r : Result Module ElabFault) → top_module modules top ≡ r → (r >>= (λ m. enter 257 modules (top_entry m) 0 (top_built m))) ≡ Ok built → IsInstanceTree modules built.places built.pins
    by_top (Err fault) is done = absurd (true≢false (sym (ap is_done done)))
    by_top (Ok m) is done =
        let called = top-called modules top m is in
        let both = enter-grows 257 modules (top_entry m) 0 (top_built m) built (omega arith) done in
        let places_are : built.places ≡ top_place m ∷ both.0.more = both.0.places_are in
        let pins_are : built.pins ≡ pins_at 0 m ++ both.0.new = both.0.pins_are in
        subst (λ ps. IsInstanceTree modules ps built.pins) (sym places_are)
        (subst (IsInstanceTree modules (top_place m ∷ both.0.more)) (sym pins_are)
        (tree-below modules m both.0.more both.0.new called.0 called.1 both.1
        (subst (λ ps. AreInside modules m.instances 0 1 (length both.0.more) ps both.0.new) (append-nil built.places ∙ places_are) (both.0.inside []))))
