-- A netlist has one flat design.
use Rattle.std.specs.Prelude.{◌≡◌, ℕ, nat_lt, true, false, List, Option, Result, Ok, Err, Contains}
use Rattle.std.proofs.Common.{arith, sym, ◌∙◌, refl, ap, subst}
use Rattle.bud_syntax.specs.declared.modules.Module.{Module}
use Rattle.bud_design.specs.declared.designs.Place.{Place}
use Rattle.bud_design.specs.declared.designs.Pin.{Pin}
use Rattle.bud_design.specs.declared.designs.Wire.{Wire}
use Rattle.bud_design.specs.Designs.{Design}
use Rattle.bud_design.specs.Lists.{Lists}
use Rattle.bud_design.proofs.TableLaws.{table-same}
use Rattle.module_nets.specs.declared.faults.ElabFault.{ElabFault}
use Rattle.elaborations.specs.Elaborations.{Built, IsFlatDesign, all_wires, ends_before}

not-before : (n : ℕ) → nat_lt n n ≡ false
not-before n = grind (arith)

before-before : (l m n : ℕ) → nat_lt l m ≡ true → nat_lt m n ≡ true → nat_lt l n ≡ true
before-before l m n low high = grind (arith, low, high)

abbrev built_or : Built → Result Built ElabFault → Built
built_or d (Ok b) = b
built_or d (Err fault) = d

wires-same : (modules : List Module) (top : Option (List ℕ)) (d e : Design) → d.places ≡ e.places → d.pins ≡ e.pins → IsFlatDesign modules top d → IsFlatDesign modules top e → d.wires ≡ e.wires
wires-same modules top d e places pins one other =
    table-same ends_before (λ w. not-before w.to.0) (λ w x y low high. before-before w.to.0 x.to.0 y.to.0 low high) (Contains (all_wires 4194304 modules e.places e.pins)) d.wires e.wires
    (subst (λ ps. Lists ends_before (Contains (all_wires 4194304 modules e.places ps)) d.wires) pins
    (subst (λ ps. Lists ends_before (Contains (all_wires 4194304 modules ps d.pins)) d.wires) places one.wires)) other.wires

design-same : (ps qs : List Place) (us vs : List Pin) (ws xs : List Wire) → ps ≡ qs → us ≡ vs → ws ≡ xs → ◌≡◌ {A = Design} (record { places = ps; pins = us; wires = ws }) (record { places = qs; pins = vs; wires = xs })
design-same ps qs us vs ws xs e f g = rw (e, f, g) refl

-- two flat designs of a netlist are one
pub one_design : (modules : List Module) (top : Option (List ℕ)) (d e : Design) → IsFlatDesign modules top d → IsFlatDesign modules top e → d ≡ e
one_design modules top d e one other =
    let here : Built = record { places = d.places; pins = d.pins; count = one.count } in
    let there : Built = record { places = e.places; pins = e.pins; count = other.count } in
    let same : here ≡ there = ap (built_or here) (sym one.built ∙ other.built) in
    design-same d.places e.places d.pins e.pins d.wires e.wires (ap (λ b. b.places) same) (ap (λ b. b.pins) same)
    (wires-same modules top d e (ap (λ b. b.places) same) (ap (λ b. b.pins) same) one other)
