-- The delays of wires, from the delays along several wires (INTERCONNECT of IEEE 1497) that end at their last pins.
use Rattle.std.specs.Prelude.{◌≡◌, ℕ, ◌==◌, ℤ, pos, ◌+ℤ◌, ◌-ℤ◌, int_lt, true, List, [], ◌∷◌, ◌++◌, All, unwrap_or, if◌then◌else◌}
use Rattle.std.specs.List.{AllZip, list_any}
use Rattle.bud_design.specs.declared.designs.Wire.{Wire}
use Rattle.bud_design.specs.Designs.{Design, Wired, LeadsTo}
use Rattle.bud_design.specs.Lists.{greatest}
use Rattle.net_delays.specs.Alongs.{ending_at}
use Rattle.net_delays.specs.declared.alongs.Along.{Along}

-- the pins are on one net: one or more wires lead from the first to the last, which lies on no ring of wires
pub record AreOneNet (d : Design) (a b : ℕ) : Type 0 where
  pub leads : LeadsTo d 0 a b
  pub no_ring : LeadsTo d 0 b b → ⊥

-- the number of the wire that ends at a pin, among numbers for all wires
abbrev pub number_into : List Wire → List ℤ → ℕ → ℤ
number_into [] numbers v = pos 0
number_into (w ∷ ws) [] v = pos 0
number_into (w ∷ ws) (z ∷ zs) v = if w.to.0 == v then z else number_into ws zs v

abbrev pub sum_into : Design → List ℤ → List ℕ → ℤ
sum_into d numbers [] = pos 0
sum_into d numbers (v ∷ vs) = number_into d.wires numbers v +ℤ sum_into d numbers vs

-- the rest of a delay: its value less the delays of the wires before its last one
pub record IsRest (d : Design) (numbers : List ℤ) (x : Along) (rest : ℤ) : Type 0 where
  pub before : List ℕ
  pub wired : Wired d 0 x.from.0 (before ++ x.to.0 ∷ []) x.to.0
  pub rest_is : rest ≡ x.value -ℤ sum_into d numbers before

abbrev pub AreRests : Design → List Along → List ℤ → ℕ → List ℤ → Type 0
AreRests d alongs numbers v rests = AllZip (IsRest d numbers) (ending_at alongs v) rests

-- a wire carries the greatest of the rests that end at its last pin, and 0 where none does
pub record IsWireDelay (d : Design) (alongs : List Along) (numbers : List ℤ) (v : ℕ) (number : ℤ) : Type 0 where
  pub rests : List ℤ
  pub are_rests : AreRests d alongs numbers v rests
  pub number_is : number ≡ unwrap_or (greatest rests) (pos 0)

abbrev pub AreWireDelays : Design → List Along → List ℤ → Type 0
AreWireDelays d alongs numbers = AllZip (λ w z. IsWireDelay d alongs numbers w.to.0 z) d.wires numbers

-- one of the rests that end at a pin is negative
pub record HasNegativeRest (d : Design) (alongs : List Along) (numbers : List ℤ) (v : ℕ) : Type 0 where
  pub rests : List ℤ
  pub are_rests : AreRests d alongs numbers v rests
  pub negative : list_any (λ z. int_lt z (pos 0)) rests ≡ true

-- no rest is negative
abbrev pub HaveRoom : Design → List Along → List ℤ → Type 0
HaveRoom d alongs numbers = All (λ w. HasNegativeRest d alongs numbers w.to.0 → ⊥) d.wires
