-- The delays of wires, each by its last pin, that interconnects ask for.
use Rattle.std.specs.Prelude.{◌≡◌, ℕ, ◌==◌, ℤ, pos, ◌+ℤ◌, ◌-ℤ◌, Bool, true, false, List, [], ◌∷◌, ◌++◌, filter, unwrap_or}
use Rattle.std.specs.List.{AllZip, list_any}
use Rattle.bud_design.specs.Designs.{Design, Wired}
use Rattle.bud_design.specs.Lists.{greatest}

-- what numbers of pins add up to
abbrev pub sum_at : (ℕ → ℤ) → List ℕ → ℤ
sum_at f [] = pos 0
sum_at f (v ∷ vs) = f v +ℤ sum_at f vs

-- what is left of an interconnect's value for the last wire of its way
pub record IsRestOf {X : Type 0} (d : Design) (root : ℕ) (from to : X → ℕ) (value : X → ℤ) (f : ℕ → ℤ) (x : X) (rest : ℤ) : Type 0 where
  pub before : List ℕ
  pub wired : Wired d root (from x) (before ++ to x ∷ []) (to x)
  pub rest_is : rest ≡ value x -ℤ sum_at f before

-- a driven pin has the greatest of the rests that end there, or 0 where there are none, and any other pin has 0
pub record AreDelaysOf {X : Type 0} (d : Design) (root : ℕ) (from to : X → ℕ) (value : X → ℤ) (xs : List X) (driven : ℕ → Bool) (f : ℕ → ℤ) : Type 0 where
  pub none : (v : ℕ) → driven v ≡ false → f v ≡ pos 0
  pub each : (v : ℕ) → driven v ≡ true
      → (rests : List ℤ) × (AllZip (IsRestOf d root from to value f) (filter (λ x. to x == v) xs) rests × (f v ≡ unwrap_or (greatest rests) (pos 0)))

-- a value along the wires from one pin to another
pub record Interconnect : Type 0 where
  pub from : ℕ
  pub to : ℕ
  pub value : ℤ

abbrev pub is_driven : Design → ℕ → Bool
is_driven d v = list_any (λ w. w.to.0 == v) d.wires

abbrev pub AreDelays : Design → List Interconnect → (ℕ → ℤ) → Type 0
AreDelays d xs f = AreDelaysOf d 0 (λ x. x.from) (λ x. x.to) (λ x. x.value) xs (is_driven d) f
