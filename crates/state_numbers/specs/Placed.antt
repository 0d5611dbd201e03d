-- Pins or arcs in classes, in order of their classes and then their numbers.
use Rattle.std.specs.Prelude.{◌≡◌, ℕ, ◌<◌, ◌==◌, ◌&&◌, ◌||◌, nat_lt, Bool, List, length, Option, Some, None, slice_index_or, All}
use Rattle.state_numbers.specs.declared.placed.Placed.{Placed}

abbrev pub placed_before : Placed → Placed → Bool
placed_before x y = nat_lt x.«class» y.«class» || (x.«class» == y.«class» && nat_lt x.number y.number)

abbrev pub placed_at : List Placed → ℕ → Placed
placed_at xs i = slice_index_or xs i (record { «class» = 0; number = 0; with = 0 })

abbrev pub IsPlaced : ℕ → ℕ → Placed → Type 0
IsPlaced c v x = (x.«class» ≡ c) × (x.number ≡ v)

abbrev pub IsFoundPlace : List Placed → ℕ → ℕ → Option ℕ → Type 0
IsFoundPlace xs c v None = All (λ x. IsPlaced c v x → ⊥) xs
IsFoundPlace xs c v (Some i) = (i < length xs) × IsPlaced c v (placed_at xs i)
