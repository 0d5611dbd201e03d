-- Where the pins of each place begin, and which places stand in it.
use Rattle.std.specs.Prelude.{◌≡◌, ℕ, ◌<◌, List, [], ◌∷◌, ◌++◌, length, drop, slice_index_or, slice_set, Option, Some, None, ◌==◌}
use Rattle.std.specs.List.{position_from}
use Rattle.bud_design.specs.declared.designs.Place.{Place}
use Rattle.bud_design.specs.declared.designs.Pin.{Pin}
use Rattle.elaborations.specs.Elaborations.{or_zero, first_pin, instances_in}
use Rattle.elaborations.specs.Walks.{children}

-- the first pin of each place, 0 where it has none, as far as the pins from a number on show
pub record AreFirstFrom (pins : List Pin) (count from : ℕ) (firsts : List ℕ) : Type 0 where
  pub size : length firsts ≡ count
  pub each : (p : ℕ) → p < count → slice_index_or firsts p 0 ≡ or_zero (position_from (λ v. v.place == p) from (drop from pins))

pub record AreFirstPins (pins : List Pin) (count : ℕ) (firsts : List ℕ) : Type 0 where
  pub size : length firsts ≡ count
  pub each : (p : ℕ) → p < count → slice_index_or firsts p 0 ≡ first_pin pins p

-- the places that stand in each place, as far as the places before a number show
pub record AreKidsBefore (places : List Place) (number : ℕ) (kids : List (List ℕ)) : Type 0 where
  pub size : length kids ≡ length places
  pub each : (p : ℕ) → p < length places → slice_index_or kids p [] ≡ children places p 0 number

-- where there is a number, it is below
abbrev pub IsBelow : ℕ → Option ℕ → Type 0
IsBelow count None = Unit {0}
IsBelow count (Some p) = p < count

-- a place more in the place that it stands in
abbrev pub with_kid : List (List ℕ) → Option ℕ → ℕ → List (List ℕ)
with_kid kids None number = kids
with_kid kids (Some p) number = slice_set kids p (slice_index_or kids p [] ++ number ∷ [])

pub record AreKids (places : List Place) (kids : List (List ℕ)) : Type 0 where
  pub size : length kids ≡ length places
  pub each : (p : ℕ) → p < length places → slice_index_or kids p [] ≡ instances_in places p
