-- Keys of places and pins, each by that of the place above.
use Rattle.std.specs.Prelude.{◌≡◌, ℕ, ◌<◌, ◌==◌, List, [], ◌∷◌, ◌++◌, length, slice_index_or, if◌then◌else◌}
use Rattle.bud_design.specs.declared.designs.Place.{Place}
use Rattle.bud_design.specs.declared.designs.Pin.{Pin}
use Rattle.bud_design.specs.Designs.{place_name, pin_at}
use Rattle.bud_design.specs.Names.{plain}
use Rattle.flat_design.specs.Fronts.{brackets, IsShort}
use Rattle.name_tables.specs.Keys.{key_from, key_of}

-- these are the keys of the first places' plain names
pub record HaveKeys (places : List Place) (count : ℕ) (keys : List ℕ) : Type 0 where
  pub all : length keys ≡ count
  pub are : (p : ℕ) → p < count → slice_index_or keys p 0 ≡ key_of (plain (place_name places 0 p))

-- the key of what stands before the plain names of what is in a place
abbrev pub front_key : List ℕ → ℕ → ℕ
front_key keys p = if p == 0 then 0 else key_from (slice_index_or keys p 0) (47 ∷ [])

-- the key of a pin's plain name
abbrev pub pin_key : List ℕ → Pin → ℕ
pin_key keys pin = key_from (front_key keys pin.place) (plain pin.port ++ brackets pin.bit)

-- these are the keys of the first pins
pub record HavePinKeys (keys : List ℕ) (pins : List Pin) (count : ℕ) (out : List ℕ) : Type 0 where
  pub all : length out ≡ count
  pub are : (v : ℕ) → v < count → slice_index_or out v 0 ≡ pin_key keys (pin_at pins v)
  pub short : (v : ℕ) → v < count → IsShort (pin_at pins v).bit
