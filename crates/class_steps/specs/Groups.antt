-- The pins of the groups of exceptions.
use Rattle.std.specs.Prelude.{◌≡◌, ℕ, ◌==◌, ◌&&◌, Bool, List}
use Rattle.std.specs.List.{list_any}
use Rattle.bud_design.specs.declared.clocks.Exception.{Exception}
use Rattle.bud_design.specs.Exceptions.{has_pin, group_after, groups_of}
use Rattle.class_steps.specs.declared.groups.GroupPin.{GroupPin}
use Rattle.class_steps.specs.declared.groups.GroupPins.{GroupPins}

abbrev pub same_pin : GroupPin → GroupPin → Bool
same_pin p q = p.number == q.number && (p.steps == q.steps && p.pin.0 == q.pin.0)

abbrev pub holds : List GroupPin → GroupPin → Bool
holds pins q = list_any (λ p. same_pin q p) pins

abbrev pub has_number : List ℕ → ℕ → Bool
has_number numbers v = list_any (λ u. v == u) numbers

-- the pin lies in the group behind so many steps of the first exception of the number
abbrev pub is_passed : List Exception → GroupPin → Bool
is_passed es q = has_pin (group_after q.steps (groups_of es q.number)) q.pin.0

-- what is found are the pins of the groups
abbrev pub AreGroupPins : List Exception → GroupPins → Type 0
AreGroupPins es groups = (q : GroupPin) → holds groups.pins.keys q ≡ is_passed es q
