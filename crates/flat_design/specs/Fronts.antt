-- A pin's name as what stands before its port, the port, and the number of its bit.
use Rattle.std.specs.Prelude.{◌≡◌, ◌≢◌, ℕ, List, [], ◌∷◌, ◌++◌, ◌<◌, ◌^◌, flat_map, decimal, Option, Some, None}
use Rattle.std.specs.Borrow.{Bor}
use Rattle.bud_design.specs.declared.designs.Place.{Place}
use Rattle.bud_design.specs.Designs.{way_down}
use Rattle.bud_design.specs.Names.{plain}
use Rattle.flat_design.specs.declared.texts.Form.{Form}
use Rattle.flat_design.specs.declared.texts.Form.TheVariants.{Printed, Plain}

-- a printed name in this form
abbrev pub formed : Form → List ℕ → List ℕ
formed Printed name = name
formed Plain name = plain name

-- the names of instances, each before a `/`
abbrev pub led_by : Form → List (List ℕ) → List ℕ
led_by form names = flat_map (λ name. formed form name ++ 47 ∷ []) names

-- what stands before the names of what is in a place
abbrev pub front : Form → List Place → ℕ → List ℕ
front form places p = led_by form (way_down places 0 p)

-- the number of a vector's bit in brackets
abbrev pub brackets : Option ℕ → List ℕ
brackets None = []
brackets (Some n) = 91 ∷ (decimal n ++ 93 ∷ [])

-- a bit's number, where there is one, is one of 64 bits
abbrev pub IsShort : Option ℕ → Type 0
IsShort None = Unit {0}
IsShort (Some n) = n < 2 ^ 64

-- what stands before the end of a text, if it ends so
abbrev pub IsBefore : List ℕ → List ℕ → Option (Bor (List ℕ)) → Type 0
IsBefore text end None = (before : List ℕ) → text ≢ before ++ end
IsBefore text end (Some before) = text ≡ before.now ++ end
