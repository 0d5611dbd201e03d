-- Keys of classes.
use Rattle.std.specs.Prelude.{ℕ, zero, suc, ◌+◌, ◌*◌, ◌%◌, ◌==◌, List, [], ◌∷◌, Option, Some, None, if◌then◌else◌}
use Rattle.bud_design.specs.declared.layers.Class.{Class}
use Rattle.bud_design.specs.declared.layers.Met.{Met}
use Rattle.bud_design.specs.Layers.{class_number}

-- numbers as digits, modulo a prime
abbrev pub key_step : ℕ → ℕ → ℕ
key_step key value = (key * 16777619 + value) % 4294967291

abbrev pub mets_key : ℕ → List Met → ℕ
mets_key key [] = key
mets_key key (m ∷ ms) = mets_key (key_step (key_step key m.number) m.steps) ms

abbrev pub class_key : Class → ℕ
class_key k = mets_key (key_step 0 k.clock) k.exceptions

abbrev pub key_in : List Class → ℕ → ℕ
key_in classes c = class_key (class_number classes c)

-- the last number below `count` that has the key
abbrev pub last_below : (ℕ → ℕ) → ℕ → ℕ → Option ℕ
last_below keyed zero key = None
last_below keyed (suc n) key = if keyed n == key then Some n else last_below keyed n key
