-- Keys of names.
use Rattle.std.specs.Prelude.{ℕ, ◌+◌, ◌*◌, ◌%◌, ◌==◌, ◌&&◌, not, Bool, List, [], ◌∷◌}

-- the byte is a backslash that makes the next byte stand for itself
abbrev pub escapes : Bool → ℕ → Bool
escapes escaped byte = not escaped && byte == 92

-- a text's key has its bytes as digits, modulo a prime
abbrev pub key_step : ℕ → ℕ → ℕ
key_step key byte = (key * 16777619 + byte) % 4294967291

abbrev pub key_from : ℕ → List ℕ → ℕ
key_from key [] = key
key_from key (b ∷ bs) = key_from (key_step key b) bs

abbrev pub key_of : List ℕ → ℕ
key_of text = key_from 0 text
