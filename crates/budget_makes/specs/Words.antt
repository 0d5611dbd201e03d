-- The words of `make`: how many gates, and a number.
use Rattle.std.specs.Prelude.{ℕ, ℤ, pos, ◌==◌, ◌&&◌, Bool, false, [], ◌∷◌, nat_le, int_le, List, length, Option, Some, None, if◌then◌else◌}
use Rattle.std.specs.Option.{option_and_then}
use Rattle.line_text.specs.Numbers.{natural_of, unsigned}

abbrev pub begins_with_minus : List ℕ → Bool
begins_with_minus [] = false
begins_with_minus (b ∷ bs) = b == 45

-- one to ten decimal digits
abbrev pub digits_of : List ℕ → Option ℕ
digits_of word = if nat_le (length word) 10 then natural_of word else None

abbrev pub in_range : ℕ → ℕ → ℕ → Option ℕ
in_range least most n = if nat_le least n && nat_le n most then Some n else None

-- the same of a whole number
abbrev pub in_whole_range : ℕ → ℕ → ℤ → Option ℕ
in_whole_range least most z = if int_le (pos least) z && int_le z (pos most) then Some (unsigned z) else None

-- a number of the range in one to ten digits
abbrev pub number_in : ℕ → ℕ → List ℕ → Option ℕ
number_in least most word = option_and_then (in_range least most) (digits_of word)

-- how many gates a design may have
abbrev pub gates_of : List ℕ → Option ℕ
gates_of = number_in 1 20000

-- the numbers that designs are told by
abbrev pub number_of : List ℕ → Option ℕ
number_of = number_in 0 2147483647
