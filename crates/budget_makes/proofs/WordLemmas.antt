-- Words that are numbers of a range.
use Rattle.std.proofs.Common.{◌≡◌, ◌<◌, ◌^◌, ℕ, true, false, List, [], ◌∷◌, length, Option, Some, None, arith, ap, sym, ◌∙◌, subst, refl}
use Rattle.std.specs.Prelude.{ℤ, pos, ◌≤ℤ◌, nat_le, IfSome}
use Rattle.std.specs.Option.{option_map, option_and_then}
use Rattle.std.proofs.lemmas.Int.{ints}
use Rattle.line_text.specs.Clipped.{clipped}
use Rattle.line_text.specs.Numbers.{natural_of, whole_of}
use Rattle.budget_makes.specs.Words.{begins_with_minus, digits_of, in_range, in_whole_range}

-- a minus is no digit
pub none_with_minus : (word : List ℕ) → begins_with_minus word ≡ true → natural_of word ≡ None
none_with_minus [] minus = refl
none_with_minus (b ∷ bs) minus = let e : b ≡ 45 = grind (arith, minus) in rw e refl

-- without one a whole number is a natural one
whole_natural : (word : List ℕ) → begins_with_minus word ≡ false → whole_of word ≡ option_map pos (natural_of word)
unfolding whole_of
whole_natural [] none = refl
whole_natural (b ∷ bs) none = rw none refl

map_twice : (d : Option ℕ) → option_map clipped (option_map pos d) ≡ option_map (λ n. clipped (pos n)) d
map_twice None = refl
map_twice (Some n) = refl

pub digits_by : (word : List ℕ) → nat_le (length word) 10 ≡ true → begins_with_minus word ≡ false
    → option_map clipped (whole_of word) ≡ option_map (λ n. clipped (pos n)) (digits_of word)
digits_by word few none = ap (option_map clipped) (whole_natural word none) ∙ map_twice (natural_of word) ∙ (rw few refl)

in_range_by : (least most n : ℕ) → most < 2 ^ 32 → in_whole_range least most (clipped (pos n)) ≡ in_range least most n
in_range_by least most n small = grind (arith, ints, small)

pub number_by : (least most : ℕ) (d : Option ℕ) → most < 2 ^ 32
    → option_and_then (in_whole_range least most) (option_map (λ n. clipped (pos n)) d) ≡ option_and_then (in_range least most) d
number_by least most None small = refl
number_by least most (Some n) small = in_range_by least most n small

-- what the digits come to
pub none_by : (least most : ℕ) (d : Option ℕ) → None ≡ option_map (λ n. clipped (pos n)) d → None ≡ option_and_then (in_range least most) d
none_by least most None e = refl
none_by least most (Some n) e = cc

pub some_by : (least most : ℕ) (z : ℤ) (d : Option ℕ) → most < 2 ^ 32 → Some z ≡ option_map (λ n. clipped (pos n)) d → in_whole_range least most z ≡ option_and_then (in_range least most) d
some_by least most z d small e = ap (option_and_then (in_whole_range least most)) e ∙ number_by least most d small

pub digits_within : (d : Option ℕ) (r : Option ℤ) → r ≡ option_map (λ n. clipped (pos n)) d → IfSome r (λ z. (pos 0 ≤ℤ z) × (z ≤ℤ pos 4611686018427387905))
digits_within d r is = subst (λ r. IfSome r (λ z. (pos 0 ≤ℤ z) × (z ≤ℤ pos 4611686018427387905))) (sym is) (within d)
  where
    within : (d : Option ℕ) → IfSome (option_map (λ n. clipped (pos n)) d) (λ z. (pos 0 ≤ℤ z) × (z ≤ℤ pos 4611686018427387905))
    within None = tt
    within (Some n) = (grind (arith, ints), grind (arith, ints))
