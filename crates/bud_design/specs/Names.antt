-- Names of objects: printed form, plain name, and what a name means among the objects of a kind.
use Rattle.std.specs.Prelude.{ℕ, ◌==◌, ◌&&◌, ◌||◌, nat_le, Bool, true, false, List, [], ◌∷◌, ◌++◌, Option, Some, None, filter, find, decimal, if◌then◌else◌}
use Rattle.std.specs.Option.{option_or, option_map}
use Rattle.std.specs.Str.{bytes_eq}
use Rattle.bud_design.specs.Lists.{only}

-- a letter, a digit, `_` or `$`
abbrev pub is_ordinary : ℕ → Bool
is_ordinary b = (nat_le 97 b && nat_le b 122) || ((nat_le 65 b && nat_le b 90) || ((nat_le 48 b && nat_le b 57) || (b == 95 || b == 36)))

-- the printed form of an identifier: a backslash before every character that isn't ordinary
abbrev pub printed : List ℕ → List ℕ
printed [] = []
printed (b ∷ bs) = if is_ordinary b then b ∷ printed bs else 92 ∷ b ∷ printed bs

-- the rest of a plain name, behind a backslash or not
abbrev pub plain_from : Bool → List ℕ → List ℕ
plain_from escaped [] = []
plain_from true (b ∷ bs) = b ∷ plain_from false bs
plain_from false (b ∷ bs) = if b == 92 then plain_from true bs else b ∷ plain_from false bs

-- the plain name: a printed name without the backslashes that printing puts
abbrev pub plain : List ℕ → List ℕ
plain name = plain_from false name

-- a bit of a vector has its number in brackets behind the port's name
abbrev pub bit_name : List ℕ → Option ℕ → List ℕ
bit_name name None = name
bit_name name (Some n) = name ++ (91 ∷ (decimal n ++ 93 ∷ []))

-- an object of a kind, by its printed name
pub record Named (X : Type 0) : Type 0 where
  pub name : List ℕ
  pub object : X

abbrev pub object_of : {X : Type 0} → Option (Named X) → Option X
object_of named = option_map (λ n. n.object) named

-- what a name means among these: the object whose printed name it is, else the one object whose plain name it is
abbrev pub meaning : {X : Type 0} → List (Named X) → List ℕ → Option X
meaning objects name =
    option_or (object_of (find (λ o. bytes_eq o.name name) objects))
    (object_of (only (filter (λ o. bytes_eq (plain o.name) name) objects)))
