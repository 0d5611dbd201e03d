-- What is printed of graphic characters is of graphic characters.
use Rattle.std.proofs.Common.{◌≡◌, ℕ, ◌+◌, ◌<◌, ◌≤◌, ◌&&◌, ◌^◌, ◌%◌, nat_lt, nat_le, Bool, true, false, Option, Some, None, List, [], ◌∷◌, ◌++◌, length, decimal, length-append, refl, sym, ◌∙◌, arith, true≢false, if◌then◌else◌}
use Rattle.std.specs.List.{list_all, join_with_byte, AllByRecursion}
use Rattle.std.proofs.lemmas.List.Folds.{list_all-append}
use Rattle.std.proofs.lemmas.Fmt.{decimal_by_steps}
use Rattle.bud_design.proofs.NameLaws.{IsShort}
use Rattle.bud_design.specs.DesignRules.{is_identifier}
use Rattle.bud_design.specs.Names.{is_ordinary, printed, bit_name}

abbrev pub is_graphic : ℕ → Bool
is_graphic b = nat_le 33 b && nat_le b 126

abbrev pub Graphic : List ℕ → Type 0
Graphic name = list_all is_graphic name ≡ true

pub and-both : (a b : Bool) → a && b ≡ true → (a ≡ true) × (b ≡ true)
and-both true b is = (refl, is)
and-both false b is = absurd (true≢false (sym is))

pub graphic-append : (xs ys : List ℕ) → Graphic xs → Graphic ys → Graphic (xs ++ ys)
graphic-append xs ys one two = list_all-append is_graphic xs ys ∙ rw (one, two) refl

pub printed-graphic : (xs : List ℕ) → Graphic xs → Graphic (printed xs)
printed-graphic [] all = refl
printed-graphic (b ∷ bs) all = (let both = and-both (is_graphic b) (list_all is_graphic bs) all in by_kind (is_ordinary b) both.0 (printed-graphic bs both.1))
  where
    by_kind : (o : Bool) → is_graphic b ≡ true → Graphic (printed bs) → Graphic (if o then b ∷ printed bs else 92 ∷ b ∷ printed bs)
    by_kind true one others = rw (one, others) refl
    by_kind false one others = rw (one, others) refl

has-one : (b : ℕ) (bs : List ℕ) → nat_lt 0 (length (b ∷ bs)) ≡ true
has-one b bs = grind (arith)

-- a text of graphic characters that has one
pub identifier-of : (xs : List ℕ) → 0 < length xs → Graphic xs → is_identifier xs ≡ true
identifier-of [] some all = absurd (omega (arith, some))
identifier-of (b ∷ bs) some all = rw (has-one b bs) all

pub identifier-graphic : (xs : List ℕ) → is_identifier xs ≡ true → (0 < length xs) × Graphic xs
identifier-graphic [] is = absurd (true≢false (sym is))
identifier-graphic (b ∷ bs) is = (omega arith, (and-both (nat_lt 0 (length (b ∷ bs))) (list_all is_graphic (b ∷ bs)) is).1)

printed-some : (xs : List ℕ) → 0 < length xs → 0 < length (printed xs)
printed-some [] some = some
printed-some (b ∷ bs) some = by_kind (is_ordinary b)
  where
    by_kind : (o : Bool) → 0 < length (if o then b ∷ printed bs else 92 ∷ b ∷ printed bs)
    by_kind true = omega arith
    by_kind false = omega arith

pub printed-identifier : (xs : List ℕ) → is_identifier xs ≡ true → is_identifier (printed xs) ≡ true
printed-identifier xs is = let both = identifier-graphic xs is in identifier-of (printed xs) (printed-some xs both.0) (printed-graphic xs both.1)

-- ---- numbers of bits
graphic-byte : (b : ℕ) → 33 ≤ b → b ≤ 126 → is_graphic b ≡ true
graphic-byte b low high = grind (arith, low, high)

digit-graphic : (n : ℕ) → n < 10 → Graphic ((48 + n) ∷ [])
digit-graphic n small = rw (graphic-byte (48 + n) (omega arith) (omega (arith, small))) refl

decimal-graphic : (n : ℕ) → n < 2 ^ 64 → Graphic (decimal n)
decimal-graphic = decimal_by_steps (λ m ds. Graphic ds) (λ m small. digit-graphic m small) (λ m ds small given. graphic-append ds ((48 + m % 10) ∷ []) given (digit-graphic (m % 10) (omega arith)))

pub bit_name-graphic : (name : List ℕ) (bit : Option ℕ) → IsShort bit → Graphic name → Graphic (bit_name name bit)
bit_name-graphic name None short all = all
bit_name-graphic name (Some n) short all =
    graphic-append name (91 ∷ (decimal n ++ 93 ∷ [])) all (graphic-append (91 ∷ []) (decimal n ++ 93 ∷ []) refl (graphic-append (decimal n) (93 ∷ []) (decimal-graphic n short) refl))

pub bit_name-some : (name : List ℕ) (bit : Option ℕ) → 0 < length name → 0 < length (bit_name name bit)
bit_name-some name None some = some
bit_name-some name (Some n) some = omega (arith, some, length-append name (91 ∷ (decimal n ++ 93 ∷ [])))

-- ---- names joined by `/`
pub join-graphic : (xs : List (List ℕ)) (last : List ℕ) → AllByRecursion Graphic xs → Graphic last → Graphic (join_with_byte 47 (xs ++ last ∷ []))
join-graphic [] last all is = is
join-graphic (x ∷ []) last all is = graphic-append x (47 ∷ last) all.0 (graphic-append (47 ∷ []) last refl is)
join-graphic (x ∷ (y ∷ xs)) last all is =
    graphic-append x (47 ∷ join_with_byte 47 ((y ∷ xs) ++ last ∷ [])) all.0 (graphic-append (47 ∷ []) (join_with_byte 47 ((y ∷ xs) ++ last ∷ [])) refl (join-graphic (y ∷ xs) last all.1 is))

pub join-some : (xs : List (List ℕ)) (last : List ℕ) → 0 < length last → 0 < length (join_with_byte 47 (xs ++ last ∷ []))
join-some [] last some = some
join-some (x ∷ []) last some = omega (arith, length-append x (47 ∷ last))
join-some (x ∷ (y ∷ xs)) last some = omega (arith, length-append x (47 ∷ join_with_byte 47 ((y ∷ xs) ++ last ∷ [])))
