-- Laws of names: printing loses nothing, and a joined name determines its parts.
use Rattle.std.specs.Prelude.{◌≡◌, ℕ, ◌<◌, ◌==◌, ◌&&◌, ◌^◌, not, Bool, true, false, List, [], ◌∷◌, ◌++◌, map, length, Option, Some, None, All, decimal, if◌then◌else◌, AllPairs, find, slice_index_or, zero, suc}
use Rattle.std.specs.List.{join_with_byte}
use Rattle.std.proofs.Common.{true≢false, arith, sym, ◌∙◌, refl, ap}
use Rattle.std.proofs.lemmas.List.{append-nil, append_cancel_right}
use Rattle.std.proofs.lemmas.Fmt.{decimal_injective}
use Rattle.std.specs.Str.{bytes_eq}
use Rattle.std.proofs.lemmas.Slice.Eq.{bytes_eq-Decides}
use Rattle.bud_design.proofs.ClassLaws.{pairs-tail}
use Rattle.bud_design.specs.Names.{Named, object_of, meaning, is_ordinary, printed, plain, bit_name}

-- an ordinary character isn't the backslash
ordinary-differs : (b : ℕ) → is_ordinary b ≡ true → (b == 92) ≡ false
ordinary-differs b ordinary = by_equal (b == 92) refl
  where
    by_equal : (e : Bool) → (b == 92) ≡ e → (b == 92) ≡ false
    by_equal true is = grind (arith, ordinary, is)
    by_equal false is = is

-- the plain name of a printed identifier is the identifier
pub plain-printed : (x : List ℕ) → plain (printed x) ≡ x
plain-printed [] = refl
plain-printed (b ∷ bs) = by_ordinary (is_ordinary b) refl (plain-printed bs)
  where
    by_ordinary : (o : Bool) → is_ordinary b ≡ o → plain (printed bs) ≡ bs → plain (if o then b ∷ printed bs else 92 ∷ b ∷ printed bs) ≡ b ∷ bs
    by_ordinary true e rest = rw (ordinary-differs b e) (ap (λ cs. b ∷ cs) rest)
    by_ordinary false e rest = ap (λ cs. b ∷ cs) rest

-- printing is one to one
pub printed-injective : (x y : List ℕ) → printed x ≡ printed y → x ≡ y
printed-injective x y same = sym (plain-printed x) ∙ (ap plain same ∙ plain-printed y)

-- the text doesn't go on with an identifier's character
abbrev pub stops : List ℕ → Bool
stops [] = true
stops (b ∷ bs) = not (is_ordinary b) && not (b == 92)

-- the identifier that a text begins with, behind a backslash or not, and the text behind it
abbrev first_of : Bool → List ℕ → List ℕ
first_of escaped [] = []
first_of true (b ∷ bs) = b ∷ first_of false bs
first_of false (b ∷ bs) = if is_ordinary b then b ∷ first_of false bs else (if b == 92 then first_of true bs else [])

abbrev rest_of : Bool → List ℕ → List ℕ
rest_of escaped [] = []
rest_of true (b ∷ bs) = rest_of false bs
rest_of false (b ∷ bs) = if is_ordinary b then rest_of false bs else (if b == 92 then rest_of true bs else b ∷ bs)

first_of-stops : (s : List ℕ) → stops s ≡ true → first_of false s ≡ []
first_of-stops [] end = refl
first_of-stops (b ∷ bs) end = by_both (is_ordinary b) (b == 92) end
  where
    by_both : (o e : Bool) → not o && not e ≡ true → (if o then b ∷ first_of false bs else (if e then first_of true bs else [])) ≡ []
    by_both true e end = absurd (true≢false (sym end))
    by_both false true end = absurd (true≢false (sym end))
    by_both false false end = refl

rest_of-stops : (s : List ℕ) → stops s ≡ true → rest_of false s ≡ s
rest_of-stops [] end = refl
rest_of-stops (b ∷ bs) end = by_both (is_ordinary b) (b == 92) end
  where
    by_both : (o e : Bool) → not o && not e ≡ true → (if o then rest_of false bs else (if e then rest_of true bs else b ∷ bs)) ≡ b ∷ bs
    by_both true e end = absurd (true≢false (sym end))
    by_both false true end = absurd (true≢false (sym end))
    by_both false false end = refl

first_of-printed : (x s : List ℕ) → stops s ≡ true → first_of false (printed x ++ s) ≡ x
first_of-printed [] s end = first_of-stops s end
first_of-printed (b ∷ bs) s end = by_ordinary (is_ordinary b) refl (first_of-printed bs s end)
  where
    by_ordinary : (o : Bool) → is_ordinary b ≡ o → first_of false (printed bs ++ s) ≡ bs → first_of false ((if o then b ∷ printed bs else 92 ∷ b ∷ printed bs) ++ s) ≡ b ∷ bs
    by_ordinary true e rest = rw e (ap (λ cs. b ∷ cs) rest)
    by_ordinary false e rest = ap (λ cs. b ∷ cs) rest

rest_of-printed : (x s : List ℕ) → stops s ≡ true → rest_of false (printed x ++ s) ≡ s
rest_of-printed [] s end = rest_of-stops s end
rest_of-printed (b ∷ bs) s end = by_ordinary (is_ordinary b) refl (rest_of-printed bs s end)
  where
    by_ordinary : (o : Bool) → is_ordinary b ≡ o → rest_of false (printed bs ++ s) ≡ s → rest_of false ((if o then b ∷ printed bs else 92 ∷ b ∷ printed bs) ++ s) ≡ s
    by_ordinary true e rest = rw e rest
    by_ordinary false e rest = rest

-- a printed identifier before what stops it is determined, and so is what stops it
pub printed-before : (x y s t : List ℕ) → stops s ≡ true → stops t ≡ true → printed x ++ s ≡ printed y ++ t → (x ≡ y) × (s ≡ t)
printed-before x y s t ends endt same = (
  sym (first_of-printed x s ends) ∙ (ap (first_of false) same ∙ first_of-printed y t endt),
  sym (rest_of-printed x s ends) ∙ (ap (rest_of false) same ∙ rest_of-printed y t endt),
)

-- ---- joined names
abbrev tail_of : List ℕ → List ℕ
tail_of [] = []
tail_of (b ∷ bs) = bs

abbrev head_of : List ℕ → ℕ
head_of [] = 0
head_of (b ∷ bs) = b

-- the names behind the first, each behind a `/`
abbrev behind : List (List ℕ) → List ℕ
behind [] = []
behind (y ∷ ys) = 47 ∷ join_with_byte 47 (y ∷ ys)

join-first : (x : List ℕ) (ys : List (List ℕ)) → join_with_byte 47 (x ∷ ys) ≡ x ++ behind ys
join-first x [] = sym (append-nil x)
join-first x (y ∷ ys) = refl

behind-stops : (xs : List (List ℕ)) → stops (behind xs) ≡ true
behind-stops [] = refl
behind-stops (x ∷ xs) = refl

join-heads : (x y : List ℕ) (xs ys : List (List ℕ)) → join_with_byte 47 (printed x ∷ xs) ≡ join_with_byte 47 (printed y ∷ ys) → (x ≡ y) × (behind xs ≡ behind ys)
join-heads x y xs ys same =
    printed-before x y (behind xs) (behind ys) (behind-stops xs) (behind-stops ys) (sym (join-first (printed x) xs) ∙ (same ∙ join-first (printed y) ys))

pub cons-both : {A : Type 0} (x y : A) (xs ys : List A) → x ≡ y → xs ≡ ys → x ∷ xs ≡ y ∷ ys
cons-both x y xs ys e f = rw (e, f) refl

behind-injective : (xs ys : List (List ℕ)) → behind (map printed xs) ≡ behind (map printed ys) → xs ≡ ys
behind-injective [] [] same = refl
behind-injective [] (y ∷ ys) same = absurd (omega (arith, ap length same))
behind-injective (x ∷ xs) [] same = absurd (omega (arith, ap length same))
behind-injective (x ∷ xs) (y ∷ ys) same =
    let both = join-heads x y (map printed xs) (map printed ys) (ap tail_of same) in
    cons-both x y xs ys both.0 (behind-injective xs ys both.1)

-- names joined by `/` determine the identifiers, where there are any
pub joined-injective : (xs ys : List (List ℕ)) → 0 < length xs → 0 < length ys → join_with_byte 47 (map printed xs) ≡ join_with_byte 47 (map printed ys) → xs ≡ ys
joined-injective [] ys somex somey same = absurd (omega (arith, somex))
joined-injective (x ∷ xs) [] somex somey same = absurd (omega (arith, somey))
joined-injective (x ∷ xs) (y ∷ ys) somex somey same =
    let both = join-heads x y (map printed xs) (map printed ys) same in
    cons-both x y xs ys both.0 (behind-injective xs ys both.1)

-- ---- bits of vectors
abbrev brackets : Option ℕ → List ℕ
brackets None = []
brackets (Some n) = 91 ∷ (decimal n ++ 93 ∷ [])

-- a bit's number is one of 64 bits
abbrev pub IsShort : Option ℕ → Type 0
IsShort None = Unit {0}
IsShort (Some n) = n < 2 ^ 64

bit_name-is : (name : List ℕ) (bit : Option ℕ) → bit_name name bit ≡ name ++ brackets bit
bit_name-is name None = sym (append-nil name)
bit_name-is name (Some n) = refl

brackets-stop : (bit : Option ℕ) → stops (brackets bit) ≡ true
brackets-stop None = refl
brackets-stop (Some n) = refl

brackets-injective : (a b : Option ℕ) → IsShort a → IsShort b → brackets a ≡ brackets b → a ≡ b
brackets-injective None None shorta shortb same = refl
brackets-injective None (Some n) shorta shortb same = absurd (omega (arith, ap length same))
brackets-injective (Some m) None shorta shortb same = absurd (omega (arith, ap length same))
brackets-injective (Some m) (Some n) shorta shortb same =
    ap (λ k. Some k) (decimal_injective m n shorta shortb (append_cancel_right (decimal m) (decimal n) (93 ∷ []) (ap tail_of same)))

-- the name of a bit determines port and number
pub bit_name-injective : (x y : List ℕ) (a b : Option ℕ) → IsShort a → IsShort b → bit_name (printed x) a ≡ bit_name (printed y) b → (x ≡ y) × (a ≡ b)
bit_name-injective x y a b shorta shortb same =
    let both = printed-before x y (brackets a) (brackets b) (brackets-stop a) (brackets-stop b) (sym (bit_name-is (printed x) a) ∙ (same ∙ bit_name-is (printed y) b)) in
    (both.0, brackets-injective a b shorta shortb both.1)

-- and is no printed identifier
pub bit_name-differs : (x y : List ℕ) (n : ℕ) → bit_name (printed x) (Some n) ≡ printed y → ⊥
bit_name-differs x y n same =
    let both = printed-before x y (brackets (Some n)) [] refl refl (same ∙ sym (append-nil (printed y))) in
    absurd (omega (arith, ap length both.1))

-- ---- pins: identifiers on the way down, and the name of a bit
abbrev led : List (List ℕ) → List ℕ → List ℕ
led [] name = name
led (x ∷ xs) name = x ++ (47 ∷ led xs name)

join-led : (xs : List (List ℕ)) (name : List ℕ) → join_with_byte 47 (xs ++ name ∷ []) ≡ led xs name
join-led [] name = refl
join-led (x ∷ []) name = refl
join-led (x ∷ y ∷ xs) name = ap (λ cs. x ++ (47 ∷ cs)) (join-led (y ∷ xs) name)

brackets-behind : (b : Option ℕ) (cs : List ℕ) → {P : Type 0} → brackets b ≡ 47 ∷ cs → P
brackets-behind None cs same = absurd (omega (arith, ap length same))
brackets-behind (Some n) cs same = absurd (omega (arith, ap head_of same))

led-injective : (xs ys : List (List ℕ)) (p q : List ℕ) (a b : Option ℕ) → IsShort a → IsShort b
    → led (map printed xs) (printed p ++ brackets a) ≡ led (map printed ys) (printed q ++ brackets b) → (xs ≡ ys) × ((p ≡ q) × (a ≡ b))
led-injective [] [] p q a b shorta shortb same =
    let both = printed-before p q (brackets a) (brackets b) (brackets-stop a) (brackets-stop b) same in
    (refl, (both.0, brackets-injective a b shorta shortb both.1))
led-injective [] (y ∷ ys) p q a b shorta shortb same =
    let rest = led (map printed ys) (printed q ++ brackets b) in
    brackets-behind a rest (printed-before p y (brackets a) (47 ∷ rest) (brackets-stop a) refl same).1
led-injective (x ∷ xs) [] p q a b shorta shortb same =
    let rest = led (map printed xs) (printed p ++ brackets a) in
    brackets-behind b rest (sym (printed-before x q (47 ∷ rest) (brackets b) refl (brackets-stop b) same).1)
led-injective (x ∷ xs) (y ∷ ys) p q a b shorta shortb same =
    let here = printed-before x y (47 ∷ led (map printed xs) (printed p ++ brackets a)) (47 ∷ led (map printed ys) (printed q ++ brackets b)) refl refl same in
    let rest = led-injective xs ys p q a b shorta shortb (ap tail_of here.1) in
    (cons-both x y xs ys here.0 rest.0, rest.1)

-- a pin's name determines the identifiers on its way, port and bit
pub pin_names-injective : (xs ys : List (List ℕ)) (p q : List ℕ) (a b : Option ℕ) → IsShort a → IsShort b
    → join_with_byte 47 (map printed xs ++ bit_name (printed p) a ∷ []) ≡ join_with_byte 47 (map printed ys ++ bit_name (printed q) b ∷ []) → (xs ≡ ys) × ((p ≡ q) × (a ≡ b))
pin_names-injective xs ys p q a b shorta shortb same =
    led-injective xs ys p q a b shorta shortb
    (ap (led (map printed xs)) (sym (bit_name-is (printed p) a)) ∙ (sym (join-led (map printed xs) (bit_name (printed p) a))
    ∙ (same ∙ (join-led (map printed ys) (bit_name (printed q) b) ∙ ap (led (map printed ys)) (bit_name-is (printed q) b)))))

-- ---- names that differ
object_of-first : {X : Type 0} (o : Named X) (os : List (Named X)) (name : List ℕ) → name ≡ o.name → object_of (find (λ o. bytes_eq o.name name) (o ∷ os)) ≡ Some o.object
object_of-first o os name is =
    let found : bytes_eq o.name name ≡ true = (bytes_eq-Decides o.name name).1 (sym is) in
    rw found refl

find-others : {X : Type 0} (o : Named X) (os : List (Named X)) (name : List ℕ) → bytes_eq o.name name ≡ false → object_of (find (λ o. bytes_eq o.name name) (o ∷ os)) ≡ object_of (find (λ o. bytes_eq o.name name) os)
find-others o os name differ = rw differ refl

found-own : {X : Type 0} (objects : List (Named X)) → AllPairs (λ a b. bytes_eq a.name b.name ≡ false) objects
    → All (λ o. object_of (find (λ a. bytes_eq a.name o.name) objects) ≡ Some o.object) objects
found-own [] differ k d below = absurd (omega (arith, below))
found-own (o ∷ os) differ zero d below = object_of-first o os o.name refl
found-own (o ∷ os) differ (suc k) d below =
    find-others o os (slice_index_or os k d).name (differ 0 (suc k) d (omega arith) (omega (arith, below)))
    ∙ found-own os (pairs-tail (λ a b. bytes_eq a.name b.name ≡ false) o os differ) k d (omega (arith, below))

-- where names differ, the printed name of an object means that object
pub meaning-own : {X : Type 0} (objects : List (Named X)) → AllPairs (λ a b. bytes_eq a.name b.name ≡ false) objects → All (λ o. meaning objects o.name ≡ Some o.object) objects
meaning-own objects differ k d below = rw (found-own objects differ k d below) refl
