-- The first place at which two bytes stand one after the other.
use Rattle.std.proofs.Common.{◌≡◌, ℕ, ◌+◌, ◌≤◌, ◌==◌, ◌&&◌, true, false, Option, Some, None, List, [], ◌∷◌, ◌++◌, length, take, refl, ap, ◌∙◌, arith}
use Rattle.std.specs.Option.{option_map}
use Rattle.std.proofs.lemmas.Bool.{and_parts, eqb-true}
use Rattle.verilog_lex.specs.Fronts.{begins, before_pair}
use Rattle.verilog_lex.proofs.Bytes.{by_test, take_front, first_is, begins_taken}

-- it is the front, or stands behind it
by_place : {P : Type 0} (x y b n : ℕ) (bs : List ℕ) → before_pair x y (b ∷ bs) ≡ Some n →
    ((b == x && begins (λ c. c == y) bs) ≡ true → n ≡ 0 → P) →
    ((m : ℕ) → (b == x && begins (λ c. c == y) bs) ≡ false → before_pair x y bs ≡ Some m → n ≡ m + 1 → P) → P
by_place {P} x y b n bs found here later =
    by_test (b == x && begins (λ c. c == y) bs)
    (λ holds. here holds (let e : Some 0 ≡ Some n = rw holds at found in cc))
    (λ fails. behind (before_pair x y bs) refl (rw fails at found) (later_is fails))
  where
    later_is : (b == x && begins (λ c. c == y) bs) ≡ false → (m : ℕ) → before_pair x y bs ≡ Some m → n ≡ m + 1 → P
    later_is fails m is where_is = later m fails is where_is

    behind : (o : Option ℕ) → before_pair x y bs ≡ o → option_map (λ k. k + 1) (before_pair x y bs) ≡ Some n → ((m : ℕ) → before_pair x y bs ≡ Some m → n ≡ m + 1 → P) → P
    behind None is mapped k = absurd (let e : None ≡ Some n = rw is at mapped in cc)
    behind (Some m) is mapped k = k m is (let e : Some (m + 1) ≡ Some n = rw is at mapped in cc)

-- what stands up to the end of the pair
pub pair_ends : (x y n : ℕ) (xs : List ℕ) → before_pair x y xs ≡ Some n → take (n + 2) xs ≡ take n xs ++ x ∷ (y ∷ [])
pair_ends x y n [] found = absurd (cc)
pair_ends x y n (b ∷ bs) found =
    by_place x y b n bs found
    (λ holds is.
    let parts = and_parts (b == x) (begins (λ c. c == y) bs) holds in
    let first : b ≡ x = eqb-true b x parts.0 in
    rw is (take_front 1 b bs ∙ ap (λ rest. b ∷ rest) (first_is y bs parts.1) ∙ ap (λ c. c ∷ (y ∷ [])) first))
    (λ m fails is later.
    let e : m + 1 + 2 ≡ (m + 2) + 1 = omega arith in
    rw later (rw (e, take_front (m + 2) b bs, take_front m b bs) (ap (λ rest. b ∷ rest) (pair_ends x y m bs is))))

-- it is the first there too
pub pair_kept : (x y n : ℕ) (xs : List ℕ) → before_pair x y xs ≡ Some n → before_pair x y (take (n + 2) xs) ≡ Some n
pair_kept x y n [] found = absurd (cc)
pair_kept x y n (b ∷ bs) found =
    by_place x y b n bs found
    (λ holds is. rw is (rw (begins_taken (λ c. c == y) 0 bs, holds) refl))
    (λ m fails is later.
    let e : m + 1 + 2 ≡ (m + 2) + 1 = omega arith in
    let f : m + 2 ≡ (m + 1) + 1 = omega arith in
    let same : begins (λ c. c == y) (take (m + 2) bs) ≡ begins (λ c. c == y) bs = rw f (begins_taken (λ c. c == y) (m + 1) bs) in
    rw later (rw (e, take_front (m + 2) b bs, same, fails, pair_kept x y m bs is) refl))

pub pair_within : (x y n : ℕ) (xs : List ℕ) → before_pair x y xs ≡ Some n → n + 2 ≤ length xs
pair_within x y n [] found = absurd (cc)
pair_within x y n (b ∷ bs) found =
    by_place x y b n bs found
    (λ holds is. two bs (and_parts (b == x) (begins (λ c. c == y) bs) holds).1 is)
    (λ m fails is later. let more = pair_within x y m bs is in omega arith)
  where
    two : (cs : List ℕ) → begins (λ c. c == y) cs ≡ true → n ≡ 0 → n + 2 ≤ length (b ∷ cs)
    two [] begun is = absurd (cc)
    two (c ∷ cs) begun is = omega arith
