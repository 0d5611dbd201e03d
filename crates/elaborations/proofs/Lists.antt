-- Lists by parts: ranges, filters and pairs place by place.
use Rattle.std.specs.Prelude.{◌≡◌, ℕ, ◌<◌, ◌≤◌, ◌+◌, Bool, true, false, List, [], ◌∷◌, ◌++◌, filter, flat_map, length, zero, suc, nat_lt, ◌-◌, All, AllPairs, slice_index_or}
use Rattle.std.specs.List.{AllZip, range_with_len}
use Rattle.std.proofs.Common.{arith, ◌∙◌, refl, ap, subst}
use Rattle.std.proofs.lemmas.List.{length-append, get_or_append_left, get_or-append-add}
use Rattle.std.proofs.lemmas.List.Elements.{All-nil, All-cons, All-head, All-tail, All-append, All-weaker}
use Rattle.std.proofs.lemmas.List.Kept.{AllPairs-cons}
use Rattle.std.proofs.lemmas.Grind.{flat_map-append}
use Rattle.bud_design.proofs.ClassLaws.{pairs-head, pairs-tail}

pub range-append : (a m n : ℕ) → range_with_len a (m + n) ≡ range_with_len a m ++ range_with_len (a + m) n
range-append a zero n =
    let less : zero + n ≡ n = omega arith in
    let same : a + zero ≡ a = omega arith in
    rw (less, same) refl
range-append a (suc m) n =
    let more : suc m + n ≡ suc (m + n) = omega arith in
    let on : a + suc m ≡ (a + 1) + m = omega arith in
    rw (more, on) (ap (λ xs. a ∷ xs) (range-append (a + 1) m n))

pub AllZip-append : {A B : Type 0} (R : A → B → Type 0) (xs xs' : List A) (ys ys' : List B) → AllZip R xs ys → AllZip R xs' ys' → AllZip R (xs ++ xs') (ys ++ ys')
AllZip-append R [] xs' [] ys' here rest = rest
AllZip-append R [] xs' (y ∷ ys) ys' here rest = absurd here
AllZip-append R (x ∷ xs) xs' [] ys' here rest = absurd here
AllZip-append R (x ∷ xs) xs' (y ∷ ys) ys' here rest = (here.0, AllZip-append R xs xs' ys ys' here.1 rest)

-- no number passes
pub filter-range-none : (test : ℕ → Bool) (a n : ℕ) → ((q : ℕ) → a ≤ q → q < a + n → test q ≡ false) → filter test (range_with_len a n) ≡ []
filter-range-none test a zero none = refl
filter-range-none test a (suc n) none =
    rw (none a (omega arith) (omega arith)) (filter-range-none test (a + 1) n (λ q from to. none q (omega (arith, from)) (omega (arith, to))))

pub filter-range-same : (f g : ℕ → Bool) (a n : ℕ) → ((q : ℕ) → a ≤ q → q < a + n → f q ≡ g q) → filter f (range_with_len a n) ≡ filter g (range_with_len a n)
filter-range-same f g a zero same = refl
filter-range-same f g a (suc n) same =
    let rest = filter-range-same f g (a + 1) n (λ q from to. same q (omega (arith, from)) (omega (arith, to))) in
    rw (same a (omega arith) (omega arith), rest) refl

pub by_lt : {P : Type 0} (m n : ℕ) → (m < n → P) → (n ≤ m → P) → P
by_lt {P} m n less more = by_test (nat_lt m n) refl
  where
    by_test : (b : Bool) → nat_lt m n ≡ b → P
    by_test true is = less (grind (arith, is))
    by_test false is = more (grind (arith, is))

-- ---- lists made number by number
pub All-flat_map : {X : Type 0} (P : X → Type 0) (f : ℕ → List X) (a n : ℕ) → ((p : ℕ) → a ≤ p → p < a + n → All P (f p)) → All P (flat_map f (range_with_len a n))
All-flat_map P f a zero each = All-nil P
All-flat_map P f a (suc n) each =
    All-append P (f a) (flat_map f (range_with_len (a + 1) n)) (each a (omega arith) (omega arith)) (All-flat_map P f (a + 1) n (λ p least most. each p (omega (arith, least)) (omega (arith, most))))

pub AllPairs-append : {X : Type 0} (R : X → X → Type 0) (xs ys : List X) → AllPairs R xs → AllPairs R ys → All (λ x. All (R x) ys) xs → AllPairs R (xs ++ ys)
AllPairs-append R [] ys here there across = there
AllPairs-append R (x ∷ xs) ys here there across =
    AllPairs-cons R x (xs ++ ys) (All-append (R x) xs ys (pairs-head R x xs here) (All-head (λ x. All (R x) ys) x xs across))
    (AllPairs-append R xs ys (pairs-tail R x xs here) there (All-tail (λ x. All (R x) ys) x xs across))

pub AllPairs-right : {X : Type 0} (R : X → X → Type 0) (xs ys : List X) → AllPairs R (xs ++ ys) → AllPairs R ys
AllPairs-right R [] ys pairs = pairs
AllPairs-right R (x ∷ xs) ys pairs = AllPairs-right R xs ys (pairs-tail R x (xs ++ ys) pairs)

pub AllPairs-left : {X : Type 0} (R : X → X → Type 0) (xs ys : List X) → AllPairs R (xs ++ ys) → AllPairs R xs
AllPairs-left R xs ys pairs i j d less below =
    let longer : j < length (xs ++ ys) = omega (arith, below, length-append xs ys) in
    subst (λ x. R x (slice_index_or xs j d)) (get_or_append_left xs ys d i (omega (arith, less, below)))
    (subst (R (slice_index_or (xs ++ ys) i d)) (get_or_append_left xs ys d j below) (pairs i j d less longer))

-- the k-th element that a number gives
pub flat_map-at : {X : Type 0} (f : ℕ → List X) (a c n k : ℕ) (d : X) → c < n → k < length (f (a + c))
    → (length (flat_map f (range_with_len a c)) + k < length (flat_map f (range_with_len a n))) × (slice_index_or (flat_map f (range_with_len a n)) (length (flat_map f (range_with_len a c)) + k) d ≡ slice_index_or (f (a + c)) k d)
flat_map-at f a c n k d less below = by_rest (n - (c + 1)) (omega (arith, less))
  where
    by_rest : (r : ℕ) → n ≡ c + suc r
        → (length (flat_map f (range_with_len a c)) + k < length (flat_map f (range_with_len a n))) × (slice_index_or (flat_map f (range_with_len a n)) (length (flat_map f (range_with_len a c)) + k) d ≡ slice_index_or (f (a + c)) k d)
    by_rest r same =
        let front = flat_map f (range_with_len a c) in
        let back = flat_map f (range_with_len (a + c + 1) r) in
        let whole : flat_map f (range_with_len a n) ≡ front ++ (f (a + c) ++ back) =
        ap (λ n. flat_map f (range_with_len a n)) same ∙ (ap (flat_map f) (range-append a c (suc r)) ∙ flat_map-append f (range_with_len a c) (range_with_len (a + c) (suc r))) in (
          omega (arith, below, ap length whole, length-append front (f (a + c) ++ back), length-append (f (a + c)) back),
          ap (λ xs. slice_index_or xs (length front + k) d) whole ∙ (get_or-append-add front (f (a + c) ++ back) k d ∙ get_or_append_left (f (a + c)) back d k below),
        )

-- where an element of such a list comes from
pub record ComesFrom {X : Type 0} (f : ℕ → List X) (a n v : ℕ) : Type 0 where
  pub number : ℕ
  pub less : number < n
  pub place : ℕ
  pub below : place < length (f (a + number))
  pub is : v ≡ length (flat_map f (range_with_len a number)) + place

pub comes-from : {X : Type 0} (f : ℕ → List X) (a n v : ℕ) → v < length (flat_map f (range_with_len a n)) → ComesFrom f a n v
comes-from f a zero v below = absurd (omega (arith, below))
comes-from f a (suc n) v below = by_lt v (length (f a))
    (λ here. record { number = 0; less = omega arith; place = v; below = subst (λ b. v < length (f b)) here_is here; is = omega arith })
    (λ on.
    let rest = comes-from f (a + 1) n (v - length (f a)) (omega (arith, on, below, length-append (f a) (flat_map f (range_with_len (a + 1) n)))) in
    let there : (a + 1) + rest.number ≡ a + suc rest.number = omega arith in
    record {
      number = suc rest.number;
      less = omega (arith, rest.less);
      place = rest.place;
      below = subst (λ b. rest.place < length (f b)) there rest.below;
      is = omega (arith, on, rest.is, length-append (f a) (flat_map f (range_with_len (a + 1) rest.number)));
    })
  where
    here_is : a ≡ a + 0
    here_is = omega arith

-- ---- places in pairs of lists
pub AllZip-at : {A B : Type 0} (R : A → B → Type 0) (xs : List A) (ys : List B) (d : A) (e : B) → AllZip R xs ys → (k : ℕ) → k < length ys → (k < length xs) × R (slice_index_or xs k d) (slice_index_or ys k e)
AllZip-at R [] [] d e all k below = absurd (omega (arith, below))
AllZip-at R [] (y ∷ ys) d e all k below = absurd all
AllZip-at R (x ∷ xs) [] d e all k below = absurd all
AllZip-at R (x ∷ xs) (y ∷ ys) d e all zero below = (omega arith, all.0)
AllZip-at R (x ∷ xs) (y ∷ ys) d e all (suc k) below =
    let rest = AllZip-at R xs ys d e all.1 k (omega (arith, below)) in
    (omega (arith, rest.0), rest.1)

pub AllZip-length : {A B : Type 0} (R : A → B → Type 0) (xs : List A) (ys : List B) → AllZip R xs ys → length xs ≡ length ys
AllZip-length R [] [] all = refl
AllZip-length R [] (y ∷ ys) all = absurd all
AllZip-length R (x ∷ xs) [] all = absurd all
AllZip-length R (x ∷ xs) (y ∷ ys) all = ap (λ n. suc n) (AllZip-length R xs ys all.1)

-- a number that passes stands among those that do
pub filter-range-at : (test : ℕ → Bool) (a n q : ℕ) → a ≤ q → q < a + n → test q ≡ true → (k : ℕ) × ((k < length (filter test (range_with_len a n))) × (slice_index_or (filter test (range_with_len a n)) k 0 ≡ q))
filter-range-at test a zero q least most passes = absurd (omega (arith, least, most))
filter-range-at test a (suc n) q least most passes = by_lt q (a + 1)
    (λ short. first (omega (arith, least, short)))
    (λ long. later (test a) refl (filter-range-at test (a + 1) n q long (omega (arith, most)) passes))
  where
    first : a ≡ q → (k : ℕ) × ((k < length (filter test (range_with_len a (suc n)))) × (slice_index_or (filter test (range_with_len a (suc n))) k 0 ≡ q))
    first same =
        let its : test a ≡ true = ap test same ∙ passes in
        (0, rw its (omega arith, same))

    later : (b : Bool) → test a ≡ b → (k : ℕ) × ((k < length (filter test (range_with_len (a + 1) n))) × (slice_index_or (filter test (range_with_len (a + 1) n)) k 0 ≡ q))
        → (k : ℕ) × ((k < length (filter test (range_with_len a (suc n)))) × (slice_index_or (filter test (range_with_len a (suc n))) k 0 ≡ q))
    later true is (k, both) = (suc k, rw is (omega (arith, both.0), both.1))
    later false is (k, both) = (k, rw is both)

-- what passes lies in the range
pub filter-range-within : (test : ℕ → Bool) (a n : ℕ) → All (λ q. (a ≤ q × q < a + n) × (test q ≡ true)) (filter test (range_with_len a n))
filter-range-within test a zero = All-nil (λ q. (a ≤ q × q < a + 0) × (test q ≡ true))
filter-range-within test a (suc n) = by_test (test a) refl
    (All-weaker (λ q. (a + 1 ≤ q × q < a + 1 + n) × (test q ≡ true)) (λ q. (a ≤ q × q < a + suc n) × (test q ≡ true))
    (λ q such. ((omega (arith, such.0.0), omega (arith, such.0.1)), such.1)) (filter test (range_with_len (a + 1) n)) (filter-range-within test (a + 1) n))
  where
    by_test : (b : Bool) → test a ≡ b → All (λ q. (a ≤ q × q < a + suc n) × (test q ≡ true)) (filter test (range_with_len (a + 1) n)) → All (λ q. (a ≤ q × q < a + suc n) × (test q ≡ true)) (filter test (range_with_len a (suc n)))
    by_test true is rest = rw is (All-cons (λ q. (a ≤ q × q < a + suc n) × (test q ≡ true)) a (filter test (range_with_len (a + 1) n)) ((omega arith, omega arith), is) rest)
    by_test false is rest = rw is rest
