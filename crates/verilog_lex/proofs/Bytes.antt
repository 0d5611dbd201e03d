-- Tests, and bytes at the front of a row.
use Rattle.std.proofs.Common.{◌≡◌, ℕ, zero, suc, ◌+◌, ◌-◌, ◌≤◌, ◌==◌, ◌&&◌, Bool, true, false, List, [], ◌∷◌, ◌++◌, take, drop, refl, sym, ap, ◌∙◌, arith, add-one}
use Rattle.std.specs.List.{prefix_len, list_all, slice_range}
use Rattle.std.proofs.lemmas.Bool.{eqb-true}
use Rattle.std.proofs.lemmas.List.{drop-drop}
use Rattle.verilog_lex.specs.Fronts.{begins}

pub and_false : (b : Bool) → (b && false) ≡ false
and_false true = refl
and_false false = refl

-- what holds whichever way a test goes
pub by_test : {P : Type 0} (test : Bool) → (test ≡ true → P) → (test ≡ false → P) → P
by_test true holds fails = holds refl
by_test false holds fails = fails refl

take_nil : (n : ℕ) → take n (let none : List ℕ = [] in none) ≡ []
take_nil zero = refl
take_nil (suc n) = refl

pub take_front : (n b : ℕ) (bs : List ℕ) → take (n + 1) (b ∷ bs) ≡ b ∷ take n bs
take_front n b bs = rw (add-one n) refl

-- a part and what is behind it
pub take_sum : (i n : ℕ) (xs : List ℕ) → take (i + n) xs ≡ take i xs ++ take n (drop i xs)
take_sum zero n xs = (let e : 0 + n ≡ n = omega arith in rw e refl)
take_sum (suc i) n [] = take_nil (suc i + n) ∙ sym (take_nil n)
take_sum (suc i) n (x ∷ xs) = (let e : suc i + n ≡ suc (i + n) = omega arith in rw e (ap (λ rest. x ∷ rest) (take_sum i n xs)))

pub slice_is : (text : List ℕ) (at n : ℕ) → slice_range text at (at + n) ≡ take n (drop at text)
slice_is text at n = (let e : at + n - at ≡ n = omega arith in ap (λ k. take k (drop at text)) e)

pub slice_more : (text : List ℕ) (from at n : ℕ) → from ≤ at → slice_range text from (at + n) ≡ slice_range text from at ++ take n (drop at text)
slice_more text from at n order =
    let e : at + n - from ≡ (at - from) + n = omega arith in
    let f : from + (at - from) ≡ at = omega arith in
    ap (λ k. take k (drop from text)) e
    ∙ take_sum (at - from) n (drop from text)
    ∙ ap (λ rest. slice_range text from at ++ take n rest) (drop-drop (at - from) from text ∙ ap (λ k. drop k text) f)

pub slice_none : (text : List ℕ) (at : ℕ) → slice_range text at at ≡ []
slice_none text at = (let e : at - at ≡ 0 = omega arith in ap (λ k. take k (drop at text)) e)

-- what stands in a run of bytes that pass, passes
pub all_of_run : (p : ℕ → Bool) (n : ℕ) (xs : List ℕ) → n ≤ prefix_len p xs → list_all p (take n xs) ≡ true
all_of_run p zero xs within = refl
all_of_run p (suc n) [] within = refl
all_of_run p (suc n) (x ∷ xs) within =
    by_test (p x)
    (λ passes. let fewer : suc n ≤ 1 + prefix_len p xs = rw passes at within in rw (passes, all_of_run p n xs (omega arith)) refl)
    (λ fails. absurd (let none : suc n ≤ 0 = rw fails at within in omega arith))

pub all_run : (p : ℕ → Bool) (xs : List ℕ) → list_all p (take (prefix_len p xs) xs) ≡ true
all_run p xs = all_of_run p (prefix_len p xs) xs (omega arith)

-- the byte that a row begins with
pub first_is : (c : ℕ) (xs : List ℕ) → begins (λ b. b == c) xs ≡ true → take 1 xs ≡ c ∷ []
first_is c [] found = absurd (cc)
first_is c (x ∷ xs) found = ap (λ b. b ∷ []) (eqb-true x c found)

pub first_rest : (c : ℕ) (xs : List ℕ) → begins (λ b. b == c) xs ≡ true → xs ≡ c ∷ drop 1 xs
first_rest c [] found = absurd (cc)
first_rest c (x ∷ xs) found = ap (λ b. b ∷ xs) (eqb-true x c found)

pub begins_taken : (p : ℕ → Bool) (n : ℕ) (xs : List ℕ) → begins p (take (n + 1) xs) ≡ begins p xs
begins_taken p n [] = ap (begins p) (take_nil (n + 1))
begins_taken p n (x ∷ xs) = ap (begins p) (take_front n x xs)

-- a run without its first bytes
pub run_behind : (p : ℕ → Bool) (n : ℕ) (xs : List ℕ) → n ≤ prefix_len p xs → prefix_len p (drop n xs) ≡ prefix_len p xs - n
run_behind p zero xs within = omega arith
run_behind p (suc n) [] within = absurd (omega arith)
run_behind p (suc n) (x ∷ xs) within =
    by_test (p x)
    (λ passes.
    let more : suc n ≤ 1 + prefix_len p xs = rw passes at within in
    let others : prefix_len p (drop n xs) ≡ prefix_len p xs - n = run_behind p n xs (omega arith) in
    rw passes (omega arith))
    (λ fails. absurd (let none : suc n ≤ 0 = rw fails at within in omega arith))
