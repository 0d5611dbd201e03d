-- A counter of what is open finds the end of a balanced list, and only that.
use Rattle.std.proofs.Common.{◌≡◌, ℕ, zero, suc, Bool, true, false, Option, Some, None, List, [], ◌∷◌, ◌++◌, refl, sym, ap, ◌∙◌, subst, append_assoc}
use Rattle.std.proofs.lemmas.List.{append-nil}
use Rattle.std.proofs.lemmas.Option.{same_Some}
use Rattle.text_scan.specs.Left.{◌>>=◌}
use Rattle.text_scan.specs.Nesting.{Balanced, closed, onto}
use Rattle.text_scan.specs.Nesting.Balanced.{none, plain, nested}
use Rattle.text_scan.proofs.Binds.{step, by_test}

-- with a list in front
abbrev fronted : {A : Type 0} → List A → Option (List A × List A) → Option (List A × List A)
fronted front read = read >>= λ r. Some (front ++ r.0, r.1)

fronted_onto : {A : Type 0} (x : A) (front : List A) (read : Option (List A × List A)) → onto x (fronted front read) ≡ fronted (x ∷ front) read
fronted_onto x front None = refl
fronted_onto x front (Some r) = refl

fronted_twice : {A : Type 0} (front inside : List A) (read : Option (List A × List A)) → fronted front (fronted inside read) ≡ fronted (front ++ inside) read
fronted_twice front inside None = refl
fronted_twice front inside (Some r) = ap (λ xs. Some (xs, r.1)) (sym (append_assoc front inside r.0))

fronted_none : {A : Type 0} (read : Option (List A × List A)) → read ≡ fronted [] read
fronted_none None = refl
fronted_none (Some r) = refl

-- an element that opens, and one that closes what was open
opened : {A : Type 0} (opens closes : A → Bool) (depth : ℕ) (x : A) (xs : List A) → opens x ≡ true → closed opens closes depth (x ∷ xs) ≡ onto x (closed opens closes (suc depth) xs)
unfolding closed
opened opens closes zero x xs open_is = rw open_is refl
opened opens closes (suc depth) x xs open_is = rw open_is refl

closed_one : {A : Type 0} (opens closes : A → Bool) (depth : ℕ) (y : A) (xs : List A) → opens y ≡ false → closes y ≡ true → closed opens closes (suc depth) (y ∷ xs) ≡ onto y (closed opens closes depth xs)
unfolding closed
closed_one opens closes depth y xs bare close_is = rw (bare, close_is) refl

passed : {A : Type 0} (opens closes : A → Bool) (depth : ℕ) (x : A) (xs : List A) → opens x ≡ false → closes x ≡ false → closed opens closes depth (x ∷ xs) ≡ onto x (closed opens closes depth xs)
unfolding closed
passed opens closes zero x xs bare plain_is = rw (bare, plain_is) refl
passed opens closes (suc depth) x xs bare plain_is = rw (bare, plain_is) refl

closed_here : {A : Type 0} (opens closes : A → Bool) (y : A) (xs : List A) → opens y ≡ false → closes y ≡ true → closed opens closes 0 (y ∷ xs) ≡ Some ([], xs)
unfolding closed
closed_here opens closes y xs bare close_is = rw (bare, close_is) refl

-- a balanced list is passed as a whole, at any depth
pub balanced_passed : {A : Type 0} (opens closes : A → Bool) (depth : ℕ) (xs rest : List A) → Balanced opens closes xs → closed opens closes depth (xs ++ rest) ≡ fronted xs (closed opens closes depth rest)
balanced_passed opens closes depth _ rest none = fronted_none (closed opens closes depth rest)
balanced_passed opens closes depth _ rest (plain x xs bare plain_is balanced) =
    passed opens closes depth x (xs ++ rest) bare plain_is
    ∙ ap (onto x) (balanced_passed opens closes depth xs rest balanced)
    ∙ fronted_onto x xs (closed opens closes depth rest)
balanced_passed opens closes depth _ rest (nested x y inside behind open_is bare close_is first second) =
    let regrouped : (inside ++ y ∷ behind) ++ rest ≡ inside ++ (y ∷ (behind ++ rest)) = append_assoc inside (y ∷ behind) rest in
    opened opens closes depth x ((inside ++ y ∷ behind) ++ rest) open_is
    ∙ ap (λ xs. onto x (closed opens closes (suc depth) xs)) regrouped
    ∙ ap (onto x) (balanced_passed opens closes (suc depth) inside (y ∷ (behind ++ rest)) first)
    ∙ ap (λ r. onto x (fronted inside r)) (closed_one opens closes depth y (behind ++ rest) bare close_is ∙ ap (onto y) (balanced_passed opens closes depth behind rest second) ∙ fronted_onto y behind (closed opens closes depth rest))
    ∙ ap (onto x) (fronted_twice inside (y ∷ behind) (closed opens closes depth rest))
    ∙ fronted_onto x (inside ++ y ∷ behind) (closed opens closes depth rest)

-- so the end of a balanced list is found
pub closed_complete : {A : Type 0} (opens closes : A → Bool) (inside rest : List A) (y : A) → Balanced opens closes inside → opens y ≡ false → closes y ≡ true →
    closed opens closes 0 (inside ++ y ∷ rest) ≡ Some (inside, rest)
closed_complete opens closes inside rest y balanced bare close_is =
    balanced_passed opens closes 0 inside (y ∷ rest) balanced
    ∙ ap (fronted inside) (closed_here opens closes y rest bare close_is)
    ∙ ap (λ xs. Some (xs, rest)) (append-nil inside)

-- what closes the elements that are open: balanced lists, each with the closing element behind it, and a last one
data Tail {A : Type 0} (opens closes : A → Bool) : ℕ → List A → Type 0 where
  last : (xs : List A) → Balanced opens closes xs → Tail opens closes 0 xs
  further : (depth : ℕ) (y : A) (inside xs : List A) → Balanced opens closes inside → opens y ≡ false → closes y ≡ true → Tail opens closes depth xs → Tail opens closes (suc depth) (inside ++ y ∷ xs)

-- one more opens in front
tail_opened : {A : Type 0} (opens closes : A → Bool) (depth : ℕ) (x : A) (xs : List A) → opens x ≡ true → Tail opens closes (suc depth) xs → Tail opens closes depth (x ∷ xs)
tail_opened opens closes _ x _ open_is (further _ y inside _ balanced bare close_is (last xs behind)) =
    last (x ∷ (inside ++ y ∷ xs)) (nested x y inside xs open_is bare close_is balanced behind)
tail_opened {A} opens closes _ x _ open_is (further _ y inside _ balanced bare close_is (further depth z behind xs second bare2 close2 tail)) =
    let P : List A → Type 0 = λ all. Tail opens closes (suc depth) (x ∷ all) in
    subst P (append_assoc inside (y ∷ behind) (z ∷ xs)) (further depth z (x ∷ (inside ++ y ∷ behind)) xs (nested x y inside behind open_is bare close_is balanced second) bare2 close2 tail)

-- a plain element in front
tail_plain : {A : Type 0} (opens closes : A → Bool) (depth : ℕ) (x : A) (xs : List A) → opens x ≡ false → closes x ≡ false → Tail opens closes depth xs → Tail opens closes depth (x ∷ xs)
tail_plain opens closes _ x _ bare plain_is (last xs balanced) = last (x ∷ xs) (plain x xs bare plain_is balanced)
tail_plain opens closes _ x _ bare plain_is (further depth y inside xs balanced bare2 close2 tail) = further depth y (x ∷ inside) xs (plain x inside bare plain_is balanced) bare2 close2 tail

-- the list up to the element that closes what is open
record IsClosed {A : Type 0} (opens closes : A → Bool) (depth : ℕ) (all front rest : List A) : Type 0 where
  by : A
  bare : opens by ≡ false
  close_is : closes by ≡ true
  whole : all ≡ front ++ by ∷ rest
  tail : Tail opens closes depth front

with_first : {A : Type 0} (opens closes : A → Bool) (depth deeper : ℕ) (x : A) (xs front rest : List A) →
    ((xs : List A) → Tail opens closes deeper xs → Tail opens closes depth (x ∷ xs)) → IsClosed opens closes deeper xs front rest → IsClosed opens closes depth (x ∷ xs) (x ∷ front) rest
with_first opens closes depth deeper x xs front rest more given = record {
  by = given.by;
  bare = given.bare;
  close_is = given.close_is;
  whole = ap (λ all. x ∷ all) given.whole;
  tail = more front given.tail;
}

first_closes : {A : Type 0} (opens closes : A → Bool) (x : A) (xs : List A) → opens x ≡ false → closes x ≡ true → IsClosed opens closes 0 (x ∷ xs) [] xs
first_closes opens closes x xs bare close_is = record { by = x; bare = bare; close_is = close_is; whole = refl; tail = last [] none }

-- what is found is closed by the element behind it
found_closed : {A : Type 0} (opens closes : A → Bool) (depth : ℕ) (all front rest : List A) → closed opens closes depth all ≡ Some (front, rest) → IsClosed opens closes depth all front rest
unfolding closed
found_closed opens closes depth [] front rest found = absurd (cc)
found_closed {A} opens closes zero (x ∷ xs) front rest found =
    let P : List A × List A → Type 0 = λ r. IsClosed opens closes 0 (x ∷ xs) r.0 r.1 in
    by_test (opens x)
    (λ open_is. step (closed opens closes 1 xs) _ _ (rw open_is at found) (λ r inner whole.
    subst P (same_Some _ _ whole) (with_first opens closes 0 1 x xs r.0 r.1 (λ ys tail. tail_opened opens closes 0 x ys open_is tail) (found_closed opens closes 1 xs r.0 r.1 inner))))
    (λ bare. by_test (closes x)
    (λ close_is. subst P (same_Some _ _ (rw (bare, close_is) at found)) (first_closes opens closes x xs bare close_is))
    (λ plain_is. step (closed opens closes 0 xs) _ _ (rw (bare, plain_is) at found) (λ r inner whole.
    subst P (same_Some _ _ whole) (with_first opens closes 0 0 x xs r.0 r.1 (λ ys tail. tail_plain opens closes 0 x ys bare plain_is tail) (found_closed opens closes 0 xs r.0 r.1 inner)))))
found_closed {A} opens closes (suc depth) (x ∷ xs) front rest found =
    let P : List A × List A → Type 0 = λ r. IsClosed opens closes (suc depth) (x ∷ xs) r.0 r.1 in
    by_test (opens x)
    (λ open_is. step (closed opens closes (suc (suc depth)) xs) _ _ (rw open_is at found) (λ r inner whole.
    subst P (same_Some _ _ whole) (with_first opens closes (suc depth) (suc (suc depth)) x xs r.0 r.1 (λ ys tail. tail_opened opens closes (suc depth) x ys open_is tail) (found_closed opens closes (suc (suc depth)) xs r.0 r.1 inner))))
    (λ bare. by_test (closes x)
    (λ close_is. step (closed opens closes depth xs) _ _ (rw (bare, close_is) at found) (λ r inner whole.
    subst P (same_Some _ _ whole) (with_first opens closes (suc depth) depth x xs r.0 r.1 (λ ys tail. further depth x [] ys none bare close_is tail) (found_closed opens closes depth xs r.0 r.1 inner))))
    (λ plain_is. step (closed opens closes (suc depth) xs) _ _ (rw (bare, plain_is) at found) (λ r inner whole.
    subst P (same_Some _ _ whole) (with_first opens closes (suc depth) (suc depth) x xs r.0 r.1 (λ ys tail. tail_plain opens closes (suc depth) x ys bare plain_is tail) (found_closed opens closes (suc depth) xs r.0 r.1 inner)))))

-- the found end of a list: what stands before it is balanced
pub record IsBalancedFront {A : Type 0} (opens closes : A → Bool) (all front rest : List A) : Type 0 where
  pub by : A
  pub close_is : closes by ≡ true
  pub whole : all ≡ front ++ by ∷ rest
  pub balanced : Balanced opens closes front

tail_last : {A : Type 0} (opens closes : A → Bool) (xs : List A) → Tail opens closes 0 xs → Balanced opens closes xs
tail_last opens closes _ (last xs balanced) = balanced

pub closed_sound : {A : Type 0} (opens closes : A → Bool) (all front rest : List A) → closed opens closes 0 all ≡ Some (front, rest) → IsBalancedFront opens closes all front rest
closed_sound opens closes all front rest found =
    let given = found_closed opens closes 0 all front rest found in
    record { by = given.by; close_is = given.close_is; whole = given.whole; balanced = tail_last opens closes front given.tail }
