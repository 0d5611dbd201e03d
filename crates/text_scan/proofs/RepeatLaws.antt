-- A repetition reads the runs of its step, and all of them.
use Rattle.std.proofs.Common.{◌≡◌, ℕ, zero, suc, ◌≤◌, Bool, true, false, Option, Some, None, List, [], ◌∷◌, ◌++◌, refl, sym, ap, ◌∙◌, subst, arith, append_assoc}
use Rattle.std.proofs.lemmas.List.{append-nil}
use Rattle.std.proofs.lemmas.Option.{same_Some}
use Rattle.text_scan.specs.Left.{◌>>=◌}
use Rattle.text_scan.specs.Repeat.{Runs, repeat, Shrinks}
use Rattle.text_scan.specs.Repeat.Runs.{over, turn}
use Rattle.text_scan.proofs.Binds.{step, by_test, by_option}

-- what is read are runs
pub repeat_sound : {S X : Type 0} (stops : S → Bool) (next : S → Option (X × S)) (turns : ℕ) (s : S) (xs : List X) (u : S) → repeat stops next turns s ≡ Some (xs, u) → Runs stops next s xs u
unfolding repeat
repeat_sound {S} {X} stops next zero s xs u read =
    let P : List X × S → Type 0 = λ r. Runs stops next s r.0 r.1 in
    by_test (stops s) (λ ends. subst P (same_Some _ _ (rw ends at read)) (over s ends)) (λ goes_on. absurd (let none : None ≡ Some (xs, u) = rw goes_on at read in cc))
repeat_sound {S} {X} stops next (suc turns) s xs u read =
    let P : List X × S → Type 0 = λ r. Runs stops next s r.0 r.1 in
    by_test (stops s)
    (λ ends. subst P (same_Some _ _ (rw ends at read)) (over s ends))
    (λ goes_on. step (next s) _ _ (rw goes_on at read) (λ first is_first behind.
    step (repeat stops next turns first.1) _ _ behind (λ others are_others whole.
    subst P (same_Some _ _ whole) (turn s first.1 others.1 first.0 others.0 goes_on is_first (repeat_sound stops next turns first.1 others.0 others.1 are_others)))))

-- and all runs are read, where each step leaves less
pub repeat_complete : {S X : Type 0} (stops : S → Bool) (next : S → Option (X × S)) (size : S → ℕ) → Shrinks size next →
    (turns : ℕ) (s : S) (xs : List X) (u : S) → Runs stops next s xs u → size s ≤ turns → repeat stops next turns s ≡ Some (xs, u)
unfolding repeat
repeat_complete stops next size shrinks zero _ _ _ (over s ends) room = rw ends refl
repeat_complete stops next size shrinks (suc turns) _ _ _ (over s ends) room = rw ends refl
repeat_complete stops next size shrinks zero _ _ _ (turn s t u x xs goes_on read runs) room = absurd (let less = shrinks s t x read in omega arith)
repeat_complete stops next size shrinks (suc turns) _ _ _ (turn s t u x xs goes_on read runs) room =
    let less = shrinks s t x read in
    rw (goes_on, read, repeat_complete stops next size shrinks turns t xs u runs (omega arith)) refl

-- more turns than what is left asks for read the same
pub repeat_room : {S X : Type 0} (stops : S → Bool) (next : S → Option (X × S)) (size : S → ℕ) → Shrinks size next →
    (m n : ℕ) (s : S) → size s ≤ m → size s ≤ n → repeat stops next m s ≡ repeat stops next n s
unfolding repeat
repeat_room stops next size shrinks zero zero s low high = refl
repeat_room stops next size shrinks zero (suc n) s low high =
    by_test (stops s)
    (λ ends. rw ends refl)
    (λ goes_on. by_option (next s) (λ fails. rw (goes_on, fails) refl) (λ r read. absurd (let less = shrinks s r.1 r.0 read in omega arith)))
repeat_room stops next size shrinks (suc m) zero s low high =
    by_test (stops s)
    (λ ends. rw ends refl)
    (λ goes_on. by_option (next s) (λ fails. rw (goes_on, fails) refl) (λ r read. absurd (let less = shrinks s r.1 r.0 read in omega arith)))
repeat_room stops next size shrinks (suc m) (suc n) s low high =
    by_test (stops s)
    (λ ends. rw ends refl)
    (λ goes_on. by_option (next s)
    (λ fails. rw (goes_on, fails) refl)
    (λ r read.
    let less = shrinks s r.1 r.0 read in
    rw (goes_on, read) (ap (λ others. others >>= λ q. Some (r.0 ∷ q.0, q.1)) (repeat_room stops next size shrinks m n r.1 (omega arith) (omega arith)))))

-- what is read, with these values before it
abbrev pub with_front : {S X : Type 0} → List X → Option (List X × S) → Option (List X × S)
with_front front read = do
  (xs, u) ← read
  Some (front ++ xs, u)

with_front-append : {S X : Type 0} (front : List X) (x : X) (read : Option (List X × S)) →
    with_front front (read >>= λ r. Some (x ∷ r.0, r.1)) ≡ with_front (front ++ x ∷ []) read
with_front-append front x None = refl
with_front-append front x (Some r) = ap (λ xs. Some (xs, r.1)) (sym (append_assoc front (x ∷ []) r.0))

-- one turn of a loop
pub turn_more : {S X : Type 0} (stops : S → Bool) (next : S → Option (X × S)) (size : S → ℕ) → Shrinks size next → (front : List X) (s t : S) (x : X) →
    stops s ≡ false → next s ≡ Some (x, t) → with_front front (repeat stops next (size s) s) ≡ with_front (front ++ x ∷ []) (repeat stops next (size t) t)
unfolding repeat
turn_more stops next size shrinks front s t x goes_on read =
    let less = shrinks s t x read in
    let room : repeat stops next (size s) s ≡ repeat stops next (suc (size s)) s = repeat_room stops next size shrinks (size s) (suc (size s)) s (omega arith) (omega arith) in
    ap (with_front front) room
    ∙ rw (goes_on, read) (with_front-append front x (repeat stops next (size s) t))
    ∙ ap (with_front (front ++ x ∷ [])) (repeat_room stops next size shrinks (size s) (size t) t (omega arith) (omega arith))

-- a turn that can't be read
pub turn_fails : {S X : Type 0} (stops : S → Bool) (next : S → Option (X × S)) (size : S → ℕ) → Shrinks size next → (front : List X) (s : S) →
    stops s ≡ false → next s ≡ None → with_front front (repeat stops next (size s) s) ≡ None
unfolding repeat
turn_fails stops next size shrinks front s goes_on fails =
    ap (with_front front) (repeat_room stops next size shrinks (size s) (suc (size s)) s (omega arith) (omega arith)) ∙ rw (goes_on, fails) refl

-- the end of the loop
pub turn_ends : {S X : Type 0} (stops : S → Bool) (next : S → Option (X × S)) (size : S → ℕ) → Shrinks size next → (front : List X) (s : S) →
    stops s ≡ true → with_front front (repeat stops next (size s) s) ≡ Some (front, s)
unfolding repeat
turn_ends stops next size shrinks front s ends =
    ap (with_front front) (repeat_room stops next size shrinks (size s) (suc (size s)) s (omega arith) (omega arith)) ∙ rw ends (ap (λ xs. Some (xs, s)) (append-nil front))
