-- What a table has behind one more text.
use Rattle.std.proofs.Common.{◌≡◌, ℕ, suc, ◌+◌, ◌==◌, Bool, true, false, Option, Some, None, List, [], ◌∷◌, ◌++◌, length, filter, refl, sym, ap, ◌∙◌, arith, if◌then◌else◌}
use Rattle.std.specs.List.{position_from}
use Rattle.std.specs.Map.{lookup}
use Rattle.std.specs.Option.{option_or, option_map}
use Rattle.std.specs.Str.{bytes_eq}
use Rattle.std.specs.Global.{Vec}
use Rattle.indexmap.specs.IndexMap.{insert_entry}
use Rattle.text_tables.specs.Standings.{known, behind, standing, IsOf}
use Rattle.text_tables.specs.declared.standings.Standing.{Standing}
use Rattle.text_tables.specs.declared.standings.TextTable.{TextTable}
use Rattle.text_tables.proofs.Texts.{by_test, texts_same, texts_turned}
use Rattle.text_tables.proofs.Searches.{position-none, filter-none}

-- what is found behind an entry
pub found_behind : {V : Type 0} (es : List (Vec ℕ × V)) (key : Vec ℕ) (v : V) (q : List ℕ) →
    lookup (λ (k : Vec ℕ). bytes_eq q k.items) (insert_entry (λ (x y : Vec ℕ). bytes_eq x.items y.items) es key v)
    ≡ (if bytes_eq key.items q then Some v else lookup (λ (k : Vec ℕ). bytes_eq q k.items) es)
found_behind [] key v q = rw (texts_turned q key.items) refl
found_behind (e ∷ es) key v q =
    by_test (bytes_eq key.items e.0.items)
    (λ same.
    let is : key.items ≡ e.0.items = texts_same key.items e.0.items same in
    let turned : bytes_eq q e.0.items ≡ bytes_eq key.items q = ap (bytes_eq q) (sym is) ∙ texts_turned q key.items in
    by_test (bytes_eq key.items q) (λ h. rw (same, turned, h) refl) (λ h. rw (same, turned, h) refl))
    (λ other.
    by_test (bytes_eq q e.0.items)
    (λ same.
    let is : q ≡ e.0.items = texts_same q e.0.items same in
    let apart : bytes_eq key.items q ≡ false = ap (bytes_eq key.items) is ∙ other in
    rw (other, same, apart) refl)
    (λ h. rw (other, h) (found_behind es key v q)))

position-last : {X : Type 0} (p : X → Bool) (k : ℕ) (xs : List X) (x : X) → position_from p k (xs ++ x ∷ []) ≡ option_or (position_from p k xs) (if p x then Some (k + length xs) else None)
position-last p k [] x = let same : k ≡ k + 0 = omega arith in by_test (p x) (λ h. rw h (ap (λ n. Some n) same)) (λ h. rw h refl)
position-last p k (y ∷ ys) x =
    let on : k + 1 + length ys ≡ k + suc (length ys) = omega arith in
    by_test (p y) (λ h. rw h refl) (λ h. rw h (position-last p (k + 1) ys x ∙ ap (λ n. option_or (position_from p (k + 1) ys) (if p x then Some n else None)) on))

count-last : {X : Type 0} (p : X → Bool) (xs : List X) (x : X) → length (filter p (xs ++ x ∷ [])) ≡ (if p x then suc (length (filter p xs)) else length (filter p xs))
count-last p [] x = by_test (p x) (λ h. rw h refl) (λ h. rw h refl)
count-last p (y ∷ ys) x =
    by_test (p y)
    (λ h. by_test (p x) (λ g. rw (h, g) (ap (λ n. suc n) (count-last p ys x ∙ rw g refl))) (λ g. rw (h, g) (ap (λ n. suc n) (count-last p ys x ∙ rw g refl))))
    (λ h. rw h (count-last p ys x))

-- one is there where a number was found
count-some : {X : Type 0} (p : X → Bool) (k : ℕ) (xs : List X) (i : ℕ) → position_from p k xs ≡ Some i → (n : ℕ) × (length (filter p xs) ≡ suc n)
count-some p k [] i is = absurd (cc)
count-some p k (x ∷ xs) i is = by_test (p x) (λ h. (length (filter p xs), rw h refl)) (λ h. let later = count-some p (k + 1) xs i (rw h at is) in (later.0, rw h later.1))

same-text : (text q : List ℕ) (texts : List (List ℕ)) (number : ℕ) → length texts ≡ number → bytes_eq text q ≡ true → Some (behind (standing texts q) number) ≡ standing (texts ++ text ∷ []) q
same-text text q texts number all same = by_place (position_from (λ t. bytes_eq t q) 0 texts) refl
  where
    count : length (filter (λ t. bytes_eq t q) (texts ++ text ∷ [])) ≡ suc (length (filter (λ t. bytes_eq t q) texts))
    count = count-last (λ t. bytes_eq t q) texts text ∙ rw same refl

    place : position_from (λ t. bytes_eq t q) 0 (texts ++ text ∷ []) ≡ option_or (position_from (λ t. bytes_eq t q) 0 texts) (Some (0 + length texts))
    place = position-last (λ t. bytes_eq t q) 0 texts text ∙ rw same refl

    by_place : (o : Option ℕ) → position_from (λ t. bytes_eq t q) 0 texts ≡ o → Some (behind (standing texts q) number) ≡ standing (texts ++ text ∷ []) q
    by_place None e =
        let first : 0 + length texts ≡ number = omega (arith, all) in
        let none : length (filter (λ t. bytes_eq t q) texts) ≡ 0 = ap length (filter-none (λ t. bytes_eq t q) texts (position-none (λ t. bytes_eq t q) 0 texts e)) in
        rw (place, count, e, none, first) refl
    by_place (Some i) e =
        let some = count-some (λ t. bytes_eq t q) 0 texts i e in
        let more : (suc (suc some.0) == 1) ≡ false = grind arith in
        rw (place, count, e, some.1) (ap (λ b. Some (record { first = i; alone = b })) (sym more))

other-text : (text q : List ℕ) (texts : List (List ℕ)) → bytes_eq text q ≡ false → standing texts q ≡ standing (texts ++ text ∷ []) q
other-text text q texts other =
    let place : position_from (λ t. bytes_eq t q) 0 (texts ++ text ∷ []) ≡ option_or (position_from (λ t. bytes_eq t q) 0 texts) None =
    position-last (λ t. bytes_eq t q) 0 texts text ∙ rw other refl in
    let count : length (filter (λ t. bytes_eq t q) (texts ++ text ∷ [])) ≡ length (filter (λ t. bytes_eq t q) texts) = count-last (λ t. bytes_eq t q) texts text ∙ rw other refl in
    by_place place count (position_from (λ t. bytes_eq t q) 0 texts) refl
  where
    by_place : position_from (λ t. bytes_eq t q) 0 (texts ++ text ∷ []) ≡ option_or (position_from (λ t. bytes_eq t q) 0 texts) None
        → length (filter (λ t. bytes_eq t q) (texts ++ text ∷ [])) ≡ length (filter (λ t. bytes_eq t q) texts)
        → (o : Option ℕ) → position_from (λ t. bytes_eq t q) 0 texts ≡ o → standing texts q ≡ standing (texts ++ text ∷ []) q
    by_place place count None e = rw (place, count, e) refl
    by_place place count (Some i) e = rw (place, count, e) refl

-- the table of one more text
pub one_more : (texts : List (List ℕ)) (text : List ℕ) (number : ℕ) (old new : TextTable) → IsOf texts old → length texts ≡ number
    → ((q : List ℕ) → known new q ≡ (if bytes_eq text q then Some (behind (known old text) number) else known old q)) → IsOf (texts ++ text ∷ []) new
one_more texts text number old new is all put q =
    put q ∙ by_test (bytes_eq text q)
    (λ same.
    let here : known old text ≡ standing texts q = ap (known old) (texts_same text q same) ∙ is q in
    rw same (ap (λ o. Some (behind o number)) here ∙ same-text text q texts number all same))
    (λ other. rw other (is q ∙ other-text text q texts other))
