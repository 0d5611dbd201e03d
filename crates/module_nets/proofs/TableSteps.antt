-- What tables and sets know behind one more name.
use Rattle.std.proofs.Common.{◌≡◌, ℕ, ◌+◌, ◌<◌, ◌≤◌, ◌||◌, Bool, true, false, Option, Some, None, List, [], ◌∷◌, ◌++◌, take, drop, get_or, length, map, refl, sym, ap, ◌∙◌, subst, arith, append_assoc, if◌then◌else◌}
use Rattle.std.specs.List.{list_any, position_from}
use Rattle.std.specs.Map.{lookup}
use Rattle.std.specs.Option.{option_or}
use Rattle.std.specs.Str.{bytes_eq}
use Rattle.indexmap.specs.IndexMap.{insert_entry}
use Rattle.indexmap.specs.IndexSet.{insert_key}
use Rattle.std.proofs.lemmas.List.{length-take, map-append, take-append-drop, take_all, drop_all}
use Rattle.std.proofs.lemmas.Option.{none-some}
use Rattle.std.proofs.lemmas.List.Folds.{list_any-append}
use Rattle.bud_design.specs.Lists.{first_again, has_name}
use Rattle.module_nets.specs.Tables.{seen_behind, HasNames, IsAgain, IsNumbered}
use Rattle.module_nets.specs.declared.keys.Key.{Key}
use Rattle.module_nets.proofs.Bytes.{by_test, bytes_same, bytes_turned}
use Rattle.module_nets.proofs.ListSteps.{take_one, drop_one, or_none, position_from-last}

-- what is found behind an entry
pub found_behind : {V : Type 0} (es : List (Key × V)) (key : Key) (v : V) (q : List ℕ) →
    lookup (λ (k : Key). bytes_eq q k.name.now) (insert_entry (λ (x y : Key). bytes_eq x.name.now y.name.now) es key v)
    ≡ (if bytes_eq key.name.now q then Some v else lookup (λ (k : Key). bytes_eq q k.name.now) es)
found_behind [] key v q = rw (bytes_turned q key.name.now) refl
found_behind (e ∷ es) key v q =
    by_test (bytes_eq key.name.now e.0.name.now)
    (λ same.
    let is : key.name.now ≡ e.0.name.now = bytes_same key.name.now e.0.name.now same in
    let turned : bytes_eq q e.0.name.now ≡ bytes_eq key.name.now q = ap (bytes_eq q) (sym is) ∙ bytes_turned q key.name.now in
    by_test (bytes_eq key.name.now q) (λ h. rw (same, turned, h) refl) (λ h. rw (same, turned, h) refl))
    (λ other.
    by_test (bytes_eq q e.0.name.now)
    (λ same.
    let is : q ≡ e.0.name.now = bytes_same q e.0.name.now same in
    let apart : bytes_eq key.name.now q ≡ false = ap (bytes_eq key.name.now) is ∙ other in
    rw (other, same, apart) refl)
    (λ h. rw (other, h) (found_behind es key v q)))

-- a new name's entry, beside what was known
pub entered_new : {V : Type 0} (knows : List ℕ → Option V) (key : List ℕ) (v : V) (q : List ℕ) → knows key ≡ None →
    (if bytes_eq key q then Some v else knows q) ≡ option_or (knows q) (if bytes_eq key q then Some v else None)
entered_new knows key v q new =
    by_test (bytes_eq key q)
    (λ same. rw (same, ap knows (sym (bytes_same key q same)) ∙ new) refl)
    (λ other. rw other (sym (or_none (knows q))))

-- a known name stays as it is
pub entered_known : {V : Type 0} (knows : List ℕ → Option V) (key : List ℕ) (v w : V) (q : List ℕ) → knows key ≡ Some w →
    knows q ≡ option_or (knows q) (if bytes_eq key q then Some v else None)
entered_known knows key v w q was =
    by_test (bytes_eq key q)
    (λ same. rw (ap knows (sym (bytes_same key q same)) ∙ was) refl)
    (λ other. rw other (sym (or_none (knows q))))

-- one more name has its number
pub numbered_more : {X : Type 0} (name_of : X → List ℕ) (xs : List X) (i : ℕ) (x : X) (old new : List ℕ → Option ℕ) → i < length xs → x ≡ get_or xs i x
    → IsNumbered name_of (take i xs) old → ((q : List ℕ) → new q ≡ option_or (old q) (if bytes_eq (name_of x) q then Some i else None)) → IsNumbered name_of (take (i + 1) xs) new
numbered_more name_of xs i x old new within is numbered entered q =
    entered q ∙ ap (λ o. option_or o (if bytes_eq (name_of x) q then Some i else None)) (numbered q)
    ∙ sym (ap (position_from (λ y. bytes_eq (name_of y) q) 0) (take_one xs i x within is)
    ∙ position_from-last (λ y. bytes_eq (name_of y) q) 0 i (take i xs) x (omega (arith, within, length-take i xs)))

or_false : (a : Bool) → (a || false) ≡ a
or_false true = refl
or_false false = refl

or_turned : (a b : Bool) → (a || b) ≡ (b || a)
or_turned true true = refl
or_turned true false = refl
or_turned false true = refl
or_turned false false = refl

-- a name that is there already
among_same : (ks : List Key) (key q : List ℕ) → list_any (λ (k : Key). bytes_eq key k.name.now) ks ≡ true → bytes_eq q key ≡ true
    → list_any (λ (k : Key). bytes_eq q k.name.now) ks ≡ true
among_same ks key q among same = rw (bytes_same q key same) among

-- what a set has behind one more name
pub noted_behind : (ks : List Key) (key : Key) (q : List ℕ) →
    list_any (λ (k : Key). bytes_eq q k.name.now) (insert_key (λ (x y : Key). bytes_eq x.name.now y.name.now) ks key)
    ≡ (bytes_eq q key.name.now || list_any (λ (k : Key). bytes_eq q k.name.now) ks)
noted_behind ks key q =
    by_test (list_any (λ (k : Key). bytes_eq key.name.now k.name.now) ks)
    (λ among. by_test (bytes_eq q key.name.now)
    (λ same. rw (among, same, among_same ks key.name.now q among same) refl)
    (λ other. rw (among, other) refl))
    (λ new. rw new
    (list_any-append (λ (k : Key). bytes_eq q k.name.now) ks (key ∷ [])
    ∙ ap (λ b. list_any (λ (k : Key). bytes_eq q k.name.now) ks || b) (or_false (bytes_eq q key.name.now))
    ∙ or_turned (list_any (λ (k : Key). bytes_eq q k.name.now) ks) (bytes_eq q key.name.now)))

-- ---- names seen
pub seen_behind-append : (seen xs ys : List (List ℕ)) → seen_behind seen (xs ++ ys) ≡ seen_behind (seen_behind seen xs) ys
seen_behind-append seen [] ys = refl
seen_behind-append seen (x ∷ xs) ys = seen_behind-append (x ∷ seen) xs ys

pub first_again-append : (seen xs ys : List (List ℕ)) → first_again seen (xs ++ ys) ≡ option_or (first_again seen xs) (first_again (seen_behind seen xs) ys)
first_again-append seen [] ys = refl
first_again-append seen (x ∷ xs) ys = by_test (has_name seen x) (λ h. rw h refl) (λ h. rw h (first_again-append (x ∷ seen) xs ys))

-- the names so far are new, and the set has them
pub record AreNoted (seen names left : List (List ℕ)) (has : List ℕ → Bool) : Type 0 where
  pub on : first_again seen (names ++ left) ≡ first_again (seen_behind seen names) left
  pub noted : HasNames (seen_behind seen names) has

pub noted_none : (seen left : List (List ℕ)) (has : List ℕ → Bool) → HasNames seen has → AreNoted seen [] left has
noted_none seen left has noted = record { on = refl; noted = noted }

-- a name seen before is the first
pub noted_again : (seen names left : List (List ℕ)) (x : List ℕ) (has : List ℕ → Bool) → AreNoted seen names (x ∷ left) has → has x ≡ true → Some x ≡ first_again seen (names ++ x ∷ left)
noted_again seen names left x has so_far again =
    sym (so_far.on ∙ rw (sym (so_far.noted x) ∙ again) refl)

-- a new name is seen from then on
pub noted_more : (seen names left : List (List ℕ)) (x : List ℕ) (old new : List ℕ → Bool) → AreNoted seen names (x ∷ left) old → old x ≡ false
    → ((q : List ℕ) → new q ≡ (bytes_eq q x || old q)) → AreNoted seen (names ++ x ∷ []) left new
noted_more seen names left x old new so_far fresh noted = record {
  on =
      ap (first_again seen) (append_assoc names (x ∷ []) left)
      ∙ so_far.on ∙ rw (sym (so_far.noted x) ∙ fresh) (ap (λ s. first_again s left) (sym (seen_behind-append seen names (x ∷ []))));
  noted = λ q. noted q ∙ ap (λ b. bytes_eq q x || b) (so_far.noted q) ∙ ap (λ s. has_name s q) (sym (seen_behind-append seen names (x ∷ [])));
}

-- the loop over items with names
pub items_none : {X : Type 0} (name_of : X → List ℕ) (xs : List X) (seen : List (List ℕ)) (has : List ℕ → Bool) → HasNames seen has → AreNoted seen [] (map name_of xs) has
items_none name_of xs seen has noted = noted_none seen (map name_of xs) has noted

names_split : {X : Type 0} (name_of : X → List ℕ) (xs : List X) (i : ℕ) (x : X) → i < length xs → x ≡ get_or xs i x → map name_of (drop i xs) ≡ name_of x ∷ map name_of (drop (i + 1) xs)
names_split name_of xs i x within is = ap (map name_of) (drop_one xs i x within is)

names_whole : {X : Type 0} (name_of : X → List ℕ) (xs : List X) (i : ℕ) → map name_of (take i xs) ++ map name_of (drop i xs) ≡ map name_of xs
names_whole name_of xs i = sym (map-append name_of (take i xs) (drop i xs)) ∙ ap (map name_of) (take-append-drop i xs)

pub items_again : {X : Type 0} (name_of : X → List ℕ) (xs : List X) (i : ℕ) (x : X) (seen : List (List ℕ)) (old new : List ℕ → Bool) (name : List ℕ) → i < length xs → x ≡ get_or xs i x
    → name ≡ name_of x → AreNoted seen (map name_of (take i xs)) (map name_of (drop i xs)) old → old name ≡ true → IsAgain seen (map name_of xs) new (Some name)
items_again name_of xs i x seen old new name within is named so_far again =
    let P : List (List ℕ) → Type 0 = λ left. AreNoted seen (map name_of (take i xs)) left old in
    record {
      first =
          ap (λ n. Some n) named
          ∙ noted_again seen (map name_of (take i xs)) (map name_of (drop (i + 1) xs)) (name_of x) old (subst P (names_split name_of xs i x within is) so_far) (ap old (sym named) ∙ again)
          ∙ ap (λ ns. first_again seen (map name_of (take i xs) ++ ns)) (sym (names_split name_of xs i x within is))
          ∙ ap (first_again seen) (names_whole name_of xs i);
      noted = λ none. absurd (none-some name (sym none));
    }

pub items_more : {X : Type 0} (name_of : X → List ℕ) (xs : List X) (i : ℕ) (x : X) (seen : List (List ℕ)) (old new : List ℕ → Bool) (name : List ℕ) → i < length xs → x ≡ get_or xs i x
    → name ≡ name_of x → AreNoted seen (map name_of (take i xs)) (map name_of (drop i xs)) old → old name ≡ false → ((q : List ℕ) → new q ≡ (bytes_eq q name || old q))
    → AreNoted seen (map name_of (take (i + 1) xs)) (map name_of (drop (i + 1) xs)) new
items_more name_of xs i x seen old new name within is named so_far fresh noted =
    let P : List (List ℕ) → Type 0 = λ left. AreNoted seen (map name_of (take i xs)) left old in
    let Q : List (List ℕ) → Type 0 = λ names. AreNoted seen names (map name_of (drop (i + 1) xs)) new in
    subst Q (sym (ap (map name_of) (take_one xs i x within is) ∙ map-append name_of (take i xs) (x ∷ [])))
    (noted_more seen (map name_of (take i xs)) (map name_of (drop (i + 1) xs)) (name_of x) old new (subst P (names_split name_of xs i x within is) so_far) (ap old (sym named) ∙ fresh)
    (λ q. noted q ∙ ap (λ n. bytes_eq q n || old q) named))

pub items_all : {X : Type 0} (name_of : X → List ℕ) (xs : List X) (i : ℕ) (seen : List (List ℕ)) (has : List ℕ → Bool) → length xs ≤ i
    → AreNoted seen (map name_of (take i xs)) (map name_of (drop i xs)) has → IsAgain seen (map name_of xs) has None
items_all name_of xs i seen has past so_far =
    let all : map name_of (take i xs) ≡ map name_of xs = ap (map name_of) (take_all i xs past) in
    record {
      first =
          sym (ap (first_again seen) (sym (names_whole name_of xs i)) ∙ so_far.on
          ∙ ap (λ ys. first_again (seen_behind seen (map name_of (take i xs))) (map name_of ys)) (drop_all i xs past));
      noted = λ none q. so_far.noted q ∙ ap (λ ns. has_name (seen_behind seen ns) q) all;
    }
