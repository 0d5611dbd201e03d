-- Classes found along the links of their key.
use Rattle.std.proofs.Common.{◌≡◌, ℕ, zero, suc, ◌+◌, ◌<◌, ◌≤◌, ◌==◌, Bool, true, false, List, [], ◌∷◌, ◌++◌, length, Option, Some, None, refl, sym, ◌∙◌, ap, subst, arith, inl, inr, length-append, if◌then◌else◌, true≢false}
use Rattle.std.specs.Prelude.{All}
use Rattle.std.specs.Map.{lookup}
use Rattle.std.proofs.lemmas.Bool.{cases_eq, cases_lt, eq-eqb}
use Rattle.std.proofs.lemmas.Bool.Decides.{Decides-eqb}
use Rattle.std.proofs.lemmas.List.{get_or_default}
use Rattle.std.proofs.lemmas.Option.{none-some, same_Some}
use Rattle.std.proofs.Math.ListN.{get_or-append}
use Rattle.std.proofs.Math.Seq.{get_or-append_seam}
use Rattle.bud_design.specs.declared.layers.Class.{Class}
use Rattle.bud_design.specs.Layers.{class_number}
use Rattle.class_steps.specs.Keys.{class_key, key_in, last_below}
use Rattle.class_steps.specs.Tables.{link_at, AreLinked}

by_test : {P : Type 0} (test : Bool) → (test ≡ true → P) → (test ≡ false → P) → P
by_test true holds fails = holds refl
by_test false holds fails = fails refl

-- the number is the last below n that has the key
record IsLast (keyed : ℕ → ℕ) (n key v : ℕ) : Type 0 where
  pub below : v < n
  pub alike : keyed v ≡ key
  pub between : (w : ℕ) → v < w → w < n → keyed w ≡ key → ⊥

last-some : (keyed : ℕ → ℕ) (n key v : ℕ) → last_below keyed n key ≡ Some v → IsLast keyed n key v
last-some keyed zero key v is = absurd (none-some v is)
last-some keyed (suc n) key v is =
    by_test (keyed n == key)
    (λ here.
    let same : n ≡ v = same_Some n v (sym (rw here refl) ∙ is) in
    subst (IsLast keyed (suc n) key) same
    (record { below = omega arith; alike = (Decides-eqb (keyed n) key).0 here; between = λ w past within alike. absurd (omega (arith, past, within)) }))
    (λ other.
    let before = last-some keyed n key v (sym (rw other refl) ∙ is) in
    record {
      below = omega (arith, before.below);
      alike = before.alike;
      between = λ w past within alike. elim (cases_eq w n) [
        | inl same ↦ differs other (ap keyed (sym same) ∙ alike)
        | inr apart ↦ before.between w past (omega (arith, within, apart)) alike
      ];
    })
  where
    differs : (keyed n == key) ≡ false → keyed n ≡ key → ⊥
    differs other alike = true≢false (sym (eq-eqb (keyed n) key alike) ∙ other)

last-none : (keyed : ℕ → ℕ) (n key : ℕ) → last_below keyed n key ≡ None → (w : ℕ) → w < n → keyed w ≡ key → ⊥
last-none keyed zero key is w within alike = absurd (omega (arith, within))
last-none keyed (suc n) key is w within alike =
    by_test (keyed n == key)
    (λ here. none-some n (sym is ∙ rw here refl))
    (λ other. elim (cases_eq w n) [
      | inl same ↦ true≢false (sym (eq-eqb (keyed n) key (ap keyed (sym same) ∙ alike)) ∙ other)
      | inr apart ↦ last-none keyed n key (sym (rw other refl) ∙ is) w (omega (arith, within, apart)) alike
    ])

last-same : (f g : ℕ → ℕ) (n key : ℕ) → ((w : ℕ) → w < n → f w ≡ g w) → last_below f n key ≡ last_below g n key
last-same f g zero key same = refl
last-same f g (suc n) key same =
    ap (λ a. if a == key then Some n else last_below f n key) (same n (omega arith))
    ∙ ap (λ o. if g n == key then Some n else o) (last-same f g n key (λ w below. same w (omega (arith, below))))

-- ---- a search along the links
-- what stands from a number on isn't the class, and the next place is the last below it that has the class's key
pub record IsSearching (classes : List Class) (k : Class) (next : Option ℕ) : Type 0 where
  pub low : ℕ
  pub within : low ≤ length classes
  pub next_is : next ≡ last_below (key_in classes) low (class_key k)
  pub past : (c : ℕ) → low ≤ c → c < length classes → class_number classes c ≡ k → ⊥

pub searching-first : (classes : List Class) (heads : List (ℕ × ℕ)) (links : List (Option ℕ)) (k : Class) (next : Option ℕ) → AreLinked classes heads links
    → next ≡ lookup (λ q. class_key k == q) heads → IsSearching classes k next
searching-first classes heads links k next linked is = record {
  low = length classes;
  within = omega arith;
  next_is = is ∙ linked.last (class_key k);
  past = λ c low below same. absurd (omega (arith, low, below));
}

pub searching-within : (classes : List Class) (k : Class) (next : Option ℕ) (c : ℕ) → next ≡ Some c → IsSearching classes k next → c < length classes
searching-within classes k next c is searching =
    omega (arith, (last-some (key_in classes) searching.low (class_key k) c (sym searching.next_is ∙ is)).below, searching.within)

pub searching-next : (classes : List Class) (heads : List (ℕ × ℕ)) (links : List (Option ℕ)) (k : Class) (next after : Option ℕ) (c : ℕ) → AreLinked classes heads links → next ≡ Some c
    → (class_number classes c ≡ k → ⊥) → after ≡ link_at links c → IsSearching classes k next → IsSearching classes k after
searching-next classes heads links k next after c linked is other link searching =
    let here = last-some (key_in classes) searching.low (class_key k) c (sym searching.next_is ∙ is) in
    let below : c < length classes = omega (arith, here.below, searching.within) in
    record {
      low = c;
      within = omega (arith, below);
      next_is = link ∙ (linked.before c below ∙ ap (last_below (key_in classes) c) here.alike);
      past = λ d from within same. elim (cases_eq d c) [
        | inl at_c ↦ other (ap (class_number classes) (sym at_c) ∙ same)
        | inr apart ↦ elim (cases_lt d searching.low) [
          | inl before ↦ here.between d (omega (arith, from, apart)) before (ap class_key same)
          | inr behind ↦ searching.past d behind within same
        ]
      ];
    }

-- how many places the search may still look at
abbrev pub rest_of : Option ℕ → ℕ
rest_of None = 0
rest_of (Some c) = c + 1

pub rest-less : (classes : List Class) (heads : List (ℕ × ℕ)) (links : List (Option ℕ)) (after : Option ℕ) (c : ℕ) → AreLinked classes heads links → c < length classes → after ≡ link_at links c
    → rest_of after < c + 1
rest-less classes heads links None c linked below link = omega arith
rest-less classes heads links (Some d) c linked below link =
    omega (arith, (last-some (key_in classes) c (key_in classes c) d (sym (linked.before c below) ∙ sym link)).below)

pub searching-none : (classes : List Class) (k : Class) (next : Option ℕ) → next ≡ None → IsSearching classes k next → All (λ j. j ≡ k → ⊥) classes
searching-none classes k next is searching = λ c d below same.
    let here : class_number classes c ≡ k = get_or_default classes c (class_number [] 0) d below ∙ same in
    elim (cases_lt c searching.low) [
      | inl before ↦ last-none (key_in classes) searching.low (class_key k) (sym searching.next_is ∙ is) c before (ap class_key here)
      | inr behind ↦ searching.past c behind below here
    ]

-- ---- one class more
pub linked-none : AreLinked [] [] []
linked-none = record { size = refl; last = λ key. refl; before = λ c below. absurd (omega (arith, below)) }

pub linked-more : (classes : List Class) (k : Class) (number : ℕ) (heads after : List (ℕ × ℕ)) (links : List (Option ℕ)) → AreLinked classes heads links → number ≡ length classes
    → ((q : ℕ) → lookup (λ v. q == v) after ≡ (if class_key k == q then Some number else lookup (λ v. q == v) heads))
    → AreLinked (classes ++ k ∷ []) after (links ++ lookup (λ v. class_key k == v) heads ∷ [])
linked-more classes k number heads after links linked place noted = record {
  size = length-append links (head ∷ []) ∙ (omega (arith, linked.size) ∙ sym (length-append classes (k ∷ [])));
  last = λ q.
      noted q
      ∙ (ap (λ n. if class_key k == q then Some n else lookup (λ v. q == v) heads) place
      ∙ (ap (λ o. if class_key k == q then Some (length classes) else o) (linked.last q ∙ sym (kept (length classes) q (omega arith)))
      ∙ (ap (λ a. if a == q then Some (length classes) else last_below (key_in more) (length classes) q) (sym last_key)
      ∙ ap (λ n. last_below (key_in more) n q) (sym long))));
  before = λ c below. elim (cases_lt c (length classes)) [
    | inl inside ↦
        get_or-append links (head ∷ []) None c (omega (arith, inside, linked.size))
        ∙ (linked.before c inside
        ∙ (sym (kept c (key_in classes c) (omega (arith, inside))) ∙ ap (last_below (key_in more) c) (sym (same_key c inside))))
    | inr outside ↦
        let here : c ≡ length classes = omega (arith, outside, below, long) in
        ap (link_at (links ++ head ∷ [])) (here ∙ sym linked.size)
        ∙ (get_or-append_seam links head [] None
        ∙ (linked.last (class_key k)
        ∙ (sym (kept (length classes) (class_key k) (omega arith))
        ∙ (ap (last_below (key_in more) (length classes)) (sym last_key) ∙ ap (λ d. last_below (key_in more) d (key_in more d)) (sym here)))))
  ];
}
  where
    more : List Class
    more = classes ++ k ∷ []

    head : Option ℕ
    head = lookup (λ v. class_key k == v) heads

    long : length more ≡ suc (length classes)
    long = length-append classes (k ∷ []) ∙ omega arith

    same_key : (c : ℕ) → c < length classes → key_in more c ≡ key_in classes c
    same_key c inside = ap class_key (get_or-append classes (k ∷ []) (class_number [] 0) c inside)

    last_key : key_in more (length classes) ≡ class_key k
    last_key = ap class_key (get_or-append_seam classes k [] (class_number [] 0))

    kept : (n q : ℕ) → n ≤ length classes → last_below (key_in more) n q ≡ last_below (key_in classes) n q
    kept n q few = last-same (key_in more) (key_in classes) n q (λ c below. same_key c (omega (arith, below, few)))
