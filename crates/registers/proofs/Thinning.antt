-- The last of each row of sorted values at one place: the greatest there.
use Rattle.std.specs.Prelude.{zero, suc}
use Rattle.std.specs.List.{Contains, AllPairs, All}
use Rattle.std.specs.List.Sorted.{IsSorted, IsPermutation}
use Rattle.std.proofs.Common.{◌≡◌, ℕ, ◌+◌, ◌-◌, ◌<◌, ◌≤◌, ◌⊎◌, Bool, true, false, ℤ, ◌≤ℤ◌, List, [], ◌∷◌, ◌++◌, length, get_or, refl, sym, ap, subst, ◌∙◌, inl, inr, arith, true≢false}
use Rattle.std.proofs.lemmas.Bool.{cases_lt, cases_eq, cases_Bool}
use Rattle.std.proofs.lemmas.Int.{ints}
use Rattle.std.proofs.lemmas.List.{get_or_default, length_push}
use Rattle.std.proofs.lemmas.List.Elements.{All-nil, All-push, All-weaker, Contains-push, Contains-append_left, Contains-get_or, All-from_get_or}
use Rattle.std.proofs.lemmas.List.Quantifiers.{all_pairs_push}
use Rattle.std.proofs.lemmas.List.Sorted.{IsPermutation-sym, length_permutation, Contains-permutation, All-permutation}
use Rattle.registers.specs.Tables.{valued_at, valued_cmp, same_place, place_before, IsGreatest, AreGreatest, IsLast, IsLastAt, IsThinned}
use Rattle.registers.specs.declared.tables.Valued.{Valued}
use Rattle.registers.proofs.Sorting.{IsSame, IsBefore, same_is, is_same, is_before, before_differs, before_twice, same_trans, same_sym, IsNotAfter, sorted_not_after}

pub IsThinned-none : (xs : List Valued) → IsThinned xs 0 []
IsThinned-none xs = record {
  few = omega arith;
  rising = λ i j d less below. absurd (omega (arith, below));
  sound = All-nil (IsLastAt xs 0);
  complete = λ i below last. absurd (omega (arith, below));
}

IsLastAt-later : (xs : List Valued) (count : ℕ) (y : Valued) → IsLastAt xs count y → IsLastAt xs (count + 1) y
IsLastAt-later xs count y at_place = record { place = at_place.place; before = omega (arith, at_place.before); is = at_place.is; last = at_place.last }

module _ (xs : List Valued) (sorted : IsSorted valued_cmp xs) where
  -- what stands behind the last at a place stands at another, further one
  pub behind_last : (p q : ℕ) → p < q → q < length xs → IsLast xs p → IsBefore (valued_at xs p) (valued_at xs q)
  behind_last p q less within last =
      let apart : same_place (valued_at xs p) (valued_at xs (p + 1)) ≡ false = last (omega (arith, less, within)) in
      let next : IsBefore (valued_at xs p) (valued_at xs (p + 1)) = elim (sorted_not_after xs sorted p (p + 1) (omega arith) (omega (arith, less, within))) [
        | inl before ↦ before
        | inr same ↦ absurd (true≢false (sym (is_same (valued_at xs p) (valued_at xs (p + 1)) same.0) ∙ apart))
      ] in
      elim (sorted_not_after xs sorted p q (omega (arith, less)) within) [
        | inl before ↦ before
        | inr same ↦ absurd (elim (sorted_not_after xs sorted (p + 1) q (omega (arith, less)) within) [
          | inl further ↦ before_twice (valued_at xs p) (valued_at xs (p + 1)) (valued_at xs q) next further same.0
          | inr level ↦ before_differs (valued_at xs p) (valued_at xs (p + 1)) next (same_trans (valued_at xs p) (valued_at xs q) (valued_at xs (p + 1)) same.0 (same_sym (valued_at xs (p + 1)) (valued_at xs q) level.0))
        ])
      ]

  -- one value more is kept, since it is the last at its place
  pub IsThinned-more : (count : ℕ) (ys : List Valued) → count < length xs → IsLast xs count → IsThinned xs count ys → IsThinned xs (count + 1) (ys ++ valued_at xs count ∷ [])
  IsThinned-more count ys within last so_far = record {
    few = (let size = length_push ys (valued_at xs count) in omega (arith, so_far.few));
    rising = all_pairs_push (λ x y. place_before x y ≡ true) ys (valued_at xs count) so_far.rising (λ k d below.
        let kept = so_far.sound k d below in
        subst (λ y. place_before y (valued_at xs count) ≡ true) kept.is (is_before (valued_at xs kept.place) (valued_at xs count) (behind_last kept.place count kept.before within kept.last)));
    sound = All-push (IsLastAt xs (count + 1)) ys (valued_at xs count) (All-weaker (IsLastAt xs count) (IsLastAt xs (count + 1)) (IsLastAt-later xs count) ys so_far.sound)
        (record { place = count; before = omega arith; is = refl; last = last });
    complete = λ i below last_there. elim (cases_eq i count) [
      | inl same ↦ rw same (Contains-push ys (valued_at xs count))
      | inr differs ↦ Contains-append_left ys (valued_at xs count ∷ []) (valued_at xs i) (so_far.complete i (omega (arith, below)) last_there)
    ];
  }

  pub IsThinned-skip : (count : ℕ) (ys : List Valued) → count + 1 < length xs → same_place (valued_at xs count) (valued_at xs (count + 1)) ≡ true → IsThinned xs count ys → IsThinned xs (count + 1) ys
  IsThinned-skip count ys within same so_far = record {
    few = omega (arith, so_far.few);
    rising = so_far.rising;
    sound = All-weaker (IsLastAt xs count) (IsLastAt xs (count + 1)) (IsLastAt-later xs count) ys so_far.sound;
    complete = λ i below last_there. elim (cases_eq i count) [
      | inl is ↦ absurd (true≢false (sym same ∙ subst (λ k. same_place (valued_at xs k) (valued_at xs (k + 1)) ≡ false) is (last_there (omega (arith, is, within)))))
      | inr differs ↦ so_far.complete i (omega (arith, below)) last_there
    ];
  }

  most_at : (p j : ℕ) → p < length xs → j < length xs → IsLast xs p → same_place (valued_at xs j) (valued_at xs p) ≡ true → (valued_at xs j).value ≤ℤ (valued_at xs p).value
  most_at p j within there last same = elim (cases_lt p j) [
    | inl behind ↦ absurd (before_differs (valued_at xs p) (valued_at xs j) (behind_last p j behind there last) (same_sym (valued_at xs j) (valued_at xs p) (same_is (valued_at xs j) (valued_at xs p) same)))
    | inr before ↦ elim (sorted_not_after xs sorted j p before within) [
      | inl lower ↦ absurd (before_differs (valued_at xs j) (valued_at xs p) lower (same_is (valued_at xs j) (valued_at xs p) same))
      | inr level ↦ level.1
    ]
  ]

  greatest_at : (count : ℕ) (y : Valued) → count ≤ length xs → IsLastAt xs count y → IsGreatest xs y
  greatest_at count y few kept =
      let within : kept.place < length xs = omega (arith, kept.before, few) in
      record {
        stands = subst (Contains xs) kept.is (Contains-get_or xs kept.place (valued_at [] 0) within);
        most = All-from_get_or (λ x. same_place x y ≡ true → x.value ≤ℤ y.value) xs (valued_at [] 0) (λ j there.
            subst (λ z. same_place (valued_at xs j) z ≡ true → (valued_at xs j).value ≤ℤ z.value) kept.is (most_at kept.place j within there kept.last));
      }

  -- from each value on there is a last one at its place
  last_from : (left j : ℕ) → j + left + 1 ≡ length xs → (q : ℕ) × ((q < length xs) × ((IsSame (valued_at xs j) (valued_at xs q)) × IsLast xs q))
  last_from zero j is = (j, (omega (arith, is), (record { first = refl; second = refl; falls = refl }, λ more. absurd (omega (arith, is, more)))))
  last_from (suc left) j is = elim (cases_Bool (same_place (valued_at xs j) (valued_at xs (j + 1)))) [
    | inl same ↦
        let rest = last_from left (j + 1) (omega (arith, is)) in
        (rest.0, (rest.1.0, (same_trans (valued_at xs j) (valued_at xs (j + 1)) (valued_at xs rest.0) (same_is (valued_at xs j) (valued_at xs (j + 1)) same) rest.1.1.0, rest.1.1.1)))
    | inr differs ↦ (j, (omega (arith, is), (record { first = refl; second = refl; falls = refl }, λ more. differs)))
  ]

  complete_at : (ys : List Valued) → IsThinned xs (length xs) ys → (x : Valued) → Contains xs x → (y : Valued) × (Contains ys y × (same_place x y ≡ true))
  complete_at ys thinned x found =
      let last = last_from (length xs - found.0 - 1) found.0 (omega (arith, found.1)) in
      let is : valued_at xs found.0 ≡ x = get_or_default xs found.0 (valued_at [] 0) x found.1 ∙ found.2 in
      (valued_at xs last.0, (thinned.complete last.0 last.1.0 last.1.1.1, subst (λ z. same_place z (valued_at xs last.0) ≡ true) is (is_same (valued_at xs found.0) (valued_at xs last.0) last.1.1.0)))

  pub AreGreatest-end : (ys : List Valued) → IsThinned xs (length xs) ys → AreGreatest xs ys
  AreGreatest-end ys thinned = record {
    few = thinned.few;
    rising = thinned.rising;
    sound = All-weaker (IsLastAt xs (length xs)) (IsGreatest xs) (λ y kept. greatest_at (length xs) y (omega arith) kept) ys thinned.sound;
    complete = complete_at ys thinned;
  }

-- the greatest of values in another order
pub AreGreatest-permuted : (xs zs ys : List Valued) → IsPermutation zs xs → AreGreatest xs ys → AreGreatest zs ys
AreGreatest-permuted xs zs ys moved so_far = record {
  few = (let size = length_permutation zs xs moved in omega (arith, so_far.few));
  rising = so_far.rising;
  sound = All-weaker (IsGreatest xs) (IsGreatest zs) (λ y great. record {
    stands = Contains-permutation xs zs y (IsPermutation-sym zs xs moved) great.stands;
    most = All-permutation (λ x. same_place x y ≡ true → x.value ≤ℤ y.value) xs zs (IsPermutation-sym zs xs moved) great.most;
  }) ys so_far.sound;
  complete = λ x found. so_far.complete x (Contains-permutation zs xs x moved found);
}
