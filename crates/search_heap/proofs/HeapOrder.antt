-- Heaps while what stands in them changes.
use Rattle.std.proofs.Common.{◌≡◌, ◌≢◌, ℕ, ℤ, ◌+◌, ◌-◌, ◌/◌, ◌<◌, ◌≤◌, ◌≤ℤ◌, ◌<ℤ◌, zero, suc, arith, ap, refl, inl, inr}
use Rattle.std.proofs.lemmas.Int.{ints}
use Rattle.std.proofs.lemmas.Bool.{cases_eq}
use Rattle.search_heap.specs.Heaps.{IsBelow, IsHeap, IsHeapBut, IsNearEnough, IsFarEnough}

-- what stands at two places is exchanged
pub record AreExchanged (old new : ℕ → ℤ) (p q : ℕ) : Type 0 where
  pub one : new p ≡ old q
  pub other : new q ≡ old p
  pub rest : (k : ℕ) → k ≢ p → k ≢ q → new k ≡ old k

below_same : (a b c d : ℕ) → a ≡ c → b ≡ d → IsBelow a b → IsBelow c d
below_same a b c d one other under = record { first = omega (arith, under.first); last = omega (arith, under.last) }

-- a place stands right below one alone
pub above_same : (a b c : ℕ) → IsBelow a c → IsBelow b c → a ≡ b
above_same a b c one other = omega (arith, one.first, one.last, other.first, other.last)

pub IsHeap-ended : (count : ℕ) (f : ℕ → ℤ) (p : ℕ) → IsHeapBut count f p → IsNearEnough count f p → IsFarEnough f p → IsHeap count f
IsHeap-ended count f p but near far = record {
  each = λ a b under inside. elim (cases_eq a p) [
    | inl same ↦ omega (arith, ints, near.each b (below_same a b p b same refl under) inside, ap f same)
    | inr a_other ↦ elim (cases_eq b p) [
      | inl same ↦ omega (arith, ints, far.each a (below_same a b a p refl same under), ap f same)
      | inr b_other ↦ but.others a b under inside a_other b_other
    ]
  ];
}

-- an offer rises over a farther one
pub IsHeapBut-risen : (count : ℕ) (f g : ℕ → ℤ) (k p : ℕ) → IsBelow k p → p < count → AreExchanged f g k p → f p <ℤ f k → IsHeapBut count f p → IsNearEnough count f p → IsHeapBut count g k
IsHeapBut-risen count f g k p under_k within exchanged nearer but near = record {
  others = λ a b under inside not_a not_b. elim (cases_eq b p) [
    | inl same ↦ absurd (not_a (above_same a k p (below_same a b a p refl same under) under_k))
    | inr b_other ↦ elim (cases_eq a p) [
      | inl same ↦ omega (arith, ints, ap g same, exchanged.other, exchanged.rest b not_b b_other, but.across k b under_k (below_same a b p b same refl under) inside)
      | inr a_other ↦ omega (arith, ints, exchanged.rest a not_a a_other, exchanged.rest b not_b b_other, but.others a b under inside a_other b_other)
    ]
  ];
  across = λ a b under_a under_b inside.
      let above_k : a ≢ k = λ e. omega (arith, under_a.first) in
      let above_p : a ≢ p = λ e. omega (arith, under_a.first, under_k.first) in
      let k_other : k ≢ p = λ e. omega (arith, under_k.first) in
      let first : f a ≤ℤ f k = but.others a k under_a (omega (arith, under_k.first)) above_p k_other in
      elim (cases_eq b p) [
        | inl same ↦ omega (arith, ints, ap g same, exchanged.other, exchanged.rest a above_k above_p, first)
        | inr b_other ↦
            let b_below : b ≢ k = λ e. omega (arith, under_b.first) in
            omega (arith, ints, exchanged.rest a above_k above_p, exchanged.rest b b_below b_other, first, but.others k b under_b inside k_other b_other)
      ];
}

pub IsNearEnough-risen : (count : ℕ) (f g : ℕ → ℤ) (k p : ℕ) → IsBelow k p → AreExchanged f g k p → f p <ℤ f k → IsHeapBut count f p → IsNearEnough count g k
IsNearEnough-risen count f g k p under_k exchanged nearer but = record {
  each = λ b under inside. elim (cases_eq b p) [
    | inl same ↦ omega (arith, ints, ap g same, exchanged.one, exchanged.other, nearer)
    | inr b_other ↦
        let b_below : b ≢ k = λ e. omega (arith, under.first) in
        let k_other : k ≢ p = λ e. omega (arith, under_k.first) in
        omega (arith, ints, exchanged.one, exchanged.rest b b_below b_other, nearer, but.others k b under inside k_other b_other)
  ];
}

-- an offer sinks under the nearer of those below it
pub IsHeapBut-sunk : (count : ℕ) (f g : ℕ → ℤ) (p c : ℕ) → IsBelow p c → c < count → AreExchanged f g p c → ((j : ℕ) → IsBelow p j → j < count → f c ≤ℤ f j) → IsHeapBut count f p
    → IsHeapBut count g c
IsHeapBut-sunk count f g p c under_p within exchanged nearest but = record {
  others = λ a b under inside not_a not_b. elim (cases_eq a p) [
    | inl same ↦
        let b_below : b ≢ p = λ e. omega (arith, under.first, same) in
        omega (arith, ints, ap g same, exchanged.one, exchanged.rest b b_below not_b, nearest b (below_same a b p b same refl under) inside)
    | inr a_other ↦ elim (cases_eq b p) [
      | inl same ↦ omega (arith, ints, ap g same, exchanged.one, exchanged.rest a a_other not_a, but.across a c (below_same a b a p refl same under) under_p within)
      | inr b_other ↦ omega (arith, ints, exchanged.rest a a_other not_a, exchanged.rest b b_other not_b, but.others a b under inside a_other b_other)
    ]
  ];
  across = λ a b under_a under_b inside.
      let same : a ≡ p = above_same a p c under_a under_p in
      let c_other : c ≢ p = λ e. omega (arith, under_p.first) in
      let b_other : b ≢ p = λ e. omega (arith, under_b.first, under_p.first) in
      let b_below : b ≢ c = λ e. omega (arith, under_b.first) in
      omega (arith, ints, ap g same, exchanged.one, exchanged.rest b b_other b_below, but.others c b under_b inside c_other b_other);
}

pub IsFarEnough-sunk : (f g : ℕ → ℤ) (p c : ℕ) → IsBelow p c → AreExchanged f g p c → f c <ℤ f p → IsFarEnough g c
IsFarEnough-sunk f g p c under_p exchanged nearer = record {
  each = λ a under. omega (arith, ints, ap g (above_same a p c under under_p), exchanged.one, exchanged.other, nearer);
}

-- ---- where loops end
pub IsFarEnough-top : (f : ℕ → ℤ) (p : ℕ) → p ≡ 0 → IsFarEnough f p
IsFarEnough-top f p top = record { each = λ a under. absurd (omega (arith, under.first)) }

pub IsFarEnough-above : (f : ℕ → ℤ) (k p : ℕ) → IsBelow k p → f k ≤ℤ f p → IsFarEnough f p
IsFarEnough-above f k p under near = record { each = λ a below. omega (arith, ints, ap f (above_same a k p below under), near) }

pub IsNearEnough-none : (count : ℕ) (f : ℕ → ℤ) (p : ℕ) → ((j : ℕ) → IsBelow p j → j < count → ⊥) → IsNearEnough count f p
IsNearEnough-none count f p none = record { each = λ j under inside. absurd (none j under inside) }

pub IsNearEnough-nearest : (count : ℕ) (f : ℕ → ℤ) (p c : ℕ) → ((j : ℕ) → IsBelow p j → j < count → f c ≤ℤ f j) → f p ≤ℤ f c → IsNearEnough count f p
IsNearEnough-nearest count f p c nearest near = record { each = λ j under inside. omega (arith, ints, nearest j under inside, near) }

-- ---- the top
pub IsBelow-half : (k : ℕ) → 0 < k → IsBelow ((k - 1) / 2) k
IsBelow-half k some = record { first = omega arith; last = omega arith }

top_least : (count : ℕ) (f : ℕ → ℤ) (n k : ℕ) → IsHeap count f → k ≤ n → k < count → f 0 ≤ℤ f k
top_least count f zero k heap few inside =
    let top : k ≡ 0 = omega arith in
    omega (arith, ints, ap f top)
top_least count f (suc n) k heap few inside = elim (cases_eq k 0) [
  | inl top ↦ omega (arith, ints, ap f top)
  | inr other ↦
      let under = IsBelow-half k (omega arith) in
      let near = top_least count f n ((k - 1) / 2) heap (omega (arith, under.first)) (omega (arith, under.first)) in
      omega (arith, ints, near, heap.each ((k - 1) / 2) k under inside)
]

pub IsHeap-top : (count : ℕ) (f : ℕ → ℤ) (k : ℕ) → IsHeap count f → k < count → f 0 ≤ℤ f k
IsHeap-top count f k heap inside = top_least count f k k heap (omega arith) inside

-- ---- one place changes
pub IsHeapBut-appended : (count : ℕ) (f g : ℕ → ℤ) → IsHeap count f → ((k : ℕ) → k ≢ count → g k ≡ f k) → IsHeapBut (count + 1) g count
IsHeapBut-appended count f g heap same = record {
  others = λ a b under inside not_a not_b. omega (arith, ints, same a not_a, same b not_b, heap.each a b under (omega arith));
  across = λ a b under_a under_b inside. absurd (omega (arith, under_b.first));
}

pub IsNearEnough-appended : (count : ℕ) (g : ℕ → ℤ) → IsNearEnough (count + 1) g count
IsNearEnough-appended count g = record { each = λ b under inside. absurd (omega (arith, under.first)) }

pub IsHeapBut-replaced : (count : ℕ) (f g : ℕ → ℤ) (p : ℕ) → IsHeap count f → p < count → ((k : ℕ) → k ≢ p → g k ≡ f k) → IsHeapBut count g p
IsHeapBut-replaced count f g p heap within same = record {
  others = λ a b under inside not_a not_b. omega (arith, ints, same a not_a, same b not_b, heap.each a b under inside);
  across = λ a b under_a under_b inside.
      let above : a ≢ p = λ e. omega (arith, under_a.first) in
      let below : b ≢ p = λ e. omega (arith, under_b.first) in
      omega (arith, ints, same a above, same b below, heap.each a p under_a within, heap.each p b under_b inside);
}

pub IsNearEnough-replaced : (count : ℕ) (f g : ℕ → ℤ) (p : ℕ) → IsHeap count f → ((k : ℕ) → k ≢ p → g k ≡ f k) → g p ≤ℤ f p → IsNearEnough count g p
IsNearEnough-replaced count f g p heap same near = record {
  each = λ b under inside.
      let below : b ≢ p = λ e. omega (arith, under.first) in
      omega (arith, ints, same b below, heap.each p b under inside, near);
}

-- the last goes to the top
pub IsHeapBut-removed : (count last : ℕ) (f g : ℕ → ℤ) → IsHeap count f → count ≡ last + 1 → ((k : ℕ) → k ≢ 0 → k ≢ last → g k ≡ f k) → IsHeapBut last g 0
IsHeapBut-removed count last f g heap is same = record {
  others = λ a b under inside not_a not_b.
      let a_other : a ≢ last = λ e. omega (arith, under.first) in
      let b_other : b ≢ last = λ e. omega arith in
      omega (arith, ints, same a not_a a_other, same b not_b b_other, heap.each a b under (omega arith));
  across = λ a b under_a under_b inside. absurd (omega (arith, under_a.first));
}
