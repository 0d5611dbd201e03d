-- Setup checks with other amounts stand at the same pins, by the same clock pins and edges.
use Rattle.std.specs.Prelude.{◌≡◌, ℕ, zero, suc, ◌<◌, ℤ, List, [], ◌∷◌, length, Contains, slice_index_or}
use Rattle.std.proofs.Common.{refl, ◌∙◌, ap, subst, arith}
use Rattle.std.proofs.lemmas.List.{get_or_default}
use Rattle.std.proofs.lemmas.List.Elements.{Contains-get_or}
use Rattle.bud_base.specs.declared.ids.PinId.{PinId}
use Rattle.bud_syntax.specs.declared.edges.Edge.{Edge}
use Rattle.bud_design.specs.declared.timings.Check.{Check}
use Rattle.bud_flow.specs.Sums.{number_at}
use Rattle.block_theory.specs.Composition.{check_at}
use Rattle.block_theory.specs.Meeting.{with_amounts}

-- a check of a number, at its amount in hand
pub record IsCheckAt (xs : List Check) (zs : List ℤ) (y : Check) : Type 0 where
  pub number : ℕ
  pub below : number < length xs
  pub pin : (check_at xs number).pin ≡ y.pin
  pub clock : (check_at xs number).clock ≡ y.clock
  pub edge : (check_at xs number).edge ≡ y.edge
  pub amount : number_at zs number ≡ y.amount

check-at : (xs : List Check) (zs : List ℤ) (y : Check) (k : ℕ) → length zs ≡ length xs → k < length (with_amounts xs zs) → slice_index_or (with_amounts xs zs) k y ≡ y → IsCheckAt xs zs y
check-at [] zs y k size below is = absurd (omega (arith, below))
check-at (x ∷ xs) [] y k size below is = absurd (omega (arith, size))
check-at (x ∷ xs) (z ∷ zs) y zero size below is = record {
  number = 0;
  below = omega arith;
  pin = ap (λ (c : Check). c.pin) is;
  clock = ap (λ (c : Check). c.clock) is;
  edge = ap (λ (c : Check). c.edge) is;
  amount = ap (λ (c : Check). c.amount) is;
}
check-at (x ∷ xs) (z ∷ zs) y (suc k) size below is =
    let rest = check-at xs zs y k (omega (arith, size)) (omega (arith, below)) is in
    record { number = suc rest.number; below = omega (arith, rest.below); pin = rest.pin; clock = rest.clock; edge = rest.edge; amount = rest.amount }

pub IsCheckAt-from : (xs : List Check) (zs : List ℤ) (y : Check) → length zs ≡ length xs → Contains (with_amounts xs zs) y → IsCheckAt xs zs y
IsCheckAt-from xs zs y size has = check-at xs zs y has.0 size has.1 has.2

-- the check of a number at an amount
abbrev pub check_with : Check → ℤ → Check
check_with x z = record { pin = x.pin; clock = x.clock; edge = x.edge; amount = z }

held-at : (xs : List Check) (zs : List ℤ) (k : ℕ) → length zs ≡ length xs → k < length xs → Contains (with_amounts xs zs) (check_with (check_at xs k) (number_at zs k))
held-at [] zs k size below = absurd (omega (arith, below))
held-at (x ∷ xs) [] k size below = absurd (omega (arith, size))
held-at (x ∷ xs) (z ∷ zs) zero size below = (0, omega arith, refl)
held-at (x ∷ xs) (z ∷ zs) (suc k) size below =
    let rest = held-at xs zs k (omega (arith, size)) (omega (arith, below)) in
    (suc rest.0, omega (arith, rest.1), rest.2)

pub record HasCheck (xs : List Check) (zs : List ℤ) (pin clock : PinId) (edge : Edge) : Type 0 where
  pub number : ℕ
  pub below : number < length xs
  pub pin_is : (check_at xs number).pin ≡ pin
  pub read : Contains xs (record { pin = pin; clock = clock; edge = edge; amount = (check_at xs number).amount })
  pub held : Contains (with_amounts xs zs) (record { pin = pin; clock = clock; edge = edge; amount = number_at zs number })

abbrev HasCheck-at : (xs : List Check) (zs : List ℤ) (y : Check) → length zs ≡ length xs → (k : ℕ) → k < length xs → (check_at xs k).pin ≡ y.pin → (check_at xs k).clock ≡ y.clock → (check_at xs k).edge ≡ y.edge
    → HasCheck xs zs y.pin y.clock y.edge
HasCheck-at xs zs y size k below pin clock edge =
    let x = check_at xs k in
    let first = Contains-get_or xs k (check_at [] 0) below in
    let second = held-at xs zs k size below in
    record {
      number = k;
      below = below;
      pin_is = pin;
      read = subst (λ e. Contains xs (record { pin = y.pin; clock = y.clock; edge = e; amount = x.amount })) edge
          (subst (λ c. Contains xs (record { pin = y.pin; clock = c; edge = x.edge; amount = x.amount })) clock
          (subst (λ p. Contains xs (record { pin = p; clock = x.clock; edge = x.edge; amount = x.amount })) pin first));
      held = subst (λ e. Contains (with_amounts xs zs) (record { pin = y.pin; clock = y.clock; edge = e; amount = number_at zs k })) edge
          (subst (λ c. Contains (with_amounts xs zs) (record { pin = y.pin; clock = c; edge = x.edge; amount = number_at zs k })) clock
          (subst (λ p. Contains (with_amounts xs zs) (record { pin = p; clock = x.clock; edge = x.edge; amount = number_at zs k })) pin second));
    }

-- from a check in hand, and from one as read
pub record HeldCheck (xs : List Check) (zs : List ℤ) (y : Check) : Type 0 where
  pub has : HasCheck xs zs y.pin y.clock y.edge
  pub amount : number_at zs has.number ≡ y.amount

pub HeldCheck-from : (xs : List Check) (zs : List ℤ) (y : Check) → length zs ≡ length xs → Contains (with_amounts xs zs) y → HeldCheck xs zs y
HeldCheck-from xs zs y size has =
    let is = IsCheckAt-from xs zs y size has in
    held-made (HasCheck-at xs zs y size is.number is.below is.pin is.clock is.edge) is.number refl is.amount
  where
    held-made : (h : HasCheck xs zs y.pin y.clock y.edge) → (k : ℕ) → h.number ≡ k → number_at zs k ≡ y.amount → HeldCheck xs zs y
    held-made h k same amount = record { has = h; amount = ap (number_at zs) same ∙ amount }

pub record ReadCheck (xs : List Check) (zs : List ℤ) (y : Check) : Type 0 where
  pub has : HasCheck xs zs y.pin y.clock y.edge
  pub amount : (check_at xs has.number).amount ≡ y.amount

pub ReadCheck-from : (xs : List Check) (zs : List ℤ) (y : Check) → length zs ≡ length xs → Contains xs y → ReadCheck xs zs y
ReadCheck-from xs zs y size has =
    let read = get_or_default xs has.0 (check_at [] 0) y has.1 ∙ has.2 in
    read-made (HasCheck-at xs zs y size has.0 has.1 (ap (λ (c : Check). c.pin) read) (ap (λ (c : Check). c.clock) read) (ap (λ (c : Check). c.edge) read)) has.0 refl (ap (λ (c : Check). c.amount) read)
  where
    read-made : (h : HasCheck xs zs y.pin y.clock y.edge) → (k : ℕ) → h.number ≡ k → (check_at xs k).amount ≡ y.amount → ReadCheck xs zs y
    read-made h k same amount = record { has = h; amount = ap (λ i. (check_at xs i).amount) same ∙ amount }
