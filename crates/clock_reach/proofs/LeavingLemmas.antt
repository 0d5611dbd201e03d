-- The wires that leave a pin, found one after another.
use Rattle.std.proofs.Common.{◌≡◌, ◌≢◌, ◌==◌, ℕ, zero, suc, ◌+◌, ◌-◌, ◌<◌, ◌≤◌, List, ◌∷◌, length, drop, Some, None, refl, sym, ◌∙◌, ap, subst, inl, inr, arith, eq-eqb}
use Rattle.std.specs.List.{position_from}
use Rattle.std.specs.Option.{option_map_or}
use Rattle.std.proofs.lemmas.List.{at_drop_more, drop_all}
use Rattle.std.proofs.lemmas.Bool.{ne_eqb, cases_eq, cases_lt}
use Rattle.std.proofs.lemmas.Option.{none-some}
use Rattle.clock_reach.specs.Leaving.{wire_at}
use Rattle.clock_reach.specs.Leaving.{leaving_from}
use Rattle.bud_design.specs.declared.designs.Wire.{Wire}

-- one item on
pub leaving_from-step : (wires : List Wire) (pin low : ℕ) → low < length wires
    → leaving_from wires pin low ≡ position_from (λ x. x.from.0 == pin) low (wire_at wires low ∷ drop (low + 1) wires)
leaving_from-step wires pin low within =
    at_drop_more (λ xs. position_from (λ x. x.from.0 == pin) low xs) wires low _ within

-- past the last item none leaves
pub leaving_from-end : (wires : List Wire) (pin low : ℕ) → length wires ≤ low → leaving_from wires pin low ≡ None
leaving_from-end wires pin low past = rw (drop_all low wires past) refl

-- where the item at `low` leaves the pin it is the first
pub leaving_from-here : (wires : List Wire) (pin low : ℕ) → low < length wires → (wire_at wires low).from.0 ≡ pin
    → leaving_from wires pin low ≡ Some low
leaving_from-here wires pin low within leaves = rw (leaving_from-step wires pin low within, eq-eqb (wire_at wires low).from.0 pin leaves) refl

-- and where it doesn't, the search goes on behind it
pub leaving_from-skip : (wires : List Wire) (pin low : ℕ) → low < length wires → (wire_at wires low).from.0 ≢ pin
    → leaving_from wires pin low ≡ leaving_from wires pin (low + 1)
leaving_from-skip wires pin low within other = rw (leaving_from-step wires pin low within, ne_eqb (wire_at wires low).from.0 pin other) refl

-- item `i` is the first from number `low` on that leaves the pin
pub record IsFirstLeaving (wires : List Wire) (pin low i : ℕ) : Type 0 where
  pub above : low ≤ i
  pub within : i < length wires
  pub leaves : (wire_at wires i).from.0 ≡ pin
  pub between : (j : ℕ) → low ≤ j → j < i → (wire_at wires j).from.0 ≢ pin

leaving_from-some_gap : (wires : List Wire) (pin : ℕ) (i : ℕ) (gap low : ℕ) → low + gap ≡ length wires → leaving_from wires pin low ≡ Some i
    → IsFirstLeaving wires pin low i
leaving_from-some_gap wires pin i zero low size found = absurd (none-some _ (sym (leaving_from-end wires pin low (omega arith)) ∙ found))
leaving_from-some_gap wires pin i (suc gap) low size found =
    let within : low < length wires = omega arith in
    elim (cases_eq (wire_at wires low).from.0 pin) [
      | inl leaves ↦
          let same : low ≡ i = ap (λ o. option_map_or (λ (x : ℕ). x) o low) (sym (leaving_from-here wires pin low within leaves) ∙ found) in
          record {
            above = omega arith;
            within = omega arith;
            leaves = subst (λ k. (wire_at wires k).from.0 ≡ pin) same leaves;
            between = λ j above below. absurd (omega arith);
          }
      | inr other ↦
          let rest = leaving_from-some_gap wires pin i gap (low + 1) (omega arith) (sym (leaving_from-skip wires pin low within other) ∙ found) in
          record {
            above = omega (arith, rest.above);
            within = rest.within;
            leaves = rest.leaves;
            between = λ j above below. elim (cases_eq j low) [
              | inl same ↦ rw same other
              | inr differs ↦ rest.between j (omega arith) below
            ];
          }
    ]

pub leaving_from-some : (wires : List Wire) (pin low : ℕ) (i : ℕ) → leaving_from wires pin low ≡ Some i → IsFirstLeaving wires pin low i
leaving_from-some wires pin low i found =
    elim (cases_lt low (length wires)) [
      | inl below ↦ leaving_from-some_gap wires pin i (length wires - low) low (omega arith) found
      | inr past ↦ absurd (none-some _ (sym (leaving_from-end wires pin low past) ∙ found))
    ]

leaving_from-none_gap : (wires : List Wire) (pin gap low : ℕ) → low + gap ≡ length wires → leaving_from wires pin low ≡ None
    → (j : ℕ) → low ≤ j → j < length wires → (wire_at wires j).from.0 ≢ pin
leaving_from-none_gap wires pin zero low size none = λ j above below. absurd (omega arith)
leaving_from-none_gap wires pin (suc gap) low size none =
    let within : low < length wires = omega arith in
    elim (cases_eq (wire_at wires low).from.0 pin) [
      | inl leaves ↦ absurd (none-some _ (sym none ∙ leaving_from-here wires pin low within leaves))
      | inr other ↦ λ j above below. elim (cases_eq j low) [
        | inl same ↦ rw same other
        | inr differs ↦ leaving_from-none_gap wires pin gap (low + 1) (omega arith) (sym (leaving_from-skip wires pin low within other) ∙ none) j (omega arith) below
      ]
    ]

-- where no item is found, none from there on leaves the pin
pub leaving_from-none : (wires : List Wire) (pin low : ℕ) → leaving_from wires pin low ≡ None
    → (j : ℕ) → low ≤ j → j < length wires → (wire_at wires j).from.0 ≢ pin
leaving_from-none wires pin low none j above below = leaving_from-none_gap wires pin (length wires - low) low (omega arith) none j above below
