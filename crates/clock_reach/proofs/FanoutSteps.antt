-- Links built from the last item to the first.
use Rattle.std.proofs.Common.{◌≡◌, ℕ, ◌+◌, ◌<◌, ◌≤◌, List, length, get_or, set, Option, Some, None, arith, sym, ◌∙◌, inl, inr, get_or-set_same, get_or-set_other}
use Rattle.std.proofs.lemmas.Bool.{cases_eq}
use Rattle.std.proofs.Math.ListN.{length-set}
use Rattle.clock_reach.specs.Leaving.{wire_at}
use Rattle.clock_reach.specs.Leaving.{leaving_from}
use Rattle.clock_reach.proofs.LeavingLemmas.{leaving_from-here, leaving_from-skip}
use Rattle.bud_design.specs.declared.designs.Wire.{Wire}

-- the wires from number `low` on are linked
pub record AreFanoutFrom (wires : List Wire) (low : ℕ) (heads tails : List (Option ℕ)) : Type 0 where
  pub first : (pin : ℕ) → pin < length heads → get_or heads pin None ≡ leaving_from wires pin low
  pub next : (i : ℕ) → low ≤ i → i < length wires → get_or tails i None ≡ leaving_from wires (wire_at wires i).from.0 (i + 1)

-- one item is linked: it stands before the wires of its pin so far
pub AreFanoutFrom-more : (wires : List Wire) (low pin : ℕ) (heads tails : List (Option ℕ)) → low < length wires → length wires ≤ length tails → pin < length heads
    → (wire_at wires low).from.0 ≡ pin → AreFanoutFrom wires (low + 1) heads tails
    → AreFanoutFrom wires low (set heads pin (Some low)) (set tails low (get_or heads pin None))
AreFanoutFrom-more wires low pin heads tails within room there leaves so_far = record {
  first = λ other below. elim (cases_eq other pin) [
    | inl same ↦ rw (same, get_or-set_same heads pin (Some low) None there) (sym (leaving_from-here wires pin low within leaves))
    | inr differs ↦ rw (get_or-set_other heads pin other (Some low) None differs)
        (so_far.first other (omega (arith, length-set heads pin (Some low)))
        ∙ sym (leaving_from-skip wires other low within (λ e. differs (sym e ∙ leaves))))
  ];
  next = λ i from_low inside. elim (cases_eq i low) [
    | inl same ↦ rw (same, get_or-set_same tails low (get_or heads pin None) None (omega arith), leaves) (so_far.first pin there)
    | inr differs ↦ rw (get_or-set_other tails low i (get_or heads pin None) None differs) (so_far.next i (omega arith) inside)
  ];
}
