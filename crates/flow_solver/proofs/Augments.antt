-- What one augmentation settles.
use Rattle.std.proofs.Common.{◌≡◌, ◌==◌, ◌≢◌, ℕ, ℤ, pos, negsuc, ◌+ℤ◌, ◌-ℤ◌, ◌≤ℤ◌, ◌<ℤ◌, ◌+◌, ◌*◌, ◌<◌, List, length, Option, Some, None, arith, refl, ap, sym, subst, ◌∙◌, inl, inr, cond, Bool, true, false, eq-eqb}
use Rattle.std.specs.Prelude.{int_lt, nat_lt}
use Rattle.std.proofs.lemmas.Int.{ints, by_lt_z}
use Rattle.std.proofs.lemmas.Bool.{cases_eq, cases_lt, ne_eqb}
use Rattle.std.proofs.lemmas.List.{get_or_past}
use Rattle.bud_base.specs.declared.problems.Problem.{Problem}
use Rattle.bud_flow.specs.Sums.{sum_below, number_at}
use Rattle.residual.specs.Arcs.{arc_at}
use Rattle.residual.specs.Networks.{Network, residual, excess_at, IsLawful, Fits}
use Rattle.residual.specs.Balances.{above, surplus, HasRoom, HasNoExcess}
use Rattle.residual.proofs.Balance.{sum_below-least, sum_below-all_zero, excess_of-total}
use Rattle.residual.proofs.Changes.{sum_below-changed}
use Rattle.residual.proofs.Pairs.{residual_at-arc}
use Rattle.residual.specs.declared.arcs.Arc.{Arc}
use Rattle.residual.specs.declared.arcs.Look.{Look}
use Rattle.flow_solver.specs.Entries.{entry_at, by_at, place_at}
use Rattle.flow_solver.specs.Lifts.{with_potentials}
use Rattle.flow_solver.specs.Pushes.{IsTaken, FitsAt, IsAmount, SameNetwork, IsPushed, IsAugmented}
use Rattle.flow_solver.specs.Rounds.{HasSlack, AreRounds}
use Rattle.flow_solver.specs.declared.entries.Entry.{Entry}

none-some : {A : Type 0} (o : Option A) (x : A) → o ≡ None → o ≡ Some x → ⊥
none-some o x none some = cc

pub above-most : (z : ℤ) → z ≤ℤ pos 0 → above z ≡ pos 0
above-most z most = by_test (int_lt (pos 0) z) refl
  where
    by_test : (b : Bool) → int_lt (pos 0) z ≡ b → cond b z (pos 0) ≡ pos 0
    by_test true e = absurd (grind (arith, ints))
    by_test false e = refl

pub above-least : (z : ℤ) → pos 0 ≤ℤ z → above z ≡ z
above-least z least = by_test (int_lt (pos 0) z) refl
  where
    by_test : (b : Bool) → int_lt (pos 0) z ≡ b → cond b z (pos 0) ≡ z
    by_test true e = refl
    by_test false e = grind (arith, ints)

pub above-positive : (z : ℤ) → pos 0 ≤ℤ above z
above-positive z = by_lt_z z (pos 0) (λ less. omega (arith, ints, above-most z (omega (arith, ints, less)))) (λ more. omega (arith, ints, above-least z more, more))

pub surplus-positive : (net : Network) → pos 0 ≤ℤ surplus net
surplus-positive net = sum_below-least (net.nodes + 1) (λ v. above (excess_at net v)) (λ v _. above-positive (excess_at net v))

-- a node that is taken is a node
pub taken-within : (entries : List (Option Entry)) (v : ℕ) → IsTaken entries v → v < length entries
taken-within entries v taken = elim (cases_lt v (length entries)) [
  | inl within ↦ within
  | inr past ↦ absurd (none-some (entry_at entries v) taken.0 (get_or_past entries v None past) taken.1)
]

cond-here : (v : ℕ) (amount : ℤ) → cond (v == v) amount (pos 0) ≡ amount
cond-here v amount = ap (λ b. cond b amount (pos 0)) (eq-eqb v v refl)

cond-elsewhere : (v w : ℕ) (amount : ℤ) → v ≢ w → cond (v == w) amount (pos 0) ≡ pos 0
cond-elsewhere v w amount differs = ap (λ b. cond b amount (pos 0)) (ne_eqb v w differs)

-- a push along a way from a node with excess to one that lacks flow settles its amount
pub surplus-pushed : (old new : Network) (entries : List (Option Entry)) (node seed : ℕ) (amount : ℤ) → length entries ≡ old.nodes + 1 → IsAmount old entries node amount
    → by_at entries seed ≡ None → IsPushed old new entries node amount seed → surplus new ≡ surplus old -ℤ amount
surplus-pushed old new entries node seed amount size is_amount none pushed =
    let P : Option ℕ → Type 0 = λ o. FitsAt old amount seed o in
    let enough : amount ≤ℤ excess_at old seed = subst P none (is_amount.fits seed pushed.on) in
    let differs : node ≢ seed = λ e.
    let Q : ℕ → Type 0 = λ v. amount ≤ℤ (pos 0 -ℤ excess_at old v) in
    let lack : amount ≤ℤ (pos 0 -ℤ excess_at old seed) = subst Q e is_amount.lack in
    omega (arith, ints, enough, lack, is_amount.positive) in
    let there : seed < old.nodes + 1 = omega (arith, taken-within entries seed pushed.taken, size) in
    let at_seed : above (excess_at new seed) -ℤ above (excess_at old seed) ≡ pos 0 -ℤ amount
    = omega (
      arith,
      ints,
      pushed.excess seed,
      cond-elsewhere node seed amount differs,
      cond-here seed amount,
      above-least (excess_at new seed) (omega (arith, ints, pushed.excess seed, cond-elsewhere node seed amount differs, cond-here seed amount, enough)),
      above-least (excess_at old seed) (omega (arith, ints, enough, is_amount.positive)),
    ) in
    let others : (v : ℕ) → v < old.nodes + 1 → v ≢ seed → above (excess_at new v) ≡ above (excess_at old v)
    = λ v below other. elim (cases_eq node v) [
      | inl same ↦
          let Q : ℕ → Type 0 = λ w. amount ≤ℤ (pos 0 -ℤ excess_at old w) in
          let lack : amount ≤ℤ (pos 0 -ℤ excess_at old v) = subst Q same is_amount.lack in
          let rise : cond (node == v) amount (pos 0) ≡ amount = ap (λ b. cond b amount (pos 0)) (eq-eqb node v same) in
          above-most (excess_at new v) (omega (arith, ints, pushed.excess v, rise, cond-elsewhere seed v amount (λ e. other (sym e)), lack))
          ∙ sym (above-most (excess_at old v) (omega (arith, ints, lack, is_amount.positive)))
      | inr elsewhere ↦
          let same : excess_at new v ≡ excess_at old v = omega (arith, ints, pushed.excess v, cond-elsewhere node v amount elsewhere, cond-elsewhere seed v amount (λ e. other (sym e))) in
          ap above same
    ] in
    let nodes : new.nodes + 1 ≡ old.nodes + 1 = omega (arith, pushed.same.nodes) in
    let sums = sum_below-changed (old.nodes + 1) seed (λ v. above (excess_at old v)) (λ v. above (excess_at new v)) there others in
    ap (λ n. sum_below n (λ v. above (excess_at new v))) nodes ∙ sums ∙ omega (arith, ints, at_seed)

-- and no flow rises by more
pub flow-pushed : (old new : Network) (entries : List (Option Entry)) (node seed j : ℕ) (amount : ℤ) → pos 0 ≤ℤ amount → IsPushed old new entries node amount seed → j < length old.arcs
    → number_at new.flows j ≤ℤ (number_at old.flows j +ℤ amount)
flow-pushed old new entries node seed j amount least pushed below =
    let rooms = pushed.rooms (2 * j) (omega (arith, below)) in
    let most = at_most (nat_lt (place_at entries seed) (place_at entries (residual old (2 * j)).to.0)) in
    let was : (residual old (2 * j)).room ≡ (arc_at old.arcs j).limit -ℤ number_at old.flows j = ap (λ (r : Look). r.room) (residual_at-arc old.arcs old.flows j) in
    let is : (residual new (2 * j)).room ≡ (arc_at new.arcs j).limit -ℤ number_at new.flows j = ap (λ (r : Look). r.room) (residual_at-arc new.arcs new.flows j) in
    let same : (arc_at new.arcs j).limit ≡ (arc_at old.arcs j).limit = ap (λ (arcs : List Arc). (arc_at arcs j).limit) pushed.same.arcs in
    omega (arith, ints, rooms, most, was, is, same)
  where
    at_most : (b : Bool) → cond b amount (pos 0) ≤ℤ amount
    at_most true = omega (arith, ints)
    at_most false = least

-- the whole augmentation
pub IsAugmented-pushed : (before old new : Network) (entries : List (Option Entry)) (node seed : ℕ) (amount : ℤ) → old ≡ with_potentials before old.potentials old.is_open
    → length entries ≡ old.nodes + 1 → IsAmount old entries node amount → by_at entries seed ≡ None → IsPushed old new entries node amount seed → IsAugmented before new
IsAugmented-pushed before old new entries node seed amount same size is_amount none pushed =
    let least : pos 0 ≤ℤ amount = omega (arith, ints, is_amount.positive) in
    let P : Option ℕ → Type 0 = λ o. FitsAt old amount seed o in
    let enough : amount ≤ℤ excess_at old seed = subst P none (is_amount.fits seed pushed.on) in
    record {
      same = record {
        nodes = pushed.same.nodes ∙ ap (λ (n : Network). n.nodes) same;
        items = pushed.same.items ∙ ap (λ (n : Network). n.items) same;
        starts = pushed.same.starts ∙ ap (λ (n : Network). n.starts) same;
        ends = pushed.same.ends ∙ ap (λ (n : Network). n.ends) same;
        arcs = pushed.same.arcs ∙ ap (λ (n : Network). n.arcs) same;
      };
      lawful = pushed.lawful;
      closed = elim pushed.closed [
        | inl back_at ↦
            let Q : ℕ → Type 0 = λ v. amount ≤ℤ excess_at old v in
            let here_enough : amount ≤ℤ excess_at old node = subst Q back_at enough in
            absurd (omega (arith, ints, here_enough, is_amount.lack, is_amount.positive))
        | inr closed ↦ closed
      ];
      amount = amount;
      positive = is_amount.positive;
      settled = surplus-pushed old new entries node seed amount size is_amount none pushed ∙ ap (λ (n : Network). surplus n -ℤ amount) same;
      flows = λ j below.
          let inside : j < length old.arcs = omega (arith, below, ap (λ (n : Network). length n.arcs) same) in
          omega (arith, ints, flow-pushed old new entries node seed j amount least pushed inside, ap (λ (n : Network). number_at n.flows j) same);
    }

-- ---- round after round
pub HasRoom-slack : (net : Network) → HasSlack net → HasRoom net
HasRoom-slack net slack j below = omega (arith, ints, slack j below, surplus-positive net)

pub HasSlack-augmented : (old new : Network) → HasSlack old → IsAugmented old new → HasSlack new
HasSlack-augmented old new slack augmented j below =
    let inside : j < length old.arcs = omega (arith, below, ap length augmented.same.arcs) in
    omega (arith, ints, slack j inside, augmented.flows j inside, augmented.settled)

pub Fits-same : (old new : Network) (p : Problem) → SameNetwork old new → Fits old p → Fits new p
Fits-same old new p same fits = record {
  nodes = same.nodes ∙ fits.nodes;
  items = same.items ∙ fits.items;
  starts = same.starts ∙ fits.starts;
  ends = same.ends ∙ fits.ends;
  limited_arcs = λ i within. ap (λ arcs. arc_at arcs i) same.arcs ∙ fits.limited_arcs i within;
  open_arcs = λ i within. ap (λ arcs. arc_at arcs (length p.items + i)) same.arcs ∙ fits.open_arcs i within;
  start_arcs = λ s within. ap (λ arcs. arc_at arcs (length p.items + length p.items + s)) same.arcs ∙ fits.start_arcs s within;
  end_arcs = λ e within. ap (λ arcs. arc_at arcs (length p.items + length p.items + length p.starts + e)) same.arcs ∙ fits.end_arcs e within;
}

pub SameNetwork-further : (old mid new : Network) → SameNetwork old mid → SameNetwork mid new → SameNetwork old new
SameNetwork-further old mid new first second = record {
  nodes = second.nodes ∙ first.nodes;
  items = second.items ∙ first.items;
  starts = second.starts ∙ first.starts;
  ends = second.ends ∙ first.ends;
  arcs = second.arcs ∙ first.arcs;
}

-- the surplus as a natural number
abbrev pub size_of : ℤ → ℕ
size_of (pos n) = n
size_of (negsuc n) = 0

less_size : (a b c : ℤ) → pos 0 ≤ℤ a → a ≡ b -ℤ c → pos 0 <ℤ c → size_of a < size_of b
less_size (pos a) (pos b) c least is positive = omega (arith, ints, is, positive)
less_size (pos a) (negsuc b) c least is positive = absurd (omega (arith, ints, is, positive))
less_size (negsuc a) b c least is positive = absurd (omega (arith, ints, least))

pub surplus-falls : (old new : Network) → IsAugmented old new → size_of (surplus new) < size_of (surplus old)
surplus-falls old new augmented = less_size (surplus new) (surplus old) augmented.amount (surplus-positive new) augmented.settled augmented.positive

-- where no node has excess none lacks flow
pub HasNoExcess-none : (net : Network) → IsLawful net → ((v : ℕ) → v < net.nodes + 1 → excess_at net v ≤ℤ pos 0) → HasNoExcess net
HasNoExcess-none net lawful none = sum_below-all_zero (net.nodes + 1) (excess_at net) none (excess_of-total (net.nodes + 1) net.arcs net.flows lawful.sizes.joins)

-- ---- rounds
pub AreRounds-none : (net : Network) → net.is_open ≡ false → (IsLawful net → HasSlack net) → AreRounds net net
AreRounds-none net closed slack = record { same = record { nodes = refl; items = refl; starts = refl; ends = refl; arcs = refl }; closed = closed; slack = slack; fallen = omega (arith, ints) }

pub AreRounds-augmented : (old mid new : Network) → AreRounds old mid → IsLawful mid → IsAugmented mid new → AreRounds old new
AreRounds-augmented old mid new rounds lawful augmented = record {
  same = SameNetwork-further old mid new rounds.same augmented.same;
  closed = augmented.closed;
  slack = λ _. HasSlack-augmented mid new (rounds.slack lawful) augmented;
  fallen = omega (arith, ints, rounds.fallen, augmented.settled, augmented.positive);
}

pub AreRounds-further : (old mid new : Network) → AreRounds old mid → AreRounds mid new → AreRounds old new
AreRounds-further old mid new first second = record {
  same = SameNetwork-further old mid new first.same second.same;
  closed = second.closed;
  slack = second.slack;
  fallen = omega (arith, ints, first.fallen, second.fallen);
}

pub size-falls : (old new : Network) → surplus new <ℤ surplus old → size_of (surplus new) < size_of (surplus old)
size-falls old new less = less_size (surplus new) (surplus old) (surplus old -ℤ surplus new) (surplus-positive new) (omega (arith, ints)) (omega (arith, ints, less))
