-- A network from which walks were taken off.
use Rattle.std.proofs.Common.{◌≡◌, ℕ, ℤ, ◌+◌, ◌-◌, ◌-ℤ◌, ◌≤ℤ◌, ◌⊎◌, arith, List, Option, sym, subst, ap, ◌∙◌, inl, inr}
use Rattle.std.proofs.lemmas.Int.{ints}
use Rattle.bud_base.specs.declared.problems.Problem.{Problem}
use Rattle.residual.specs.Excesses.{AreExcesses}
use Rattle.residual.specs.Networks.{Fits, Network, IsLawful}
use Rattle.residual.specs.Balances.{HasNoExcess, HasRoom, total_start_flow, total_weight}
use Rattle.residual.specs.Trims.{HasNoSurplus, total_limit}
use Rattle.bud_flow.specs.Sums.{sum_below, number_at}
use Rattle.residual.specs.Walks.{AreWalksTaken, AreParted, flow_between, LoseAtMost, HasWalk}
use Rattle.residual.proofs.Surplus.{total_limit-fits, total_start_flow-most, IsLawful-less}
use Rattle.residual.proofs.Remains.{HasNoSurplus-parted, HasSurplus-walk}
use Rattle.residual.specs.declared.arcs.Arc.{Arc}
use Rattle.residual.specs.declared.walks.Way.{Way}

-- a network from which walks were taken off until none was left
pub record IsTrimmed (net : Network) (new : List ℤ) : Type 0 where
  pub taken : AreWalksTaken net.arcs net.items net.flows new
  pub lawful : IsLawful (record net { flows = new })
  pub balanced : HasNoExcess (record net { flows = new })
  pub none : HasNoSurplus (record net { flows = new })
  pub starts : total_start_flow (record net { flows = new }) ≤ℤ total_limit net

IsTrimmed-walks : (net : Network) (new : List ℤ) (ways : List (Option Way)) → IsLawful net → HasNoExcess net → HasRoom net → AreWalksTaken net.arcs net.items net.flows new
    → AreParted net.arcs new net.items net.nodes (net.items + net.items) (net.items + net.items + net.starts) ways → IsTrimmed net new
IsTrimmed-walks net new ways lawful balanced room taken parted =
    let law : IsLawful (record net { flows = new }) = IsLawful-less net new lawful room taken.less taken.kept in
    let still : HasNoExcess (record net { flows = new }) = λ v below. taken.excess v ∙ balanced v below in
    record { taken = taken; lawful = law; balanced = still; none = HasNoSurplus-parted (record net { flows = new }) ways law.sizes parted; starts = total_start_flow-most (record net { flows = new }) ways law.sizes law.flows still parted }

-- the same of the lists as they were lent
pub IsTrimmed-lent : (before net : Network) (arcs : List Arc) (flows told new : List ℤ) (ways : List (Option Way)) → before ≡ net → IsLawful before → HasNoExcess net → HasRoom net
    → arcs ≡ before.arcs → flows ≡ before.flows → new ≡ told → AreWalksTaken arcs before.items flows told
    → AreParted arcs told before.items before.nodes (before.items + before.items) (before.items + before.items + before.starts) ways → IsTrimmed before new
IsTrimmed-lent before net arcs flows told new ways same lawful balanced room is_arcs is_flows is_new taken parted =
    IsTrimmed-walks before new ways lawful (subst HasNoExcess (sym same) balanced) (subst HasRoom (sym same) room)
    (rw (is_new, ← is_arcs, ← is_flows) taken) (rw (is_new, ← is_arcs) parted)

-- the excesses are as before
pub AreExcesses-walks : (arcs : List Arc) (first : ℕ) (old new numbers : List ℤ) → AreExcesses arcs old numbers → AreWalksTaken arcs first old new → AreExcesses arcs new numbers
AreExcesses-walks arcs first old new numbers told taken = record { each = λ v below. told.each v below ∙ sym (taken.excess v) }

-- flows stay where there is no surplus
pub kept-lent : (before net : Network) (arcs : List Arc) (flows told new : List ℤ) → before ≡ net → IsLawful before → arcs ≡ before.arcs → flows ≡ before.flows → new ≡ told
    → (told ≡ flows) ⊎ HasWalk arcs flows before.items before.nodes (before.items + before.items) (before.items + before.items + before.starts) → HasNoSurplus net → new ≡ net.flows
kept-lent before net arcs flows told new same lawful is_arcs is_flows is_new which none = elim which [
  | inl kept ↦ is_new ∙ kept ∙ is_flows ∙ ap (λ (n : Network). n.flows) same
  | inr walk ↦ absurd (HasSurplus-walk before lawful.sizes (rw (← is_arcs, ← is_flows) walk) (subst HasNoSurplus (sym same) none))
]

-- and in the network of a problem the starts carry no more than the weights together
pub weights-lent : (before net : Network) (new : List ℤ) (p : Problem) → before ≡ net → IsTrimmed before new → Fits net p → total_start_flow (record before { flows = new }) ≤ℤ total_weight p
weights-lent before net new p same trimmed fits =
    let P : Network → Type 0 = λ n. Fits n p in
    let limits : total_limit before ≡ total_weight p = total_limit-fits before p (subst P (sym same) fits) in
    omega (arith, ints, trimmed.starts, limits)

-- what the starts' arcs carry together
total_start_flow-between : (net : Network) (flows : List ℤ) → total_start_flow (record net { flows = flows }) ≡ flow_between (net.items + net.items) (net.items + net.items + net.starts) flows
total_start_flow-between net flows =
    let e : net.items + net.items + net.starts - (net.items + net.items) ≡ net.starts = omega arith in
    ap (λ n. sum_below n (λ k. number_at flows (net.items + net.items + k))) (sym e)

-- no arc loses more than the starts together
pub loss-lent : (before net : Network) (flows told new : List ℤ) → before ≡ net → flows ≡ before.flows → new ≡ told
    → LoseAtMost (before.items + before.items) (before.items + before.items + before.starts) flows told
    → (arc : ℕ) → (number_at net.flows arc -ℤ number_at new arc) ≤ℤ (total_start_flow net -ℤ total_start_flow (record before { flows = new }))
loss-lent before net flows told new same is_flows is_new lost arc =
    let L : LoseAtMost (before.items + before.items) (before.items + before.items + before.starts) before.flows new = rw (is_new, ← is_flows) lost in
    let P : Network → Type 0 = λ n. (number_at n.flows arc -ℤ number_at new arc) ≤ℤ (total_start_flow n -ℤ total_start_flow (record before { flows = new })) in
    subst P same (omega (arith, ints, L arc, total_start_flow-between before before.flows, total_start_flow-between before new))
