use Rattle.std.proofs.Common.{◌≡◌, ◌+◌, ◌<◌, ◌^◌, ◌+ℤ◌, ◌-ℤ◌, ℕ, ℤ, List, Option, pos, to_z, of_z, w64, arith, sym, ap, subst, ◌∙◌}
use mir.Syntax.{w128}
use Rattle.std.proofs.lemmas.Int.{ints}
use Rattle.bud_base.specs.Soundness.{IsSound}
use Rattle.bud_base.specs.declared.problems.Problem.{Problem}
use Rattle.bud_flow.specs.Sums.{number_at}
use Rattle.residual.specs.Bounds.{IsWithin}
use Rattle.residual.specs.Networks.{Network, IsLawful, Fits, AreReduced}
use Rattle.residual.specs.Balances.{HasRoom}
use Rattle.flow_solver.specs.Entries.{label_at}
use Rattle.flow_solver.specs.Searches.{AreTaken}
use Rattle.flow_solver.specs.Lifts.{AreLifted, with_potentials}
use Rattle.flow_solver.specs.Pushes.{IsTree, IsAmount}
use Rattle.flow_solver.proofs.Labels.{AreReduced-lifted}
use Rattle.flow_solver.proofs.Taking.{distance-within}
use Rattle.flow_solver.proofs.Lifting.{lifts-small, last-within, AreReduced-closed, AreReduced-raised, IsTree-lifted}
use Rattle.flow_solver.proofs.Augments.{IsAugmented-pushed}
use Rattle.flow_solver.specs.declared.entries.Entry.{Entry}
use Rattle.flow_solver.specs.Spreading.{entries_of}
use Rattle.flow_solver.proofs.Seeds.{IsSearching-seeded}
use Rattle.flow_solver.proofs.solving.augment.Goals as goal

same_last : (last : ℤ) → IsWithin (pos 8000000000000) last → to_z w64 (of_z w64 last) ≡ last
same_last last within = omega (arith, ints, within.low, within.high)

same_amount : (amount : ℤ) → IsWithin (pos (2 ^ 113)) amount → to_z w128 (of_z w128 amount) ≡ amount
same_amount amount within = omega (arith, ints, within.low, within.high)

labels : (net : Network) (p : Problem) (entries : List (Option Entry)) (last told : ℤ) (count : ℕ) → IsSound p → IsLawful net → Fits net p → HasRoom net → AreReduced net net.potentials
    → AreTaken net entries last count → told ≡ last → (v : ℕ) → v < p.nodes + 1 → IsWithin (pos (2 ^ 60)) (label_at entries told v)
labels net p entries last told count sound lawful fits room reduced taken same v below =
    let one = distance-within net p entries last count v sound lawful fits room reduced taken below in
    let e : label_at entries told v ≡ label_at entries last v = ap (λ x. label_at entries x v) same in
    record { low = omega (arith, ints, one.low, e); high = omega (arith, ints, one.high, e) }

lifts : (net : Network) (p : Problem) (entries : List (Option Entry)) (last told : ℤ) (count : ℕ) → IsSound p → IsLawful net → Fits net p → HasRoom net → AreReduced net net.potentials
    → AreTaken net entries last count → told ≡ last → (v : ℕ) → v < p.nodes → IsWithin (pos (2 ^ 60)) (number_at net.potentials v +ℤ (label_at entries told p.nodes -ℤ label_at entries told v))
lifts net p entries last told count sound lawful fits room reduced taken same v below =
    let P : ℤ → Type 0 = λ x. IsWithin (pos (2 ^ 60)) (number_at net.potentials v +ℤ (label_at entries x p.nodes -ℤ label_at entries x v)) in
    subst P (sym same) (lifts-small net p entries last count v sound lawful fits room reduced taken (omega (arith, below)))

tree : (net new : Network) (p : Problem) (entries : List (Option Entry)) (last told : ℤ) (count : ℕ) → IsLawful net → Fits net p → AreTaken net entries last count → told ≡ last
    → AreLifted p.nodes net.potentials new.potentials (label_at entries told) → new ≡ with_potentials net new.potentials new.is_open → IsTree new entries
tree net new p entries last told count lawful fits taken same lifted is =
    let T : ℤ → Type 0 = λ x. AreTaken net entries x count in
    let N : ℕ → Type 0 = λ n. AreLifted n net.potentials new.potentials (label_at entries told) in
    IsTree-lifted net new entries told count lawful (subst T (sym same) taken) (subst N (sym fits.nodes) lifted) is

reduced_after : (net new : Network) (p : Problem) (entries : List (Option Entry)) (last told : ℤ) (count : ℕ) → IsLawful net → Fits net p → AreTaken net entries last count → told ≡ last
    → AreLifted p.nodes net.potentials new.potentials (label_at entries told) → new ≡ with_potentials net new.potentials new.is_open → AreReduced new new.potentials
reduced_after net new p entries last told count lawful fits taken same lifted is =
    let T : ℤ → Type 0 = λ x. AreTaken net entries x count in
    let N : ℕ → Type 0 = λ n. AreLifted n net.potentials new.potentials (label_at entries told) in
    AreReduced-raised net new (label_at entries told)
    (AreReduced-lifted net new.potentials (label_at entries told) lawful (subst T (sym same) taken).labelling (subst N (sym fits.nodes) lifted)) is

pub search-found-requires-clause-searching : goal.search-found-requires-clause-searching
search-found-requires-clause-searching g c =
    IsSearching-seeded c.args.net.now c.begin.new.front c.args.node.0 c.begin.ensures.seeded (c.begin.ensures.room ∙ c.requires.size) c.requires.node c.requires.excess

pub raise-requires-clause-labels : goal.raise-requires-clause-labels
raise-requires-clause-labels g c =
    let reduced = AreReduced-closed c.args.net.now c.requires.lawful c.requires.closed in
    let taken = c.search-found.ensures.taken in
    labels c.args.net.now c.args.problem.now _ _ _ taken.0 c.requires.sound c.requires.lawful c.requires.fits c.requires.room reduced taken.1
    (same_last _ (last-within _ _ _ _ _ c.requires.sound c.requires.lawful c.requires.fits c.requires.room reduced taken.1))

pub raise-requires-clause-small : goal.raise-requires-clause-small
raise-requires-clause-small g c =
    let reduced = AreReduced-closed c.args.net.now c.requires.lawful c.requires.closed in
    let taken = c.search-found.ensures.taken in
    lifts c.args.net.now c.args.problem.now _ _ _ taken.0 c.requires.sound c.requires.lawful c.requires.fits c.requires.room reduced taken.1
    (same_last _ (last-within _ _ _ _ _ c.requires.sound c.requires.lawful c.requires.fits c.requires.room reduced taken.1))

pub amount_along-amount-requires-clause-tree : goal.amount_along-amount-requires-clause-tree
amount_along-amount-requires-clause-tree g c =
    let reduced = AreReduced-closed c.args.net.now c.requires.lawful c.requires.closed in
    let taken = c.search-found.ensures.taken in
    tree c.args.net.now c.raise.new.net c.args.problem.now _ _ _ taken.0 c.requires.lawful c.requires.fits taken.1
    (same_last _ (last-within _ _ _ _ _ c.requires.sound c.requires.lawful c.requires.fits c.requires.room reduced taken.1)) c.raise.ensures.lifted c.raise.ensures.same

pub push_along-requires-clause-tree : goal.push_along-requires-clause-tree
push_along-requires-clause-tree g c =
    let reduced = AreReduced-closed c.args.net.now c.requires.lawful c.requires.closed in
    let taken = c.search-found.ensures.taken in
    tree c.args.net.now c.raise.new.net c.args.problem.now _ _ _ taken.0 c.requires.lawful c.requires.fits taken.1
    (same_last _ (last-within _ _ _ _ _ c.requires.sound c.requires.lawful c.requires.fits c.requires.room reduced taken.1)) c.raise.ensures.lifted c.raise.ensures.same

pub push_along-requires-clause-reduced : goal.push_along-requires-clause-reduced
push_along-requires-clause-reduced g c =
    let reduced = AreReduced-closed c.args.net.now c.requires.lawful c.requires.closed in
    let taken = c.search-found.ensures.taken in
    reduced_after c.args.net.now c.raise.new.net c.args.problem.now (entries_of c.search-found.new.front.entries) _ _ taken.0 c.requires.lawful c.requires.fits taken.1
    (same_last _ (last-within _ _ _ _ _ c.requires.sound c.requires.lawful c.requires.fits c.requires.room reduced taken.1)) c.raise.ensures.lifted c.raise.ensures.same

pub returns-clause-augmented : goal.returns-clause-augmented
returns-clause-augmented g c =
    let reduced = AreReduced-closed c.args.net.now c.requires.lawful c.requires.closed in
    let taken = c.search-found.ensures.taken in
    let is_tree = tree c.args.net.now c.raise.new.net c.args.problem.now _ _ _ taken.0 c.requires.lawful c.requires.fits taken.1
    (same_last _ (last-within _ _ _ _ _ c.requires.sound c.requires.lawful c.requires.fits c.requires.room reduced taken.1)) c.raise.ensures.lifted c.raise.ensures.same in
    let pushed = c.push_along.ensures in
    let A : ℤ → Type 0 = λ a. IsAmount c.raise.new.net (entries_of c.search-found.new.front.entries) c.search-found.result.node.0 a in
    IsAugmented-pushed c.args.net.now c.raise.new.net c.push_along.new.net (entries_of c.search-found.new.front.entries) c.search-found.result.node.0 pushed.0 _ c.raise.ensures.same is_tree.size
    (subst A (sym (same_amount _ c.amount_along-amount.ensures.small)) c.amount_along-amount.ensures.amount) pushed.1 pushed.2
