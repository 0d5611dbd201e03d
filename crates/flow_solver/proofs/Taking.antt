-- Nodes that are taken one after another, each the nearest.
use Rattle.std.proofs.Common.{◌≡◌, ℕ, ℤ, pos, ◌≤ℤ◌, ◌+◌, ◌<◌, List, [], ◌∷◌, ◌++◌, length, set, Option, Some, None, arith, ap, sym, subst, ◌∙◌, inl, inr, zero, suc, get_or-set_same, get_or-set_other}
use Rattle.std.proofs.lemmas.Int.{ints}
use Rattle.std.proofs.lemmas.Bool.{cases_eq}
use Rattle.std.proofs.lemmas.List.{length_push}
use Rattle.std.proofs.Math.ListN.{length-set}
use Rattle.bud_base.specs.Soundness.{IsSound}
use Rattle.bud_base.specs.declared.problems.Problem.{Problem}
use Rattle.residual.specs.Bounds.{IsWithin}
use Rattle.residual.specs.Networks.{Network, residual, AreReduced, IsLawful, Fits, excess_at}
use Rattle.residual.specs.Balances.{HasRoom}
use Rattle.residual.proofs.Balance.{excess_of-total, sum_below-at_least}
use Rattle.residual.proofs.Theory.{IsClosed, IsClosed-all}
use Rattle.residual.specs.Leaving.{leaving}
use Rattle.search_heap.specs.Searches.{Searched, NoneWaits, IsNearestAnswer}
use Rattle.search_heap.proofs.Offering.{entry-within}
use Rattle.search_heap.specs.declared.entries.Entry.{Entry as Found}
use Rattle.search_heap.specs.declared.entries.Near.{Near}
use Rattle.flow_solver.specs.Entries.{entry_at, label_at}
use Rattle.flow_solver.specs.Searches.{AreTaken, NoneLacks, IsSearching}
use Rattle.flow_solver.specs.Spreading.{found_at, taken_at, taken_of, entries_of, IsSpread, Every, IsScanning}
use Rattle.flow_solver.proofs.Founds.{entries-spread, entries-taken}
use Rattle.flow_solver.proofs.Labels.{label-within}
use Rattle.flow_solver.proofs.Spreading.{IsTakenNext, IsTakenNext-nearest, AreTaken-spread, IsSpread-scanned}
use Rattle.flow_solver.specs.declared.entries.Entry.{Entry}

-- ---- distances are small
pub distance-within : (net : Network) (p : Problem) (entries : List (Option Entry)) (last : ℤ) (count v : ℕ) → IsSound p → IsLawful net → Fits net p → HasRoom net → AreReduced net net.potentials
    → AreTaken net entries last count → v < p.nodes + 1 → IsWithin (pos 8000000000000) (label_at entries last v)
distance-within net p entries last count v sound lawful fits room reduced taken below =
    let label : ℕ → ℤ = label_at entries last in
    let seed_below : taken.begun.0 < p.nodes + 1 = omega (arith, taken.begun.1, taken.size, fits.nodes) in
    let from_seed = label-within net p label taken.begun.0 sound lawful fits room reduced taken.labelling seed_below in
    let here = label-within net p label v sound lawful fits room reduced taken.labelling below in
    let seed_label : label taken.begun.0 ≡ pos 0 = taken.begun.2 in
    record { low = omega (arith, ints, from_seed.low, from_seed.high, here.low, here.high, seed_label); high = omega (arith, ints, from_seed.low, from_seed.high, here.low, here.high, seed_label) }

-- ---- one node more
pub NoneLacks-more : (net : Network) (entries after : List (Option Entry)) (w : ℕ) (new : Entry) → w < length entries → NoneLacks net entries → after ≡ set entries w (Some new) → pos 0 ≤ℤ excess_at net w
    → NoneLacks net after
NoneLacks-more net entries after w new there none is least = record {
  each = λ v e is_e. elim (cases_eq v w) [
    | inl same ↦ rw same least
    | inr other ↦ none.each v e (sym (get_or-set_other entries w v (Some new) None other) ∙ ap (λ (es : List (Option Entry)). entry_at es v) (sym is) ∙ is_e)
  ];
}

-- ---- a node that lacks flow is found
-- what was taken of what was found, where nothing waits
taken_there : (net : Network) (entries : List (Option Entry)) (found : List (Option Found)) (last : ℤ) (count v : ℕ) (f : Found) → IsSpread net entries found last count Every → NoneWaits found → found_at found v ≡ Some f
    → (e : Entry) × (entry_at entries v ≡ Some e)
taken_there net entries found last count v f spread none is =
    let place = none.each v f is in
    (record { distance = f.distance; by = f.by; place = place.0 }, spread.same v ∙ ap taken_of is ∙ ap (taken_at f) place.1)

pub nearest-exists : (net : Network) (p : Problem) (entries : List (Option Entry)) (found : List (Option Found)) (last : ℤ) (count : ℕ) → IsSound p → IsLawful net → Fits net p → HasRoom net
    → IsSpread net entries found last count Every → NoneLacks net entries → NoneWaits found → ⊥
nearest-exists net p entries found last count sound lawful fits room spread none nowhere =
    let In : ℕ → Type 0 = λ v. (e : Entry) × (entry_at entries v ≡ Some e) in
    let closed : IsClosed net In = record {
      each = λ key is_key more from.
          let to = spread.covered key from.0 is_key tt more from.1 in
          taken_there net entries found last count (residual net key).to.0 to.entry spread nowhere to.is;
    } in
    let begun = spread.begun in
    let all : (v : ℕ) → v < p.nodes + 1 → In v
    = IsClosed-all net p In sound lawful.sizes fits room closed begun.node (omega (arith, begun.below, fits.nodes)) (taken_there net entries found last count begun.node begun.entry spread nowhere begun.is) in
    let least : (v : ℕ) → v < net.nodes + 1 → pos 0 ≤ℤ excess_at net v = λ v below. let one = all v (omega (arith, below, fits.nodes)) in none.each v one.0 one.1 in
    let sum = excess_of-total (net.nodes + 1) net.arcs net.flows lawful.sizes.joins in
    omega (arith, ints, sum_below-at_least (net.nodes + 1) begun.node (excess_at net) least begun.below, begun.excess, sum)

-- ---- fewer and fewer nodes aren't taken
abbrev pub free_count : List (Option Entry) → ℕ
free_count [] = 0
free_count (None ∷ es) = 1 + free_count es
free_count (Some e ∷ es) = free_count es

pub free_count-taken : (entries : List (Option Entry)) (w : ℕ) (new : Entry) → w < length entries → entry_at entries w ≡ None → free_count (set entries w (Some new)) + 1 ≡ free_count entries
free_count-taken [] w new there free = absurd (omega arith)
free_count-taken (None ∷ es) zero new there free = omega arith
free_count-taken (Some e ∷ es) zero new there free = absurd (cc)
free_count-taken (None ∷ es) (suc w) new there free = omega (arith, free_count-taken es w new (omega arith) free)
free_count-taken (Some e ∷ es) (suc w) new there free = free_count-taken es w new (omega arith) free

pub free_count-next : (net : Network) (entries after : List (Option Entry)) (found : List (Option Found)) (near : Near) (count : ℕ) → IsTakenNext net entries after found near count → free_count after < free_count entries
free_count-next net entries after found near count next = omega (arith, free_count-taken entries near.node.0 next.entry next.there next.free, ap free_count next.made)

pub NoneLacks-next : (net : Network) (entries after : List (Option Entry)) (found : List (Option Found)) (near : Near) (count : ℕ) → IsTakenNext net entries after found near count → NoneLacks net entries → pos 0 ≤ℤ excess_at net near.node.0
    → NoneLacks net after
NoneLacks-next net entries after found near count next none least = NoneLacks-more net entries after near.node.0 next.entry next.there none next.made least

-- ---- a search that goes on
-- the nearest was taken
pub next_of : (net : Network) (old new : Searched) (near : Near) → IsSearching net (entries_of old.entries) old → IsNearestAnswer old new (Some near)
    → IsTakenNext net (entries_of old.entries) (entries_of new.entries) new.entries near (length old.taken)
next_of net old new near searching answer =
    IsTakenNext-nearest net (entries_of old.entries) (entries_of new.entries) old.entries new.entries searching.last (length old.taken) near searching.spread answer.0 (entries-taken old.entries new.entries (length old.taken) near answer.0)

pub near-within : (net : Network) (entries : List (Option Entry)) (old new : Searched) (near : Near) → IsSearching net entries old → IsNearestAnswer old new (Some near) → near.node.0 < net.nodes + 1
near-within net entries old new near searching answer = omega (arith, entry-within old.entries near.node.0 answer.0.entry answer.0.is, searching.spread.found_size)

pub size-after : (net : Network) (entries : List (Option Entry)) (old new : Searched) (near : Near) → IsSearching net entries old → IsNearestAnswer old new (Some near) → length new.entries ≡ net.nodes + 1
size-after net entries old new near searching answer = ap length answer.0.taken ∙ length-set old.entries near.node.0 _ ∙ searching.spread.found_size

pub taken-next : (net : Network) (entries after : List (Option Entry)) (found : List (Option Found)) (near : Near) (count : ℕ) → AreReduced net net.potentials → IsTakenNext net entries after found near count → AreTaken net after near.distance (count + 1)
taken-next net entries after found near count reduced next =
    let here : entry_at after near.node.0 ≡ Some next.entry = ap (λ l. entry_at l near.node.0) next.made ∙ get_or-set_same entries near.node.0 (Some next.entry) None next.there in
    AreTaken-spread net after found near.distance (count + 1) near.node.0 next.entry reduced next.spread here next.distance (omega (arith, next.there, ap length next.made, length-set entries near.node.0 (Some next.entry)))

pub there-next : (net : Network) (entries after : List (Option Entry)) (found : List (Option Found)) (near : Near) (count : ℕ) → IsTakenNext net entries after found near count → (e : Entry) × (entry_at after near.node.0 ≡ Some e)
there-next net entries after found near count next = (next.entry, ap (λ l. entry_at l near.node.0) next.made ∙ get_or-set_same entries near.node.0 (Some next.entry) None next.there)

pub IsSearching-next : (net : Network) (entries : List (Option Entry)) (old mid new : Searched) (near : Near) (scanned : ℕ) → IsTakenNext net entries (entries_of mid.entries) mid.entries near (length old.taken) → NoneLacks net entries
    → pos 0 ≤ℤ excess_at net near.node.0 → mid.taken ≡ old.taken ++ near.node ∷ [] → new.taken ≡ mid.taken → scanned ≡ length (leaving net near.node.0)
    → IsScanning net (entries_of mid.entries) new.entries near (length old.taken + 1) scanned → IsSearching net (entries_of new.entries) new
IsSearching-next net entries old mid new near scanned next none least is_mid is_new is_all scanning =
    let P : ℕ → Type 0 = λ k. IsSpread net (entries_of mid.entries) new.entries near.distance k Every in
    let S : List (Option Entry) → Type 0 = λ es. IsSearching net es new in
    let count : length old.taken + 1 ≡ length new.taken = sym (ap length is_new ∙ ap length is_mid ∙ length_push old.taken near.node) in
    let spread = IsSpread-scanned net (entries_of mid.entries) new.entries near (length old.taken + 1) scanned is_all scanning in
    subst S (entries-spread net (entries_of mid.entries) new.entries near.distance (length old.taken + 1) Every spread) (record {
      last = near.distance;
      spread = subst P count spread;
      none = NoneLacks-next net entries (entries_of mid.entries) mid.entries near (length old.taken) next none least;
    })
