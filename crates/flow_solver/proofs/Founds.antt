-- The entries of the nodes that were taken, as they stand among what was found.
use Rattle.std.proofs.Common.{◌≡◌, ℕ, ℤ, ◌<◌, List, [], ◌∷◌, length, set, Option, Some, None, zero, suc, arith, refl, ap, sym, ◌∙◌, get_or-set_same}
use Rattle.std.proofs.lemmas.List.{ext_get_or, map-set, length-map}
use Rattle.residual.specs.Networks.{Network}
use Rattle.search_heap.specs.Offers.{IsTakenAt}
use Rattle.search_heap.proofs.Offering.{entry-within}
use Rattle.search_heap.specs.declared.entries.Entry.{Entry as Found}
use Rattle.search_heap.specs.declared.entries.Near.{Near}
use Rattle.flow_solver.specs.Entries.{entry_at}
use Rattle.flow_solver.specs.Spreading.{found_at, taken_of, entries_of, IsSpread, IsScanned, IsScanning}
use Rattle.flow_solver.specs.Pushes.{IsTaken}
use Rattle.flow_solver.proofs.Spreading.{taken_of-found}
use Rattle.flow_solver.specs.declared.entries.Entry.{Entry}

pub entry-of : (found : List (Option Found)) (v : ℕ) → entry_at (entries_of found) v ≡ taken_of (found_at found v)
entry-of [] zero = refl
entry-of [] (suc v) = refl
entry-of (f ∷ fs) zero = refl
entry-of (f ∷ fs) (suc v) = entry-of fs v

pub length-entries : (found : List (Option Found)) → length (entries_of found) ≡ length found
length-entries found = length-map found taken_of

-- what a search knows of its entries determines them
pub entries-spread : (net : Network) (entries : List (Option Entry)) (found : List (Option Found)) (last : ℤ) (count : ℕ) (A : ℕ → Type 0) → IsSpread net entries found last count A → entries ≡ entries_of found
entries-spread net entries found last count A spread =
    ext_get_or None entries (entries_of found) (omega (arith, spread.size, length-entries found, spread.found_size)) (λ v below. spread.same v ∙ sym (entry-of found v))

-- the nearest was taken
pub entries-taken : (old new : List (Option Found)) (place : ℕ) (near : Near) → IsTakenAt old new place near → entries_of new ≡ set (entries_of old) near.node.0 (taken_of (found_at new near.node.0))
entries-taken old new place near at_near =
    let w : ℕ = near.node.0 in
    let x : Option Found = Some (record { distance = at_near.entry.distance; by = at_near.entry.by; place = Some place }) in
    let here : found_at new w ≡ x = ap (λ l. found_at l w) at_near.taken ∙ get_or-set_same old w x None (entry-within old w at_near.entry at_near.is) in
    ap entries_of at_near.taken ∙ map-set taken_of old w x ∙ ap (λ o. set (entries_of old) w (taken_of o)) (sym here)

-- looks along the arcs of a node leave them as they were
pub scanned-same : (net : Network) (entries : List (Option Entry)) (found : List (Option Found)) (near : Near) (count scanned : ℕ) → IsScanning net entries found near count scanned → entries ≡ entries_of found
scanned-same net entries found near count scanned scanning = entries-spread net entries found near.distance count (IsScanned net near.node.0 scanned) scanning.spread

-- a node that is taken is among those of which something was found
pub taken-in : (found : List (Option Found)) (v : ℕ) → IsTaken (entries_of found) v → v < length found
taken-in found v taken =
    let one = taken_of-found (found_at found v) taken.0 (sym (entry-of found v) ∙ taken.1) in
    entry-within found v one.found one.is
