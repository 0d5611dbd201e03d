-- Offers that rise or sink, one exchange after another.
use Rattle.std.proofs.Common.{◌≡◌, ℕ, ◌<◌, ◌<ℤ◌, List, length, set, Option, Some, arith, refl}
use Rattle.std.specs.List.{SwappedAt}
use Rattle.search_heap.specs.Heaps.{near_at, far, IsBelow, IsHeapBut, IsNearEnough, IsFarEnough, IsNearestBelow, ArePlaced}
use Rattle.search_heap.specs.Offers.{AreOffered}
use Rattle.search_heap.specs.declared.entries.Entry.{Entry}
use Rattle.search_heap.specs.declared.entries.Near.{Near}
use Rattle.search_heap.proofs.HeapOrder.{IsHeapBut-risen, IsNearEnough-risen, IsHeapBut-sunk, IsFarEnough-sunk}
use Rattle.search_heap.proofs.Offering.{AreExchanged-swapped, ArePlaced-exchanged, AreOffered-exchanged}

-- the offers are those from before, and a heap but for one place
pub record IsSifted (old : List Near) (old_places : List ℕ) (new : List Near) (new_places : List ℕ) (count p : ℕ) : Type 0 where
  pub size : length new ≡ length old
  pub placed : ArePlaced new new_places count
  pub but : IsHeapBut count (far new) p
  pub same : (entries : List (Option Entry)) → AreOffered entries old old_places count → AreOffered entries new new_places count

pub IsSifted-none : (offers : List Near) (places : List ℕ) (count p : ℕ) → ArePlaced offers places count → IsHeapBut count (far offers) p → IsSifted offers places offers places count p
IsSifted-none offers places count p placed but = record { size = refl; placed = placed; but = but; same = λ es offered. offered }

pub IsSifted-risen : (old offers new : List Near) (old_places places after : List ℕ) (count k p : ℕ) → IsBelow k p → p < count → SwappedAt offers new k p → length new ≡ length offers
    → after ≡ set (set places (near_at offers k).node.0 p) (near_at offers p).node.0 k → far offers p <ℤ far offers k → IsNearEnough count (far offers) p → IsSifted old old_places offers places count p
    → IsSifted old old_places new after count k
IsSifted-risen old offers new old_places places after count k p under within swapped size is nearer near so_far =
    let k_in : k < count = omega (arith, under.first) in
    record {
      size = omega (arith, size, so_far.size);
      placed = ArePlaced-exchanged offers new places after count k p k_in within so_far.placed swapped is;
      but = IsHeapBut-risen count (far offers) (far new) k p under within (AreExchanged-swapped offers new k p swapped) nearer so_far.but near;
      same = λ es offered. AreOffered-exchanged es offers new places after count k p k_in within so_far.placed swapped is (so_far.same es offered);
    }

pub IsNearEnough-after : (old offers new : List Near) (old_places places : List ℕ) (count k p : ℕ) → IsBelow k p → SwappedAt offers new k p → far offers p <ℤ far offers k → IsSifted old old_places offers places count p
    → IsNearEnough count (far new) k
IsNearEnough-after old offers new old_places places count k p under swapped nearer so_far =
    IsNearEnough-risen count (far offers) (far new) k p under (AreExchanged-swapped offers new k p swapped) nearer so_far.but

pub IsSifted-sunk : (old offers new : List Near) (old_places places after : List ℕ) (count p c : ℕ) → IsNearestBelow count (far offers) p (Some c) → SwappedAt offers new p c → length new ≡ length offers
    → after ≡ set (set places (near_at offers p).node.0 c) (near_at offers c).node.0 p → far offers c <ℤ far offers p → IsSifted old old_places offers places count p
    → IsSifted old old_places new after count c
IsSifted-sunk old offers new old_places places after count p c nearest swapped size is nearer so_far =
    let p_in : p < count = omega (arith, nearest.0.first, nearest.1) in
    record {
      size = omega (arith, size, so_far.size);
      placed = ArePlaced-exchanged offers new places after count p c p_in nearest.1 so_far.placed swapped is;
      but = IsHeapBut-sunk count (far offers) (far new) p c nearest.0 nearest.1 (AreExchanged-swapped offers new p c swapped) nearest.2 so_far.but;
      same = λ es offered. AreOffered-exchanged es offers new places after count p c p_in nearest.1 so_far.placed swapped is (so_far.same es offered);
    }

pub IsFarEnough-after : (offers new : List Near) (count p c : ℕ) → IsNearestBelow count (far offers) p (Some c) → SwappedAt offers new p c → far offers c <ℤ far offers p → IsFarEnough (far new) c
IsFarEnough-after offers new count p c nearest swapped nearer = IsFarEnough-sunk (far offers) (far new) p c nearest.0 (AreExchanged-swapped offers new p c swapped) nearer
