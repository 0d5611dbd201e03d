use Rattle.std.proofs.Common.{◌≡◌, ℕ, arith, refl, subst}
use Rattle.search_heap.specs.Clearing.{AreCleared}
use Rattle.search_heap.specs.Searches.{node_at}
use Rattle.search_heap.proofs.Clearing.{AreCleared-none, AreCleared-more}
use Rattle.search_heap.proofs.searches.clear_taken.Goals as goal

pub loop-place-init : goal.loop-place-init
loop-place-init c = AreCleared-none c.args.entries.now (node_at c.args.order.now)

pub loop-place-preserved : goal.loop-place-preserved
loop-place-preserved c =
    AreCleared-more c.args.entries.now c.loop-place.entries (node_at c.args.order.now) c.loop-place.place _ (omega (arith, c.requires.nodes c.loop-place.place c.loop-place-test.true, c.loop-place.auto.entries)) refl c.loop-place.invariant

pub returns : goal.returns
returns c =
    let P : ℕ → Type 0 = λ k. AreCleared c.args.entries.now c.loop-place.entries (node_at c.args.order.now) k in
    let all : c.loop-place.place ≡ c.args.taken = omega (arith, c.loop-place-test.false, c.loop-place.auto.place-end) in
    subst P all c.loop-place.invariant
