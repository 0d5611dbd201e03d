-- A path traced back from an arrival, item by item.
use Rattle.std.proofs.Common.{◌≡◌, ℕ, pos, [], ◌+◌, ◌-◌, ◌+ℤ◌, ◌<◌, ◌≤◌, List, ◌∷◌, length, drop, set, Option, Some, None, arith, refl, sym, ap, ◌∙◌, subst, IfSome, IsSomeAnd}
use Rattle.std.proofs.lemmas.Int.{ints}
use Rattle.std.proofs.lemmas.List.{drop-set, drop_all}
use Rattle.std.proofs.Math.ListN.{length-set}
use Rattle.bud_base.specs.Paths.{Joins, item_at, sum_along, least_of}
use Rattle.bud_base.specs.Soundness.{IsSound}
use Rattle.bud_base.specs.declared.ids.NodeId.{NodeId}
use Rattle.bud_base.specs.declared.ids.ItemId.{ItemId}
use Rattle.bud_base.specs.declared.problems.Problem.{Problem}
use Rattle.least_check.specs.Arrivals.{arrival_at, IsCause, IsOfItem, IsSweep, IsSwept}
use Rattle.least_check.specs.declared.arrivals.Arrival.{Arrival}
use Rattle.least_check.specs.declared.arrivals.Cause.TheVariants.{OfItem}

-- the items from place `begin` on lead from a node with this arrival to the target, and there is room for a path to that node
pub record IsTracing (p : Problem) (arrivals : List (Option Arrival)) (target : ℕ) (first : Arrival) (begin : ℕ) (path : List ItemId) : Type 0 where
  pub order : List NodeId
  pub sweep : IsSweep p order p.nodes arrivals
  pub node : ℕ
  pub inside : node < p.nodes
  pub here : arrival_at arrivals node ≡ Some first
  pub room : sweep.is_order.place node ≤ begin
  pub within : begin ≤ length path
  pub joined : Joins p.items node (drop begin path) target
  pub sum : IsSomeAnd (arrival_at arrivals target) (λ a. first.time +ℤ sum_along (least_of p) (drop begin path) ≡ a.time)

-- the first arrival has its cause
IsTracing-cause : (p : Problem) (arrivals : List (Option Arrival)) (target : ℕ) (first : Arrival) (begin : ℕ) (path : List ItemId) (tracing : IsTracing p arrivals target first begin path)
    → IsCause p tracing.sweep.is_order.place p.nodes arrivals tracing.node first.time first.cause
IsTracing-cause p arrivals target first begin path tracing =
    let P : Option Arrival → Type 0 = λ o. IfSome o (λ a. IsCause p tracing.sweep.is_order.place p.nodes arrivals tracing.node a.time a.cause) in
    subst P tracing.here (tracing.sweep.caused tracing.node)

-- at first no item is traced
pub IsTracing-none : (p : Problem) (arrivals : List (Option Arrival)) (target : ℕ) (first : Arrival) (path : List ItemId) → IsSwept p arrivals → target < p.nodes
    → p.nodes ≤ length path → arrival_at arrivals target ≡ Some first → IsTracing p arrivals target first (length path) path
IsTracing-none p arrivals target first path swept inside room here =
    let none : drop (length path) path ≡ [] = drop_all (length path) path (omega arith) in
    record {
      order = swept.order;
      sweep = swept.sweep;
      node = target;
      inside = inside;
      here = here;
      room = omega (arith, swept.sweep.is_order.placed target inside);
      within = omega arith;
      joined = rw none refl;
      sum = rw none (let P : Option Arrival → Type 0 = λ o. IsSomeAnd o (λ a. first.time +ℤ pos 0 ≡ a.time) in subst P (sym here) (omega (arith, ints)));
    }

someand_then : (P Q : Arrival → Type 0) (o : Option Arrival) → IsSomeAnd o P → ((a : Arrival) → P a → Q a) → IsSomeAnd o Q
someand_then P Q None none _ = none
someand_then P Q (Some a) here follows = follows a here

-- an item is traced
pub IsTracing-more : (p : Problem) (arrivals : List (Option Arrival)) (target : ℕ) (first before : Arrival) (begin : ℕ) (path : List ItemId) (i : ItemId) → IsSound p
    → first.cause ≡ OfItem i → arrival_at arrivals (item_at p.items i.0).from.0 ≡ Some before
    → IsTracing p arrivals target first begin path → IsTracing p arrivals target before (begin - 1) (set path (begin - 1) i)
IsTracing-more p arrivals target first before begin path i sound is here tracing =
    let cause : IsOfItem p tracing.sweep.is_order.place p.nodes arrivals tracing.node first.time i.0 =
    subst (IsCause p tracing.sweep.is_order.place p.nodes arrivals tracing.node first.time) is (IsTracing-cause p arrivals target first begin path tracing) in
    let follows = tracing.sweep.is_order.follows i.0 cause.within in
    let ahead = ap tracing.sweep.is_order.place cause.node in
    let one_less : begin - 1 < length path = omega (arith, tracing.room, tracing.within) in
    let one_more : begin - 1 + 1 ≡ begin = omega (arith, tracing.room) in
    let brings : before.time +ℤ (item_at p.items i.0).least ≡ first.time =
    let P : Option Arrival → Type 0 = λ o. IsSomeAnd o (λ b. b.time +ℤ (item_at p.items i.0).least ≡ first.time) in subst P here cause.sum in
    let items : drop (begin - 1) (set path (begin - 1) i) ≡ i ∷ drop begin path = drop-set path (begin - 1) i one_less ∙ ap (λ k. i ∷ drop k path) one_more in
    record {
      order = tracing.order;
      sweep = tracing.sweep;
      node = (item_at p.items i.0).from.0;
      inside = (sound.items i.0 (item_at [] 0) cause.within).from;
      here = here;
      room = omega (arith, tracing.room);
      within = omega (arith, length-set path (begin - 1) i);
      joined = rw items (cause.within, refl, rw cause.node tracing.joined);
      sum = rw items (someand_then _ _ (arrival_at arrivals target) tracing.sum (λ a adds. omega (arith, ints, adds, brings)));
    }
