-- A layered problem of sound constraints, arcs and shares is sound, with at most 2^22 items and an order of its nodes.
use Rattle.std.specs.Prelude.{◌≡◌, ℕ, ◌<◌, ◌≤◌, ◌==◌, ◌&&◌, [], ℤ, pos, negsuc, ◌-ℤ◌, ◌≤ℤ◌, Bool, true, false, length, map, filter, All, Option, Some, None, unwrap_or, slice_index_or, if◌then◌else◌}
use Rattle.std.specs.Option.{option_map}
use Rattle.std.proofs.Common.{refl, sym, ap, subst, arith}
use Rattle.std.proofs.lemmas.Int.{ints}
use Rattle.std.proofs.lemmas.Option.{none-some}
use Rattle.std.proofs.lemmas.List.Elements.{All-map, All-filter, All-from_get_or}
use Rattle.bud_base.specs.Orders.{HasOrder}
use Rattle.bud_base.specs.Paths.{item_at}
use Rattle.bud_base.specs.Soundness.{IsSound, IsSoundItem, IsSoundStart, IsSoundEnd, IsTime}
use Rattle.bud_base.specs.declared.ids.ItemId.{ItemId}
use Rattle.bud_design.specs.Arcs.{arc_at}
use Rattle.bud_design.specs.Clocks.{clock_at}
use Rattle.bud_design.specs.ConstraintRules.{AreSoundConstraints, IsReadTime, IsSoundKind}
use Rattle.bud_design.specs.Exceptions.{class_requirement, has_met, meets_to}
use Rattle.bud_design.specs.Layers.{IsNode, class_number, IsLayering}
use Rattle.bud_design.specs.Policies.{Share, share, share_if, share_of, first_share, suits_clock, holds_place, is_number, arc_called}
use Rattle.bud_design.specs.Designs.{Design, named_cells}
use Rattle.bud_design.specs.Names.{meaning}
use Rattle.bud_design.specs.Arcs.{Arc}
use Rattle.bud_design.specs.declared.policies.PolicyLine.{PolicyLine}
use Rattle.bud_design.specs.declared.policies.PolicyLine.TheVariants as line
use Rattle.std.specs.List.{cons_option}
use Rattle.std.specs.Prelude.{List, suc, ◌∷◌, ◌-◌, filter_map, reverse}
use Rattle.std.proofs.lemmas.List.{get_or-reverse, length-reverse}
use Rattle.std.proofs.lemmas.List.Elements.{All-cons}
use Rattle.bud_design.specs.TimingPaths.{View, launch_at, least_asked, asked}
use Rattle.bud_design.specs.TimingRules.{IsDelay}
use Rattle.bud_design.specs.declared.clocks.Clock.{Clock}
use Rattle.bud_design.specs.declared.clocks.Constraints.{Constraints}
use Rattle.bud_design.specs.declared.clocks.Exception.{Exception}
use Rattle.bud_design.specs.declared.layers.Class.{Class}
use Rattle.bud_design.specs.declared.layers.Layered.{Layered}
use Rattle.bud_design.specs.declared.policies.Policy.{Policy}
use Rattle.bud_design.proofs.RequirementRanges.{IsWithin, required_by-within, least-within}
use Rattle.layer_theory.proofs.LayerPlaces as places
use Rattle.layer_theory.proofs.LayerCounts as counts
use Rattle.layer_theory.proofs.LayerSoundness as soundness

asked-within : (b : Bool) (o : Option ℤ) (amount z : ℤ) → IsReadTime amount → ((r : ℤ) → o ≡ Some r → IsWithin (negsuc 999999999) (pos 1000000000000) r)
    → (if b then option_map (λ r. r -ℤ amount) o else None) ≡ Some z → IsWithin (negsuc 1999999999999) (pos 2000000000000) z
asked-within false o amount z read within is = absurd (none-some z is)
asked-within true None amount z read within is = absurd (none-some z is)
asked-within true (Some r) amount z read within is =
    let same : (r -ℤ amount) ≡ z = ap (λ o. unwrap_or o z) is in
    let here = within r refl in
    subst (IsWithin (negsuc 1999999999999) (pos 2000000000000)) same
    (record { least = omega (arith, ints, here.least, here.most, read.low, read.high); most = omega (arith, ints, here.least, here.most, read.low, read.high) })

-- what captures ask for by a class is a time of the problem's range
pub asks-within : (pins : ℕ) (all : Constraints) → AreSoundConstraints pins all → (k : Class) → k.clock < length all.clocks → (v : ℕ) (z : ℤ)
    → least_asked all.captures v (class_requirement all k) ≡ Some z → IsTime z
asks-within pins all sound k below v z is =
    let within = least-within (negsuc 1999999999999) (pos 2000000000000) (asked v (class_requirement all k)) all.captures
    (λ i d in' y e.
    asked-within ((slice_index_or all.captures i d).pin.0 == v) (class_requirement all k (slice_index_or all.captures i d)) (slice_index_or all.captures i d).amount y (sound.amounts i d in')
    (λ r is_r. required_by-within (map (λ (g : Exception). g.kind) (filter (λ (g : Exception). has_met k g && meets_to g (slice_index_or all.captures i d)) all.exceptions))
    (clock_at all.clocks k.clock) (clock_at all.clocks (slice_index_or all.captures i d).clock) k.edge (slice_index_or all.captures i d).edge
    (sound.clocks k.clock (clock_at [] 0) below) (sound.clocks (slice_index_or all.captures i d).clock (clock_at [] 0) (sound.capture_clocks i d in'))
    (All-map IsSoundKind (λ (g : Exception). g.kind) (filter (λ (g : Exception). has_met k g && meets_to g (slice_index_or all.captures i d)) all.exceptions)
    (All-filter (λ (g : Exception). has_met k g && meets_to g (slice_index_or all.captures i d)) (λ (g : Exception). IsSoundKind g.kind) all.exceptions sound.kinds)) r is_r) e) z is in
    record { low = within.least; high = within.most }

-- an extra of 0 to 10^9 ps and a weight of at most 2^20
pub record IsSoundShare (x : Share) : Type 0 where
  pub low : pos 0 ≤ℤ x.extra
  pub high : x.extra ≤ℤ pos 1000000000
  pub most : x.weight ≤ 1048576

-- what a policy's line may give
abbrev pub IsSoundLine : PolicyLine → Type 0
IsSoundLine (line.Block path) = Unit {0}
IsSoundLine (line.Default extra weight clock) = IsSoundShare (record { extra = extra; weight = weight })
IsSoundLine (line.Inst path extra weight clock) = IsSoundShare (record { extra = extra; weight = weight })
IsSoundLine (line.Arc from to extra weight clock) = IsSoundShare (record { extra = extra; weight = weight })

share_if-sound : (b : Bool) (extra : ℤ) (weight : ℕ) → IsSoundShare (record { extra = extra; weight = weight }) → (x : Share) → share_if b extra weight ≡ Some x → IsSoundShare x
share_if-sound false extra weight given x is = absurd (none-some x is)
share_if-sound true extra weight given x is = subst IsSoundShare (ap (λ o. unwrap_or o x) is) given

share_of-sound : (d : Design) (arcs : List Arc) (a : ℕ) (c : Clock) (l : PolicyLine) → IsSoundLine l → (x : Share) → share_of d arcs a c l ≡ Some x → IsSoundShare x
share_of-sound d arcs a c (line.Block path) given x is = absurd (none-some x is)
share_of-sound d arcs a c (line.Default extra weight clock) given x is = share_if-sound (suits_clock clock c) extra weight given x is
share_of-sound d arcs a c (line.Inst path extra weight clock) given x is =
    share_if-sound (suits_clock clock c && holds_place d (arc_at arcs a).home (meaning (named_cells d 0) path)) extra weight given x is
share_of-sound d arcs a c (line.Arc from to extra weight clock) given x is = share_if-sound (suits_clock clock c && is_number a (arc_called d arcs from to)) extra weight given x is

All-given : {X Y : Type 0} (P : Y → Type 0) (f : X → Option Y) (xs : List X) → All (λ x. (y : Y) → f x ≡ Some y → P y) xs → All P (filter_map f xs)
All-given P f [] each = λ k d below. absurd (omega (arith, below))
All-given {X} {Y} P f (x ∷ xs) each = given (f x) (each 0 x (omega arith)) (All-given P f xs (λ k d below. each (suc k) d (omega (arith, below))))
  where
    given : (o : Option Y) → ((y : Y) → o ≡ Some y → P y) → All P (filter_map f xs) → All P (cons_option o (filter_map f xs))
    given None here rest = rest
    given (Some y) here rest = All-cons P y (filter_map f xs) (here y refl) rest

All-reversed : {X : Type 0} (P : X → Type 0) (xs : List X) → All P xs → All P (reverse xs)
All-reversed P xs all k d below =
    let long = length-reverse xs in
    subst P (sym (get_or-reverse xs k d (omega (arith, below, long)))) (all (length xs - 1 - k) d (omega (arith, below, long)))

first_share-sound : (xs : List Share) → All IsSoundShare xs → IsSoundShare (first_share xs)
first_share-sound [] all = record { low = omega (arith, ints); high = omega (arith, ints); most = omega arith }
first_share-sound (x ∷ xs) all = all 0 x (omega arith)

-- so shares by sound lines are sound
pub share-sound : (d : Design) (arcs : List Arc) (lines : List PolicyLine) → All IsSoundLine lines → (a : ℕ) (c : Clock) → IsSoundShare (share d arcs lines a c)
share-sound d arcs lines sound a c =
    first_share-sound (reverse (filter_map (share_of d arcs a c) lines))
    (All-reversed IsSoundShare (filter_map (share_of d arcs a c) lines)
    (All-given IsSoundShare (share_of d arcs a c) lines (λ k l below. share_of-sound d arcs a c (slice_index_or lines k l) (sound k l below))))

module _ (w : View) (policy : Policy) (layered : Layered) (layering : IsLayering w policy layered) (pins : ℕ) (sound : AreSoundConstraints pins w.all)
    (delays : (i : ℕ) → i < length w.arcs → IsDelay (arc_at w.arcs i).least)
    (shares : (a : ℕ) (c : Clock) → IsSoundShare (share w.design w.arcs policy.lines a c)) where
  class-clock : (v : ℕ) (k : Class) → IsNode w v k → k.clock < length w.all.clocks
  class-clock v k node =
      subst (λ c. c < length w.all.clocks) (sym (ap (λ (j : Class). j.clock) node.class_is))
      (sound.launch_clocks node.path.launch (launch_at [] 0) node.constrained.is_path.launch)

  pub starts-sound : All (IsSoundStart layered.problem.nodes) layered.problem.starts
  starts-sound i d below =
      let start = layering.starts.sound i d below in
      let read = sound.offsets start.launch (launch_at [] 0) start.number in
      record {
        node = omega (arith, start.node.number, layering.node_count);
        time = subst IsTime (sym start.offset) (record { low = omega (arith, ints, read.low); high = omega (arith, ints, read.high) });
      }

  pub ends-sound : All (IsSoundEnd layered.problem.nodes) layered.problem.ends
  ends-sound i d below =
      let end = layering.ends.sound i d below in
      record {
        node = omega (arith, end.node.number, layering.node_count);
        time = asks-within pins w.all sound end.«class» (class-clock end.pin end.«class» (places.StandsAt-node w policy layered layering (slice_index_or layered.problem.ends i d).node.0 end.pin end.«class» end.node)) end.pin
            (slice_index_or layered.problem.ends i d).require end.require;
      }

  pub item-sound : (i : ItemId) → i.0 < length layered.problem.items → IsSoundItem layered.problem.nodes (item_at layered.problem.items i.0)
  item-sound i within =
      let item = places.item-stands w policy layered layering i within in
      let x = places.layer_item w policy layered layering i in
      let arc_below = soundness.item_arc-below w policy layered layering sound.numbers sound.apart i within in
      let delay = delays x.arc.0 arc_below in
      let given = shares x.arc.0 (clock_at w.all.clocks (class_number layered.classes x.«class».0).clock) in
      record {
        from = omega (arith, item.from.number, layering.node_count);
        to = omega (arith, item.to.number, layering.node_count);
        low = omega (arith, ints, item.least, delay.low);
        between = omega (arith, ints, item.greatest, given.low);
        high = omega (arith, ints, item.least, item.greatest, delay.high, given.high);
        weight = omega (arith, item.weight, given.most);
      }

  pub IsSound-from_layering : length layered.problem.items ≤ 4194304 → HasOrder layered.problem → IsSound layered.problem
  IsSound-from_layering few order = record {
    items = All-from_get_or (IsSoundItem layered.problem.nodes) layered.problem.items (item_at [] 0) (λ i below. item-sound (record { 0 = i }) below);
    starts = starts-sound;
    ends = ends-sound;
    limits = counts.IsWithinLimits-from_items w policy layered layering sound.numbers sound.apart few;
    order = order;
    live = soundness.IsLive-from_layering w policy layered layering sound.numbers sound.apart;
  }
