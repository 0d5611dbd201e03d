-- One sum more over the trees of wires.
use Rattle.std.specs.Prelude.{All, zero, suc}
use Rattle.std.proofs.Common.{◌≡◌, ◌≢◌, ℕ, ◌+◌, ◌*◌, ◌<◌, ◌≤◌, ◌==◌, eqb, Bool, true, false, cond, List, [], ◌∷◌, length, map, filter, get_or, set, Option, Some, None, ℤ, ◌+ℤ◌, ◌≤ℤ◌, pos, unwrap_or, arith, refl, sym, ap, subst, ◌∙◌, inl, inr, get_or-set_same, get_or-set_other}
use Rattle.std.proofs.lemmas.Bool.{cases_eq, cases_lt, cases_Bool, eqb-true}
use Rattle.std.proofs.lemmas.List.{length-set, get_or_past, get_or_default}
use Rattle.std.proofs.lemmas.List.Elements.{All-nil, All-cons, All-head, All-tail}
use Rattle.std.proofs.lemmas.Grind.{common_steps}
use Rattle.std.proofs.lemmas.Int.{ints}
use Rattle.bud_base.specs.declared.ids.PinId.{PinId}
use Rattle.bud_syntax.specs.Ranges.{IsReadTime}
use Rattle.bud_design.specs.Lists.{greater, greatest}
use Rattle.net_delays.specs.Drives.{Leads, AreJoined, drive_of}
use Rattle.net_delays.specs.Forests.{mark_at, spot_at, IsSettled, IsPlaced, IsApart, IsForest}
use Rattle.net_delays.specs.Additions.{IsListing}
use Rattle.net_delays.specs.Alongs.{along_at, ending_at, sum_of, reach, greatest_reach, IsSum, IsWithin, IsSoundAlong, AreSums, pin_of, AreAdded}
use Rattle.net_delays.specs.declared.alongs.Along.{Along}
use Rattle.net_delays.proofs.Chains.{Leads-one, Leads-trans}
use Rattle.net_delays.proofs.ForestLemmas.{settled_driver, within_from_settled}
use Rattle.net_delays.proofs.Above.{no_ring_low}
use Rattle.net_delays.proofs.Climbing.{length-le_from_apart}
use Rattle.std.proofs.lemmas.Option.{none-some}
use Rattle.std.specs.Option.{option_map}

kept-by : (P : Along → Type 0) (x : Along) (xs : List Along) (v : ℕ) (b : Bool) → x.to.0 == v ≡ b → ((x.to.0 ≡ v) → P x) → All P (ending_at xs v) → All P (cond b (x ∷ ending_at xs v) (ending_at xs v))
kept-by P x xs v true is here rest = All-cons P x (ending_at xs v) (here (eqb-true x.to.0 v is)) rest
kept-by P x xs v false is here rest = rest

-- what holds of each delay that ends at a pin
pub All-ending : (P : Along → Type 0) (xs : List Along) (v : ℕ) → All (λ x. x.to.0 ≡ v → P x) xs → All P (ending_at xs v)
All-ending P [] v each = All-nil P
All-ending P (x ∷ xs) v each = kept-by P x xs v (x.to.0 == v) refl (All-head (λ y. y.to.0 ≡ v → P y) x xs each) (All-ending P xs v (All-tail (λ y. y.to.0 ≡ v → P y) x xs each))

-- numbers that agree at each element
pub greatest-same : (f g : Along → ℤ) (xs : List Along) → All (λ x. f x ≡ g x) xs → greatest (map f xs) ≡ greatest (map g xs)
greatest-same f g [] same = refl
greatest-same f g (x ∷ xs) same =
    let first : f x ≡ g x = All-head (λ y. f y ≡ g y) x xs same in
    let rest = greatest-same f g xs (All-tail (λ y. f y ≡ g y) x xs same) in
    rw (first, rest) refl

IsOptionWithin : ℕ → Option ℤ → Type 0
IsOptionWithin bound None = Unit {0}
IsOptionWithin bound (Some z) = IsWithin bound z

greater-within : (bound : ℕ) (z : ℤ) (o : Option ℤ) → IsWithin bound z → IsOptionWithin bound o → IsWithin bound (greater z o)
unfolding IsOptionWithin
greater-within bound z None here rest = here
greater-within bound z (Some y) here rest = record {
  low = grind (arith, common_steps, ints, here.low, rest.low);
  high = grind (arith, common_steps, ints, here.high, rest.high);
}

greatest-within : (bound : ℕ) (f : Along → ℤ) (xs : List Along) → All (λ x. IsWithin bound (f x)) xs → IsOptionWithin bound (greatest (map f xs))
unfolding IsOptionWithin
greatest-within bound f [] each = tt
greatest-within bound f (x ∷ xs) each =
    greater-within bound (f x) (greatest (map f xs)) (All-head (λ y. IsWithin bound (f y)) x xs each) (greatest-within bound f xs (All-tail (λ y. IsWithin bound (f y)) x xs each))

unwrap-within : (bound : ℕ) (o : Option ℤ) (z : ℤ) → IsOptionWithin bound o → IsWithin bound z → IsWithin bound (unwrap_or o z)
unfolding IsOptionWithin
unwrap-within bound None z rest here = here
unwrap-within bound (Some y) z rest here = rest

wider : (a b : ℕ) (z : ℤ) → a ≤ b → IsWithin a z → IsWithin b z
wider a b z less within = record { low = omega (arith, ints, within.low, less); high = omega (arith, ints, within.high, less) }

pub wide_sums : (a : ℕ) (z : ℤ) → a ≤ 4294967296 → IsWithin (1000000000 * a) z → IsWithin 4294967296000000000 z
wide_sums a z few within = wider (1000000000 * a) 4294967296000000000 z (omega (arith, few)) within

module _ (drivers : List (Option PinId)) (order : List PinId) (listing : IsListing drivers order) where
  low_at : (k : ℕ) → k < length order → (IsSettled (mark_at listing.marks (pin_of order k))) × (0 < (spot_at listing.marks (pin_of order k)).depth)
  low_at k below = let pin = listing.forest.settled.listed.low k (record { 0 = 0 }) below in (pin.settled, pin.low)

  no_ring_at : (k : ℕ) → k < length order → Leads (drive_of drivers) (pin_of order k) (pin_of order k) → ⊥
  no_ring_at k below = let low = low_at k below in no_ring_low (drive_of drivers) listing.marks listing.forest.settled.placed (pin_of order k) low.0 low.1

  pub order_within : (k : ℕ) → k < length order → pin_of order k < length drivers
  order_within k below = omega (arith, within_from_settled listing.marks (pin_of order k) (low_at k below).0, listing.forest.size)

  module _ (alongs : List Along) (sums : List ℤ) (size : length drivers ≡ length sums) (sound : All (IsSoundAlong (drive_of drivers) (length sums)) alongs) (count u : ℕ) (z : ℤ)
      (below : count < length order) (driven : drive_of drivers (pin_of order count) ≡ Some u)
      (is : z ≡ unwrap_or (greatest_reach (sum_of sums) alongs (pin_of order count)) (sum_of sums u)) (so_far : AreAdded (drive_of drivers) alongs order count sums) where
    here : sum_of (set sums (pin_of order count) z) (pin_of order count) ≡ z
    here = get_or-set_same sums (pin_of order count) z (pos 0) (omega (arith, order_within count below, size))

    other : (w : ℕ) → (pin_of order count ≡ w → ⊥) → sum_of (set sums (pin_of order count) z) w ≡ sum_of sums w
    other w differs = get_or-set_other sums (pin_of order count) w z (pos 0) (λ same. differs (sym same))

    -- the greatest at a pin that the new one doesn't lead to stays
    reach_kept : (w : ℕ) → (Leads (drive_of drivers) (pin_of order count) w → ⊥) → greatest_reach (sum_of (set sums (pin_of order count) z)) alongs w ≡ greatest_reach (sum_of sums) alongs w
    reach_kept w free = greatest-same (reach (sum_of (set sums (pin_of order count) z))) (reach (sum_of sums)) (ending_at alongs w)
        (All-ending (λ x. reach (sum_of (set sums (pin_of order count) z)) x ≡ reach (sum_of sums) x) alongs w (λ k d inside ends.
        let joined = (sound k d inside).joined in
        ap (λ s. (get_or alongs k d).value +ℤ s) (other (get_or alongs k d).from.0
        (λ same. free (subst (λ p. Leads (drive_of drivers) p w) (sym same) (subst (Leads (drive_of drivers) (get_or alongs k d).from.0) ends joined.leads))))))

    sum_kept : (w : ℕ) → (pin_of order count ≡ w → ⊥) → (Leads (drive_of drivers) (pin_of order count) w → ⊥) → IsSum (drive_of drivers) alongs (sum_of sums) w
        → IsSum (drive_of drivers) alongs (sum_of (set sums (pin_of order count) z)) w
    sum_kept w differs free before = λ p is_driver.
        let same_driver = other p (λ same. free (subst (λ q. Leads (drive_of drivers) q w) (sym same) (Leads-one (drive_of drivers) w p is_driver))) in
        other w differs ∙ (before p is_driver ∙ (ap (λ o. unwrap_or o (sum_of sums p)) (sym (reach_kept w free)) ∙ ap (unwrap_or (greatest_reach (sum_of (set sums (pin_of order count) z)) alongs w)) (sym same_driver)))

    sum_here : IsSum (drive_of drivers) alongs (sum_of (set sums (pin_of order count) z)) (pin_of order count)
    sum_here = λ p is_driver.
        let free = no_ring_at count below in
        let driver_is : u ≡ p = (let both : Some u ≡ Some p = sym driven ∙ is_driver in cc) in
        let same_driver = other u (λ same. free (subst (λ q. Leads (drive_of drivers) q (pin_of order count)) (sym same) (Leads-one (drive_of drivers) (pin_of order count) u driven))) in
        here ∙ (is ∙ (ap (λ o. unwrap_or o (sum_of sums u)) (sym (reach_kept (pin_of order count) free))
        ∙ ap (unwrap_or (greatest_reach (sum_of (set sums (pin_of order count) z)) alongs (pin_of order count))) (sym same_driver ∙ ap (sum_of (set sums (pin_of order count) z)) driver_is)))

    z_within : IsWithin (1000000000 * (count + 1)) z
    z_within = rw is (unwrap-within (1000000000 * (count + 1)) (greatest_reach (sum_of sums) alongs (pin_of order count)) (sum_of sums u)
        (greatest-within (1000000000 * (count + 1)) (reach (sum_of sums)) (ending_at alongs (pin_of order count))
        (All-ending (λ x. IsWithin (1000000000 * (count + 1)) (reach (sum_of sums) x)) alongs (pin_of order count) (λ k d inside ends.
        let time = (sound k d inside).time in
        let from = so_far.within (get_or alongs k d).from.0 in
        record { low = omega (arith, ints, time.low, time.high, from.low, from.high); high = omega (arith, ints, time.low, time.high, from.low, from.high) })))
        (wider (1000000000 * count) (1000000000 * (count + 1)) (sum_of sums u) (omega arith) (so_far.within u)))

    pub AreAdded-more : AreAdded (drive_of drivers) alongs order (count + 1) (set sums (pin_of order count) z)
    AreAdded-more = record {
      found = λ j less. elim (cases_eq j count) [
        | inl same ↦ subst (λ k. IsSum (drive_of drivers) alongs (sum_of (set sums (pin_of order count) z)) (pin_of order k)) (sym same) sum_here
        | inr differs ↦
            let before : j < count = omega (arith, less) in
            let apart = listing.forest.settled.listed.apart j count (record { 0 = 0 }) before below in
            sum_kept (pin_of order j) (λ same. apart.other (sym same)) apart.free (so_far.found j before)
      ];
      none = λ v off. other v (λ same. off count (omega arith) same) ∙ so_far.none v (λ j less same. off j (omega (arith, less)) same);
      within = λ v. elim (cases_eq (pin_of order count) v) [
        | inl same ↦ subst (λ w. IsWithin (1000000000 * (count + 1)) (sum_of (set sums (pin_of order count) z) w)) same (rw here z_within)
        | inr differs ↦ rw (other v differs) (wider (1000000000 * count) (1000000000 * (count + 1)) (sum_of sums v) (omega arith) (so_far.within v))
      ];
    }

none-by : (x : Along) (xs : List Along) (v : ℕ) (b : Bool) → x.to.0 == v ≡ b → (x.to.0 ≡ v → ⊥) → ending_at xs v ≡ [] → cond b (x ∷ ending_at xs v) (ending_at xs v) ≡ []
none-by x xs v true is differs rest = absurd (differs (eqb-true x.to.0 v is))
none-by x xs v false is differs rest = rest

none_ending : (xs : List Along) (v : ℕ) → All (λ x. x.to.0 ≡ v → ⊥) xs → ending_at xs v ≡ []
none_ending [] v each = refl
none_ending (x ∷ xs) v each = none-by x xs v (x.to.0 == v) refl (All-head (λ y. y.to.0 ≡ v → ⊥) x xs each) (none_ending xs v (All-tail (λ y. y.to.0 ≡ v → ⊥) x xs each))

pub AreAdded-none : (drive : ℕ → Option ℕ) (alongs : List Along) (order : List PinId) (sums : List ℤ) → ((v : ℕ) → sum_of sums v ≡ pos 0) → AreAdded drive alongs order 0 sums
AreAdded-none drive alongs order sums none = record {
  found = λ j below. absurd (omega (arith, below));
  none = λ v off. none v;
  within = λ v. rw (none v) (record { low = omega (arith, ints); high = omega (arith, ints) });
}

module _ (drivers : List (Option PinId)) (order : List PinId) (listing : IsListing drivers order) where
  pub few_listed : length order ≤ 4294967296
  few_listed =
      let few = length-le_from_apart (drive_of drivers) order (length listing.marks) listing.forest.settled.listed.apart
      (λ k d below. within_from_settled listing.marks (get_or order k d).0 (listing.forest.settled.listed.low k d below).settled) in
      omega (arith, few, listing.few, listing.forest.size)

  driven-by : (v : ℕ) (o : Option ℕ) → drive_of drivers v ≡ o → 0 < (spot_at listing.marks v).depth → IsPlaced (drive_of drivers) listing.marks v (spot_at listing.marks v) o → (u : ℕ) × (drive_of drivers v ≡ Some u)
  driven-by v None is low placed = absurd (omega (arith, placed.0, low))
  driven-by v (Some u) is low placed = (u, is)

  -- a pin of the order has a driver
  pub driven_at : (k : ℕ) → k < length order → (u : ℕ) × (drive_of drivers (pin_of order k) ≡ Some u)
  driven_at k below =
      let low = low_at drivers order listing k below in
      driven-by (pin_of order k) (drive_of drivers (pin_of order k)) refl low.1 (listing.forest.settled.placed (pin_of order k) low.0)

  within_from_driven : (v u : ℕ) → drive_of drivers v ≡ Some u → v < length drivers
  within_from_driven v u is = elim (cases_lt v (length drivers)) [
    | inl below ↦ below
    | inr past ↦ absurd (none-some u (sym (ap (option_map (λ (p : PinId). p.0)) (get_or_past drivers v None past)) ∙ is))
  ]

  unlisted : (v : ℕ) → (spot_at listing.marks v).depth ≡ 0 → (j : ℕ) → j < length order → pin_of order j ≡ v → ⊥
  unlisted v flat j below same =
      let low = (low_at drivers order listing j below).1 in
      let level : (spot_at listing.marks (pin_of order j)).depth ≡ (spot_at listing.marks v).depth = ap (λ w. (spot_at listing.marks w).depth) same in
      omega (arith, low, level, flat)

  module _ (alongs : List Along) (sums : List ℤ) (pins : ℕ) (sound : All (IsSoundAlong (drive_of drivers) pins) alongs) (added : AreAdded (drive_of drivers) alongs order (length order) sums) where
    ring_sum : (v u : ℕ) → Leads (drive_of drivers) v v → (spot_at listing.marks v).depth ≡ 0 → (spot_at listing.marks u).depth ≡ 0
        → sum_of sums v ≡ unwrap_or (greatest_reach (sum_of sums) alongs v) (sum_of sums u)
    ring_sum v u ring flat driver_flat =
        let none : ending_at alongs v ≡ [] = none_ending alongs v (λ k d inside ends. (sound k d inside).joined.no_ring (subst (λ w. Leads (drive_of drivers) w w) (sym ends) ring)) in
        rw (none, added.none v (unlisted v flat), added.none u (unlisted u driver_flat)) refl

    sum-by : (v u : ℕ) → IsPlaced (drive_of drivers) listing.marks v (spot_at listing.marks v) (Some u) → (spot_at listing.marks v).depth ≡ 0
        → sum_of sums v ≡ unwrap_or (greatest_reach (sum_of sums) alongs v) (sum_of sums u)
    sum-by v u placed flat = elim placed.1 [
      | inl ring ↦ ring_sum v u (Leads-trans (drive_of drivers) v (spot_at listing.marks v).head.0 v ring.back ring.round) flat ring.flat
      | inr below ↦ absurd (omega (arith, below.depth, flat))
    ]

    sum_at : (v : ℕ) → IsSum (drive_of drivers) alongs (sum_of sums) v
    sum_at v = λ u driven.
        let settled = listing.forest.whole v (within_from_driven v u driven) in
        elim (cases_lt 0 (spot_at listing.marks v).depth) [
          | inl low ↦
              let found = listing.forest.settled.listed.all v settled low in
              let is : pin_of order found.0 ≡ v = ap (λ (p : PinId). p.0) (get_or_default order found.0 (record { 0 = 0 }) (record { 0 = v }) found.1 ∙ found.2) in
              subst (IsSum (drive_of drivers) alongs (sum_of sums)) is (added.found found.0 found.1) u driven
          | inr flat ↦
              sum-by v u (subst (IsPlaced (drive_of drivers) listing.marks v (spot_at listing.marks v)) driven (listing.forest.settled.placed v settled)) (omega (arith, flat))
        ]

    pub AreSums-end : length sums ≡ pins → AreSums (drive_of drivers) pins alongs sums
    AreSums-end size = record {
      size = size;
      each = sum_at;
      within = λ v. wide_sums (length order) (sum_of sums v) few_listed (added.within v);
    }
