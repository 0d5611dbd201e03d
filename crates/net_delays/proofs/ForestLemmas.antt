-- What the spots of settled pins say of the way back.
use Rattle.std.specs.Prelude.{zero, suc}
use Rattle.std.proofs.Common.{◌≡◌, ℕ, ◌+◌, ◌<◌, ◌≤◌, ◌⊎◌, List, Option, Some, None, refl, sym, ap, subst, ◌∙◌, inl, inr, arith, length, get_or}
use Rattle.std.proofs.lemmas.Bool.{cases_lt}
use Rattle.std.proofs.lemmas.List.{get_or_past}
use Rattle.std.proofs.lemmas.Option.{option_and_then_some, same_Some, none-some}
use Rattle.std.specs.Prelude.{◌==◌, cond, find, All, Bool, true, false, ◌∷◌, []}
use Rattle.std.specs.Option.{option_map}
use Rattle.std.proofs.lemmas.List.Elements.{All-head, All-tail}
use Rattle.bud_design.specs.Designs.{driver_of}
use Rattle.bud_design.specs.declared.designs.Wire.{Wire}
use Rattle.net_delays.specs.Drives.{back, Leads}
use Rattle.net_delays.specs.Forests.{mark_at, IsSettled, spot_of, spot_at, IsAbove, IsOnRing, IsBelow, IsPlaced, ArePlaced}
use Rattle.net_delays.specs.declared.forests.Mark.{Mark}
use Rattle.net_delays.specs.declared.forests.Mark.TheVariants.{New, Open, Settled}
use Rattle.net_delays.specs.declared.forests.Spot.{Spot}
use Rattle.net_delays.proofs.Chains.{Leads-one, Leads-more, Leads-cases, Leads-none, Leads-trans, held_back, held_leads}

-- only a pin of the table is settled
pub within_from_settled : (marks : List Mark) (v : ℕ) → IsSettled (mark_at marks v) → v < length marks
within_from_settled marks v settled = elim (cases_lt v (length marks)) [
  | inl below ↦ below
  | inr past ↦ absurd (subst IsSettled (get_or_past marks v New past) settled)
]

pub settled_is : (mark : Mark) → IsSettled mark → mark ≡ Settled (spot_of mark)
settled_is New settled = absurd settled
settled_is (Open k) settled = absurd settled
settled_is (Settled spot) settled = refl

-- the facts of a pin that is flat: it is at the top of its tree
pub record IsFlat (marks : List Mark) (head v : ℕ) : Type 0 where
  pub settled : IsSettled (mark_at marks v)
  pub depth : (spot_at marks v).depth ≡ 0
  pub head_is : (spot_at marks v).head.0 ≡ head

pub record IsHigher (marks : List Mark) (depth v : ℕ) : Type 0 where
  pub settled : IsSettled (mark_at marks v)
  pub higher : (spot_at marks v).depth < depth

pub record IsHead (marks : List Mark) (v : ℕ) : Type 0 where
  pub settled : IsSettled (mark_at marks (spot_at marks v).head.0)
  pub same : (spot_at marks (spot_at marks v).head.0).head.0 ≡ (spot_at marks v).head.0
  pub level : (spot_at marks (spot_at marks v).head.0).depth ≡ (spot_at marks v).depth

-- the pin is j, or j is above it
abbrev pub Reaches : (ℕ → Option ℕ) → List Mark → ℕ → ℕ → Type 0
Reaches drive marks v j = (j ≡ v) ⊎ IsAbove drive marks v (spot_at marks v).depth j

module _ (drive : ℕ → Option ℕ) (marks : List Mark) (placed : ArePlaced drive marks) where
  pub placed_below : (v u : ℕ) → IsSettled (mark_at marks v) → drive v ≡ Some u → IsPlaced drive marks v (spot_at marks v) (Some u)
  placed_below v u settled is = subst (IsPlaced drive marks v (spot_at marks v)) is (placed v settled)

  pub placed_top : (v : ℕ) → IsSettled (mark_at marks v) → drive v ≡ None → IsPlaced drive marks v (spot_at marks v) None
  placed_top v settled is = subst (IsPlaced drive marks v (spot_at marks v)) is (placed v settled)

  pub settled_driver : (v u : ℕ) → drive v ≡ Some u → IsSettled (mark_at marks v) → IsSettled (mark_at marks u)
  settled_driver v u is settled = (placed_below v u settled is).0

  -- what leads to a settled pin is settled
  pub settled_leads : (v a : ℕ) → Leads drive a v → IsSettled (mark_at marks v) → IsSettled (mark_at marks a)
  settled_leads v a way settled = held_leads drive {P = λ w. IsSettled (mark_at marks w)} settled_driver v a way settled

  flat_driver : (h v u : ℕ) → drive v ≡ Some u → IsFlat marks h v → IsFlat marks h u
  flat_driver h v u is flat = let here = placed_below v u flat.settled is in elim here.1 [
    | inl ring ↦ record { settled = here.0; depth = ring.flat; head_is = ring.same ∙ flat.head_is }
    | inr below ↦ absurd (omega (arith, below.depth, flat.depth))
  ]

  -- what leads to a pin at the top is on its ring
  pub flat_leads : (v a : ℕ) → IsSettled (mark_at marks v) → (spot_at marks v).depth ≡ 0 → Leads drive a v → IsFlat marks (spot_at marks v).head.0 a
  flat_leads v a settled depth way =
      held_leads drive {P = IsFlat marks (spot_at marks v).head.0} (flat_driver (spot_at marks v).head.0) v a way (record { settled = settled; depth = depth; head_is = refl })

  higher_driver : (d v u : ℕ) → drive v ≡ Some u → IsHigher marks d v → IsHigher marks d u
  higher_driver d v u is high = let here = placed_below v u high.settled is in elim here.1 [
    | inl ring ↦ record { settled = here.0; higher = omega (arith, ring.flat, high.higher) }
    | inr below ↦ record { settled = here.0; higher = omega (arith, below.depth, high.higher) }
  ]

  higher_first : (v u : ℕ) → IsSettled (mark_at marks v) → 0 < (spot_at marks v).depth → drive v ≡ Some u → IsHigher marks (spot_at marks v).depth u
  higher_first v u settled low is = let here = placed_below v u settled is in elim here.1 [
    | inl ring ↦ absurd (omega (arith, ring.depth, low))
    | inr below ↦ record { settled = here.0; higher = omega (arith, below.depth) }
  ]

  -- what leads to a pin below others is higher
  pub higher_leads : (v a : ℕ) → IsSettled (mark_at marks v) → 0 < (spot_at marks v).depth → Leads drive a v → IsHigher marks (spot_at marks v).depth a
  higher_leads v a settled low way = option_and_then_some (back drive way.0) (drive v) a way.1
      (λ u is rest. held_back drive {P = IsHigher marks (spot_at marks v).depth} (higher_driver (spot_at marks v).depth) way.0 u a rest (higher_first v u settled low is))

  own_head : (v : ℕ) → IsSettled (mark_at marks v) → (spot_at marks v).head.0 ≡ v → IsHead marks v
  own_head v settled own = record {
    settled = subst (λ h. IsSettled (mark_at marks h)) (sym own) settled;
    same = ap (λ h. (spot_at marks h).head.0) own;
    level = ap (λ h. (spot_at marks h).depth) own;
  }

  ring_head : (v : ℕ) → IsSettled (mark_at marks v) → (spot_at marks v).depth ≡ 0 → Leads drive (spot_at marks v).head.0 v → IsHead marks v
  ring_head v settled depth round = let flat = flat_leads v (spot_at marks v).head.0 settled depth round in record {
    settled = flat.settled;
    same = flat.head_is;
    level = flat.depth ∙ sym depth;
  }

  -- where the driver is this, the head is settled, stands for itself, and is as deep
  head-by : (v : ℕ) (o : Option ℕ) → IsSettled (mark_at marks v) → IsPlaced drive marks v (spot_at marks v) o → IsHead marks v
  head-by v None settled here = own_head v settled here.1
  head-by v (Some u) settled here = elim here.1 [
    | inl ring ↦ ring_head v settled ring.depth ring.round
    | inr below ↦ own_head v settled below.head
  ]

  pub head_is : (v : ℕ) → IsSettled (mark_at marks v) → IsHead marks v
  head_is v settled = head-by v (drive v) settled (placed v settled)

  -- a head is the pin, or leads to it and back
  pub record IsAround (v : ℕ) : Type 0 where
    pub round : Leads drive (spot_at marks v).head.0 v
    pub back : Leads drive v (spot_at marks v).head.0
    pub depth : (spot_at marks v).depth ≡ 0

  around-by : (v : ℕ) (o : Option ℕ) → IsPlaced drive marks v (spot_at marks v) o → ((spot_at marks v).head.0 ≡ v) ⊎ IsAround v
  around-by v None here = inl here.1
  around-by v (Some u) here = elim here.1 [
    | inl ring ↦ inr (record { round = ring.round; back = ring.back; depth = ring.depth })
    | inr below ↦ inl below.head
  ]

  pub around : (v : ℕ) → IsSettled (mark_at marks v) → ((spot_at marks v).head.0 ≡ v) ⊎ IsAround v
  around v settled = around-by v (drive v) (placed v settled)

  reaches-by : (v : ℕ) (o : Option ℕ) → (spot_at marks v).head.0 ≡ v → IsPlaced drive marks v (spot_at marks v) o → Reaches drive marks v (spot_at marks v).jump.0
  reaches-by v None own here = inl here.2
  reaches-by v (Some u) own here = elim here.1 [
    | inl ring ↦ inl (ring.jump ∙ own)
    | inr below ↦ inr below.jump
  ]

  -- the jump of a pin that stands for itself is the pin or above it
  pub jump_reaches : (v : ℕ) → IsSettled (mark_at marks v) → (spot_at marks v).head.0 ≡ v → Reaches drive marks v (spot_at marks v).jump.0
  jump_reaches v settled own = reaches-by v (drive v) own (placed v settled)

  pub above_reaches : (v d a j : ℕ) → IsAbove drive marks v d a → Reaches drive marks a j → IsAbove drive marks v d j
  above_reaches v d a j above reaches = elim reaches [
    | inl same ↦ subst (IsAbove drive marks v d) (sym same) above
    | inr further ↦ record {
      settled = further.settled;
      leads = Leads-trans drive j a v further.leads above.leads;
      higher = omega (arith, further.higher, above.higher);
      stands = further.stands;
    }
  ]

  pub reaches_level : (v j : ℕ) → Reaches drive marks v j → (spot_at marks j).depth ≤ (spot_at marks v).depth
  reaches_level v j reaches = elim reaches [
    | inl same ↦ rw same (omega arith)
    | inr above ↦ omega (arith, above.higher)
  ]

  -- the head of the driver is above the pin
  pub driver_above : (v u : ℕ) → drive v ≡ Some u → IsSettled (mark_at marks u) → IsAbove drive marks v (suc (spot_at marks u).depth) (spot_at marks u).head.0
  driver_above v u is settled = let head = head_is u settled in record {
    settled = head.settled;
    leads = elim (around u settled) [
      | inl own ↦ subst (λ h. Leads drive h v) (sym own) (Leads-one drive v u is)
      | inr ring ↦ Leads-more drive v u (spot_at marks u).head.0 is ring.round
    ];
    higher = omega (arith, head.level);
    stands = head.same;
  }

  -- a new pin below a settled one lies on no ring
  pub new_no_ring : (v u : ℕ) → drive v ≡ Some u → IsSettled (mark_at marks u) → (IsSettled (mark_at marks v) → ⊥) → Leads drive v v → ⊥
  new_no_ring v u is settled new way = elim (Leads-cases drive v u v is way) [
    | inl same ↦ new (subst (λ w. IsSettled (mark_at marks w)) same settled)
    | inr further ↦ new (settled_leads u v further settled)
  ]

-- the pins that the spot of a new pin below a settled one is made from
pub record AreOver (drive : ℕ → Option ℕ) (marks : List Mark) (v u : ℕ) : Type 0 where
  pub settled : IsSettled (mark_at marks u)
  pub head : IsSettled (mark_at marks (spot_at marks u).head.0)
  pub parent : IsAbove drive marks v (suc (spot_at marks u).depth) (spot_at marks u).head.0
  pub level : (spot_at marks (spot_at marks u).head.0).depth ≡ (spot_at marks u).depth
  pub near : IsAbove drive marks v (suc (spot_at marks u).depth) (spot_at marks (spot_at marks u).head.0).jump.0
  pub far : IsAbove drive marks v (suc (spot_at marks u).depth) (spot_at marks (spot_at marks (spot_at marks u).head.0).jump.0).jump.0
  pub near_level : (spot_at marks (spot_at marks (spot_at marks u).head.0).jump.0).depth ≤ (spot_at marks (spot_at marks u).head.0).depth
  pub far_level : (spot_at marks (spot_at marks (spot_at marks (spot_at marks u).head.0).jump.0).jump.0).depth ≤ (spot_at marks (spot_at marks (spot_at marks u).head.0).jump.0).depth
  pub no_ring : Leads drive v v → ⊥

pub are_over : (drive : ℕ → Option ℕ) (marks : List Mark) → ArePlaced drive marks → (v u : ℕ) → drive v ≡ Some u → IsSettled (mark_at marks u) → (IsSettled (mark_at marks v) → ⊥) → AreOver drive marks v u
are_over drive marks placed v u is settled new =
    let head = head_is drive marks placed u settled in
    let h : ℕ = (spot_at marks u).head.0 in
    let above = driver_above drive marks placed v u is settled in
    let near_reaches = jump_reaches drive marks placed h head.settled head.same in
    let near = above_reaches drive marks placed v (suc (spot_at marks u).depth) h (spot_at marks h).jump.0 above near_reaches in
    let far_reaches = jump_reaches drive marks placed (spot_at marks h).jump.0 near.settled near.stands in
    record {
      settled = settled;
      head = head.settled;
      parent = above;
      level = head.level;
      near = near;
      far = above_reaches drive marks placed v (suc (spot_at marks u).depth) (spot_at marks h).jump.0 (spot_at marks (spot_at marks h).jump.0).jump.0 near far_reaches;
      near_level = reaches_level drive marks placed h (spot_at marks h).jump.0 near_reaches;
      far_level = reaches_level drive marks placed (spot_at marks h).jump.0 (spot_at marks (spot_at marks h).jump.0).jump.0 far_reaches;
      no_ring = new_no_ring drive marks placed v u is settled new;
    }

-- the spot of a pin that is settled below its driver
pub IsPlaced-below : (drive : ℕ → Option ℕ) (marks : List Mark) (v u : ℕ) (spot : Spot) → AreOver drive marks v u → spot.head.0 ≡ v → spot.parent.0 ≡ (spot_at marks u).head.0
    → spot.depth ≡ (spot_at marks u).depth + 1 → IsAbove drive marks v (suc (spot_at marks u).depth) spot.jump.0 → IsPlaced drive marks v spot (Some u)
IsPlaced-below drive marks v u spot over own parent depth jump =
    let deep : spot.depth ≡ suc (spot_at marks u).depth = omega (arith, depth) in (
      over.settled,
      inr (record {
        depth = deep;
        head = own;
        no_ring = over.no_ring;
        parent = rw (deep, parent) over.parent;
        next = rw (deep, parent) (ap (λ n. suc n) over.level);
        jump = rw deep jump;
      }),
    )

-- what a spot says stays where settled pins keep their marks
abbrev pub Keeps : List Mark → List Mark → Type 0
Keeps before after = (v : ℕ) → IsSettled (mark_at before v) → mark_at after v ≡ mark_at before v

module _ (drive : ℕ → Option ℕ) (before after : List Mark) (keeps : Keeps before after) where
  pub settled_kept : (v : ℕ) → IsSettled (mark_at before v) → IsSettled (mark_at after v)
  settled_kept v settled = subst IsSettled (sym (keeps v settled)) settled

  pub spot_kept : (v : ℕ) → IsSettled (mark_at before v) → spot_at before v ≡ spot_at after v
  spot_kept v settled = ap spot_of (sym (keeps v settled))

  pub IsAbove-kept : (v d a : ℕ) → IsAbove drive before v d a → IsAbove drive after v d a
  IsAbove-kept v d a above = record {
    settled = settled_kept a above.settled;
    leads = above.leads;
    higher = subst (λ s. s.depth < d) (spot_kept a above.settled) above.higher;
    stands = subst (λ s. s.head.0 ≡ a) (spot_kept a above.settled) above.stands;
  }

  IsBelow-kept : (v : ℕ) (spot over : Spot) → IsBelow drive before v spot over → IsBelow drive after v spot over
  IsBelow-kept v spot over below = record {
    depth = below.depth;
    head = below.head;
    no_ring = below.no_ring;
    parent = IsAbove-kept v spot.depth spot.parent.0 below.parent;
    next = subst (λ s. suc s.depth ≡ spot.depth) (spot_kept spot.parent.0 below.parent.settled) below.next;
    jump = IsAbove-kept v spot.depth spot.jump.0 below.jump;
  }

  pub IsPlaced-kept : (v : ℕ) (spot : Spot) (o : Option ℕ) → IsPlaced drive before v spot o → IsPlaced drive after v spot o
  IsPlaced-kept v spot None here = here
  IsPlaced-kept v spot (Some u) here = (
    settled_kept u here.0,
    elim here.1 [
      | inl ring ↦ inl (subst (IsOnRing drive v spot) (spot_kept u here.0) ring)
      | inr below ↦ inr (subst (IsBelow drive after v spot) (spot_kept u here.0) (IsBelow-kept v spot (spot_at before u) below))
    ],
  )

driver_within_at : (w : Wire) (ws : List Wire) (n v u : ℕ) (b : Bool) → w.from.0 < n → (driver_of ws v ≡ Some u → u < n) → option_map (λ (x : Wire). x.from.0) (cond b (Some w) (find (λ x. x.to.0 == v) ws)) ≡ Some u → u < n
driver_within_at w ws n v u true below rest is = subst (λ x. x < n) (same_Some w.from.0 u is) below
driver_within_at w ws n v u false below rest is = rest is

-- a driver is the first pin of a wire
pub driver_within : (wires : List Wire) (n : ℕ) → All (λ (w : Wire). w.from.0 < n) wires → (v u : ℕ) → driver_of wires v ≡ Some u → u < n
driver_within [] n below v u is = absurd (none-some u is)
driver_within (w ∷ ws) n below v u is =
    driver_within_at w ws n v u (w.to.0 == v) (All-head (λ (x : Wire). x.from.0 < n) w ws below) (driver_within ws n (All-tail (λ (x : Wire). x.from.0 < n) w ws below) v u) is
