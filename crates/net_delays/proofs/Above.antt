-- The pin above a pin that is so deep.
use Rattle.std.proofs.Common.{◌≡◌, ℕ, ◌+◌, ◌<◌, ◌≤◌, ◌⊎◌, List, length, Option, Some, None, refl, sym, ap, subst, ◌∙◌, inl, inr, arith}
use Rattle.std.proofs.lemmas.Bool.{cases_lt, eqb-true, eq-eqb, lt-ltb}
use Rattle.std.specs.Prelude.{◌↔◌, IsTrue, Bool, true, false}
use Rattle.std.proofs.Common.{eqb, ltb, true≢false}
use Rattle.net_delays.specs.Drives.{Leads, AreJoined}
use Rattle.net_delays.specs.Forests.{mark_at, spot_at, IsSettled, IsAbove, IsBelow, IsPlaced, ArePlaced}
use Rattle.net_delays.specs.WireForests.{Forest, drive, IsSoundForest, IsPinAbove}
use Rattle.net_delays.specs.declared.forests.Mark.{Mark}
use Rattle.net_delays.specs.declared.forests.Spot.{Spot}
use Rattle.net_delays.proofs.Chains.{Leads-trans, Leads-both, Leads-none}
use Rattle.net_delays.proofs.ForestLemmas.{IsHead, Reaches, settled_leads, flat_leads, higher_leads, head_is, around, above_reaches}

-- how far the way up has come: it is at u
pub record IsOnWay (drive : ℕ → Option ℕ) (marks : List Mark) (v depth u : ℕ) : Type 0 where
  pub settled : IsSettled (mark_at marks u)
  pub deep : depth ≤ (spot_at marks u).depth
  pub reached : Reaches drive marks v u
  pub only : (b : ℕ) → Leads drive b v → (spot_at marks b).depth ≡ depth → ((spot_at marks b).head.0 ≡ u) ⊎ Leads drive b u

module _ (drive : ℕ → Option ℕ) (marks : List Mark) (placed : ArePlaced drive marks) where
  pub IsOnWay-none : (v depth : ℕ) → IsSettled (mark_at marks v) → depth ≤ (spot_at marks v).depth → IsOnWay drive marks v depth v
  IsOnWay-none v depth settled deep = record { settled = settled; deep = deep; reached = inl refl; only = λ b way is. inr way }

  -- a pin that is no top is below another
  below-by : (v : ℕ) (o : Option ℕ) → 0 < (spot_at marks v).depth → IsPlaced drive marks v (spot_at marks v) o → (u : ℕ) × IsBelow drive marks v (spot_at marks v) (spot_at marks u)
  below-by v None low here = absurd (omega (arith, here.0, low))
  below-by v (Some u) low here = elim here.1 [
    | inl ring ↦ absurd (omega (arith, ring.depth, low))
    | inr below ↦ (u, below)
  ]

  pub below : (v : ℕ) → IsSettled (mark_at marks v) → 0 < (spot_at marks v).depth → (u : ℕ) × IsBelow drive marks v (spot_at marks v) (spot_at marks u)
  below v settled low = below-by v (drive v) low (placed v settled)

  only_more : (v depth u t b : ℕ) → IsSettled (mark_at marks v) → depth < (spot_at marks u).depth → depth ≤ (spot_at marks t).depth → IsAbove drive marks u (spot_at marks u).depth t
      → Leads drive b v → (spot_at marks b).depth ≡ depth → ((spot_at marks b).head.0 ≡ u) ⊎ Leads drive b u → ((spot_at marks b).head.0 ≡ t) ⊎ Leads drive b t
  only_more v depth u t b settled higher deep above way is so_far =
      let b_settled = settled_leads drive marks placed v b way settled in
      elim so_far [
        | inl same ↦
            let level = (head_is drive marks placed b b_settled).level in
            let levels : (spot_at marks u).depth ≡ (spot_at marks b).depth = subst (λ h. (spot_at marks h).depth ≡ (spot_at marks b).depth) same level in
            absurd (omega (arith, levels, is, higher))
        | inr leads ↦ elim (Leads-both drive u b t leads above.leads) [
          | inl same ↦ inl (ap (λ w. (spot_at marks w).head.0) same ∙ above.stands)
          | inr either ↦ elim either [
            | inl further ↦ inr further
            | inr back ↦ elim (cases_lt 0 (spot_at marks b).depth) [
              | inl low ↦ (let higher_t = (higher_leads drive marks placed b t b_settled low back).higher in absurd (omega (arith, higher_t, is, deep)))
              | inr flat ↦ inl (sym (flat_leads drive marks placed b t b_settled (omega (arith, flat)) back).head_is ∙ above.stands)
            ]
          ]
        ]
      ]

  pub IsOnWay-more : (v depth u t : ℕ) → IsSettled (mark_at marks v) → depth < (spot_at marks u).depth → depth ≤ (spot_at marks t).depth → IsAbove drive marks u (spot_at marks u).depth t
      → IsOnWay drive marks v depth u → IsOnWay drive marks v depth t
  IsOnWay-more v depth u t settled higher deep above so_far = record {
    settled = above.settled;
    deep = deep;
    reached = elim so_far.reached [
      | inl same ↦ inr (subst (λ w. IsAbove drive marks w (spot_at marks w).depth t) same above)
      | inr over ↦ inr (above_reaches drive marks placed v (spot_at marks v).depth u t over (inr above))
    ];
    only = λ b way is. only_more v depth u t b settled higher deep above way is (so_far.only b way is);
  }

  only_end : (u b : ℕ) → IsSettled (mark_at marks u) → (spot_at marks u).head.0 ≡ u → (spot_at marks b).depth ≡ (spot_at marks u).depth → ((spot_at marks b).head.0 ≡ u) ⊎ Leads drive b u → (spot_at marks b).head.0 ≡ u
  only_end u b settled stands level so_far = elim so_far [
    | inl same ↦ same
    | inr leads ↦ elim (cases_lt 0 (spot_at marks u).depth) [
      | inl low ↦ (let higher = (higher_leads drive marks placed u b settled low leads).higher in absurd (omega (arith, higher, level)))
      | inr flat ↦ (flat_leads drive marks placed u b settled (omega (arith, flat)) leads).head_is ∙ stands
    ]
  ]

  -- the way ends where it is as deep as asked
  above_end : (v depth u : ℕ) → depth < (spot_at marks v).depth → (spot_at marks u).depth ≤ depth → IsOnWay drive marks v depth u
      → IsAbove drive marks v (spot_at marks v).depth u
  above_end v depth u higher ends so_far = elim so_far.reached [
    | inl same ↦ (let level : (spot_at marks u).depth ≡ (spot_at marks v).depth = ap (λ w. (spot_at marks w).depth) same in absurd (omega (arith, level, higher, ends)))
    | inr above ↦ above
  ]

  pub only-end : (v depth u : ℕ) → depth < (spot_at marks v).depth → (spot_at marks u).depth ≤ depth → IsOnWay drive marks v depth u
      → (b : ℕ) → Leads drive b v → (spot_at marks b).depth ≡ depth → (spot_at marks b).head.0 ≡ u
  only-end v depth u higher ends so_far b way is =
      let above = above_end v depth u higher ends so_far in
      only_end u b above.settled above.stands (omega (arith, is, ends, so_far.deep)) (so_far.only b way is)

  pub leads-end : (v depth u : ℕ) → depth < (spot_at marks v).depth → (spot_at marks u).depth ≤ depth → IsOnWay drive marks v depth u → Leads drive u v
  leads-end v depth u higher ends so_far = (above_end v depth u higher ends so_far).leads

  low-by : (v a : ℕ) (o : Option ℕ) → drive v ≡ o → Leads drive a v → (Leads drive v v → ⊥) → IsPlaced drive marks v (spot_at marks v) o → 0 < (spot_at marks v).depth
  low-by v a None is way no_ring here = absurd (Leads-none drive v a is way)
  low-by v a (Some u) is way no_ring here = elim here.1 [
    | inl ring ↦ absurd (no_ring (Leads-trans drive v (spot_at marks v).head.0 v ring.back ring.round))
    | inr below ↦ omega (arith, below.depth)
  ]

  -- a pin that a pin leads to, and that lies on no ring, is no top
  pub low_joined : (v a : ℕ) → IsSettled (mark_at marks v) → AreJoined drive a v → 0 < (spot_at marks v).depth
  low_joined v a settled joined = low-by v a (drive v) refl joined.leads joined.no_ring (placed v settled)

  pub no_ring_low : (v : ℕ) → IsSettled (mark_at marks v) → 0 < (spot_at marks v).depth → Leads drive v v → ⊥
  no_ring_low v settled low way = (let higher = (higher_leads drive marks placed v v settled low way).higher in omega (arith, higher))

-- what `joins` finds
pub joined_from_above : (forest : Forest) → IsSoundForest forest → (a v r : ℕ) → IsSettled (mark_at forest.marks a) → IsSettled (mark_at forest.marks v) → (spot_at forest.marks a).depth < (spot_at forest.marks v).depth
    → IsPinAbove forest v (spot_at forest.marks a).depth r → r ≡ (spot_at forest.marks a).head.0 → AreJoined (drive forest) a v
joined_from_above forest sound a v r a_settled settled higher above same = record {
  leads = elim (around (drive forest) forest.marks sound.grown.settled.placed a a_settled) [
    | inl own ↦ subst (λ x. Leads (drive forest) x v) (same ∙ own) above.leads
    | inr ring ↦ Leads-trans (drive forest) a (spot_at forest.marks a).head.0 v ring.back (subst (λ x. Leads (drive forest) x v) same above.leads)
  ];
  no_ring = no_ring_low (drive forest) forest.marks sound.grown.settled.placed v settled (omega (arith, higher));
}

pub joined_higher : (forest : Forest) → IsSoundForest forest → (a v : ℕ) → IsSettled (mark_at forest.marks v) → AreJoined (drive forest) a v → (spot_at forest.marks a).depth < (spot_at forest.marks v).depth
joined_higher forest sound a v settled joined =
    (higher_leads (drive forest) forest.marks sound.grown.settled.placed v a settled (low_joined (drive forest) forest.marks sound.grown.settled.placed v a settled joined) joined.leads).higher

-- what `joins` answers where the first pin is higher
pub joins_higher : (forest : Forest) → IsSoundForest forest → (a v r : ℕ) (b : Bool) → IsSettled (mark_at forest.marks a) → IsSettled (mark_at forest.marks v) → (spot_at forest.marks a).depth < (spot_at forest.marks v).depth
    → IsPinAbove forest v (spot_at forest.marks a).depth r → b ≡ eqb r (spot_at forest.marks a).head.0 → IsTrue b ↔ AreJoined (drive forest) a v
joins_higher forest sound a v r b a_settled settled higher above is = (
  (λ holds. joined_from_above forest sound a v r a_settled settled higher above (eqb-true r (spot_at forest.marks a).head.0 (sym is ∙ holds))),
  (λ joined. is ∙ eq-eqb r (spot_at forest.marks a).head.0 (sym (above.only a joined.leads refl))),
)

pub joins_lower : (forest : Forest) → IsSoundForest forest → (a v : ℕ) (b : Bool) → IsSettled (mark_at forest.marks v) → b ≡ ltb (spot_at forest.marks a).depth (spot_at forest.marks v).depth → b ≡ false
    → IsTrue b ↔ AreJoined (drive forest) a v
joins_lower forest sound a v b settled is lower = (
  (λ holds. absurd (true≢false (sym holds ∙ lower))),
  (λ joined. is ∙ lt-ltb (spot_at forest.marks a).depth (spot_at forest.marks v).depth (joined_higher forest sound a v settled joined)),
)

module _ (forest : Forest) (sound : IsSoundForest forest) (v depth u : ℕ) (spot : Spot) (is : spot ≡ spot_at forest.marks u) (settled : IsSettled (mark_at forest.marks v)) (higher : depth < spot.depth)
    (way : IsOnWay (drive forest) forest.marks v depth u) where
  deeper : depth < (spot_at forest.marks u).depth
  deeper = subst (λ s. depth < s.depth) is higher

  over : (w : ℕ) × IsBelow (drive forest) forest.marks u (spot_at forest.marks u) (spot_at forest.marks w)
  over = below (drive forest) forest.marks sound.grown.settled.placed u way.settled (omega (arith, deeper))

  pub jump_settled : IsSettled (mark_at forest.marks spot.jump.0)
  jump_settled = rw is over.1.jump.settled

  pub parent_settled : IsSettled (mark_at forest.marks spot.parent.0)
  parent_settled = rw is over.1.parent.settled

  -- the way goes on at the jump, where it is deep enough
  pub way_at_jump : depth ≤ (spot_at forest.marks spot.jump.0).depth → IsOnWay (drive forest) forest.marks v depth spot.jump.0
  way_at_jump deep =
      let deep_enough : depth ≤ (spot_at forest.marks (spot_at forest.marks u).jump.0).depth = subst (λ s. depth ≤ (spot_at forest.marks s.jump.0).depth) is deep in
      rw is (IsOnWay-more (drive forest) forest.marks sound.grown.settled.placed v depth u (spot_at forest.marks u).jump.0 settled deeper deep_enough over.1.jump way)

  -- and else at the parent
  pub way_at_parent : IsOnWay (drive forest) forest.marks v depth spot.parent.0
  way_at_parent =
      rw is (IsOnWay-more (drive forest) forest.marks sound.grown.settled.placed v depth u (spot_at forest.marks u).parent.0 settled deeper (omega (arith, deeper, over.1.next)) over.1.parent way)

pub IsPinAbove-end : (forest : Forest) → IsSoundForest forest → (v depth u : ℕ) (spot : Spot) → spot ≡ spot_at forest.marks u → depth < (spot_at forest.marks v).depth → spot.depth ≤ depth
    → IsOnWay (drive forest) forest.marks v depth u → IsPinAbove forest v depth u
IsPinAbove-end forest sound v depth u spot is higher ends way =
    let ended : (spot_at forest.marks u).depth ≤ depth = subst (λ s. s.depth ≤ depth) is ends in
    record {
      leads = leads-end (drive forest) forest.marks sound.grown.settled.placed v depth u higher ended way;
      only = only-end (drive forest) forest.marks sound.grown.settled.placed v depth u higher ended way;
    }
