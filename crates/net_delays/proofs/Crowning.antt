-- The top of a path is settled: a pin without driver, or a ring of wires.
use Rattle.std.specs.Prelude.{zero, suc}
use Rattle.std.proofs.Common.{◌≡◌, ◌≢◌, ℕ, ◌+◌, ◌-◌, ◌<◌, ◌≤◌, ◌⊎◌, List, [], Option, Some, None, refl, sym, ap, subst, ◌∙◌, inl, inr, arith, length, drop, get_or}
use Rattle.std.proofs.lemmas.Bool.{cases_eq, cases_lt}
use Rattle.std.proofs.lemmas.List.{length-drop, get_or-drop}
use Rattle.std.proofs.lemmas.List.Elements.{All-weaker}
use Rattle.bud_base.specs.declared.ids.PinId.{PinId}
use Rattle.net_delays.specs.Drives.{back, Leads}
use Rattle.net_delays.specs.Forests.{mark_at, IsSettled, spot_of, spot_at, IsOnRing, IsPlaced, ArePlaced, IsLowPin, AreListed, AreSettled}
use Rattle.net_delays.specs.Climbs.{pin_on, top_spot, AreAlike, IsPath, IsTop, IsClimbed, AreClosed, IsCrowned, HasSettledDriver, IsSettling, IsGrown}
use Rattle.net_delays.specs.declared.forests.Mark.{Mark}
use Rattle.net_delays.specs.declared.forests.Mark.TheVariants.{New, Open, Settled}
use Rattle.net_delays.specs.declared.forests.Spot.{Spot}
use Rattle.net_delays.proofs.Chains.{back_on}
use Rattle.net_delays.proofs.ForestLemmas.{Keeps, IsPlaced-kept, settled_kept, spot_kept}

mark_cases : {P : Type 0} (mark : Mark) → (IsSettled mark → P) → ((k : ℕ) → mark ≡ Open k → P) → (mark ≡ New → P) → P
mark_cases New settled open_one new = new refl
mark_cases (Open k) settled open_one new = open_one k refl
mark_cases (Settled spot) settled open_one new = settled tt

-- the pins of a path lie behind one another
pub chain_back : (drive : ℕ → Option ℕ) (path : List PinId) → ((k : ℕ) → k + 1 < length path → drive (pin_on path k) ≡ Some (pin_on path (k + 1)))
    → (j i : ℕ) → i + j < length path → back drive j (pin_on path i) ≡ Some (pin_on path (i + j))
chain_back drive path chain zero i below = ap (λ n. Some (pin_on path n)) (omega arith)
chain_back drive path chain (suc j) i below =
    let sum : i + 1 + j ≡ i + suc j = omega arith in
    rw (chain i (omega (arith, below))) (chain_back drive path chain j (i + 1) (omega (arith, below)) ∙ ap (λ n. Some (pin_on path n)) sum)

-- a top is settled: `first` are the marks before the climb, `open_marks` those behind it
module _ (drive : ℕ → Option ℕ) (first open_marks marks : List Mark) (path : List PinId) (start place : ℕ) (climbed : IsClimbed drive first open_marks path start place)
    (crowned : IsCrowned open_marks marks (drop place path) (length (drop place path))) where
  top_place : (o : Option ℕ) → IsTop drive open_marks path climbed.last place o → place ≤ length path
  top_place None top = omega (arith, top, climbed.last_is)
  top_place (Some u) top = elim top [
    | inl ring ↦ omega (arith, ring.0, climbed.last_is)
    | inr below ↦ omega (arith, below.0, climbed.last_is)
  ]

  inside : place ≤ length path
  inside = top_place (drive (pin_on path climbed.last)) climbed.top

  head : PinId
  head = get_or path place (record { 0 = 0 })

  dropped : (k : ℕ) → pin_on (drop place path) k ≡ pin_on path (place + k)
  dropped k = ap (λ (u : PinId). u.0) (get_or-drop place path k (record { 0 = 0 }))

  dropped_head : get_or (drop place path) 0 (record { 0 = 0 }) ≡ head
  unfolding head
  dropped_head = get_or-drop place path 0 (record { 0 = 0 }) ∙ ap (λ n. get_or path n (record { 0 = 0 })) (let sum : place + 0 ≡ place = omega arith in sum)

  crown : (k : ℕ) → place ≤ k → k < length path → mark_at marks (pin_on path k) ≡ Settled (top_spot head)
  crown k from below =
      let sum : place + (k - place) ≡ k = omega (arith, from) in
      let here = crowned.here (k - place) (let size = length-drop place path in omega (arith, from, below)) in
      sym (ap (mark_at marks) (dropped (k - place) ∙ ap (pin_on path) sum)) ∙ (here ∙ ap (λ h. Settled (top_spot h)) dropped_head)

  elsewhere : (v : ℕ) → ((k : ℕ) → place ≤ k → k < length path → pin_on path k ≡ v → ⊥) → mark_at marks v ≡ mark_at open_marks v
  elsewhere v off = crowned.others v (λ k below same. off (place + k) (omega arith) (let size = length-drop place path in omega (arith, below, inside)) (sym (dropped k) ∙ same))

  -- a pin of the path has no other mark than its place
  off_by_mark : (v : ℕ) → ((k : ℕ) → k < length path → mark_at open_marks v ≡ Open k → place ≤ k → ⊥) → mark_at marks v ≡ mark_at open_marks v
  off_by_mark v off = elsewhere v (λ k from below same. off k below (sym (ap (mark_at open_marks) same) ∙ climbed.path_is.marked k below) from)

  settled_stays : (v : ℕ) → IsSettled (mark_at open_marks v) → mark_at marks v ≡ mark_at open_marks v
  settled_stays v settled = off_by_mark v (λ k below is_open from. subst IsSettled is_open settled)

  pub first_kept : Keeps first marks
  first_kept v settled =
      let same = climbed.alike.kept v settled in
      settled_stays v (subst IsSettled (sym same) settled) ∙ same

  -- a settled pin was settled before, or stands at the top of the path
  settled_cases : {P : Type 0} (v : ℕ) → IsSettled (mark_at marks v) → (IsSettled (mark_at first v) → P) → ((k : ℕ) → place ≤ k → k < length path → pin_on path k ≡ v → P) → P
  settled_cases {P} v settled before at_top = mark_cases {P = P} (mark_at open_marks v)
      (λ was. before (subst IsSettled (climbed.alike.none v was) was))
      (λ k is_open. let found = climbed.path_is.on v k is_open in elim (cases_lt k place) [
        | inl less ↦
            let same = off_by_mark v (λ j below other from. (let number : Open j ≡ Open k = sym other ∙ is_open in let numbers : j ≡ k = cc in omega arith)) in
            absurd (subst IsSettled (same ∙ is_open) settled)
        | inr from ↦ at_top k from found.0 found.1
      ])
      (λ new.
      let same = off_by_mark v (λ j below other from. (let clash : Open j ≡ New = sym other ∙ new in cc)) in
      absurd (subst IsSettled (same ∙ new) settled))

  crown_settled : (k : ℕ) → place ≤ k → k < length path → IsSettled (mark_at marks (pin_on path k))
  crown_settled k from below = subst IsSettled (sym (crown k from below)) tt

  crown_spot : (k : ℕ) → place ≤ k → k < length path → spot_at marks (pin_on path k) ≡ top_spot head
  crown_spot k from below = ap spot_of (crown k from below)

  -- the last pin's driver is the first of the ring
  module _ (ring : drive (pin_on path climbed.last) ≡ Some (pin_on path place)) (on : place ≤ climbed.last) where
    round : (k : ℕ) → place ≤ k → k < length path → Leads drive (pin_on path place) (pin_on path k)
    round k from below =
        let steps : ℕ = climbed.last - k in
        let sum : k + (climbed.last - k) ≡ climbed.last = omega (arith, below, climbed.last_is) in
        let to_last : back drive (climbed.last - k) (pin_on path k) ≡ Some (pin_on path climbed.last)
        = chain_back drive path climbed.path_is.chain (climbed.last - k) k (omega (arith, below, climbed.last_is)) ∙ ap (λ n. Some (pin_on path n)) sum in
        let more : (climbed.last - k) + 1 ≡ suc (climbed.last - k) = omega arith in (
          climbed.last - k,
          subst (λ n. back drive n (pin_on path k) ≡ Some (pin_on path place)) more
              (back_on drive (climbed.last - k) 1 (pin_on path k) (pin_on path climbed.last) to_last ∙ rw ring refl),
        )

    way_back : (k : ℕ) → place ≤ k → k < length path → Leads drive (pin_on path k) (pin_on path place)
    way_back k from below = elim (cases_eq k place) [
      | inl same ↦ subst (λ j. Leads drive (pin_on path j) (pin_on path place)) (sym same) (round place (omega arith) (omega (arith, below, from)))
      | inr differs ↦
          let sum : place + suc (k - place - 1) ≡ k = omega (arith, from) in
          (k - place - 1, chain_back drive path climbed.path_is.chain (suc (k - place - 1)) place (omega (arith, below, from)) ∙ ap (λ n. Some (pin_on path n)) sum)
    ]

    on_ring : (k : ℕ) → place ≤ k → k < length path → IsOnRing drive (pin_on path k) (top_spot head) (top_spot head)
    unfolding head
    on_ring k from below = record { depth = refl; jump = refl; same = refl; flat = refl; round = round k from below; back = way_back k from below }

    ring_placed : (k : ℕ) → place ≤ k → k < length path → IsPlaced drive marks (pin_on path k) (top_spot head) (drive (pin_on path k))
    ring_placed k from below = elim (cases_eq k climbed.last) [
      | inl same ↦
          let driven : drive (pin_on path k) ≡ Some (pin_on path place) = ap (λ n. drive (pin_on path n)) same ∙ ring in
          let there : place < length path = omega (arith, from, below) in
          rw (driven, crown_spot place (omega arith) there) (crown_settled place (omega arith) there, inl (on_ring k from below))
      | inr differs ↦
          let next : k + 1 < length path = omega (arith, below, climbed.last_is) in
          rw (climbed.path_is.chain k next, crown_spot (k + 1) (omega (arith, from)) next) (crown_settled (k + 1) (omega (arith, from)) next, inl (on_ring k from below))
    ]

  top_placed : (o : Option ℕ) → drive (pin_on path climbed.last) ≡ o → IsTop drive open_marks path climbed.last place o → (k : ℕ) → place ≤ k → k < length path
      → IsPlaced drive marks (pin_on path k) (top_spot head) (drive (pin_on path k))
  unfolding head
  top_placed None is top k from below =
      let same : k ≡ climbed.last = omega (arith, top, from, below, climbed.last_is) in
      let first_one : pin_on path place ≡ pin_on path k = ap (pin_on path) (omega (arith, top, same)) in
      rw (ap (λ n. drive (pin_on path n)) same ∙ is) (refl, first_one, first_one)
  top_placed (Some u) is top k from below = elim top [
    | inl ring ↦ ring_placed (is ∙ ap (λ w. Some w) (sym ring.1)) ring.0 k from below
    | inr past ↦ absurd (omega (arith, past.0, from, below, climbed.last_is))
  ]

  placed_at_top : (k : ℕ) → place ≤ k → k < length path → IsPlaced drive marks (pin_on path k) (top_spot head) (drive (pin_on path k))
  placed_at_top = top_placed (drive (pin_on path climbed.last)) refl climbed.top

  module _ (order : List PinId) (so_far : AreSettled drive first order) where
    placed_now : ArePlaced drive marks
    placed_now v settled = settled_cases {P = IsPlaced drive marks v (spot_at marks v) (drive v)} v settled
        (λ was. subst (λ s. IsPlaced drive marks v s (drive v)) (spot_kept drive first marks first_kept v was)
        (IsPlaced-kept drive first marks first_kept v (spot_at first v) (drive v) (so_far.placed v was)))
        (λ k from below same. subst (λ w. IsPlaced drive marks w (spot_at marks w) (drive w)) same (rw (crown_spot k from below) (placed_at_top k from below)))

    listed_now : AreListed drive marks order
    listed_now = record {
      all = λ v settled deep. settled_cases v settled
          (λ was. so_far.listed.all v was (subst (λ s. 0 < s.depth) (sym (spot_kept drive first marks first_kept v was)) deep))
          (λ k from below same. (let flat : (spot_at marks v).depth ≡ 0 = ap (λ w. (spot_at marks w).depth) (sym same) ∙ ap (λ (s : Spot). s.depth) (crown_spot k from below) in absurd (omega (arith, flat, deep))));
      low = All-weaker (IsLowPin first) (IsLowPin marks) (λ u pin. record {
        settled = settled_kept drive first marks first_kept u.0 pin.settled;
        low = subst (λ s. 0 < s.depth) (spot_kept drive first marks first_kept u.0 pin.settled) pin.low;
      }) order so_far.listed.low;
      apart = so_far.listed.apart;
      shallow = λ v settled. settled_cases v settled
          (λ was. subst (λ s. s.depth ≤ length order) (spot_kept drive first marks first_kept v was) (so_far.listed.shallow v was))
          (λ k from below same. (let flat : (spot_at marks v).depth ≡ 0 = ap (λ w. (spot_at marks w).depth) (sym same) ∙ ap (λ (s : Spot). s.depth) (crown_spot k from below) in omega (arith, flat)));
    }

    below_top : (k : ℕ) → k < place → mark_at marks (pin_on path k) ≡ Open k
    below_top k less =
        let mark = climbed.path_is.marked k (omega (arith, less, inside)) in
        off_by_mark (pin_on path k) (λ j below other from. (let number : Open j ≡ Open k = sym other ∙ mark in let numbers : j ≡ k = cc in omega arith)) ∙ mark

    open_on : (v k : ℕ) → mark_at marks v ≡ Open k → (k < place) × (pin_on path k ≡ v)
    open_on v k is_open = mark_cases {P = (k < place) × (pin_on path k ≡ v)} (mark_at open_marks v)
        (λ was. absurd (subst IsSettled (sym (settled_stays v was) ∙ is_open) was))
        (λ j was_open. let found = climbed.path_is.on v j was_open in elim (cases_lt j place) [
          | inl less ↦
              let mark : mark_at marks v ≡ Open j = sym (ap (mark_at marks) found.1) ∙ below_top j less in
              let number : Open j ≡ Open k = sym mark ∙ is_open in
              let numbers : j ≡ k = cc in
              (omega arith, ap (pin_on path) (sym numbers) ∙ found.1)
          | inr from ↦
              (let clash : Settled (top_spot head) ≡ Open k = sym (crown j from found.0) ∙ (ap (mark_at marks) found.1 ∙ is_open) in absurd (subst IsSettled clash tt))
        ])
        (λ new.
        let same = off_by_mark v (λ j below other from. (let clash : Open j ≡ New = sym other ∙ new in cc)) in
        let clash : New ≡ Open k = sym new ∙ (sym same ∙ is_open) in
        cc)

    driven_by : (o : Option ℕ) → drive (pin_on path climbed.last) ≡ o → IsTop drive open_marks path climbed.last place o → place ≡ length path → HasSettledDriver marks o
    driven_by None is top whole = absurd (omega (arith, top, whole, climbed.last_is))
    driven_by (Some u) is top whole = elim top [
      | inl ring ↦ absurd (omega (arith, ring.0, whole, climbed.last_is))
      | inr below ↦ subst IsSettled (sym (settled_stays u below.1)) below.1
    ]

    driven_now : (k : ℕ) → k + 1 ≡ place → HasSettledDriver marks (drive (pin_on path k))
    driven_now k next = elim (cases_lt place (length path)) [
      | inl below ↦ rw (climbed.path_is.chain k (omega (arith, next, below)), next) (crown_settled place (omega arith) below)
      | inr past ↦
          let last : k ≡ climbed.last = omega (arith, next, past, inside, climbed.last_is) in
          rw last (driven_by (drive (pin_on path climbed.last)) refl climbed.top (omega (arith, past, inside)))
    ]

    pub IsSettling-top : IsSettling drive marks marks path place order
    IsSettling-top = record {
      inside = inside;
      size = refl;
      settled = record { placed = placed_now; listed = listed_now };
      path_is = record {
        marked = below_top;
        on = open_on;
        chain = climbed.path_is.chain;
        within = λ k below. (let within = climbed.path_is.within k below in omega (arith, within, crowned.size, climbed.size));
      };
      driven = driven_now;
      kept = λ v settled. settled;
      behind = crown_settled;
    }

-- one pin more is settled, with those above it
pub IsGrown-more : (drive : ℕ → Option ℕ) (first open_marks marks after : List Mark) (path : List PinId) (pins count place : ℕ) (before order : List PinId)
    → IsClimbed drive first open_marks path count place → IsCrowned open_marks marks (drop place path) (length (drop place path)) → IsSettling drive marks after path 0 order
    → IsGrown drive first pins count before → IsGrown drive after pins (count + 1) order
IsGrown-more drive first open_marks marks after path pins count place before order climbed crowned settled so_far =
    let kept : (v : ℕ) → IsSettled (mark_at first v) → IsSettled (mark_at after v)
    = λ v was. settled.kept v (settled_kept drive first marks (first_kept drive first open_marks marks path count place climbed crowned) v was) in
    record {
      size = omega (arith, settled.size, crowned.size, climbed.size, so_far.size);
      settled = settled.settled;
      closed = λ v k is_open. (let found = settled.path_is.on v k is_open in omega (arith, found.0));
      first = λ v below. elim (cases_eq v count) [
        | inl same ↦ subst (λ w. IsSettled (mark_at after w)) (climbed.first ∙ sym same) (settled.behind 0 (omega arith) climbed.some)
        | inr differs ↦ kept v (so_far.first v (omega (arith, below)))
      ];
    }

pub IsGrown-skip : (drive : ℕ → Option ℕ) (marks : List Mark) (pins count : ℕ) (order : List PinId) → IsSettled (mark_at marks count) → IsGrown drive marks pins count order → IsGrown drive marks pins (count + 1) order
IsGrown-skip drive marks pins count order settled so_far = record {
  size = so_far.size;
  settled = so_far.settled;
  closed = so_far.closed;
  first = λ v below. elim (cases_eq v count) [
    | inl same ↦ subst (λ w. IsSettled (mark_at marks w)) (sym same) settled
    | inr differs ↦ so_far.first v (omega (arith, below))
  ];
}
