-- One pin more is settled below its driver.
use Rattle.std.specs.Prelude.{zero, suc}
use Rattle.std.specs.List.{Contains, AllPairs, All}
use Rattle.std.proofs.Common.{◌≡◌, ◌≢◌, ℕ, ◌+◌, ◌<◌, ◌≤◌, ◌⊎◌, List, [], ◌∷◌, ◌++◌, Option, Some, None, refl, sym, ap, subst, ◌∙◌, inl, inr, arith, length, get_or, set, get_or-set_same, get_or-set_other}
use Rattle.std.proofs.lemmas.Bool.{cases_eq, cases_lt}
use Rattle.std.proofs.lemmas.List.{length-set, length_push}
use Rattle.std.proofs.lemmas.List.Elements.{All-push, All-weaker, Contains-push, Contains-append_left}
use Rattle.std.proofs.lemmas.List.Quantifiers.{all_pairs_push}
use Rattle.bud_base.specs.declared.ids.PinId.{PinId}
use Rattle.net_delays.specs.Drives.{Leads}
use Rattle.net_delays.specs.Forests.{mark_at, IsSettled, spot_of, spot_at, IsPlaced, ArePlaced, IsApart, IsLowPin, AreListed, AreSettled}
use Rattle.net_delays.specs.Climbs.{pin_on, IsPath, HasSettledDriver, IsSettling}
use Rattle.net_delays.specs.declared.forests.Mark.{Mark}
use Rattle.net_delays.specs.declared.forests.Mark.TheVariants.{New, Open, Settled}
use Rattle.net_delays.specs.declared.forests.Spot.{Spot}
use Rattle.net_delays.proofs.ForestLemmas.{Keeps, IsPlaced-kept, settled_kept, spot_kept, settled_leads, within_from_settled}

module _ (marks : List Mark) (v : ℕ) (spot : Spot) (within : v < length marks) (new : IsSettled (mark_at marks v) → ⊥) where
  here : mark_at (set marks v (Settled spot)) v ≡ Settled spot
  here = get_or-set_same marks v (Settled spot) New within

  other : (w : ℕ) → w ≢ v → mark_at (set marks v (Settled spot)) w ≡ mark_at marks w
  other w differs = get_or-set_other marks v w (Settled spot) New differs

  pub keeps : Keeps marks (set marks v (Settled spot))
  keeps w settled = other w (λ same. new (subst (λ x. IsSettled (mark_at marks x)) same settled))

  -- a pin that is settled then is v or was settled
  pub now_settled : (P : ℕ → Type 0) (w : ℕ) → IsSettled (mark_at (set marks v (Settled spot)) w) → P v → (IsSettled (mark_at marks w) → P w) → P w
  now_settled P w settled at_v before = elim (cases_eq w v) [
    | inl same ↦ subst P (sym same) at_v
    | inr differs ↦ before (subst IsSettled (other w differs) settled)
  ]

  pub spot_here : spot_at (set marks v (Settled spot)) v ≡ spot
  spot_here = ap spot_of here

  pub settled_here : IsSettled (mark_at (set marks v (Settled spot)) v)
  settled_here = subst IsSettled (sym here) tt

  module _ (drive : ℕ → Option ℕ) (order : List PinId) (so_far : AreSettled drive marks order) (placed : IsPlaced drive marks v spot (drive v)) where
    placed_now : ArePlaced drive (set marks v (Settled spot))
    placed_now w settled =
        now_settled (λ x. IsPlaced drive (set marks v (Settled spot)) x (spot_at (set marks v (Settled spot)) x) (drive x)) w settled
        (rw spot_here (IsPlaced-kept drive marks (set marks v (Settled spot)) keeps v spot (drive v) placed))
        (λ was. subst (λ s. IsPlaced drive (set marks v (Settled spot)) w s (drive w)) (spot_kept drive marks (set marks v (Settled spot)) keeps w was)
        (IsPlaced-kept drive marks (set marks v (Settled spot)) keeps w (spot_at marks w) (drive w) (so_far.placed w was)))

    module _ (low : 0 < spot.depth) (shallow : spot.depth ≤ length order + 1) where
      low_kept : (u : PinId) → IsLowPin marks u → IsLowPin (set marks v (Settled spot)) u
      low_kept u pin = record {
        settled = settled_kept drive marks (set marks v (Settled spot)) keeps u.0 pin.settled;
        low = subst (λ s. 0 < s.depth) (spot_kept drive marks (set marks v (Settled spot)) keeps u.0 pin.settled) pin.low;
      }

      apart_now : (u : PinId) → IsLowPin marks u → IsApart drive u (record { 0 = v })
      apart_now u pin = record {
        other = λ same. new (subst (λ x. IsSettled (mark_at marks x)) same pin.settled);
        free = λ way. new (settled_leads drive marks so_far.placed u.0 v way pin.settled);
      }

      listed_now : AreListed drive (set marks v (Settled spot)) (order ++ record { 0 = v } ∷ [])
      listed_now = record {
        all = λ w settled deep.
            now_settled (λ x. 0 < (spot_at (set marks v (Settled spot)) x).depth → Contains (order ++ record { 0 = v } ∷ []) (record { 0 = x })) w settled
            (λ d. Contains-push order (record { 0 = v }))
            (λ was d. Contains-append_left order (record { 0 = v } ∷ []) (record { 0 = w })
            (so_far.listed.all w was (subst (λ s. 0 < s.depth) (sym (spot_kept drive marks (set marks v (Settled spot)) keeps w was)) d)))
            deep;
        low = All-push (IsLowPin (set marks v (Settled spot))) order (record { 0 = v })
            (All-weaker (IsLowPin marks) (IsLowPin (set marks v (Settled spot))) low_kept order so_far.listed.low)
            (record { settled = settled_here; low = rw spot_here low });
        apart = all_pairs_push (IsApart drive) order (record { 0 = v }) so_far.listed.apart (λ k d below. apart_now (get_or order k d) (so_far.listed.low k d below));
        shallow = λ w settled.
            now_settled (λ x. (spot_at (set marks v (Settled spot)) x).depth ≤ length (order ++ record { 0 = v } ∷ [])) w settled
            (rw (spot_here, length_push) shallow)
            (λ was. subst (λ s. s.depth ≤ length (order ++ record { 0 = v } ∷ [])) (spot_kept drive marks (set marks v (Settled spot)) keeps w was)
            (let least = so_far.listed.shallow w was in rw length_push (omega arith)));
      }

      pub AreSettled-more : AreSettled drive (set marks v (Settled spot)) (order ++ record { 0 = v } ∷ [])
      AreSettled-more = record { placed = placed_now; listed = listed_now }

-- a driver that is settled stays settled
HasSettledDriver-kept : (drive : ℕ → Option ℕ) (before after : List Mark) → Keeps before after → (o : Option ℕ) → HasSettledDriver before o → HasSettledDriver after o
HasSettledDriver-kept drive before after keeps None driven = driven
HasSettledDriver-kept drive before after keeps (Some u) driven = settled_kept drive before after keeps u driven

-- the next pin of the path is settled
pub IsSettling-more : (drive : ℕ → Option ℕ) (before marks : List Mark) (path : List PinId) (place : ℕ) (order : List PinId) (spot : Spot) (pin : PinId)
    → place < length path → pin_on path place ≡ pin.0 → 0 < spot.depth → spot.depth ≤ length order + 1 → IsPlaced drive marks pin.0 spot (drive pin.0)
    → IsSettling drive before marks path (place + 1) order → IsSettling drive before (set marks pin.0 (Settled spot)) path place (order ++ pin ∷ [])
IsSettling-more drive before marks path place order spot pin there is low shallow placed so_far =
    let open_here : mark_at marks pin.0 ≡ Open place = subst (λ v. mark_at marks v ≡ Open place) is (so_far.path_is.marked place (omega arith)) in
    let new : IsSettled (mark_at marks pin.0) → ⊥ = λ settled. subst IsSettled open_here settled in
    let within : pin.0 < length marks = (let low_pin = so_far.path_is.within place there in omega (arith, so_far.size)) in
    let kept : Keeps marks (set marks pin.0 (Settled spot)) = keeps marks pin.0 spot within new in
    let otherwise : (w : ℕ) → w ≢ pin.0 → mark_at (set marks pin.0 (Settled spot)) w ≡ mark_at marks w = λ w differs. get_or-set_other marks pin.0 w (Settled spot) New differs in
    record {
      inside = omega (arith, so_far.inside);
      size = length-set marks pin.0 (Settled spot) ∙ so_far.size;
      settled = AreSettled-more marks pin.0 spot within new drive order so_far.settled placed low shallow;
      path_is = record {
        marked = λ k below.
            otherwise (pin_on path k) (λ same.
            let mark : mark_at marks (pin_on path k) ≡ Open k = so_far.path_is.marked k (omega arith) in
            let both : Open k ≡ Open place = sym mark ∙ (ap (mark_at marks) same ∙ open_here) in
            let number : k ≡ place = cc in
            omega arith)
            ∙ so_far.path_is.marked k (omega arith);
        on = λ w k is_open. elim (cases_eq w pin.0) [
          | inl same ↦ absurd (subst IsSettled is_open (subst (λ x. IsSettled (mark_at (set marks pin.0 (Settled spot)) x)) (sym same) (settled_here marks pin.0 spot within new)))
          | inr differs ↦
              let found = so_far.path_is.on w k (sym (otherwise w differs) ∙ is_open) in (
                elim (cases_eq k place) [
                  | inl last ↦ absurd (differs (sym found.1 ∙ (ap (pin_on path) last ∙ is)))
                  | inr less ↦ omega (arith, found.0)
                ],
                found.1,
              )
        ];
        chain = so_far.path_is.chain;
        within = so_far.path_is.within;
      };
      driven = λ k next.
          let chained : drive (pin_on path k) ≡ Some (pin_on path (k + 1)) = so_far.path_is.chain k (omega arith) in
          rw (chained, next, is) (settled_here marks pin.0 spot within new);
      kept = λ w settled. settled_kept drive marks (set marks pin.0 (Settled spot)) kept w (so_far.kept w settled);
      behind = λ k from below. elim (cases_eq k place) [
        | inl same ↦ rw (same, is) (settled_here marks pin.0 spot within new)
        | inr differs ↦ settled_kept drive marks (set marks pin.0 (Settled spot)) kept (pin_on path k) (so_far.behind k (omega arith) below)
      ];
    }

pub driven_at : (drive : ℕ → Option ℕ) (before marks : List Mark) (path : List PinId) (place v : ℕ) (order : List PinId)
    → pin_on path place ≡ v → IsSettling drive before marks path (place + 1) order → HasSettledDriver marks (drive v)
driven_at drive before marks path place v order is so_far = subst (λ x. HasSettledDriver marks (drive x)) is (so_far.driven place refl)

pub new_at : (drive : ℕ → Option ℕ) (before marks : List Mark) (path : List PinId) (place v : ℕ) (order : List PinId)
    → pin_on path place ≡ v → IsSettling drive before marks path (place + 1) order → IsSettled (mark_at marks v) → ⊥
new_at drive before marks path place v order is so_far settled =
    subst IsSettled (subst (λ x. mark_at marks x ≡ Open place) is (so_far.path_is.marked place (omega arith))) settled

-- a pin below others is at most one deeper than the deepest so far
pub depth_at : (drive : ℕ → Option ℕ) (marks : List Mark) (order : List PinId) (v : ℕ) (spot : Spot) (o : Option ℕ) → IsPlaced drive marks v spot o → 0 < spot.depth → AreListed drive marks order
    → spot.depth ≤ length order + 1
depth_at drive marks order v spot None placed low listed = absurd (omega (arith, placed.0, low))
depth_at drive marks order v spot (Some u) placed low listed = elim placed.1 [
  | inl ring ↦ absurd (omega (arith, ring.depth, low))
  | inr below ↦ omega (arith, below.depth, listed.shallow u placed.0)
]
