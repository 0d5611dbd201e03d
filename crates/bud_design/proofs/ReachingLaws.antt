-- Reaching and leading on, arc by arc, and sets of states that are closed under arcs.
use Rattle.std.specs.Prelude.{◌≡◌, ◌⊎◌, ℕ, List, [], ◌∷◌, ◌++◌, map}
use Rattle.std.proofs.Common.{ap, refl, sym, ◌∙◌, subst, inl, inr}
use Rattle.std.proofs.lemmas.List.{map-append}
use Rattle.bud_base.specs.declared.ids.ArcId.{ArcId}
use Rattle.bud_design.specs.Arcs.{arc_at}
use Rattle.bud_design.specs.Reaching.{Walk, pin_behind, Joined, along, IsReached, LeadsOn}

module _ (w : Walk) where
  pub Joined-append : (xs ys : List ArcId) (u v z : ℕ) → Joined w u xs v → Joined w v ys z → Joined w u (xs ++ ys) z
  Joined-append [] ys u v z first then = rw first then
  Joined-append (x ∷ xs) ys u v z first then = (first.0, first.1, Joined-append xs ys (pin_behind w x) v z first.2 then)

  -- a list that joins up comes apart at some pin
  pub Joined-front : (xs ys : List ArcId) (u z : ℕ) → Joined w u (xs ++ ys) z → (v : ℕ) × (Joined w u xs v × Joined w v ys z)
  Joined-front [] ys u z joined = (u, (refl, joined))
  Joined-front (x ∷ xs) ys u z joined =
      let rest = Joined-front xs ys (pin_behind w x) z joined.2 in
      (rest.0, ((joined.0, joined.1, rest.1.0), rest.1.1))

  pub along-append : (k : w.Class) (us vs : List ℕ) → along w k (us ++ vs) ≡ along w (along w k us) vs
  along-append k [] vs = refl
  along-append k (u ∷ us) vs = along-append (w.go k u) us vs

module _ (w : Walk) (Ends : ℕ → w.Class → Type 0) where
  -- ---- leading on: at an end, or by an arc that leads on
  -- an arc from the pin behind which its class leads on
  pub record LeadsByArc (v : ℕ) (k : w.Class) : Type 0 where
    pub arc : ArcId
    pub uses : w.Uses arc
    pub from : (arc_at w.arcs arc.0).from ≡ v
    pub leads : LeadsOn w Ends (pin_behind w arc) (w.go k (pin_behind w arc))

  pub LeadsOn-cases : (v : ℕ) (k : w.Class) → LeadsOn w Ends v k → Ends v k ⊎ LeadsByArc v k
  LeadsOn-cases v k leads = split leads.rest leads.pin leads.joined leads.ends
    where
      split : (rest : List ArcId) (z : ℕ) → Joined w v rest z → Ends z (along w k (map (pin_behind w) rest)) → Ends v k ⊎ LeadsByArc v k
      split [] z joined ends = inl (subst (λ u. Ends u k) (sym joined) ends)
      split (x ∷ xs) z joined ends = inr (record { arc = x; uses = joined.0; from = joined.1; leads = record { rest = xs; pin = z; joined = joined.2; ends = ends } })

  pub LeadsOn-ends : (v : ℕ) (k : w.Class) → Ends v k → LeadsOn w Ends v k
  LeadsOn-ends v k ends = record { rest = []; pin = v; joined = refl; ends = ends }

  pub LeadsOn-arc : (v : ℕ) (k : w.Class) → LeadsByArc v k → LeadsOn w Ends v k
  LeadsOn-arc v k by = record { rest = by.arc ∷ by.leads.rest; pin = by.leads.pin; joined = (by.uses, by.from, by.leads.joined); ends = by.leads.ends }

  -- a state from which arcs join on to one that leads on
  pub LeadsOn-before : (u : ℕ) (k : w.Class) (xs : List ArcId) (v : ℕ) → Joined w u xs v → LeadsOn w Ends v (along w k (map (pin_behind w) xs)) → LeadsOn w Ends u k
  LeadsOn-before u k xs v joined leads = record {
    rest = xs ++ leads.rest;
    pin = leads.pin;
    joined = Joined-append w xs leads.rest u v leads.pin joined leads.joined;
    ends = subst (Ends leads.pin) (sym (ap (along w k) (map-append (pin_behind w) xs leads.rest) ∙ along-append w k (map (pin_behind w) xs) (map (pin_behind w) leads.rest))) leads.ends;
  }

module _ (w : Walk) (Begins : ℕ → w.Class → Type 0) where
  -- ---- a closed set: it has each state where a class begins, and with a state the one behind each arc
  pub closed-along : (In : ℕ → w.Class → Type 0)
      → ((x : ArcId) (k : w.Class) → w.Uses x → In (arc_at w.arcs x.0).from k → In (pin_behind w x) (w.go k (pin_behind w x)))
      → (xs : List ArcId) (u : ℕ) (k : w.Class) (v : ℕ) → In u k → Joined w u xs v → In v (along w k (map (pin_behind w) xs))
  closed-along In closed [] u k v in' joined = subst (λ z. In z k) joined in'
  closed-along In closed (x ∷ xs) u k v in' joined =
      closed-along In closed xs (pin_behind w x) (w.go k (pin_behind w x)) v (closed x k joined.0 (subst (λ z. In z k) (sym joined.1) in')) joined.2

  pub IsReached-closed : (In : ℕ → w.Class → Type 0) → ((v : ℕ) (k : w.Class) → Begins v k → In v k)
      → ((x : ArcId) (k : w.Class) → w.Uses x → In (arc_at w.arcs x.0).from k → In (pin_behind w x) (w.go k (pin_behind w x)))
      → (v : ℕ) (k : w.Class) → IsReached w Begins v k → In v k
  IsReached-closed In begin closed v k reached =
      subst (In v) (sym reached.class_is) (closed-along In closed reached.front reached.pin reached.first v (begin reached.pin reached.first reached.begins) reached.joined)

  -- ---- reaching: where a class begins, or by an arc from a state that is reached
  -- an arc into the pin, and a class at its first pin that is reached and goes on to this one
  pub record ReachedByArc (v : ℕ) (k : w.Class) : Type 0 where
    pub arc : ArcId
    pub before : w.Class
    pub uses : w.Uses arc
    pub to : pin_behind w arc ≡ v
    pub reached : IsReached w Begins (arc_at w.arcs arc.0).from before
    pub goes : k ≡ w.go before v

  pub IsReached-begins : (v : ℕ) (k : w.Class) → Begins v k → IsReached w Begins v k
  IsReached-begins v k begins = record { pin = v; first = k; begins = begins; front = []; joined = refl; class_is = refl }

  -- a state that is reached and arcs that join on
  pub IsReached-on : (u : ℕ) (k : w.Class) (xs : List ArcId) (v : ℕ) → IsReached w Begins u k → Joined w u xs v → IsReached w Begins v (along w k (map (pin_behind w) xs))
  IsReached-on u k xs v reached joined = record {
    pin = reached.pin;
    first = reached.first;
    begins = reached.begins;
    front = reached.front ++ xs;
    joined = Joined-append w reached.front xs reached.pin u v reached.joined joined;
    class_is = rw (reached.class_is, map-append (pin_behind w) reached.front xs) (sym (along-append w reached.first (map (pin_behind w) reached.front) (map (pin_behind w) xs)));
  }

  pub IsReached-arc : (v : ℕ) (k : w.Class) → ReachedByArc v k → IsReached w Begins v k
  IsReached-arc v k by =
      subst (λ j. IsReached w Begins v j) (sym by.goes)
      (subst (λ z. IsReached w Begins v (w.go by.before z)) by.to
      (subst (λ z. IsReached w Begins z (w.go by.before (pin_behind w by.arc))) by.to
      (IsReached-on (arc_at w.arcs by.arc.0).from by.before (by.arc ∷ []) (pin_behind w by.arc) by.reached (by.uses, refl, refl))))

  -- by the closed set of states where a class begins or an arc leads from a reached one
  pub IsReached-cases : (v : ℕ) (k : w.Class) → IsReached w Begins v k → Begins v k ⊎ ReachedByArc v k
  IsReached-cases =
      IsReached-closed (λ v k. Begins v k ⊎ ReachedByArc v k) (λ v k begins. inl begins)
      (λ x k uses before. inr (record { arc = x; before = k; uses = uses; to = refl; reached = again (arc_at w.arcs x.0).from k before; goes = refl }))
    where
      again : (v : ℕ) (k : w.Class) → Begins v k ⊎ ReachedByArc v k → IsReached w Begins v k
      again v k (inl begins) = IsReached-begins v k begins
      again v k (inr by) = IsReached-arc v k by
