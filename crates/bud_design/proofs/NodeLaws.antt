-- Nodes and items of a layering are the states that are reached and lead on.
use Rattle.std.specs.Prelude.{◌≡◌, ℕ, suc, ◌<◌, nat_lt, ℤ, ◌-ℤ◌, true, List, [], ◌∷◌, ◌++◌, map, filter_map, unwrap_or, length, All, AllPairs, Option, Some, None}
use Rattle.std.specs.Option.{option_map}
use Rattle.std.proofs.Common.{refl, sym, ◌∙◌, ap, subst, arith}
use Rattle.std.proofs.lemmas.List.{append-nil, append_assoc}
use Rattle.std.proofs.lemmas.Option.{none-some}
use Rattle.std.proofs.lemmas.List.Elements.{All-head, All-tail, All-cons}
use Rattle.std.proofs.lemmas.Bool.{ne_eqb}
use Rattle.bud_base.specs.declared.ids.ArcId.{ArcId}
use Rattle.bud_design.specs.Arcs.{arc_at, Leads}
use Rattle.bud_design.specs.Designs.{is_inside}
use Rattle.bud_design.specs.Exceptions.{class_of, class_at, class_requirement, requirement}
use Rattle.bud_design.specs.TimingPaths.{View, TimingPath, IsConstrained, launch_at, path_start, passed, last_pin, least_asked, asked}
use Rattle.bud_design.specs.Lists.{least}
use Rattle.bud_design.specs.Layers.{IsNode, IsItem, class_behind, walk_of, BeginsAt, EndsAt}
use Rattle.bud_design.specs.Reaching.{pin_behind, Joined, along, IsReached, LeadsOn}
use Rattle.bud_design.specs.declared.clocks.Launch.{Launch}
use Rattle.bud_design.specs.declared.clocks.Capture.{Capture}
use Rattle.bud_design.specs.declared.layers.Class.{Class}
use Rattle.bud_design.proofs.Leading.{passed-append, Leads-last}
use Rattle.bud_design.proofs.ClassLaws.{class_at-more, class-decides-requirement}
use Rattle.bud_design.proofs.ReachingLaws.{Joined-append, Joined-front}

least_asked-same : (xs : List Capture) (v : ℕ) (f g : Capture → Option ℤ) → ((x : Capture) → f x ≡ g x) → filter_map (asked v f) xs ≡ filter_map (asked v g) xs
least_asked-same [] v f g same = refl
least_asked-same (x ∷ xs) v f g same = rw (same x, least_asked-same xs v f g same) refl

-- no capture at the pin asks for anything
least_asked-none : (xs : List Capture) (v : ℕ) (f : Capture → Option ℤ) → All (λ x. v ≡ x.pin.0 → ⊥) xs → filter_map (asked v f) xs ≡ []
least_asked-none [] v f apart = refl
least_asked-none (x ∷ xs) v f apart =
    rw (ne_eqb x.pin.0 v (λ e. All-head (λ x. v ≡ x.pin.0 → ⊥) x xs apart (sym e))) (least_asked-none xs v f (All-tail (λ x. v ≡ x.pin.0 → ⊥) x xs apart))

some-mapped : {A B : Type 0} (f : A → B) (o : Option A) (b : B) → option_map f o ≡ Some b → (a : A) × (o ≡ Some a)
some-mapped f (Some a) b e = (a, refl)
some-mapped f None b e = absurd (none-some b e)

same-some : {A : Type 0} {a b : A} → Some a ≡ Some b → a ≡ b
same-some {A} {a} {b} e = ap (λ o. unwrap_or o a) e

some-append : (xs ys : List ArcId) → (xs ≡ [] → ys ≡ [] → ⊥) → 0 < length (xs ++ ys)
some-append [] [] not_both = absurd (not_both refl refl)
some-append [] (y ∷ ys) not_both = omega arith
some-append (x ∷ xs) ys not_both = omega arith

some-behind : (xs : List ArcId) (y : ArcId) (ys : List ArcId) → 0 < length (xs ++ y ∷ ys)
some-behind [] y ys = omega arith
some-behind (x ∷ xs) y ys = omega arith

module _ (w : View) (rise : AllPairs (λ e f. nat_lt e.number f.number ≡ true) w.all.exceptions) where
  -- the class goes on along pins as it is counted over all of them
  pub class_of-along : (l : Launch) (us vs : List ℕ) → along (walk_of w) (class_of w.all l us) vs ≡ class_of w.all l (us ++ vs)
  class_of-along l us [] = ap (class_of w.all l) (sym (append-nil us))
  class_of-along l us (v ∷ vs) =
      ap (λ k. along (walk_of w) k vs) (class_at-more w.all l us v rise)
      ∙ (class_of-along l (us ++ v ∷ []) vs ∙ ap (class_of w.all l) (append_assoc us (v ∷ []) vs))

  -- what is asked at a pin is that by the class
  pub least_asked-by_class : (l : Launch) (vs : List ℕ) (v : ℕ) → least_asked w.all.captures v (class_requirement w.all (class_of w.all l vs)) ≡ least_asked w.all.captures v (requirement w.all l vs)
  least_asked-by_class l vs v =
      ap least (least_asked-same w.all.captures v (class_requirement w.all (class_of w.all l vs)) (requirement w.all l vs) (λ x. class-decides-requirement w.all l vs x rise))

  -- ---- arcs of a path
  Is_inside : ArcId → Type 0
  Is_inside x = is_inside w.design.places w.root (arc_at w.arcs x.0).home ≡ true

  pub Joined-from_leads : (xs : List ArcId) (u v : ℕ) → Leads w.arcs u xs v → All (λ x. is_inside w.design.places w.root (arc_at w.arcs x.0).home ≡ true) xs → Joined (walk_of w) u xs v
  Joined-from_leads [] u v leads inside = leads
  Joined-from_leads (x ∷ xs) u v leads inside = (
    (leads.0, inside 0 x (omega arith)),
    leads.1,
    Joined-from_leads xs (arc_at w.arcs x.0).to v leads.2 (λ k d below. inside (suc k) d (omega (arith, below))),
  )

  -- where each arc is inside nothing else is asked
  pub Joined-from_inside : ((i : ℕ) → i < length w.arcs → is_inside w.design.places w.root (arc_at w.arcs i).home ≡ true) → (xs : List ArcId) (u v : ℕ) → Leads w.arcs u xs v → Joined (walk_of w) u xs v
  Joined-from_inside inside [] u v leads = leads
  Joined-from_inside inside (x ∷ xs) u v leads = ((leads.0, inside x.0 leads.0), leads.1, Joined-from_inside inside xs (arc_at w.arcs x.0).to v leads.2)

  pub Leads-from_joined : (xs : List ArcId) (u v : ℕ) → Joined (walk_of w) u xs v → Leads w.arcs u xs v
  Leads-from_joined [] u v joined = joined
  Leads-from_joined (x ∷ xs) u v joined = (joined.0.0, joined.1, Leads-from_joined xs (arc_at w.arcs x.0).to v joined.2)

  inside-from_joined : (xs : List ArcId) (u v : ℕ) → Joined (walk_of w) u xs v → All (λ x. is_inside w.design.places w.root (arc_at w.arcs x.0).home ≡ true) xs
  inside-from_joined [] u v joined = λ k d below. absurd (omega (arith, below))
  inside-from_joined (x ∷ xs) u v joined =
      All-cons (λ x. is_inside w.design.places w.root (arc_at w.arcs x.0).home ≡ true) x xs joined.0.1 (inside-from_joined xs (arc_at w.arcs x.0).to v joined.2)

  -- a constrained path joins up and ends where its class has a requirement
  pub Joined-from_constrained : (path : TimingPath) (room : ℤ) → IsConstrained w path room
      → Joined (walk_of w) (path_start w path).pin.0 path.arcs (last_pin w.arcs (path_start w path).pin.0 path.arcs)
  Joined-from_constrained path room constrained =
      Joined-from_leads path.arcs (path_start w path).pin.0 (last_pin w.arcs (path_start w path).pin.0 path.arcs) constrained.is_path.joined constrained.is_path.within

  pub EndsAt-from_constrained : (path : TimingPath) (room : ℤ) → IsConstrained w path room
      → EndsAt w (last_pin w.arcs (path_start w path).pin.0 path.arcs) (class_behind w path path.arcs)
  EndsAt-from_constrained path room constrained =
      let asks = some-mapped (λ r. r -ℤ (path_start w path).offset)
      (least_asked w.all.captures (last_pin w.arcs (path_start w path).pin.0 path.arcs) (requirement w.all (path_start w path) (passed w.arcs (path_start w path).pin.0 path.arcs)))
      room constrained.has_room in
      (asks.0, least_asked-by_class (path_start w path) (passed w.arcs (path_start w path).pin.0 path.arcs) (last_pin w.arcs (path_start w path).pin.0 path.arcs) ∙ asks.1)

  -- what is asked there less the launch's offset is the path's room
  pub asks-room : (path : TimingPath) (room : ℤ) → IsConstrained w path room → (ends : EndsAt w (last_pin w.arcs (path_start w path).pin.0 path.arcs) (class_behind w path path.arcs))
      → ends.0 -ℤ (path_start w path).offset ≡ room
  asks-room path room constrained ends =
      let pin = (path_start w path).pin.0 in
      same-some (ap (option_map (λ r. r -ℤ (path_start w path).offset))
      (sym ends.1 ∙ least_asked-by_class (path_start w path) (passed w.arcs pin path.arcs) (last_pin w.arcs pin path.arcs)) ∙ constrained.has_room)

  -- and these two make a path of at least one arc constrained
  pub constrained-from : (n : ℕ) (xs : List ArcId) (v : ℕ) → n < length w.all.launches → 0 < length xs → Joined (walk_of w) (launch_at w.all.launches n).pin.0 xs v
      → (ends : EndsAt w v (class_behind w (record { launch = n; arcs = xs }) xs)) → IsConstrained w (record { launch = n; arcs = xs }) (ends.0 -ℤ (launch_at w.all.launches n).offset)
  constrained-from n xs v below some joined ends =
      let leads = Leads-from_joined xs (launch_at w.all.launches n).pin.0 v joined in
      let last = Leads-last w.arcs xs (launch_at w.all.launches n).pin.0 v leads in
      record {
        is_path = record {
          launch = below;
          some = some;
          within = inside-from_joined xs (launch_at w.all.launches n).pin.0 v joined;
          joined = subst (Leads w.arcs (launch_at w.all.launches n).pin.0 xs) (sym last) leads;
        };
        has_room = ap (option_map (λ r. r -ℤ (launch_at w.all.launches n).offset))
            (ap (λ z. least_asked w.all.captures z (requirement w.all (launch_at w.all.launches n) (passed w.arcs (launch_at w.all.launches n).pin.0 xs))) last
            ∙ (sym (least_asked-by_class (launch_at w.all.launches n) (passed w.arcs (launch_at w.all.launches n).pin.0 xs) v) ∙ ends.1));
      }

  -- ---- a path in two parts
  pub class_behind-along : (path : TimingPath) (front rest : List ArcId)
      → along (walk_of w) (class_behind w path front) (map (pin_behind (walk_of w)) rest) ≡ class_behind w path (front ++ rest)
  class_behind-along path front rest =
      class_of-along (path_start w path) (passed w.arcs (path_start w path).pin.0 front) (map (pin_behind (walk_of w)) rest)
      ∙ ap (class_of w.all (path_start w path)) (sym (passed-append w.arcs front rest (path_start w path).pin.0))

  pub reached-front : (From : ℕ → Type 0) (path : TimingPath) → path.launch < length w.all.launches → From path.launch → (front : List ArcId) (v : ℕ)
      → Joined (walk_of w) (path_start w path).pin.0 front v → IsReached (walk_of w) (BeginsAt w From) v (class_behind w path front)
  reached-front From path below from front v joined = record {
    pin = (path_start w path).pin.0;
    first = class_behind w path [];
    begins = record { launch = path.launch; number = below; from = from; pin_is = refl; class_is = refl };
    front = front;
    joined = joined;
    class_is = sym (class_behind-along path [] front);
  }

  leads-rest : (path : TimingPath) (front rest : List ArcId) (v z : ℕ) → Joined (walk_of w) v rest z → EndsAt w z (class_behind w path (front ++ rest))
      → LeadsOn (walk_of w) (EndsAt w) v (class_behind w path front)
  leads-rest path front rest v z joined ends = record {
    rest = rest;
    pin = z;
    joined = joined;
    ends = subst (EndsAt w z) (sym (class_behind-along path front rest)) ends;
  }

  -- a constrained path with such a front leads to the pin and on
  pub record IsSplit (From : ℕ → Type 0) (v : ℕ) (k : Class) : Type 0 where
    pub reached : IsReached (walk_of w) (BeginsAt w From) v k
    pub leads : LeadsOn (walk_of w) (EndsAt w) v k

  pub IsSplit-from_node : (From : ℕ → Type 0) (v : ℕ) (k : Class) (node : IsNode w v k) → From node.path.launch → IsSplit From v k
  IsSplit-from_node From v k node from =
      let pin = (path_start w node.path).pin.0 in
      let last = last_pin w.arcs pin node.path.arcs in
      let whole = subst (λ xs. Joined (walk_of w) pin xs last) node.parts (Joined-from_constrained node.path node.room node.constrained) in
      let ends = subst (λ xs. EndsAt w last (class_behind w node.path xs)) node.parts (EndsAt-from_constrained node.path node.room node.constrained) in
      let front = Joined-front (walk_of w) node.front node.rest pin last whole in
      let middle : front.0 ≡ v = sym (Leads-last w.arcs node.front pin front.0 (Leads-from_joined node.front pin front.0 front.1.0)) ∙ sym node.pin_is in
      record {
        reached = subst (IsReached (walk_of w) (BeginsAt w From) v) (sym node.class_is)
            (reached-front From node.path node.constrained.is_path.launch from node.front v (subst (Joined (walk_of w) pin node.front) middle front.1.0));
        leads = subst (LeadsOn (walk_of w) (EndsAt w) v) (sym node.class_is)
            (leads-rest node.path node.front node.rest v last (subst (λ a. Joined (walk_of w) a node.rest last) middle front.1.1) ends);
      }

  pub record IsItemSplit (From : ℕ → Type 0) (x : ArcId) (k : Class) : Type 0 where
    pub below : x.0 < length w.arcs
    pub inside : is_inside w.design.places w.root (arc_at w.arcs x.0).home ≡ true
    pub reached : IsReached (walk_of w) (BeginsAt w From) (arc_at w.arcs x.0).from k
    pub leads : LeadsOn (walk_of w) (EndsAt w) (arc_at w.arcs x.0).to (class_at w.all k (arc_at w.arcs x.0).to)

  pub IsItemSplit-from_item : (From : ℕ → Type 0) (x : ArcId) (k : Class) (item : IsItem w x k) → From item.path.launch → IsItemSplit From x k
  IsItemSplit-from_item From x k item from =
      let pin = (path_start w item.path).pin.0 in
      let last = last_pin w.arcs pin item.path.arcs in
      let whole = subst (λ xs. Joined (walk_of w) pin xs last) item.parts (Joined-from_constrained item.path item.room item.constrained) in
      let ends = subst (λ xs. EndsAt w last (class_behind w item.path xs)) item.parts (EndsAt-from_constrained item.path item.room item.constrained) in
      let front = Joined-front (walk_of w) item.front (x ∷ item.rest) pin last whole in
      record {
        below = front.1.1.0.0;
        inside = front.1.1.0.1;
        reached = subst (IsReached (walk_of w) (BeginsAt w From) (arc_at w.arcs x.0).from) (sym item.class_is)
            (reached-front From item.path item.constrained.is_path.launch from item.front (arc_at w.arcs x.0).from
            (subst (Joined (walk_of w) pin item.front) (sym front.1.1.1) front.1.0));
        leads = subst (λ j. LeadsOn (walk_of w) (EndsAt w) (arc_at w.arcs x.0).to (class_at w.all j (arc_at w.arcs x.0).to)) (sym item.class_is)
            (record {
              rest = item.rest;
              pin = last;
              joined = front.1.1.2;
              ends = subst (EndsAt w last) (sym (class_behind-along item.path item.front (x ∷ item.rest))) ends;
            });
      }

  -- ---- and back: what is reached and leads on is split off a constrained path
  -- the launch and the arcs of a state that is reached
  pub reached_path : {From : ℕ → Type 0} {v : ℕ} {k : Class} → IsReached (walk_of w) (BeginsAt w From) v k → TimingPath
  reached_path reached = record { launch = reached.begins.launch; arcs = reached.front }

  pub class-reached : (From : ℕ → Type 0) (v : ℕ) (k : Class) (reached : IsReached (walk_of w) (BeginsAt w From) v k) (arcs : List ArcId)
      → k ≡ class_behind w (record { launch = reached.begins.launch; arcs = arcs }) reached.front
  class-reached From v k reached arcs =
      reached.class_is
      ∙ (ap (λ j. along (walk_of w) j (map (pin_behind (walk_of w)) reached.front)) reached.begins.class_is
      ∙ class_behind-along (record { launch = reached.begins.launch; arcs = arcs }) [] reached.front)

  pub joined-reached : (From : ℕ → Type 0) (v : ℕ) (k : Class) (reached : IsReached (walk_of w) (BeginsAt w From) v k)
      → Joined (walk_of w) (launch_at w.all.launches reached.begins.launch).pin.0 reached.front v
  joined-reached From v k reached = subst (λ u. Joined (walk_of w) u reached.front v) (sym reached.begins.pin_is) reached.joined

  constrained-through : (From : ℕ → Type 0) (v : ℕ) (k : Class) (reached : IsReached (walk_of w) (BeginsAt w From) v k) (rest : List ArcId) (z : ℕ)
      → Joined (walk_of w) v rest z → EndsAt w z (along (walk_of w) k (map (pin_behind (walk_of w)) rest)) → 0 < length (reached.front ++ rest)
      → (room : ℤ) × IsConstrained w (record { launch = reached.begins.launch; arcs = reached.front ++ rest }) room
  constrained-through From v k reached rest z joined ends some =
      let here = subst (EndsAt w z)
      (ap (λ j. along (walk_of w) j (map (pin_behind (walk_of w)) rest)) (class-reached From v k reached (reached.front ++ rest))
      ∙ class_behind-along (record { launch = reached.begins.launch; arcs = reached.front ++ rest }) reached.front rest) ends in (
        here.0 -ℤ (launch_at w.all.launches reached.begins.launch).offset,
        constrained-from reached.begins.launch (reached.front ++ rest) z reached.begins.number some
            (Joined-append (walk_of w) reached.front rest (launch_at w.all.launches reached.begins.launch).pin.0 v z (joined-reached From v k reached) joined) here,
      )

  pub IsItem-from_split : (From : ℕ → Type 0) (x : ArcId) (k : Class) → IsItemSplit From x k → (item : IsItem w x k) × From item.path.launch
  IsItem-from_split From x k split =
      let constrained = constrained-through From (arc_at w.arcs x.0).from k split.reached (x ∷ split.leads.rest) split.leads.pin
      ((split.below, split.inside), refl, split.leads.joined) split.leads.ends (some-behind split.reached.front x split.leads.rest) in (
        record {
          path = record { launch = split.reached.begins.launch; arcs = split.reached.front ++ x ∷ split.leads.rest };
          room = constrained.0;
          constrained = constrained.1;
          front = split.reached.front;
          rest = split.leads.rest;
          parts = refl;
          class_is = class-reached From (arc_at w.arcs x.0).from k split.reached (split.reached.front ++ x ∷ split.leads.rest);
        },
        split.reached.begins.from,
      )

  module _ (apart : All (λ l. All (λ x. l.pin.0 ≡ x.pin.0 → ⊥) w.all.captures) w.all.launches) where
    -- no class ends where a launch begins
    pub never_ends : (From : ℕ → Type 0) (v : ℕ) (k j : Class) → BeginsAt w From v k → EndsAt w v j → ⊥
    never_ends From v k j begins ends =
        let none = least_asked-none w.all.captures v (class_requirement w.all j)
        (subst (λ u. All (λ x. u ≡ x.pin.0 → ⊥) w.all.captures) begins.pin_is (apart begins.launch (launch_at [] 0) begins.number)) in
        none-some ends.0 (sym (ap least none) ∙ ends.1)

    pub IsNode-from_split : (From : ℕ → Type 0) (v : ℕ) (k : Class) → IsSplit From v k → (node : IsNode w v k) × From node.path.launch
    IsNode-from_split From v k split =
        let constrained = constrained-through From v k split.reached split.leads.rest split.leads.pin split.leads.joined split.leads.ends
        (some-append split.reached.front split.leads.rest (λ e f. not_both split.reached split.leads e f)) in (
          record {
            path = record { launch = split.reached.begins.launch; arcs = split.reached.front ++ split.leads.rest };
            room = constrained.0;
            constrained = constrained.1;
            front = split.reached.front;
            rest = split.leads.rest;
            parts = refl;
            pin_is = sym (Leads-last w.arcs split.reached.front (launch_at w.all.launches split.reached.begins.launch).pin.0 v
                (Leads-from_joined split.reached.front (launch_at w.all.launches split.reached.begins.launch).pin.0 v (joined-reached From v k split.reached)));
            class_is = class-reached From v k split.reached (split.reached.front ++ split.leads.rest);
          },
          split.reached.begins.from,
        )
      where
        not_both : (reached : IsReached (walk_of w) (BeginsAt w From) v k) (leads : LeadsOn (walk_of w) (EndsAt w) v k) → reached.front ≡ [] → leads.rest ≡ [] → ⊥
        not_both reached leads front rest =
            let here : reached.pin ≡ v = subst (λ xs. Joined (walk_of w) reached.pin xs v) front reached.joined in
            let there : v ≡ leads.pin = subst (λ xs. Joined (walk_of w) v xs leads.pin) rest leads.joined in
            never_ends From v reached.first (along (walk_of w) k (map (pin_behind (walk_of w)) leads.rest))
            (subst (λ u. BeginsAt w From u reached.first) here reached.begins)
            (subst (λ u. EndsAt w u (along (walk_of w) k (map (pin_behind (walk_of w)) leads.rest))) (sym there) leads.ends)
