-- An exploration, step by step.
use Rattle.std.proofs.Common.{◌≡◌, ℕ, suc, ◌+◌, ◌<◌, ◌≤◌, ◌⊎◌, List, [], ◌∷◌, ◌++◌, length, Option, Some, None, sym, ◌∙◌, ap, subst, inl, inr, arith, length-append}
use Rattle.std.specs.Prelude.{All, AllPairs, pos, slice_index_or}
use Rattle.std.proofs.Math.ListN.{get_or-append}
use Rattle.std.proofs.Math.Seq.{get_or-append_seam}
use Rattle.bud_base.specs.declared.ids.ArcId.{ArcId}
use Rattle.bud_base.specs.declared.ids.NodeId.{NodeId}
use Rattle.bud_design.specs.declared.clocks.Launch.{Launch}
use Rattle.bud_design.specs.declared.layers.Class.{Class}
use Rattle.bud_design.specs.Layers.{class_number}
use Rattle.path_states.specs.declared.tables.State.{State}
use Rattle.std.proofs.lemmas.Bool.{cases_lt, cases_eq}
use Rattle.bud_base.specs.Paths.{item_at}
use Rattle.bud_base.specs.Leaving.{leaving_from}
use Rattle.bud_base.specs.declared.ids.ItemId.{ItemId}
use Rattle.bud_base.specs.declared.problems.Item.{Item}
use Rattle.bud_base.proofs.LeavingLemmas.{IsFirstLeaving, leaving_from-some, leaving_from-none}
use Rattle.bud_design.specs.declared.clocks.Constraints.{Constraints}
use Rattle.bud_design.specs.Exceptions.{class_of, class_at}
use Rattle.bud_design.specs.TimingPaths.{launch_at}
use Rattle.path_states.specs.Tables.{Table, Keeps, IsWithin, state_at, pin_at, class_in, launch_in, arc_in, from_in, to_in}
use Rattle.path_states.specs.Entering.{Enters}
use Rattle.path_states.specs.Exploring.{IsEdge, IsBegun, IsCaused, HasBegin, AreTried, IsExploring, IsExplored, Follows, AddsEdge, CanFollow}
use Rattle.path_states.proofs.KeptFacts.{IsEdge-kept, IsBegun-kept, IsCaused-kept, HasEdge-kept, AreTried-kept, HasBegin-kept}

causes-kept : (all : Constraints) (old new : Table) → Keeps old new → (i : ℕ) → i < length old.states → IsBegun all old i ⊎ IsCaused old i → IsBegun all new i ⊎ IsCaused new i
causes-kept all old new keeps i below (inl begun) = inl (IsBegun-kept old new keeps all i below begun)
causes-kept all old new keeps i below (inr caused) = inr (IsCaused-kept old new keeps i below caused)

-- the next launch begins, when each state has its edges
pub IsExploring-begun : (arcs : List Item) (all : Constraints) (old new : Table) (n i : ℕ) → n < length all.launches → IsExploring arcs all old (length old.states) n n
    → Enters old new i (launch_at all.launches n).pin.0 (class_of all (launch_at all.launches n) ((launch_at all.launches n).pin.0 ∷ [])) n
    → IsExploring arcs all new (length old.states) n (suc n)
IsExploring-begun arcs all old new n i number exploring enters = record {
  states = record {
    lists = enters.lists;
    edges = λ e below.
        let before : e < length old.edges = omega (arith, below, ap (λ (xs : List Item). length xs) enters.edges) in
        IsEdge-kept old new enters.keeps arcs all e before (exploring.states.edges e before);
    causes = λ j below. elim (cases_lt j (length old.states)) [
      | inl before ↦ causes-kept all old new enters.keeps j before (exploring.states.causes j before)
      | inr past ↦ inl (begun j (enters.fresh j past below).0 (enters.fresh j past below).1)
    ];
  };
  few = enters.keeps.states;
  tried = λ j before. AreTried-kept old new enters.keeps arcs j (length arcs) before (exploring.tried j before);
  latest = λ j below. elim (cases_lt j (length old.states)) [
    | inl before ↦ omega (arith, enters.keeps.launch j before, exploring.latest j before)
    | inr past ↦ omega (arith, (enters.fresh j past below).1)
  ];
  waiting = λ j past below. (enters.fresh j past below).1;
  have_begun = λ m below. elim (cases_lt m n) [
    | inl before ↦ HasBegin-kept old new enters.keeps all m (exploring.have_begun m before)
    | inr past ↦
        let same : n ≡ m = omega (arith, past, below) in
        subst (HasBegin all new) same (record {
          state = i;
          within = enters.number;
          pin = enters.pin;
          «class» = enters.«class»;
          earlier = elim (cases_lt i (length old.states)) [
            | inl before ↦ omega (arith, enters.keeps.launch i before, exploring.latest i before)
            | inr behind ↦ omega (arith, (enters.fresh i behind enters.number).1)
          ];
        })
  ];
}
  where
    begun : (j : ℕ) → j ≡ i → launch_in new j ≡ n → IsBegun all new j
    begun j same launch = record {
      number = omega (arith, launch, number);
      pin = ap (pin_at new) same ∙ (enters.pin ∙ ap (λ m. (launch_at all.launches m).pin.0) (sym launch));
      «class» = ap (class_in new) same ∙ (enters.«class» ∙ ap (λ m. class_of all (launch_at all.launches m) ((launch_at all.launches m).pin.0 ∷ [])) (sym launch));
    }

pub IsExploring-begun_by : (arcs : List Item) (all : Constraints) (old new : Table) (n i : ℕ) (l : Launch) (k : Class) → launch_at all.launches n ≡ l
    → k ≡ class_of all l (l.pin.0 ∷ []) → n < length all.launches → IsExploring arcs all old (length old.states) n n → Enters old new i l.pin.0 k n
    → IsExploring arcs all new (length old.states) n (suc n)
IsExploring-begun_by arcs all old new n i l k launch is_class number exploring enters =
    IsExploring-begun arcs all old new n i number exploring
    (subst (λ m. Enters old new i m.pin.0 (class_of all m (m.pin.0 ∷ [])) n) (sym launch) (subst (λ j. Enters old new i l.pin.0 j n) is_class enters))

Keeps-join : (first middle last : Table) → Keeps first middle → Keeps middle last → Keeps first last
Keeps-join first middle last one two = record {
  states = omega (arith, one.states, two.states);
  edges = omega (arith, one.edges, two.edges);
  pin = λ i below. two.pin i (omega (arith, below, one.states)) ∙ one.pin i below;
  «class» = λ i below. two.«class» i (omega (arith, below, one.states)) ∙ one.«class» i below;
  launch = λ i below. two.launch i (omega (arith, below, one.states)) ∙ one.launch i below;
  from = λ e below. two.from e (omega (arith, below, one.edges)) ∙ one.from e below;
  to = λ e below. two.to e (omega (arith, below, one.edges)) ∙ one.to e below;
  arc = λ e below. two.arc e (omega (arith, below, one.edges)) ∙ one.arc e below;
}

length-behind : {X : Type 0} (xs ys : List X) (x : X) → ys ≡ xs ++ x ∷ [] → length ys ≡ suc (length xs)
length-behind {X} xs ys x is = let long = ap (λ (zs : List X). length zs) is ∙ length-append xs (x ∷ []) in omega (arith, long)

module _ (old new : Table) (from to : NodeId) (arc : ArcId) (adds : AddsEdge old new from to arc) (lists : IsWithin old) where
  edge_kept : (e : ℕ) → e < length old.edges → item_at new.edges e ≡ item_at old.edges e
  edge_kept e below = ap (λ xs. item_at xs e) adds.edges ∙ get_or-append old.edges (record { from = from; to = to; least = pos 0; greatest = pos 0; weight = 0 } ∷ []) (item_at [] 0) e below

  Keeps-added : Keeps old new
  Keeps-added = record {
    states = omega (arith, ap (λ (xs : List State). length xs) adds.states);
    edges = omega (arith, length-behind old.edges new.edges (record { from = from; to = to; least = pos 0; greatest = pos 0; weight = 0 }) adds.edges);
    pin = λ i below. ap (λ xs. (state_at xs i).pin.0) adds.states;
    «class» = λ i below. ap (λ ks. class_number ks (state_at new.states i).kind) adds.kinds ∙ ap (λ xs. class_number old.kinds (state_at xs i).kind) adds.states;
    launch = λ i below. ap (λ xs. slice_index_or xs i 0) adds.launches;
    from = λ e below. ap (λ (x : Item). x.from.0) (edge_kept e below);
    to = λ e below. ap (λ (x : Item). x.to.0) (edge_kept e below);
    arc = λ e below. ap (λ xs. (slice_index_or {A = ArcId} xs e (record { 0 = 0 })).0) adds.arcs
        ∙ ap (λ (x : ArcId). x.0) (get_or-append old.arcs (arc ∷ []) (record { 0 = 0 }) e (omega (arith, below, lists.arcs)));
  }

  edge_last : item_at new.edges (length old.edges) ≡ record { from = from; to = to; least = pos 0; greatest = pos 0; weight = 0 }
  edge_last = ap (λ xs. item_at xs (length old.edges)) adds.edges ∙ get_or-append_seam old.edges (record { from = from; to = to; least = pos 0; greatest = pos 0; weight = 0 }) [] (item_at [] 0)

  arc_last : arc_in new (length old.edges) ≡ arc.0
  arc_last =
      ap (λ e. arc_in new e) (sym lists.arcs)
      ∙ (ap (λ xs. (slice_index_or {A = ArcId} xs (length old.arcs) (record { 0 = 0 })).0) adds.arcs ∙ ap (λ (x : ArcId). x.0) (get_or-append_seam old.arcs arc [] (record { 0 = 0 })))

  IsWithin-added : IsWithin new
  IsWithin-added = record {
    launches = ap (λ (xs : List ℕ). length xs) adds.launches ∙ (lists.launches ∙ sym (ap (λ (xs : List State). length xs) adds.states));
    arcs = length-behind old.arcs new.arcs arc adds.arcs
        ∙ (ap suc lists.arcs ∙ sym (length-behind old.edges new.edges (record { from = from; to = to; least = pos 0; greatest = pos 0; weight = 0 }) adds.edges));
    kinds = subst (λ xs. All (λ (s : State). s.kind < length new.kinds) xs) (sym adds.states) (subst (λ ks. All (λ (s : State). s.kind < length ks) old.states) (sym adds.kinds) lists.kinds);
    different = subst (λ ks. AllPairs (λ (j k : Class). j ≡ k → ⊥) ks) (sym adds.kinds) lists.different;
  }

same-along : (all : Constraints) (k : Class) (j j' : Class) (v v' : ℕ) → j' ≡ j → v' ≡ v → k ≡ class_at all j v → k ≡ class_at all j' v'
same-along all k j j' v v' js vs is = rw (js, vs) is

-- the state behind an arc is entered, and the edge is put behind the others
pub Follows-added : (arcs : List Item) (all : Constraints) (old middle new : Table) (from to : NodeId) (arc : ArcId) (n v : ℕ) (k : Class) → CanFollow arcs old from.0 arc.0 n
    → Enters old middle to.0 v k n → AddsEdge middle new from to arc → v ≡ (item_at arcs arc.0).to.0 → k ≡ class_at all (class_in old from.0) v → Follows arcs all old new from.0 arc.0 n
Follows-added arcs all old middle new from to arc n v k can enters adds pin_is class_is =
    let keeps_added = Keeps-added middle new from to arc adds enters.lists in
    let keeps = Keeps-join old middle new enters.keeps keeps_added in
    let last = edge_last middle new from to arc adds enters.lists in
    let place : length old.edges ≡ length middle.edges = ap (λ (xs : List Item). length xs) (sym enters.edges) in
    let from_is : from_in new (length old.edges) ≡ from.0 = ap (from_in new) place ∙ ap (λ (x : Item). x.from.0) last in
    let to_is : to_in new (length old.edges) ≡ to.0 = ap (to_in new) place ∙ ap (λ (x : Item). x.to.0) last in
    let arc_is : arc_in new (length old.edges) ≡ arc.0 = ap (arc_in new) place ∙ arc_last middle new from to arc adds enters.lists in
    let same_states : length new.states ≡ length middle.states = ap (λ (xs : List State). length xs) adds.states in
    let pin_to : pin_at new (to_in new (length old.edges)) ≡ v = ap (pin_at new) to_is ∙ (keeps_added.pin to.0 enters.number ∙ enters.pin) in
    record {
      keeps = keeps;
      lists = IsWithin-added middle new from to arc adds enters.lists;
      one = length-behind middle.edges new.edges (record { from = from; to = to; least = pos 0; greatest = pos 0; weight = 0 }) adds.edges ∙ ap suc (sym place);
      edge = record {
        from = omega (arith, from_is, can.state, enters.keeps.states, same_states);
        to = omega (arith, to_is, enters.number, same_states);
        arc = omega (arith, arc_is, can.within);
        leaves = ap (λ a. (item_at arcs a).from.0) arc_is ∙ (can.leaves ∙ sym (ap (pin_at new) from_is ∙ keeps.pin from.0 can.state));
        enters = ap (λ a. (item_at arcs a).to.0) arc_is ∙ (sym pin_is ∙ sym pin_to);
        goes = ap (class_in new) to_is ∙ (keeps_added.«class» to.0 enters.number ∙ (enters.«class»
            ∙ same-along all k (class_in old from.0) (class_in new (from_in new (length old.edges))) v (pin_at new (to_in new (length old.edges)))
            (ap (class_in new) from_is ∙ keeps.«class» from.0 can.state) pin_to class_is));
        earlier = omega (arith, ap (launch_in new) to_is ∙ keeps_added.launch to.0 enters.number, to_launch, ap (launch_in new) from_is ∙ (keeps.launch from.0 can.state ∙ can.launch));
      };
      leaves_state = from_is;
      along = arc_is;
      fresh = λ j past below.
          let fresh = enters.fresh j past (omega (arith, below, same_states)) in
          (to_is ∙ sym fresh.0, keeps_added.launch j (omega (arith, below, same_states)) ∙ fresh.1);
    }
  where
    to_launch : launch_in middle to.0 ≤ n
    to_launch = elim (cases_lt to.0 (length old.states)) [
      | inl before ↦ omega (arith, enters.keeps.launch to.0 before, can.latest to.0 before)
      | inr past ↦ omega (arith, (enters.fresh to.0 past enters.number).1)
    ]

-- one edge more
pub IsExploring-followed : (arcs : List Item) (all : Constraints) (old new : Table) (done n a : ℕ) → done < length old.states → IsExploring arcs all old done n (suc n)
    → Follows arcs all old new done a n → IsExploring arcs all new done n (suc n)
IsExploring-followed arcs all old new done n a here exploring follows = record {
  states = record {
    lists = follows.lists;
    edges = λ e below. elim (cases_lt e (length old.edges)) [
      | inl before ↦ IsEdge-kept old new follows.keeps arcs all e before (exploring.states.edges e before)
      | inr past ↦ let same : length old.edges ≡ e = omega (arith, past, below, follows.one) in subst (IsEdge arcs all new) same follows.edge
    ];
    causes = λ j below. elim (cases_lt j (length old.states)) [
      | inl before ↦ causes-kept all old new follows.keeps j before (exploring.states.causes j before)
      | inr past ↦ inr (record {
        edge = length old.edges;
        within = omega (arith, follows.one);
        to = (follows.fresh j past below).0;
        lower = omega (arith, follows.leaves_state, here, past);
        launch = ap (launch_in new) follows.leaves_state
            ∙ (follows.keeps.launch done here ∙ (exploring.waiting done (omega arith) here ∙ sym (follows.fresh j past below).1));
      })
    ];
  };
  few = omega (arith, exploring.few, follows.keeps.states);
  tried = λ j before. AreTried-kept old new follows.keeps arcs j (length arcs) (omega (arith, before, here)) (exploring.tried j before);
  latest = λ j below. elim (cases_lt j (length old.states)) [
    | inl before ↦ omega (arith, follows.keeps.launch j before, exploring.latest j before)
    | inr past ↦ omega (arith, (follows.fresh j past below).1)
  ];
  waiting = λ j past below. elim (cases_lt j (length old.states)) [
    | inl before ↦ follows.keeps.launch j before ∙ exploring.waiting j past before
    | inr behind ↦ (follows.fresh j behind below).1
  ];
  have_begun = λ m below. HasBegin-kept old new follows.keeps all m (exploring.have_begun m below);
}

-- the arcs from the next state's pin, followed up to the next one
pub record IsTaking (arcs : List Item) (all : Constraints) (t : Table) (done n : ℕ) (next : Option ItemId) : Type 0 where
  pub exploring : IsExploring arcs all t done n (suc n)
  pub here : done < length t.states
  pub low : ℕ
  pub from_low : next ≡ leaving_from arcs (pin_at t done) low
  pub followed : AreTried arcs t done low

pub IsTaking-first : (arcs : List Item) (all : Constraints) (t : Table) (done n : ℕ) (next : Option ItemId) → IsExploring arcs all t done n (suc n) → done < length t.states
    → next ≡ leaving_from arcs (pin_at t done) 0 → IsTaking arcs all t done n next
IsTaking-first arcs all t done n next exploring here is = record { exploring = exploring; here = here; low = 0; from_low = is; followed = λ a below. absurd (omega (arith, below)) }

pub IsTaking-found : (arcs : List Item) (all : Constraints) (t : Table) (done n : ℕ) (next : Option ItemId) (a : ItemId) → next ≡ Some a → (taking : IsTaking arcs all t done n next)
    → IsFirstLeaving arcs (pin_at t done) taking.low a.0
IsTaking-found arcs all t done n next a is taking = leaving_from-some arcs (pin_at t done) taking.low a (sym taking.from_low ∙ is)

pub IsTaking-more : (arcs : List Item) (all : Constraints) (old new : Table) (done n : ℕ) (next : Option ItemId) (a : ItemId) (after : Option ItemId) → next ≡ Some a
    → after ≡ leaving_from arcs (item_at arcs a.0).from.0 (a.0 + 1) → Follows arcs all old new done a.0 n → IsTaking arcs all old done n next → IsTaking arcs all new done n after
IsTaking-more arcs all old new done n next a after is behind follows taking =
    let first = IsTaking-found arcs all old done n next a is taking in
    let pin = follows.keeps.pin done taking.here in
    record {
      exploring = IsExploring-followed arcs all old new done n a.0 taking.here taking.exploring follows;
      here = omega (arith, taking.here, follows.keeps.states);
      low = a.0 + 1;
      from_low = behind ∙ ap (λ v. leaving_from arcs v (a.0 + 1)) (first.leaves ∙ sym pin);
      followed = λ b below within leaves. elim (cases_eq b a.0) [
        | inl same ↦ record { edge = length old.edges; within = omega (arith, follows.one); from = follows.leaves_state; arc = follows.along ∙ sym same }
        | inr differs ↦ elim (cases_lt b taking.low) [
          | inl before ↦ HasEdge-kept old new follows.keeps done b (taking.followed b before within (leaves ∙ pin))
          | inr past ↦ absurd (first.between b past (omega (arith, below, differs)) (leaves ∙ pin))
        ]
      ];
    }

pub IsExploring-taken : (arcs : List Item) (all : Constraints) (t : Table) (done n : ℕ) (next : Option ItemId) → next ≡ None → IsTaking arcs all t done n next
    → IsExploring arcs all t (suc done) n (suc n)
IsExploring-taken arcs all t done n next none taking = record {
  states = taking.exploring.states;
  few = omega (arith, taking.here);
  tried = λ i below. elim (cases_lt i done) [
    | inl before ↦ taking.exploring.tried i before
    | inr past ↦ let same : done ≡ i = omega (arith, past, below) in subst (λ j. AreTried arcs t j (length arcs)) same whole
  ];
  latest = taking.exploring.latest;
  waiting = λ i past below. taking.exploring.waiting i (omega (arith, past)) below;
  have_begun = taking.exploring.have_begun;
}
  where
    whole : AreTried arcs t done (length arcs)
    whole = λ a under within leaves. elim (cases_lt a taking.low) [
      | inl before ↦ taking.followed a before within leaves
      | inr past ↦ absurd (leaving_from-none arcs (pin_at t done) taking.low (sym taking.from_low ∙ none) a past within leaves)
    ]

-- the next launch is the latest now
pub IsExploring-next : (arcs : List Item) (all : Constraints) (t : Table) (n : ℕ) → IsExploring arcs all t (length t.states) n (suc n) → IsExploring arcs all t (length t.states) (suc n) (suc n)
IsExploring-next arcs all t n exploring = record {
  states = exploring.states;
  few = exploring.few;
  tried = exploring.tried;
  latest = λ i below. omega (arith, exploring.latest i below);
  waiting = λ i past below. absurd (omega (arith, past, below));
  have_begun = exploring.have_begun;
}

pub IsExplored-from_exploring : (arcs : List Item) (all : Constraints) (t : Table) (n : ℕ) → length all.launches ≤ n → IsExploring arcs all t (length t.states) n n → IsExplored arcs all t
IsExplored-from_exploring arcs all t n whole exploring = record {
  states = exploring.states;
  tried = exploring.tried;
  begun = λ m below. exploring.have_begun m (omega (arith, below, whole));
}
