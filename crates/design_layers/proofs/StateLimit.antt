-- The states of a table that have classes with groups are the states of the design that count.
use Rattle.std.proofs.Common.{◌≡◌, ℕ, zero, suc, ◌<◌, ◌≤◌, ◌==◌, ◌&&◌, Bool, true, false, List, [], ◌∷◌, length, get_or, map, nat_lt, refl, sym, ◌∙◌, ap, subst, arith, eq-eqb}
use Rattle.std.specs.Prelude.{All, AllPairs, filter, if◌then◌else◌}
use Rattle.std.specs.Bool.{Decides}
use Rattle.std.proofs.lemmas.List.{get_or-map, length-map}
use Rattle.std.proofs.lemmas.List.Elements.{All-filter, All-map, All-from_get_or, filter_passes}
use Rattle.std.proofs.lemmas.List.Kept.{AllPairs-filter}
use Rattle.bud_base.specs.declared.problems.Item.{Item}
use Rattle.bud_design.specs.Layers.{class_number}
use Rattle.bud_design.specs.TimingPaths.{View}
use Rattle.bud_design.specs.declared.clocks.Constraints.{Constraints}
use Rattle.bud_design.specs.declared.layers.Class.{Class}
use Rattle.layer_theory.specs.LayerAnswers.{IsState, IsCountedState, HasManyStates, is_grouped}
use Rattle.layer_theory.proofs.LayerCounts.{at_most}
use Rattle.layer_theory.proofs.LayerOrder.{IsReached-from_state, IsState-from_reached}
use Rattle.layer_theory.proofs.LayerPlaces.{one-place}
use Rattle.path_states.specs.Exploring.{IsExplored}
use Rattle.path_states.specs.Tables.{Table, state_at, pin_at, class_in}
use Rattle.path_states.specs.declared.tables.State.{State}
use Rattle.state_laws.specs.Views.{HasArcs}
use Rattle.state_laws.proofs.ReachedStates.{some-state, state-from_some}
use Rattle.design_layers.specs.GroupedStates.{grouped_states}

-- the element has a place in the list
pub record IsAmong {X : Type 0} (ys : List X) (x d : X) : Type 0 where
  pub place : ℕ
  pub within : place < length ys
  pub here : get_or ys place d ≡ x

among-if : {X : Type 0} (b : Bool) (y : X) (ys : List X) (x d : X) → IsAmong ys x d → IsAmong (if b then y ∷ ys else ys) x d
among-if true y ys x d among = record { place = suc among.place; within = omega (arith, among.within); here = among.here }
among-if false y ys x d among = among

-- what passes the test is kept
kept-at : {X : Type 0} (p : X → Bool) (xs : List X) (i : ℕ) (d : X) → i < length xs → p (get_or xs i d) ≡ true → IsAmong (filter p xs) (get_or xs i d) d
kept-at p [] i d below passes = absurd (omega (arith, below))
kept-at p (x ∷ xs) zero d below passes =
    let kept : filter p (x ∷ xs) ≡ x ∷ filter p xs = rw passes refl in
    subst (λ ys. IsAmong ys x d) (sym kept) (record { place = 0; within = omega arith; here = refl })
kept-at p (x ∷ xs) (suc i) d below passes = among-if (p x) x (filter p xs) (get_or xs i d) d (kept-at p xs i d (omega (arith, below)) passes)

pub filter-same : {X : Type 0} (p q : X → Bool) (xs : List X) → All (λ x. p x ≡ q x) xs → filter p xs ≡ filter q xs
filter-same p q [] same = refl
filter-same p q (x ∷ xs) same = rw (same 0 x (omega arith), filter-same p q xs (λ k d below. same (suc k) d (omega (arith, below)))) refl

-- states are the same where their pins and classes are
pub State-same : (s u : State) → Decides (s.pin.0 == u.pin.0 && s.kind == u.kind) (s ≡ u)
State-same s u = (
  λ equal. let pins : s.pin.0 ≡ u.pin.0 = grind (arith, equal) in let kinds : s.kind ≡ u.kind = grind (arith, equal) in rw (pins, kinds) refl,
  λ same. let pins = eq-eqb s.pin.0 u.pin.0 (ap (λ (x : State). x.pin.0) same) in let kinds = eq-eqb s.kind u.kind (ap (λ (x : State). x.kind) same) in rw (pins, kinds) refl,
)

-- states whose classes are marked are those whose classes list groups
marked-grouped : (all : Constraints) (t : Table) → All (λ s. s.kind < length t.kinds) t.states
    → filter (λ (s : State). get_or (map (λ (k : Class). is_grouped k.exceptions all) t.kinds) s.kind false) t.states ≡ grouped_states all t
marked-grouped all t within =
    filter-same (λ (s : State). get_or (map (λ (k : Class). is_grouped k.exceptions all) t.kinds) s.kind false) (λ (s : State). is_grouped (class_number t.kinds s.kind).exceptions all) t.states
    (λ k d below. get_or-map (λ (k : Class). is_grouped k.exceptions all) t.kinds (get_or t.states k d).kind (class_number [] 0) false (within k d below))

pub grouped-counted : (all : Constraints) (t : Table) (kinds : List Class) (marks : List Bool) (states : List State) (count : ℕ) → All (λ s. s.kind < length t.kinds) t.states → kinds ≡ t.kinds
    → marks ≡ map (λ (k : Class). is_grouped k.exceptions all) kinds → states ≡ t.states → count ≡ length (filter (λ (s : State). get_or marks s.kind false) states) → count ≡ length (grouped_states all t)
grouped-counted all t kinds marks states count within kinds_are marks_are states_are counted =
    let marks_same : marks ≡ map (λ (k : Class). is_grouped k.exceptions all) t.kinds = marks_are ∙ ap (map (λ (k : Class). is_grouped k.exceptions all)) kinds_are in
    counted
    ∙ (ap (λ (us : List State). length (filter (λ (s : State). get_or marks s.kind false) us)) states_are
    ∙ (ap (λ (ms : List Bool). length (filter (λ (s : State). get_or ms s.kind false) t.states)) marks_same ∙ ap (λ (us : List State). length us) (marked-grouped all t within)))

pair-same : (v u : ℕ) (j k : Class) → v ≡ u → j ≡ k → ◌≡◌ {A = ℕ × Class} (v, j) (u, k)
pair-same v u j k pins classes = rw (pins, classes) refl

module _ (w : View) (arcs : List Item) (has_arcs : HasArcs w arcs) (rise : AllPairs (λ e f. nat_lt e.number f.number ≡ true) w.all.exceptions) (t : Table) (explored : IsExplored arcs w.all t) where
  abbrev counts : State → Bool
  counts s = is_grouped (class_number t.kinds s.kind).exceptions w.all

  abbrev as_pair : State → ℕ × Class
  as_pair s = (s.pin.0, class_number t.kinds s.kind)

  are-states : All (λ s. IsState w s.pin.0 (class_number t.kinds s.kind)) t.states
  are-states = All-from_get_or (λ (s : State). IsState w s.pin.0 (class_number t.kinds s.kind)) t.states (state_at [] 0)
      (λ i below. IsState-from_reached w rise (pin_at t i) (class_in t i) (state-from_some w arcs has_arcs t explored i below))

  same-state : (s u : State) → s.kind < length t.kinds → u.kind < length t.kinds → as_pair s ≡ as_pair u → s ≡ u
  same-state s u first second same =
      let kinds = one-place (λ (j k : Class). j ≡ k → ⊥) (λ (j k : Class). j ≡ k) t.kinds (λ j k equal other. other equal) explored.states.lists.different s.kind u.kind (class_number [] 0) first second
      (ap (λ x. x.1) same) (sym (ap (λ x. x.1) same)) in
      let pins = ap (λ x. x.0) same in
      rw (pins, kinds) refl

  -- different states that count are different states of the design
  pub HasManyStates-of : AllPairs (λ s u. s ≡ u → ⊥) t.states → 8388608 < length (grouped_states w.all t) → HasManyStates w
  HasManyStates-of different more =
      let such = All-filter counts (λ (s : State). IsState w s.pin.0 (class_number t.kinds s.kind)) t.states are-states in
      let within = All-filter counts (λ (s : State). s.kind < length t.kinds) t.states explored.states.lists.kinds in
      let apart = AllPairs-filter (λ (s u : State). s ≡ u → ⊥) counts t.states different in
      record {
        xs = map as_pair (grouped_states w.all t);
        such = All-map (IsCountedState w) as_pair (grouped_states w.all t) (λ k d below. record { state = such k d below; grouped = filter_passes counts t.states k d below });
        different = λ i j d before below same.
            let last : j < length (grouped_states w.all t) = omega (arith, below, length-map (grouped_states w.all t) as_pair) in
            let first : i < length (grouped_states w.all t) = omega (arith, last, before) in
            apart i j (state_at [] 0) before last
            (same-state (state_at (grouped_states w.all t) i) (state_at (grouped_states w.all t) j) (within i (state_at [] 0) first) (within j (state_at [] 0) last)
            (sym (get_or-map as_pair (grouped_states w.all t) i (state_at [] 0) d first) ∙ (same ∙ get_or-map as_pair (grouped_states w.all t) j (state_at [] 0) d last)));
        more = omega (arith, more, length-map (grouped_states w.all t) as_pair);
      }

  -- and each state of the design that counts is a state of the table that counts
  found : (x : ℕ × Class) → IsCountedState w x → (s : State) × ((as_pair s ≡ x) × IsAmong (grouped_states w.all t) s (state_at [] 0))
  found x counted =
      let has = some-state w arcs has_arcs t explored x.0 x.1 (IsReached-from_state w rise has_arcs.inside x.0 x.1 counted.state) in
      let passes : counts (state_at t.states has.state) ≡ true = ap (λ (k : Class). is_grouped k.exceptions w.all) has.class_is ∙ counted.grouped in (
        state_at t.states has.state,
        (pair-same (pin_at t has.state) x.0 (class_in t has.state) x.1 has.pin has.class_is, kept-at counts t.states has.state (state_at [] 0) has.within passes),
      )

  pub HasFewStates-of : length (grouped_states w.all t) ≤ 8388608 → HasManyStates w → ⊥
  HasFewStates-of few many =
      let here : (i : ℕ) → i < length many.xs → (s : State) × ((as_pair s ≡ get_or many.xs i (0, class_number [] 0)) × IsAmong (grouped_states w.all t) s (state_at [] 0))
      = λ i below. found (get_or many.xs i (0, class_number [] 0)) (many.such i (0, class_number [] 0) below) in
      let most = at_most (length many.xs) (length (grouped_states w.all t)) (λ i below. (here i below).1.1.place) (λ i below. (here i below).1.1.within)
      (λ i j first second same.
      one-place (λ (x y : ℕ × Class). x ≡ y → ⊥) (λ (x y : ℕ × Class). x ≡ y) many.xs (λ x y equal other. other equal) many.different i j (0, class_number [] 0) first second
      (equal i j (here i first) (here j second) same) (sym (equal i j (here i first) (here j second) same))) in
      omega (arith, few, most, many.more)
    where
      equal : (i j : ℕ) → (a : (s : State) × ((as_pair s ≡ get_or many.xs i (0, class_number [] 0)) × IsAmong (grouped_states w.all t) s (state_at [] 0)))
          → (b : (s : State) × ((as_pair s ≡ get_or many.xs j (0, class_number [] 0)) × IsAmong (grouped_states w.all t) s (state_at [] 0))) → a.1.1.place ≡ b.1.1.place
          → get_or many.xs i (0, class_number [] 0) ≡ get_or many.xs j (0, class_number [] 0)
      equal i j a b same =
          let states : a.0 ≡ b.0 = sym a.1.1.here ∙ (ap (λ k. state_at (grouped_states w.all t) k) same ∙ b.1.1.here) in
          sym a.1.0 ∙ (ap as_pair states ∙ b.1.0)
