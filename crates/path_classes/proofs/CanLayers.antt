-- What is placed is in range.
use Rattle.std.proofs.Common.{◌≡◌, ℕ, ◌<◌, ◌≤◌, Bool, List, [], ◌∷◌, length, get_or, map, Option, Some, None, refl, sym, ◌∙◌, ap, subst, arith}
use Rattle.std.specs.Prelude.{All}
use Rattle.std.proofs.lemmas.List.{get_or-map, length-map}
use Rattle.bud_base.specs.declared.problems.Item.{Item}
use Rattle.bud_design.specs.declared.clocks.Constraints.{Constraints}
use Rattle.bud_design.specs.declared.layers.Class.{Class}
use Rattle.bud_design.specs.Layers.{class_number}
use Rattle.bud_design.specs.TimingPaths.{launch_at}
use Rattle.path_states.specs.Tables.{Table, state_at, pin_at, class_in, arc_in}
use Rattle.path_states.specs.Exploring.{IsExplored, PinsBelow}
use Rattle.state_numbers.specs.Ranks.{AreRanked, IsRank, key_at}
use Rattle.state_numbers.specs.declared.placed.Placed.{Placed}
use Rattle.state_numbers.specs.declared.ranks.KindKey.{KindKey}
use Rattle.path_classes.specs.Placing.{classes_of, rank_in, IsNodeOf}
use Rattle.path_classes.specs.Layering.{ArePlaces, CanLayer}
use Rattle.path_classes.proofs.TableFacts.{pin-below, clocks-below}

module _ (arcs : List Item) (all : Constraints) (t : Table) (explored : IsExplored arcs all t) (pins : ℕ) (within : PinsBelow pins arcs all)
    (clocks : All (λ l. l.clock < length all.clocks) all.launches) (live : List Bool) (keys : List KindKey) (ranks : List (Option ℕ)) (ranked : AreRanked t.kinds t.states t.launches live keys ranks) where
  rank-below : (i r : ℕ) → i < length t.states → rank_in ranks t i ≡ Some r → r < length keys
  rank-below i r below is =
      (subst (IsRank keys (length keys) (state_at t.states i).kind) is
      (ranked.ranks_are (state_at t.states i).kind (omega (arith, explored.states.lists.kinds i (state_at [] 0) below, ranked.size)))).0

  clock-of : (k : ℕ) (d : Class) → k < length (classes_of t.kinds keys) → (get_or (classes_of t.kinds keys) k d).clock < length all.clocks
  clock-of k d below =
      let under : k < length keys = omega (arith, below, length-map keys (λ (x : KindKey). class_number t.kinds x.kind)) in
      let has = ranked.firsts k (key_at [] 0) under in
      let clock = clocks-below arcs all t explored clocks has.state has.within in
      let class_is : get_or (classes_of t.kinds keys) k d ≡ class_number t.kinds (key_at keys k).kind = get_or-map (λ (x : KindKey). class_number t.kinds x.kind) keys k (key_at [] 0) d under in
      omega (arith, ap (λ (j : Class). j.clock) class_is, ap (λ c. (class_number t.kinds c).clock) has.alive.kind_is, clock)

  pub CanLayer-of : (nodes items starts : List Placed) → ArePlaces all t live ranks nodes items starts → CanLayer arcs all pins t.kinds keys nodes items starts
  CanLayer-of nodes items starts are = record {
    rising = are.nodes_rise;
    pins_below = λ k d below. let has = are.nodes_are.sound k d below in omega (arith, pin-below arcs all t explored pins within has.0 has.1, has.2.pin);
    classes_below = λ k d below. let has = are.nodes_are.sound k d below in rank-below has.0 (get_or nodes k d).«class» has.1 has.2.rank;
    arcs_below = λ k d below. let has = are.items_are.sound k d below in omega (arith, (explored.states.edges has.0 has.1).arc, has.2.arc);
    launches_below = are.starts_are.within;
    clocks = clock-of;
  }
