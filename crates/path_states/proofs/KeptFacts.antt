-- What a table says stays where its states and edges keep their numbers.
use Rattle.std.proofs.Common.{◌≡◌, ℕ, ◌<◌, List, [], ◌∷◌, length, sym, ◌∙◌, ap, arith}
use Rattle.bud_base.specs.Paths.{item_at}
use Rattle.bud_base.specs.declared.problems.Item.{Item}
use Rattle.bud_design.specs.declared.clocks.Constraints.{Constraints}
use Rattle.bud_design.specs.declared.layers.Class.{Class}
use Rattle.bud_design.specs.Exceptions.{class_at, class_of}
use Rattle.bud_design.specs.TimingPaths.{launch_at}
use Rattle.path_states.specs.Tables.{Table, Keeps, pin_at, class_in, launch_in, from_in, to_in}
use Rattle.path_states.specs.Exploring.{IsEdge, IsBegun, IsCaused, HasEdge, HasBegin, AreTried}

same-goes : (all : Constraints) (k k' j j' : Class) (v v' : ℕ) → k' ≡ k → j' ≡ j → v' ≡ v → k ≡ class_at all j v → k' ≡ class_at all j' v'
same-goes all k k' j j' v v' ks js vs goes = rw (ks, js, vs) goes

module _ (old new : Table) (keeps : Keeps old new) where
  pub IsEdge-kept : (arcs : List Item) (all : Constraints) (e : ℕ) → e < length old.edges → IsEdge arcs all old e → IsEdge arcs all new e
  IsEdge-kept arcs all e below edge =
      let from = keeps.from e below in
      let to = keeps.to e below in
      let arc = keeps.arc e below in
      let pin_from : pin_at new (from_in new e) ≡ pin_at old (from_in old e) = ap (pin_at new) from ∙ keeps.pin (from_in old e) edge.from in
      let pin_to : pin_at new (to_in new e) ≡ pin_at old (to_in old e) = ap (pin_at new) to ∙ keeps.pin (to_in old e) edge.to in
      record {
        from = omega (arith, from, edge.from, keeps.states);
        to = omega (arith, to, edge.to, keeps.states);
        arc = omega (arith, arc, edge.arc);
        leaves = ap (λ a. (item_at arcs a).from.0) arc ∙ (edge.leaves ∙ sym pin_from);
        enters = ap (λ a. (item_at arcs a).to.0) arc ∙ (edge.enters ∙ sym pin_to);
        goes = same-goes all (class_in old (to_in old e)) (class_in new (to_in new e)) (class_in old (from_in old e)) (class_in new (from_in new e))
            (pin_at old (to_in old e)) (pin_at new (to_in new e)) (ap (class_in new) to ∙ keeps.«class» (to_in old e) edge.to)
            (ap (class_in new) from ∙ keeps.«class» (from_in old e) edge.from) pin_to edge.goes;
        earlier = omega (arith, edge.earlier, ap (launch_in new) to ∙ keeps.launch (to_in old e) edge.to, ap (launch_in new) from ∙ keeps.launch (from_in old e) edge.from);
      }

  pub IsBegun-kept : (all : Constraints) (i : ℕ) → i < length old.states → IsBegun all old i → IsBegun all new i
  IsBegun-kept all i below begun =
      let launch = keeps.launch i below in
      record {
        number = omega (arith, launch, begun.number);
        pin = keeps.pin i below ∙ (begun.pin ∙ ap (λ n. (launch_at all.launches n).pin.0) (sym launch));
        «class» = keeps.«class» i below ∙ (begun.«class» ∙ ap (λ n. class_of all (launch_at all.launches n) ((launch_at all.launches n).pin.0 ∷ [])) (sym launch));
      }

  pub IsCaused-kept : (i : ℕ) → i < length old.states → IsCaused old i → IsCaused new i
  IsCaused-kept i below caused =
      let from = keeps.from caused.edge caused.within in
      let first : from_in old caused.edge < length old.states = omega (arith, caused.lower, below) in
      record {
        edge = caused.edge;
        within = omega (arith, caused.within, keeps.edges);
        to = keeps.to caused.edge caused.within ∙ caused.to;
        lower = omega (arith, from, caused.lower);
        launch = ap (launch_in new) from ∙ (keeps.launch (from_in old caused.edge) first ∙ (caused.launch ∙ sym (keeps.launch i below)));
      }

  pub HasEdge-kept : (i a : ℕ) → HasEdge old i a → HasEdge new i a
  HasEdge-kept i a has = record {
    edge = has.edge;
    within = omega (arith, has.within, keeps.edges);
    from = keeps.from has.edge has.within ∙ has.from;
    arc = keeps.arc has.edge has.within ∙ has.arc;
  }

  pub AreTried-kept : (arcs : List Item) (i low : ℕ) → i < length old.states → AreTried arcs old i low → AreTried arcs new i low
  AreTried-kept arcs i low below tried = λ a under within leaves. HasEdge-kept i a (tried a under within (leaves ∙ keeps.pin i below))

  pub HasBegin-kept : (all : Constraints) (n : ℕ) → HasBegin all old n → HasBegin all new n
  HasBegin-kept all n has = record {
    state = has.state;
    within = omega (arith, has.within, keeps.states);
    pin = keeps.pin has.state has.within ∙ has.pin;
    «class» = keeps.«class» has.state has.within ∙ has.«class»;
    earlier = omega (arith, keeps.launch has.state has.within, has.earlier);
  }
