-- What is read from the lists of a table.
use Rattle.std.proofs.Common.{◌≡◌, ℕ, ◌<◌, ◌≤◌, Bool, true, false, List, [], length, get_or, Option, Some, None, refl, sym, ◌∙◌, ap, subst, arith}
use Rattle.std.specs.Prelude.{ℤ}
use Rattle.state_numbers.specs.Placed.{placed_at}
use Rattle.std.proofs.lemmas.List.{get_or_default}
use Rattle.bud_base.specs.Paths.{item_at}
use Rattle.bud_base.specs.declared.ids.ArcId.{ArcId}
use Rattle.bud_base.specs.declared.problems.Item.{Item}
use Rattle.bud_design.specs.declared.clocks.Constraints.{Constraints}
use Rattle.bud_design.specs.declared.layers.Class.{Class}
use Rattle.bud_design.specs.Exceptions.{class_requirement}
use Rattle.bud_design.specs.Layers.{class_number}
use Rattle.bud_design.specs.TimingPaths.{least_asked}
use Rattle.path_states.specs.Tables.{Table, IsWithin, state_at, pin_at, class_in, arc_in, from_in, to_in}
use Rattle.path_states.specs.declared.tables.State.{State}
use Rattle.state_numbers.specs.Ranks.{AreRanked}
use Rattle.state_numbers.specs.declared.ranks.KindKey.{KindKey}
use Rattle.state_numbers.specs.declared.placed.Placed.{Placed}
use Rattle.path_classes.specs.Placing.{rank_in, IsNodeOf, IsItemOf, asked_at}
use Rattle.path_classes.proofs.PlacingSteps.{live-ranked}

-- the class of a state
pub read-class : (t : Table) (ks : List Class) (ss : List State) (i : ℕ) (k : Class) → ks ≡ t.kinds → ss ≡ t.states → IsWithin t → i < length t.states
    → k ≡ get_or ks (state_at ss i).kind k → k ≡ class_in t i
read-class t ks ss i k kinds states lists below is =
    is
    ∙ (ap (λ xs. get_or xs (state_at ss i).kind k) kinds
    ∙ (ap (λ xs. get_or t.kinds (state_at xs i).kind k) states ∙ get_or_default t.kinds (state_at t.states i).kind k (class_number [] 0) (lists.kinds i (state_at [] 0) below)))

-- what captures ask for at a state
pub read-asks : (all : Constraints) (t : Table) (ss : List State) (i : ℕ) (k : Class) (o p : Option ℤ) → o ≡ p → o ≡ least_asked all.captures (state_at ss i).pin.0 (class_requirement all k) → ss ≡ t.states
    → k ≡ class_in t i → least_asked all.captures (pin_at t i) (class_requirement all (class_in t i)) ≡ p
read-asks all t ss i k o p is asks states class_is =
    sym (ap (λ xs. least_asked all.captures (state_at xs i).pin.0 (class_requirement all k)) states ∙ ap (λ j. least_asked all.captures (pin_at t i) (class_requirement all j)) class_is)
    ∙ (sym asks ∙ is)

-- at a node
pub read-node-asks : (all : Constraints) (classes : List Class) (nodes : List Placed) (p : ℕ) (k : Class) (o q : Option ℤ) → o ≡ q
    → o ≡ least_asked all.captures (placed_at nodes p).number (class_requirement all k) → (placed_at nodes p).«class» < length classes → k ≡ get_or classes (placed_at nodes p).«class» k
    → asked_at all classes nodes p ≡ q
read-node-asks all classes nodes p k o q is asks below class_is =
    sym (ap (λ j. least_asked all.captures (placed_at nodes p).number (class_requirement all j)) (class_is ∙ get_or_default classes (placed_at nodes p).«class» k (class_number [] 0) below)) ∙ (sym asks ∙ is)

-- the rank of a state's class
pub read-rank : (t : Table) (ranks rs : List (Option ℕ)) (ss : List State) (i : ℕ) (o : Option ℕ) → rs ≡ ranks → ss ≡ t.states → get_or rs (state_at ss i).kind None ≡ o → rank_in ranks t i ≡ o
read-rank t ranks rs ss i o same states is = sym (ap (λ xs. get_or xs (state_at ss i).kind None) same ∙ ap (λ xs. get_or ranks (state_at xs i).kind None) states) ∙ is

pub never-unranked : (t : Table) (launches : List ℕ) (live : List Bool) (keys : List KindKey) (ranks : List (Option ℕ)) → AreRanked t.kinds t.states launches live keys ranks → IsWithin t → (i : ℕ)
    → i < length t.states → get_or live i false ≡ true → rank_in ranks t i ≡ None → ⊥
never-unranked t launches live keys ranks ranked lists i below alive none =
    live-ranked t.kinds t.states launches live keys ranks ranked i below (lists.kinds i (state_at [] 0) below) alive none

-- the edge's states, its arc and their ranks
pub read-item : (t : Table) (live : List Bool) (ranks rs : List (Option ℕ)) (ss : List State) (es : List Item) (arcs : List ArcId) (e c b : ℕ) → rs ≡ ranks → ss ≡ t.states → es ≡ t.edges → arcs ≡ t.arcs
    → get_or live (item_at es e).to.0 false ≡ true → get_or rs (state_at ss (item_at es e).from.0).kind None ≡ Some c → get_or rs (state_at ss (item_at es e).to.0).kind None ≡ Some b
    → IsItemOf t live ranks e (record { «class» = c; number = (get_or {A = ArcId} arcs e (record { 0 = 0 })).0; with = b })
read-item t live ranks rs ss es arcs e c b same states edges arcs_same alive from to = record {
  alive = ap (λ xs. get_or live (item_at xs e).to.0 false) (sym edges) ∙ alive;
  arc = ap (λ xs. (get_or {A = ArcId} xs e (record { 0 = 0 })).0) (sym arcs_same);
  rank = read-rank t ranks rs ss (from_in t e) (Some c) same states (ap (λ xs. get_or rs (state_at ss (item_at xs e).from.0).kind None) (sym edges) ∙ from);
  behind = read-rank t ranks rs ss (to_in t e) (Some b) same states (ap (λ xs. get_or rs (state_at ss (item_at xs e).to.0).kind None) (sym edges) ∙ to);
}
