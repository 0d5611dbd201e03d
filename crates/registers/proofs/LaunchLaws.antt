-- Launch edges by the marks of pins are those by the entries.
use Rattle.std.specs.List.{All, AllPairs, Contains, list_all, list_any}
use Rattle.std.specs.Option.{option_map}
use Rattle.std.proofs.Common.{◌≡◌, ℕ, ◌+◌, ◌<◌, ◌≤◌, ◌⊎◌, ◌==◌, ◌&&◌, ◌||◌, not, nat_lt, Bool, true, false, cond, List, [], ◌∷◌, ◌++◌, length, get_or, Option, Some, None, refl, sym, ap, subst, ◌∙◌, inl, inr, arith, true≢false}
use Rattle.std.proofs.lemmas.Bool.{cases_eq, cases_lt, lt-ltb}
use Rattle.std.proofs.lemmas.Option.{same_Some, none-some}
use Rattle.std.proofs.lemmas.List.{get_or_past}
use Rattle.std.proofs.lemmas.List.Elements.{All-nil, All-push, All-weaker, Contains-push, Contains-append_left}
use Rattle.std.proofs.lemmas.List.Quantifiers.{all_pairs_push}
use Rattle.bud_base.specs.declared.ids.PinId.{PinId}
use Rattle.bud_syntax.specs.declared.edges.Edge.{Edge}
use Rattle.bud_syntax.specs.declared.edges.Edge.TheVariants.{Rise, Fall}
use Rattle.bud_design.specs.declared.timings.LaunchEdge.{LaunchEdge}
use Rattle.bud_design.specs.Designs.{Design}
use Rattle.bud_design.specs.Lists.{Lists}
use Rattle.bud_design.specs.Orders.{same_edge, edge_pin_before}
use Rattle.registers.specs.Registers.{has_edge, one_edge, or_else_edges, named_edges, check_edges, launch_edge, is_clock_pin, IsLaunchEdge}
use Rattle.registers.specs.Marks.{mark_at, set_at, set_of, is_empty_set, or_else_set, only_by, only_edge}
use Rattle.registers.specs.Launches.{marked_edge, launch_by, marked_launch, IsListedLaunch, AreLaunches, HasPinRoom}
use Rattle.registers.specs.RegisterMarks.{AreMarks}
use Rattle.registers.specs.declared.entries.Through.{Through}
use Rattle.registers.specs.declared.entries.Setup.{Setup}
use Rattle.registers.specs.declared.edge_sets.EdgeSet.{EdgeSet}
use Rattle.registers.specs.declared.register_marks.RegisterMarks.{RegisterMarks}
use Rattle.registers.proofs.Filtering.{pairs-nil}

all_rise : (es : List Edge) → list_all (same_edge Rise) es ≡ not (has_edge Fall es)
all_rise [] = refl
all_rise (Rise ∷ es) = all_rise es
all_rise (Fall ∷ es) = refl

all_fall : (es : List Edge) → list_all (same_edge Fall) es ≡ not (has_edge Rise es)
all_fall [] = refl
all_fall (Rise ∷ es) = refl
all_fall (Fall ∷ es) = all_fall es

rise-by : (b : Bool) → only_by true b ≡ cond (not b) (Some Rise) None
rise-by true = refl
rise-by false = refl

fall-by : (b : Bool) → only_by b true ≡ cond (not b) (Some Fall) None
fall-by true = refl
fall-by false = refl

only_set : (es : List Edge) → only_edge (set_of es) ≡ one_edge es
only_set [] = refl
only_set (Rise ∷ es) = rise-by (has_edge Fall es) ∙ ap (λ b. cond b (Some Rise) None) (sym (all_rise es))
only_set (Fall ∷ es) = fall-by (has_edge Rise es) ∙ ap (λ b. cond b (Some Fall) None) (sym (all_fall es))

else-by : (b : Bool) (x : EdgeSet) → cond (not b && false) x (record { rise = b; fall = true }) ≡ record { rise = b; fall = true }
else-by true x = refl
else-by false x = refl

or_else-sets : (es others : List Edge) → or_else_set (set_of es) (set_of others) ≡ set_of (or_else_edges es others)
or_else-sets [] others = refl
or_else-sets (Rise ∷ es) others = refl
or_else-sets (Fall ∷ es) others = else-by (has_edge Rise es) (set_of others)

module _ (d : Design) (ts : List Through) (ss : List Setup) (m : RegisterMarks) (marks : AreMarks d ts ss m) where
  pub edge_is : (v : ℕ) → v < length d.pins → marked_edge m v ≡ launch_edge ts ss v
  edge_is v below =
      ap (λ s. only_edge (or_else_set s (set_at m.edges.items v))) (marks.named v (omega (arith, below, marks.named_pins)))
      ∙ (ap (λ s. only_edge (or_else_set (set_of (named_edges ts v)) s)) (marks.edges v (omega (arith, below, marks.edge_pins)))
      ∙ (ap only_edge (or_else-sets (named_edges ts v) (check_edges ss v)) ∙ only_set (or_else_edges (named_edges ts v) (check_edges ss v))))

  pub clock_within : (v : ℕ) → is_clock_pin ss v ≡ true → v < length d.pins
  clock_within v clock = elim (cases_lt v (length d.pins)) [
    | inl below ↦ below
    | inr past ↦ absurd (true≢false (sym clock ∙ (sym (marks.clocks v) ∙ get_or_past m.clocks.items v false (omega (arith, past, marks.clock_pins)))))
  ]

  launch-some : (clock : Bool) (v : ℕ) (edge : Option Edge) (x : LaunchEdge) → launch_by clock v edge ≡ Some x → (clock ≡ true) × ((v ≡ x.pin.0) × (edge ≡ Some x.edge))
  launch-some true v (Some e) x is = let same : record { pin = record { 0 = v }; edge = e } ≡ x = same_Some (record { pin = record { 0 = v }; edge = e }) x is in
      (refl, (ap (λ (y : LaunchEdge). y.pin.0) same, ap (λ (y : LaunchEdge). Some y.edge) same))
  launch-some true v None x is = absurd (none-some x is)
  launch-some false v edge x is = absurd (none-some x is)

  launch_is : (x : LaunchEdge) → marked_launch m x.pin.0 ≡ Some x → x.pin.0 < length d.pins → IsLaunchEdge ts ss x
  launch_is x is below =
      let parts = launch-some (mark_at m.clocks.items x.pin.0) x.pin.0 (marked_edge m x.pin.0) x is in
      record { clock_pin = sym (marks.clocks x.pin.0) ∙ parts.0; edge = sym (edge_is x.pin.0 below) ∙ parts.1.1 }

  is_launch : (x : LaunchEdge) → IsLaunchEdge ts ss x → marked_launch m x.pin.0 ≡ Some x
  is_launch x such = rw (marks.clocks x.pin.0 ∙ such.clock_pin, edge_is x.pin.0 (clock_within x.pin.0 such.clock_pin) ∙ such.edge) refl

  -- the marks have room for the pins
  pub pin_room : HasPinRoom m (length d.pins)
  pin_room = record { clocks = marks.clock_pins; checked = marks.checked_pins; named = marks.named_pins; edges = marks.edge_pins }

  pub Lists-launches : (edges : List LaunchEdge) → AreLaunches m (length d.pins) edges → Lists edge_pin_before (IsLaunchEdge ts ss) edges
  Lists-launches edges are = record {
    rising = are.rising;
    sound = All-weaker (IsListedLaunch m (length d.pins)) (IsLaunchEdge ts ss) (λ x listed. launch_is x listed.is listed.below) edges are.sound;
    complete = λ x such. are.complete x (clock_within x.pin.0 such.clock_pin) (is_launch x such);
  }

pub AreLaunches-none : (m : RegisterMarks) → AreLaunches m 0 []
AreLaunches-none m = record {
  rising = pairs-nil (λ x y. edge_pin_before x y ≡ true);
  sound = All-nil (IsListedLaunch m 0);
  complete = λ x below is. absurd (omega (arith, below));
}

module _ (m : RegisterMarks) (count : ℕ) (edges : List LaunchEdge) (so_far : AreLaunches m count edges) where
  later : (x : LaunchEdge) → IsListedLaunch m count x → IsListedLaunch m (count + 1) x
  later x listed = record { is = listed.is; below = omega (arith, listed.below) }

  pub AreLaunches-skip : marked_launch m count ≡ None → AreLaunches m (count + 1) edges
  AreLaunches-skip none = record {
    rising = so_far.rising;
    sound = All-weaker (IsListedLaunch m count) (IsListedLaunch m (count + 1)) later edges so_far.sound;
    complete = λ x below is. elim (cases_eq x.pin.0 count) [
      | inl same ↦ absurd (none-some x (sym none ∙ (sym (ap (marked_launch m) same) ∙ is)))
      | inr differs ↦ so_far.complete x (omega (arith, below)) is
    ];
  }

  pin-by : (clock : Bool) (v : ℕ) (edge : Option Edge) (x : LaunchEdge) → launch_by clock v edge ≡ Some x → v ≡ x.pin.0
  pin-by true v (Some e) x is = ap (λ (y : LaunchEdge). y.pin.0) (same_Some (record { pin = record { 0 = v }; edge = e }) x is)
  pin-by true v None x is = absurd (none-some x is)
  pin-by false v edge x is = absurd (none-some x is)

  pub AreLaunches-more : (new : LaunchEdge) → marked_launch m count ≡ Some new → AreLaunches m (count + 1) (edges ++ new ∷ [])
  AreLaunches-more new some =
      let pin : count ≡ new.pin.0 = pin-by (mark_at m.clocks.items count) count (marked_edge m count) new some in
      record {
        rising = all_pairs_push (λ x y. edge_pin_before x y ≡ true) edges new so_far.rising (λ k d below.
            lt-ltb (get_or edges k d).pin.0 new.pin.0 (let low = (so_far.sound k d below).below in omega (arith, low, pin)));
        sound = All-push (IsListedLaunch m (count + 1)) edges new (All-weaker (IsListedLaunch m count) (IsListedLaunch m (count + 1)) later edges so_far.sound)
            (record { is = subst (λ v. marked_launch m v ≡ Some new) pin some; below = omega (arith, pin) });
        complete = λ x below is. elim (cases_eq x.pin.0 count) [
          | inl same ↦
              let both : Some new ≡ Some x = sym some ∙ (sym (ap (marked_launch m) same) ∙ is) in
              subst (Contains (edges ++ new ∷ [])) (same_Some new x both) (Contains-push edges new)
          | inr differs ↦ Contains-append_left edges (new ∷ []) x (so_far.complete x (omega (arith, below)) is)
        ];
      }
