-- No wire ends at a source or an input port bit; pins of the whole design are inside its top.
use Rattle.std.proofs.Common.{◌≡◌, ℕ, ◌<◌, ◌==◌, ◌&&◌, ◌||◌, Bool, true, false, List, [], ◌∷◌, length, Option, Some, None, refl, sym, ◌∙◌, ap, subst, arith, true≢false, inl, inr, ◌⊎◌}
use Rattle.std.specs.Prelude.{All}
use Rattle.std.proofs.lemmas.Bool.Decides.{Decides-eqb}
use Rattle.std.proofs.lemmas.List.Elements.{All-weaker, All-contains}
use Rattle.bud_syntax.specs.declared.modules.Dir.{Dir}
use Rattle.bud_syntax.specs.declared.modules.Dir.TheVariants.{Input as InputDir, Output as OutputDir, Inout}
use Rattle.bud_design.specs.declared.designs.Wire.{Wire}
use Rattle.bud_design.specs.declared.clocks.Clock.{Clock}
use Rattle.bud_design.specs.declared.timings.Timing.{Timing}
use Rattle.bud_design.specs.Designs.{Design, place_at, pin_at, is_input, is_output, is_pin_of}
use Rattle.bud_design.specs.DesignRules.{IsDesign, IsWireIn, IsLoad, HasParent}
use Rattle.bud_design.specs.Clocks.{clock_at, Reaches}
use Rattle.bud_design.proofs.Lineages.{is_inside-top}
use Rattle.clock_reach.specs.Leaving.{wire_at}
use Rattle.clock_reach.specs.Walks.{HasWire, Joined, HasSourcesBelow}
use Rattle.clock_reach.specs.Reached.{AreSources}
use Rattle.clock_reach.proofs.ReachLaws.{IsLed-reaches}
use Rattle.timing_objects.specs.declared.things.Role.TheVariants.{Source}
use Rattle.timing_objects.specs.Objects.{Subject, is_source_pin, is_input_bit, is_output_bit}
use Rattle.requirements.specs.SoundScopes.{IsPinAs, AreSoundClocks}
use Rattle.requirements.specs.LeafTimings.{IsLeafPin}
use Rattle.requirements.proofs.JudgedLaws.{and-left, and-right}

pub input-no_output : (dir : Dir) → is_input dir ≡ true → is_output dir ≡ true → ⊥
input-no_output InputDir is also = true≢false (sym also)
input-no_output OutputDir is also = true≢false (sym is)
input-no_output Inout is also = true≢false (sym is)

or-cases : (a b : Bool) → a || b ≡ true → (a ≡ true) ⊎ (b ≡ true)
or-cases true b e = inl refl
or-cases false b e = inr e

no-parent : (p q : ℕ) (o : Option ℕ) → HasParent p o → p ≡ 0 → o ≡ Some q → ⊥
no-parent p q None less top is = (let wrong : None ≡ Some q = is in cc)
no-parent p q (Some r) less top is = omega (arith, less, top)

module _ (d : Design) (design : IsDesign d) (t : Timing) where
  abbrev whole : Subject
  whole = record { design = d; root = 0; timing = t }

  -- a wire's last pin is no input port bit of the top
  loads-no_input : (w : Wire) → IsWireIn d w → is_input_bit whole w.to.0 ≡ true → ⊥
  loads-no_input w is input = by_load w.home is.loads
    where
      at_top : (pin_at d.pins w.to.0).place ≡ 0
      at_top = (Decides-eqb (pin_at d.pins w.to.0).place 0).0 (and-left ((pin_at d.pins w.to.0).place == 0) (is_input (pin_at d.pins w.to.0).dir) input)

      directed : is_input (pin_at d.pins w.to.0).dir ≡ true
      directed = and-right ((pin_at d.pins w.to.0).place == 0) (is_input (pin_at d.pins w.to.0).dir) input

      by_load : (home : ℕ) → IsLoad d home w.to.0 → ⊥
      by_load home (inl own) = input-no_output (pin_at d.pins w.to.0).dir directed own.1
      by_load home (inr below) = no-parent 0 home (place_at d.places 0).parent (design.parents 0 design.top) refl (sym (ap (λ (p : ℕ). (place_at d.places p).parent) at_top) ∙ below.0)

  -- nor an output of a leaf
  loads-no_leaf_output : (w : Wire) → IsWireIn d w → (place_at d.places (pin_at d.pins w.to.0).place).leaf && is_output (pin_at d.pins w.to.0).dir ≡ true → ⊥
  loads-no_leaf_output w is leaf_output = by_load w.home is.holds is.loads
    where
      leaf : (place_at d.places (pin_at d.pins w.to.0).place).leaf ≡ true
      leaf = and-left (place_at d.places (pin_at d.pins w.to.0).place).leaf (is_output (pin_at d.pins w.to.0).dir) leaf_output

      directed : is_output (pin_at d.pins w.to.0).dir ≡ true
      directed = and-right (place_at d.places (pin_at d.pins w.to.0).place).leaf (is_output (pin_at d.pins w.to.0).dir) leaf_output

      by_load : (home : ℕ) → (place_at d.places home).leaf ≡ false → IsLoad d home w.to.0 → ⊥
      by_load home plain (inl own) = true≢false (sym leaf ∙ (ap (λ (p : ℕ). (place_at d.places p).leaf) own.0 ∙ plain))
      by_load home plain (inr below) = input-no_output (pin_at d.pins w.to.0).dir below.1 directed

  pub input-undriven : (v : ℕ) → is_input_bit whole v ≡ true → All (λ w. w.to.0 ≡ v → ⊥) d.wires
  input-undriven v input = All-weaker (IsWireIn d) (λ (w : Wire). w.to.0 ≡ v → ⊥) (λ w is same. loads-no_input w is (subst (λ u. is_input_bit whole u ≡ true) (sym same) input)) d.wires design.wires

  pub source-undriven : (v : ℕ) → is_source_pin whole v ≡ true → All (λ w. w.to.0 ≡ v → ⊥) d.wires
  source-undriven v source = elim (or-cases (is_input_bit whole v) ((place_at d.places (pin_at d.pins v).place).leaf && is_output (pin_at d.pins v).dir) source) [
    | inl input ↦ input-undriven v input
    | inr leaf ↦ All-weaker (IsWireIn d) (λ (w : Wire). w.to.0 ≡ v → ⊥)
        (λ w is same. loads-no_leaf_output w is (subst (λ u. (place_at d.places (pin_at d.pins u).place).leaf && is_output (pin_at d.pins u).dir ≡ true) (sym same) leaf)) d.wires design.wires
  ]

  -- the sources of sound clocks are such as reaching asks for
  pub sources-are : (clocks : List Clock) → AreSoundClocks whole clocks → AreSources d clocks
  sources-are clocks sound = record {
    within = All-weaker (λ (c : Clock). All (IsPinAs whole Source) c.sources) (HasSourcesBelow (length d.pins)) (λ c all. All-weaker (IsPinAs whole Source) (λ v. v.0 < length d.pins) (λ v is. is.below) c.sources all) clocks sound.sources;
    undriven = λ c v source.
        source-undriven v (All-contains (IsPinAs whole Source) (clock_at clocks c).sources (record { 0 = v }) (sound.sources c _ source.0) source.1).may_be;
    apart = sound.apart;
  }

  -- every pin is inside the top
  pub pin-inside : (v : ℕ) → v < length d.pins → is_pin_of d 0 v ≡ true
  pin-inside v below = is_inside-top d.places design.parents (pin_at d.pins v).place (design.in_places v _ below)

  -- a wire ends at a pin that a clock reaches
  last-wire : (vs : List ℕ) (a v z : ℕ) → HasWire d.wires a v → Joined d.wires v vs z → (u : ℕ) × HasWire d.wires u z
  last-wire [] a v z wire same = (a, subst (HasWire d.wires a) same wire)
  last-wire (w ∷ ws) a v z wire joined = last-wire ws v w z joined.0 joined.1

  pub reached-driven : (clocks : List Clock) (c v : ℕ) → Reaches d 0 clocks c v → All (λ w. w.to.0 ≡ v → ⊥) d.wires → ⊥
  reached-driven clocks c v reaches none =
      let led = IsLed-reaches d design clocks c v reaches in
      let wire = last-wire led.others led.source led.first v led.wired.0 led.wired.1 in
      none wire.1.0 (wire_at [] 0) wire.1.1 wire.1.3

  -- a pin of a leaf is no port bit of the top
  pub leaf-no_top : (v : ℕ) → IsLeafPin d v → (pin_at d.pins v).place ≡ 0 → ⊥
  leaf-no_top v leaf top = true≢false (sym leaf ∙ (ap (λ (p : ℕ). (place_at d.places p).leaf) top ∙ design.plain_top))

  pub input-top : (v : ℕ) → is_input_bit whole v ≡ true → (pin_at d.pins v).place ≡ 0
  input-top v input = (Decides-eqb (pin_at d.pins v).place 0).0 (and-left ((pin_at d.pins v).place == 0) (is_input (pin_at d.pins v).dir) input)

  pub output-top : (v : ℕ) → is_output_bit whole v ≡ true → (pin_at d.pins v).place ≡ 0
  output-top v output = (Decides-eqb (pin_at d.pins v).place 0).0 (and-left ((pin_at d.pins v).place == 0) (is_output (pin_at d.pins v).dir) output)

  pub input-differs_output : (v : ℕ) → is_input_bit whole v ≡ true → is_output_bit whole v ≡ true → ⊥
  input-differs_output v input output =
      input-no_output (pin_at d.pins v).dir (and-right ((pin_at d.pins v).place == 0) (is_input (pin_at d.pins v).dir) input) (and-right ((pin_at d.pins v).place == 0) (is_output (pin_at d.pins v).dir) output)
