-- Wires of the whole design that lead to a pin inside a block: they stay inside, or come in by an input bit.
use Rattle.std.specs.Prelude.{◌≡◌, ◌⊎◌, ℕ, ◌<◌, ◌==◌, ◌&&◌, pos, Bool, true, false, List, [], ◌∷◌, ◌++◌, length}
use Rattle.std.proofs.Common.{true≢false, refl, sym, ◌∙◌, subst, inl, inr, eq-eqb}
use Rattle.std.proofs.lemmas.Bool.Decides.{Decides-eqb}
use Rattle.bud_design.specs.declared.designs.Wire.{Wire}
use Rattle.bud_design.specs.Arcs.{Arc}
use Rattle.bud_design.specs.Designs.{Design, pin_at, is_inside, is_wire, Wired}
use Rattle.bud_design.specs.DesignRules.{IsDesign, IsWireIn}
use Rattle.bud_design.proofs.Lineages.{is_inside-top}
use Rattle.clock_reach.specs.Leaving.{wire_at}
use Rattle.clock_reach.proofs.ReachLaws.{any-place, place-any}
use Rattle.block_theory.specs.Blocks.{IsBlock, is_input_of, HasHome}
use Rattle.block_theory.proofs.Insides.{and-true, EndsInside-arc, CrossesPorts-arc}

module _ (d : Design) (design : IsDesign d) where
  abbrev is_it : ℕ → ℕ → ℕ → Wire → Bool
  is_it root a v w = w.from.0 == a && (w.to.0 == v && is_inside d.places root w.home)

  -- a wire of the root's design from one pin to another
  pub record HasWireIn (root a v : ℕ) : Type 0 where
    pub number : ℕ
    pub below : number < length d.wires
    pub from : (wire_at d.wires number).from.0 ≡ a
    pub to : (wire_at d.wires number).to.0 ≡ v
    pub inside : is_inside d.places root (wire_at d.wires number).home ≡ true

  HasWireIn-is : (root a v : ℕ) → is_wire d root a v ≡ true → HasWireIn root a v
  HasWireIn-is root a v is =
      let found = any-place (is_it root a v) (wire_at [] 0) d.wires is in
      let first = and-true ((wire_at d.wires found.0).from.0 == a) ((wire_at d.wires found.0).to.0 == v && is_inside d.places root (wire_at d.wires found.0).home) found.2 in
      let second = and-true ((wire_at d.wires found.0).to.0 == v) (is_inside d.places root (wire_at d.wires found.0).home) first.1 in
      record {
        number = found.0;
        below = found.1;
        from = (Decides-eqb (wire_at d.wires found.0).from.0 a).0 first.0;
        to = (Decides-eqb (wire_at d.wires found.0).to.0 v).0 second.0;
        inside = second.1;
      }

  is_wire-has : (root a v : ℕ) → HasWireIn root a v → is_wire d root a v ≡ true
  is_wire-has root a v has =
      place-any (is_it root a v) (wire_at [] 0) d.wires has.number has.below
      (rw (eq-eqb (wire_at d.wires has.number).from.0 a has.from, eq-eqb (wire_at d.wires has.number).to.0 v has.to, has.inside) refl)

  wire-is : (k : ℕ) → k < length d.wires → IsWireIn d (wire_at d.wires k)
  wire-is k below = design.wires k (wire_at [] 0) below

  -- a wire below a root is one of the whole design
  whole-wire : (root a v : ℕ) → is_wire d root a v ≡ true → is_wire d 0 a v ≡ true
  whole-wire root a v is =
      let has = HasWireIn-is root a v is in
      is_wire-has 0 a v (record {
        number = has.number;
        below = has.below;
        from = has.from;
        to = has.to;
        inside = is_inside-top d.places design.parents (wire_at d.wires has.number).home (wire-is has.number has.below).home;
      })

  pub whole-wired : (root : ℕ) (vs : List ℕ) (a v : ℕ) → Wired d root a vs v → Wired d 0 a vs v
  whole-wired root [] a v same = same
  whole-wired root (w ∷ ws) a v wired = (whole-wire root a w wired.0, whole-wired root ws w v wired.1)

  pub wired-append : (root : ℕ) (us vs : List ℕ) (a b c : ℕ) → Wired d root a us b → Wired d root b vs c → Wired d root a (us ++ vs) c
  wired-append root [] vs a b c first then = rw first then
  wired-append root (u ∷ us) vs a b c first then = (first.0, wired-append root us vs u b c first.1 then)

  module _ (b : ℕ) (block : IsBlock d b) where
    abbrev In : ℕ → Type 0
    In v = is_inside d.places b (pin_at d.pins v).place ≡ true

    abbrev arc_of : Wire → Arc
    arc_of w = record { from = w.from.0; to = w.to.0; least = pos 0; home = w.home }

    home-of : (k : ℕ) → k < length d.wires → HasHome d (arc_of (wire_at d.wires k))
    home-of k below =
        let is = wire-is k below in
        record { from = is.from; to = is.to; home = is.home; kind = inl (record { drives = is.drives; loads = is.loads }) }

    -- a wire into a pin of the block that is no input bit is inside, and so is where it comes from
    inner-wire : (a v : ℕ) → is_wire d 0 a v ≡ true → In v → is_input_of d b v ≡ false → (is_wire d b a v ≡ true) × In a
    inner-wire a v is inner other = by_test (is_inside d.places b (wire_at d.wires has.number).home) refl
      where
        has : HasWireIn 0 a v
        has = HasWireIn-is 0 a v is

        by_test : (t : Bool) → is_inside d.places b (wire_at d.wires has.number).home ≡ t → (is_wire d b a v ≡ true) × In a
        by_test true inside =
            let ends = EndsInside-arc d design b block (arc_of (wire_at d.wires has.number)) (home-of has.number has.below) inside in (
              is_wire-has b a v (record { number = has.number; below = has.below; from = has.from; to = has.to; inside = inside }),
              subst In has.from ends.from,
            )
        by_test false outside =
            let enters = (CrossesPorts-arc d design b block (arc_of (wire_at d.wires has.number)) (home-of has.number has.below) outside).enters (subst In (sym has.to) inner) in
            absurd (true≢false (sym (subst (λ u. is_input_of d b u ≡ true) has.to enters) ∙ other))

    -- wires from an input bit of the block, to which some wires lead from a pin
    pub record ByPort (a : ℕ) (v : ℕ) : Type 0 where
      pub port : ℕ
      pub input : is_input_of d b port ≡ true
      pub first : ℕ
      pub before : List ℕ
      pub outer : Wired d 0 a (first ∷ before) port
      pub behind : List ℕ
      pub inner : Wired d b port behind v

    pub record ByInside (a : ℕ) (vs : List ℕ) (v : ℕ) : Type 0 where
      pub inside : In a
      pub wired : Wired d b a vs v

    pub comes-in : (vs : List ℕ) (a v : ℕ) → Wired d 0 a vs v → In v → ByInside a vs v ⊎ ByPort a v
    comes-in [] a v same inner = inl (record { inside = subst In (sym same) inner; wired = same })
    comes-in (w ∷ ws) a v wired inner = by_rest (comes-in ws w v wired.1 inner)
      where
        by_test : (t : Bool) → is_input_of d b w ≡ t → ByInside w ws v → ByInside a (w ∷ ws) v ⊎ ByPort a v
        by_test true input rest = inr (record { port = w; input = input; first = w; before = []; outer = (wired.0, refl); behind = ws; inner = rest.wired })
        by_test false other rest =
            let wire = inner-wire a w wired.0 rest.inside other in
            inl (record { inside = wire.1; wired = (wire.0, rest.wired) })

        by_rest : ByInside w ws v ⊎ ByPort w v → ByInside a (w ∷ ws) v ⊎ ByPort a v
        by_rest (inl rest) = by_test (is_input_of d b w) refl rest
        by_rest (inr rest) = inr (record { port = rest.port; input = rest.input; first = w; before = rest.first ∷ rest.before; outer = (wired.0, rest.outer); behind = rest.behind; inner = rest.inner })
