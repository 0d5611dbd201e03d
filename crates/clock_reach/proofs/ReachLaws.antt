-- At most one clock reaches a pin, and marks along wires tell which.
use Rattle.std.proofs.Common.{◌≡◌, ℕ, zero, suc, ◌<◌, ◌&&◌, ◌||◌, ◌==◌, Bool, true, false, List, [], ◌∷◌, length, get_or, Option, Some, refl, sym, ◌∙◌, ap, subst, inl, inr, arith, true≢false, eq-eqb, ◌⊎◌}
use Rattle.std.specs.Prelude.{nat_lt}
use Rattle.std.specs.List.{list_any, All}
use Rattle.std.proofs.lemmas.Bool.{cases_eq, cases_lt}
use Rattle.std.proofs.lemmas.Bool.Decides.{Decides-eqb, Decides-ltb}
use Rattle.std.proofs.lemmas.List.Elements.{All-weaker}
use Rattle.bud_design.specs.declared.designs.Wire.{Wire}
use Rattle.bud_design.specs.declared.clocks.Clock.{Clock}
use Rattle.bud_design.specs.Designs.{Design, is_wire, is_inside, Wired}
use Rattle.bud_design.specs.DesignRules.{IsDesign, IsWireIn}
use Rattle.bud_design.specs.Clocks.{Reaches}
use Rattle.bud_design.proofs.Lineages.{is_inside-top}
use Rattle.clock_reach.specs.Leaving.{wire_at}
use Rattle.clock_reach.specs.Walks.{IsWireBelow, HasWire, Joined, HasSource, IsLed, AreMarks}
use Rattle.clock_reach.specs.Reached.{AreSources, AreReached}

-- ---- a test that an element passes
and-left : (a b : Bool) → a && b ≡ true → a ≡ true
and-left true b e = refl
and-left false b e = e

and-right : (a b : Bool) → a && b ≡ true → b ≡ true
and-right true b e = e
and-right false b e = absurd (true≢false (sym e))

or-first : (a b : Bool) → a ≡ true → a || b ≡ true
or-first a b e = rw e refl

or-second : (a b : Bool) → b ≡ true → a || b ≡ true
or-second true b e = refl
or-second false b e = e

or-cases : (a b : Bool) → a || b ≡ true → (a ≡ true) ⊎ (b ≡ true)
or-cases true b e = inl refl
or-cases false b e = inr e

pub any-place : {X : Type 0} (p : X → Bool) (d : X) (xs : List X) → list_any p xs ≡ true → (i : ℕ) × (i < length xs) × (p (get_or xs i d) ≡ true)
any-place p d [] e = absurd (true≢false (sym e))
any-place p d (x ∷ xs) e = elim (or-cases (p x) (list_any p xs) e) [
  | inl here ↦ (0, omega arith, here)
  | inr later ↦ (let rest = any-place p d xs later in (suc rest.0, omega (arith, rest.1), rest.2))
]

pub place-any : {X : Type 0} (p : X → Bool) (d : X) (xs : List X) (i : ℕ) → i < length xs → p (get_or xs i d) ≡ true → list_any p xs ≡ true
place-any p d [] i below e = absurd (omega (arith, below))
place-any p d (x ∷ xs) zero below e = or-first (p x) (list_any p xs) e
place-any p d (x ∷ xs) (suc i) below e = or-second (p x) (list_any p xs) (place-any p d xs i (omega (arith, below)) e)

-- ---- wires of the whole design
module _ (d : Design) (design : IsDesign d) where
  HasWire-is : (a b : ℕ) → is_wire d 0 a b ≡ true → HasWire d.wires a b
  HasWire-is a b e =
      let found = any-place (λ (w : Wire). w.from.0 == a && (w.to.0 == b && is_inside d.places 0 w.home)) (wire_at [] 0) d.wires e in
      let w : Wire = wire_at d.wires found.0 in
      let rest : w.to.0 == b && is_inside d.places 0 w.home ≡ true = and-right (w.from.0 == a) (w.to.0 == b && is_inside d.places 0 w.home) found.2 in
      (found.0, found.1, (Decides-eqb w.from.0 a).0 (and-left (w.from.0 == a) _ found.2), (Decides-eqb w.to.0 b).0 (and-left (w.to.0 == b) _ rest))

  is_wire-has : (a b : ℕ) → HasWire d.wires a b → is_wire d 0 a b ≡ true
  is_wire-has a b has =
      let w : Wire = wire_at d.wires has.0 in
      let inside : is_inside d.places 0 w.home ≡ true = is_inside-top d.places design.parents w.home (design.wires has.0 (wire_at [] 0) has.1).home in
      place-any (λ (w : Wire). w.from.0 == a && (w.to.0 == b && is_inside d.places 0 w.home)) (wire_at [] 0) d.wires has.0 has.1
      (rw (eq-eqb w.from.0 a has.2, eq-eqb w.to.0 b has.3, inside) refl)

  Joined-wired : (vs : List ℕ) (a b : ℕ) → Wired d 0 a vs b → Joined d.wires a vs b
  Joined-wired [] a b same = same
  Joined-wired (v ∷ vs) a b wired = (HasWire-is a v wired.0, Joined-wired vs v b wired.1)

  Wired-joined : (vs : List ℕ) (a b : ℕ) → Joined d.wires a vs b → Wired d 0 a vs b
  Wired-joined [] a b same = same
  Wired-joined (v ∷ vs) a b joined = (is_wire-has a v joined.0, Wired-joined vs v b joined.1)

  Reaches-led : (clocks : List Clock) (c v : ℕ) → IsLed d.wires clocks c v → Reaches d 0 clocks c v
  Reaches-led clocks c v led = record {
    number = led.is_source.0;
    source = record { 0 = led.source };
    is_source = led.is_source.1;
    wired = (led.first, (led.others, (is_wire-has led.source led.first led.wired.0, Wired-joined led.others led.first v led.wired.1)));
  }

  pub IsLed-reaches : (clocks : List Clock) (c v : ℕ) → Reaches d 0 clocks c v → IsLed d.wires clocks c v
  IsLed-reaches clocks c v reaches = record {
    source = reaches.source.0;
    is_source = (reaches.number, reaches.is_source);
    first = reaches.wired.0;
    others = reaches.wired.1.0;
    wired = (HasWire-is reaches.source.0 reaches.wired.0 reaches.wired.1.1.0, Joined-wired reaches.wired.1.0 reaches.wired.0 v reaches.wired.1.1.1);
  }

  -- ---- one wire ends at a pin, so wires lead to it from one pin without a wire
  one-wire : (i j : ℕ) → i < length d.wires → j < length d.wires → (wire_at d.wires i).to.0 ≡ (wire_at d.wires j).to.0 → i < j → ⊥
  one-wire i j ini inj same before =
      let rising : nat_lt (wire_at d.wires i).to.0 (wire_at d.wires j).to.0 ≡ true = design.by_last_pin i j (wire_at [] 0) before inj in
      omega (arith, same, (Decides-ltb (wire_at d.wires i).to.0 (wire_at d.wires j).to.0).0 rising)

  same-driver : (a b v : ℕ) → HasWire d.wires a v → HasWire d.wires b v → a ≡ b
  same-driver a b v has other =
      let same : (wire_at d.wires has.0).to.0 ≡ (wire_at d.wires other.0).to.0 = has.3 ∙ sym other.3 in
      elim (cases_eq has.0 other.0) [
        | inl one ↦ sym has.2 ∙ (ap (λ (i : ℕ). (wire_at d.wires i).from.0) one ∙ other.2)
        | inr differs ↦ elim (cases_lt has.0 other.0) [
          | inl before ↦ absurd (one-wire has.0 other.0 has.1 other.1 same before)
          | inr after ↦ absurd (one-wire other.0 has.0 other.1 has.1 (sym same) (omega arith))
        ]
      ]

  -- so many wires lead from a to v
  -- so many wires lead from a to v
  abbrev Steps : ℕ → ℕ → ℕ → Type 0
  Steps zero a v = a ≡ v
  Steps (suc k) a v = (u : ℕ) × (Steps k a u × HasWire d.wires u v)

  Steps-before : (k a b v : ℕ) → HasWire d.wires a b → Steps k b v → Steps (suc k) a v
  Steps-before zero a b v wire same = (a, (refl, subst (HasWire d.wires a) same wire))
  Steps-before (suc k) a b v wire steps = (steps.0, (Steps-before k a b steps.0 wire steps.1.0, steps.1.1))

  Steps-joined : (vs : List ℕ) (a v : ℕ) → Joined d.wires a vs v → Steps (length vs) a v
  Steps-joined [] a v same = same
  Steps-joined (w ∷ vs) a v joined = Steps-before (length vs) a w v joined.0 (Steps-joined vs w v joined.1)

  no-wire : (a : ℕ) → All (λ (w : Wire). w.to.0 ≡ a → ⊥) d.wires → (u : ℕ) → HasWire d.wires u a → ⊥
  no-wire a none u has = none has.0 (wire_at [] 0) has.1 has.3

  one-start : (j k a b v : ℕ) → Steps j a v → Steps k b v → ((u : ℕ) → HasWire d.wires u a → ⊥) → ((u : ℕ) → HasWire d.wires u b → ⊥) → a ≡ b
  one-start zero zero a b v same other nonea noneb = same ∙ sym other
  one-start zero (suc k) a b v same other nonea noneb = absurd (nonea other.0 (subst (HasWire d.wires other.0) (sym same) other.1.1))
  one-start (suc j) zero a b v steps other nonea noneb = absurd (noneb steps.0 (subst (HasWire d.wires steps.0) (sym other) steps.1.1))
  one-start (suc j) (suc k) a b v steps other nonea noneb =
      let same : steps.0 ≡ other.0 = same-driver steps.0 other.0 v steps.1.1 other.1.1 in
      one-start j k a b other.0 (subst (Steps j a) same steps.1.0) other.1.0 nonea noneb

  -- at most one clock reaches a pin
  pub one-clock : (clocks : List Clock) → AreSources d clocks → (b c v : ℕ) → IsLed d.wires clocks b v → IsLed d.wires clocks c v → b ≡ c
  one-clock clocks sources b c v led other =
      let same : led.source ≡ other.source
      = one-start (length (led.first ∷ led.others)) (length (other.first ∷ other.others)) led.source other.source v
      (Steps-joined (led.first ∷ led.others) led.source v led.wired) (Steps-joined (other.first ∷ other.others) other.source v other.wired)
      (no-wire led.source (sources.undriven b led.source led.is_source)) (no-wire other.source (sources.undriven c other.source other.is_source)) in
      sources.apart b c other.source (subst (HasSource clocks b) same led.is_source) other.is_source

  pub AreReached-marks : (clocks : List Clock) (marks : List (Option ℕ)) → AreSources d clocks → AreMarks d.wires clocks (length d.pins) marks → AreReached d 0 clocks marks
  AreReached-marks clocks marks sources are = record {
    size = are.size;
    only = λ v c marked. Reaches-led clocks c v (are.only v c marked);
    all = λ v c reaches.
        let led = IsLed-reaches clocks c v reaches in
        let marked = are.all v c led in
        marked.1 ∙ ap (λ (k : ℕ). Some k) (one-clock clocks sources marked.0 c v (are.only v marked.0 marked.1) led);
  }

  -- both pins of each wire are pins of the design
  pub wires-below : All (IsWireBelow (length d.pins)) d.wires
  wires-below = All-weaker (IsWireIn d) (IsWireBelow (length d.pins)) (λ w is. record { from = is.from; to = is.to }) d.wires design.wires
