-- Wires of a design, and the ways back over them.
use Rattle.std.specs.Prelude.{zero, suc}
use Rattle.std.specs.List.{All, AllPairs, list_any}
use Rattle.std.specs.Option.{option_map, option_and_then}
use Rattle.std.proofs.Common.{◌≡◌, ℕ, ◌+◌, ◌<◌, ◌≤◌, ◌⊎◌, ◌==◌, ◌&&◌, ◌||◌, nat_lt, Bool, true, false, cond, List, [], ◌∷◌, ◌++◌, length, find, get_or, Option, Some, None, refl, sym, ap, subst, ◌∙◌, inl, inr, arith, true≢false}
use Rattle.std.proofs.lemmas.Bool.{eqb-true, eq-eqb, ne_eqb, ltb-true}
use Rattle.std.proofs.lemmas.Option.{same_Some, none-some, option_and_then_some}
use Rattle.std.proofs.lemmas.List.Elements.{All-head, All-tail}
use Rattle.bud_design.specs.declared.designs.Wire.{Wire}
use Rattle.bud_design.specs.Designs.{Design, place_at, is_inside, driver_of, is_wire, Wired, LeadsTo}
use Rattle.bud_design.specs.DesignRules.{IsDesign}
use Rattle.bud_design.proofs.Lineages.{is_inside-top}
use Rattle.net_delays.specs.Drives.{back, Leads, AreJoined}
use Rattle.net_delays.specs.Nets.{AreOneNet}
use Rattle.net_delays.proofs.Chains.{back_on}

both : (a b : Bool) → a && b ≡ true → (a ≡ true) × (b ≡ true)
both true b holds = (refl, holds)
both false b holds = absurd (true≢false (sym holds))

either : (a b : Bool) → a || b ≡ true → (a ≡ true) ⊎ (b ≡ true)
either true b holds = inl refl
either false b holds = inr holds

or-later : (a b : Bool) → b ≡ true → a || b ≡ true
or-later true b holds = refl
or-later false b holds = holds

module _ (d : Design) (design : IsDesign d) where
  abbrev joins : ℕ → ℕ → Wire → Bool
  joins a b w = w.from.0 == a && (w.to.0 == b && is_inside d.places 0 w.home)

  rises-head : (w : Wire) (ws : List Wire) → AllPairs (λ (x y : Wire). nat_lt x.to.0 y.to.0 ≡ true) (w ∷ ws) → All (λ (y : Wire). nat_lt w.to.0 y.to.0 ≡ true) ws
  rises-head w ws rises = λ k e below. rises 0 (suc k) e (omega arith) (omega (arith, below))

  rises-tail : (w : Wire) (ws : List Wire) → AllPairs (λ (x y : Wire). nat_lt x.to.0 y.to.0 ≡ true) (w ∷ ws) → AllPairs (λ (x y : Wire). nat_lt x.to.0 y.to.0 ≡ true) ws
  rises-tail w ws rises = λ i j e less below. rises (suc i) (suc j) e (omega (arith, less)) (omega (arith, below))

  -- a wire that joins pins behind others ends behind them
  behind : (w : Wire) (ws : List Wire) (a b : ℕ) → All (λ (y : Wire). nat_lt w.to.0 y.to.0 ≡ true) ws → list_any (joins a b) ws ≡ true → w.to.0 < b
  behind w [] a b more any = absurd (true≢false (sym any))
  behind w (x ∷ xs) a b more any = elim (either (joins a b x) (list_any (joins a b) xs) any) [
    | inl here ↦
        let first = both (x.from.0 == a) (x.to.0 == b && is_inside d.places 0 x.home) here in
        let second = both (x.to.0 == b) (is_inside d.places 0 x.home) first.1 in
        let ends = eqb-true x.to.0 b second.0 in
        let less = ltb-true w.to.0 x.to.0 (All-head (λ (y : Wire). nat_lt w.to.0 y.to.0 ≡ true) x xs more) in
        omega (arith, ends, less)
    | inr later ↦ behind w xs a b (All-tail (λ (y : Wire). nat_lt w.to.0 y.to.0 ≡ true) x xs more) later
  ]

  driver-in : (ws : List Wire) (a b : ℕ) → AllPairs (λ (x y : Wire). nat_lt x.to.0 y.to.0 ≡ true) ws → list_any (joins a b) ws ≡ true → driver_of ws b ≡ Some a
  driver-in [] a b rises any = absurd (true≢false (sym any))
  driver-in (w ∷ ws) a b rises any = elim (either (joins a b w) (list_any (joins a b) ws) any) [
    | inl here ↦
        let first = both (w.from.0 == a) (w.to.0 == b && is_inside d.places 0 w.home) here in
        let second = both (w.to.0 == b) (is_inside d.places 0 w.home) first.1 in
        rw second.0 (ap (λ n. Some n) (eqb-true w.from.0 a first.0))
    | inr later ↦
        let less = behind w ws a b (rises-head w ws rises) later in
        let differs : w.to.0 == b ≡ false = ne_eqb w.to.0 b (λ same. omega (arith, same, less)) in
        rw differs (driver-in ws a b (rises-tail w ws rises) later)
  ]

  -- the first pin of a wire drives the last
  pub wire_driver : (a b : ℕ) → is_wire d 0 a b ≡ true → driver_of d.wires b ≡ Some a
  wire_driver a b any = driver-in d.wires a b design.by_last_pin any

  wire-by : (w : Wire) (ws : List Wire) (a b : ℕ) (c : Bool) → w.to.0 == b ≡ c → is_inside d.places 0 w.home ≡ true → (driver_of ws b ≡ Some a → list_any (joins a b) ws ≡ true)
      → option_map (λ (x : Wire). x.from.0) (cond c (Some w) (find (λ x. x.to.0 == b) ws)) ≡ Some a → joins a b w || list_any (joins a b) ws ≡ true
  wire-by w ws a b true is inside rest e = rw (eq-eqb w.from.0 a (same_Some w.from.0 a e), is, inside) refl
  wire-by w ws a b false is inside rest e = or-later (joins a b w) (list_any (joins a b) ws) (rest e)

  wire-in : (ws : List Wire) (a b : ℕ) → All (λ (w : Wire). w.home < length d.places) ws → driver_of ws b ≡ Some a → list_any (joins a b) ws ≡ true
  wire-in [] a b homes e = absurd (none-some a e)
  wire-in (w ∷ ws) a b homes e =
      wire-by w ws a b (w.to.0 == b) refl (is_inside-top d.places design.parents w.home (All-head (λ (x : Wire). x.home < length d.places) w ws homes))
      (wire-in ws a b (All-tail (λ (x : Wire). x.home < length d.places) w ws homes)) e

  -- and a driver drives over a wire
  pub driver_wire : (a b : ℕ) → driver_of d.wires b ≡ Some a → is_wire d 0 a b ≡ true
  driver_wire a b e = wire-in d.wires a b (λ k w below. (design.wires k w below).home) e

  -- the way back over a list of wires
  back_wired : (a b : ℕ) (vs : List ℕ) → Wired d 0 a vs b → back (driver_of d.wires) (length vs) b ≡ Some a
  back_wired a b [] wired = ap (λ n. Some n) (sym wired)
  back_wired a b (v ∷ vs) wired =
      let sum : length vs + 1 ≡ suc (length vs) = omega arith in
      let driven = wire_driver a v wired.0 in
      subst (λ n. back (driver_of d.wires) n b ≡ Some a) sum
      (back_on (driver_of d.wires) (length vs) 1 b v (back_wired v b vs wired.1) ∙ rw driven refl)

  Wired-more : (a u b : ℕ) (vs : List ℕ) → Wired d 0 a vs u → is_wire d 0 u b ≡ true → Wired d 0 a (vs ++ b ∷ []) b
  Wired-more a u b [] wired wire = (subst (λ w. is_wire d 0 w b ≡ true) (sym wired) wire, refl)
  Wired-more a u b (v ∷ vs) wired wire = (wired.0, Wired-more v u b vs wired.1 wire)

  wired_back : (k a b : ℕ) → back (driver_of d.wires) k b ≡ Some a → (vs : List ℕ) × Wired d 0 a vs b
  wired_back zero a b e = ([], sym (same_Some b a e))
  wired_back (suc k) a b e = option_and_then_some (back (driver_of d.wires) k) (driver_of d.wires b) a e (λ u is rest.
      let way = wired_back k a u rest in (way.0 ++ b ∷ [], Wired-more a u b way.0 way.1 (driver_wire u b is)))

  -- wires that lead to a pin, but for the last one
  pub wired_before : (a b : ℕ) → Leads (driver_of d.wires) a b → (before : List ℕ) × Wired d 0 a (before ++ b ∷ []) b
  wired_before a b way = option_and_then_some (back (driver_of d.wires) way.0) (driver_of d.wires b) a way.1 (λ u is rest.
      let before = wired_back way.0 a u rest in (before.0, Wired-more a u b before.0 before.1 (driver_wire u b is)))

  some_first : (a b : ℕ) (vs : List ℕ) → Wired d 0 a (vs ++ b ∷ []) b → LeadsTo d 0 a b
  some_first a b [] wired = (b, ([], wired))
  some_first a b (v ∷ vs) wired = (v, (vs ++ b ∷ [], wired))

  pub leads_to : (a b : ℕ) → Leads (driver_of d.wires) a b → LeadsTo d 0 a b
  leads_to a b way = let before = wired_before a b way in some_first a b before.0 before.1

  pub leads_back : (a b : ℕ) → LeadsTo d 0 a b → Leads (driver_of d.wires) a b
  leads_back a b way = (length way.1.0, back_wired a b (way.0 ∷ way.1.0) way.1.1)

  pub one_net : (a b : ℕ) → AreJoined (driver_of d.wires) a b → AreOneNet d a b
  one_net a b joined = record { leads = leads_to a b joined.leads; no_ring = λ ring. joined.no_ring (leads_back b b ring) }

  pub joined_net : (a b : ℕ) → AreOneNet d a b → AreJoined (driver_of d.wires) a b
  joined_net a b net = record { leads = leads_back a b net.leads; no_ring = λ ring. net.no_ring (leads_to b b ring) }
