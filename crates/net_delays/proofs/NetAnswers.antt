-- What sums over the trees of wires say of a design's delays.
use Rattle.std.specs.Prelude.{zero, suc}
use Rattle.std.specs.List.{All, AllPairs, AllZip, list_any}
use Rattle.std.specs.Option.{option_map, option_and_then}
use Rattle.std.proofs.Common.{◌≡◌, ℕ, ◌+◌, ◌<◌, ◌≤◌, ◌==◌, nat_lt, Bool, true, false, cond, List, [], ◌∷◌, ◌++◌, length, find, get_or, Option, Some, None, ℤ, refl, sym, ap, subst, ◌∙◌, inl, inr, arith, true≢false}
use Rattle.std.proofs.lemmas.Bool.{eqb-true, eq-eqb, ne_eqb, cases_eq, ltb-true}
use Rattle.std.proofs.lemmas.Option.{same_Some, none-some}
use Rattle.std.proofs.lemmas.List.{get_or_default, get_or_append_left, length-append}
use Rattle.std.proofs.lemmas.List.Elements.{All-nil, All-cons, All-head, All-tail, All-weaker}
use Rattle.bud_base.specs.declared.ids.PinId.{PinId}
use Rattle.bud_design.specs.declared.designs.Wire.{Wire}
use Rattle.bud_design.specs.Designs.{Design, driver_of}
use Rattle.bud_design.specs.DesignRules.{IsDesign}
use Rattle.net_delays.specs.Drives.{back, Leads, AreJoined}
use Rattle.net_delays.specs.Alongs.{along_at, sum_of, greatest_reach, IsSum, IsSoundAlong, AreSums}
use Rattle.net_delays.specs.Rests.{step_of, wire_at, AreSteps, is_negative_by, is_negative, IsNegativeAt, IsLeastNegative}
use Rattle.net_delays.specs.Nets.{IsWireDelay, AreWireDelays, HasNegativeRest, HaveRoom}
use Rattle.net_delays.specs.declared.alongs.Along.{Along}
use Rattle.net_delays.proofs.RestLaws.{zip_steps, delays_of, no_negative_rest, negative_rest}

module _ (f g : ℕ → Option ℕ) (same : (v : ℕ) → f v ≡ g v) where
  onward : (k : ℕ) (o : Option ℕ) → ((w : ℕ) → back f k w ≡ back g k w) → option_and_then (back f k) o ≡ option_and_then (back g k) o
  onward k None rest = refl
  onward k (Some w) rest = rest w

  same_back : (k v : ℕ) → back f k v ≡ back g k v
  same_back zero v = refl
  same_back (suc k) v = ap (option_and_then (back f k)) (same v) ∙ onward k (g v) (same_back k)

  same_leads : (a b : ℕ) → Leads f a b → Leads g a b
  same_leads a b way = (way.0, sym (same_back (suc way.0) b) ∙ way.1)

  back_leads : (a b : ℕ) → Leads g a b → Leads f a b
  back_leads a b way = (way.0, same_back (suc way.0) b ∙ way.1)

  pub same_joined : (a b : ℕ) → AreJoined f a b → AreJoined g a b
  same_joined a b joined = record { leads = same_leads a b joined.leads; no_ring = λ ring. joined.no_ring (back_leads b b ring) }

  same_sum : (alongs : List Along) (sums : ℕ → ℤ) (v : ℕ) → IsSum f alongs sums v → IsSum g alongs sums v
  same_sum alongs sums v sum = λ u driven. sum u (same v ∙ driven)

  same_negative : (sums : ℕ → ℤ) (x : Along) → is_negative f sums x ≡ is_negative g sums x
  same_negative sums x = ap (is_negative_by sums x) (same x.to.0)

-- the first wire, by last pin, of which a rest is negative
pub record IsFirstNegative (d : Design) (alongs : List Along) (numbers : List ℤ) (v : ℕ) : Type 0 where
  pub before : List Wire
  pub wire : Wire
  pub behind : List Wire
  pub stands : d.wires ≡ before ++ wire ∷ behind
  pub first : All (λ w. HasNegativeRest d alongs numbers w.to.0 → ⊥) before
  pub negative : HasNegativeRest d alongs numbers wire.to.0
  pub pin : wire.to.0 ≡ v

pub record IsSplitAt (wires : List Wire) (v : ℕ) : Type 0 where
  pub before : List Wire
  pub wire : Wire
  pub behind : List Wire
  pub stands : wires ≡ before ++ wire ∷ behind
  pub lower : All (λ (w : Wire). w.to.0 < v) before
  pub pin : wire.to.0 ≡ v

rises-head : (w : Wire) (ws : List Wire) → AllPairs (λ (x y : Wire). nat_lt x.to.0 y.to.0 ≡ true) (w ∷ ws) → All (λ (y : Wire). nat_lt w.to.0 y.to.0 ≡ true) ws
rises-head w ws rises = λ k e below. rises 0 (suc k) e (omega arith) (omega (arith, below))

rises-tail : (w : Wire) (ws : List Wire) → AllPairs (λ (x y : Wire). nat_lt x.to.0 y.to.0 ≡ true) (w ∷ ws) → AllPairs (λ (x y : Wire). nat_lt x.to.0 y.to.0 ≡ true) ws
rises-tail w ws rises = λ i j e less below. rises (suc i) (suc j) e (omega (arith, less)) (omega (arith, below))

pin-above : (w : Wire) (ws : List Wire) (v u : ℕ) → All (λ (y : Wire). nat_lt w.to.0 y.to.0 ≡ true) ws → driver_of ws v ≡ Some u → w.to.0 < v
pin-above w [] v u more e = absurd (none-some u e)
pin-above w (x ∷ xs) v u more e = elim (cases_eq x.to.0 v) [
  | inl same ↦ (let less = ltb-true w.to.0 x.to.0 (All-head (λ (y : Wire). nat_lt w.to.0 y.to.0 ≡ true) x xs more) in omega (arith, less, same))
  | inr differs ↦
      pin-above w xs v u (All-tail (λ (y : Wire). nat_lt w.to.0 y.to.0 ≡ true) x xs more)
      (subst (λ b. option_map (λ (y : Wire). y.from.0) (cond b (Some x) (find (λ y. y.to.0 == v) xs)) ≡ Some u) (ne_eqb x.to.0 v differs) e)
]

split_at : (ws : List Wire) (v u : ℕ) → AllPairs (λ (x y : Wire). nat_lt x.to.0 y.to.0 ≡ true) ws → driver_of ws v ≡ Some u → IsSplitAt ws v
split_at [] v u rises e = absurd (none-some u e)
split_at (w ∷ ws) v u rises e = elim (cases_eq w.to.0 v) [
  | inl same ↦ record { before = []; wire = w; behind = ws; stands = refl; lower = All-nil (λ (x : Wire). x.to.0 < v); pin = same }
  | inr differs ↦
      let later : driver_of ws v ≡ Some u = subst (λ b. option_map (λ (y : Wire). y.from.0) (cond b (Some w) (find (λ y. y.to.0 == v) ws)) ≡ Some u) (ne_eqb w.to.0 v differs) e in
      let rest = split_at ws v u (rises-tail w ws rises) later in
      record {
        before = w ∷ rest.before;
        wire = rest.wire;
        behind = rest.behind;
        stands = ap (λ xs. w ∷ xs) rest.stands;
        lower = All-cons (λ (x : Wire). x.to.0 < v) w rest.before (pin-above w ws v u (rises-head w ws rises) later) rest.lower;
        pin = rest.pin;
      }
]

own_driver : (ws : List Wire) → AllPairs (λ (x y : Wire). nat_lt x.to.0 y.to.0 ≡ true) ws → (k : ℕ) (e : Wire) → k < length ws → driver_of ws (get_or ws k e).to.0 ≡ Some (get_or ws k e).from.0
own_driver [] rises k e below = absurd (omega (arith, below))
own_driver (w ∷ ws) rises zero e below = rw (eq-eqb w.to.0 w.to.0 refl) refl
own_driver (w ∷ ws) rises (suc k) e below =
    let less = ltb-true w.to.0 (get_or ws k e).to.0 (rises-head w ws rises k e (omega (arith, below))) in
    rw (ne_eqb w.to.0 (get_or ws k e).to.0 (λ same. omega (arith, same, less))) (own_driver ws (rises-tail w ws rises) k e (omega (arith, below)))

module _ (d : Design) (design : IsDesign d) (drive : ℕ → Option ℕ) (same : (v : ℕ) → drive v ≡ driver_of d.wires v) (pins : ℕ) (alongs : List Along) (sums numbers : List ℤ)
    (sound : All (IsSoundAlong drive pins) alongs) (added : AreSums drive pins alongs sums) (steps : AreSteps (sum_of sums) d.wires numbers) where
  zipped : AllZip (λ w z. z ≡ step_of (sum_of sums) w) d.wires numbers
  zipped = zip_steps (sum_of sums) d.wires numbers steps.size steps.each

  joined : All (λ x. AreJoined (driver_of d.wires) x.from.0 x.to.0) alongs
  joined = All-weaker (IsSoundAlong drive pins) (λ x. AreJoined (driver_of d.wires) x.from.0 x.to.0) (λ x one. same_joined drive (driver_of d.wires) same x.from.0 x.to.0 one.joined) alongs sound

  driven : All (λ (w : Wire). driver_of d.wires w.to.0 ≡ Some w.from.0) d.wires
  driven = λ k e below. own_driver d.wires design.by_last_pin k e below

  -- the numbers are the delays of the wires
  pub AreWireDelays-made : AreWireDelays d alongs numbers
  AreWireDelays-made = delays_of d design alongs (sum_of sums) numbers zipped joined d.wires numbers zipped driven
      (λ v. same_sum drive (driver_of d.wires) same alongs (sum_of sums) v (added.each v))

  none_at : (w : Wire) → driver_of d.wires w.to.0 ≡ Some w.from.0 → ((k : ℕ) → k < length alongs → (along_at alongs k).to.0 ≡ w.to.0 → is_negative drive (sum_of sums) (along_at alongs k) ≡ false)
      → HasNegativeRest d alongs numbers w.to.0 → ⊥
  none_at w is quiet = no_negative_rest d design alongs (sum_of sums) numbers zipped joined w.to.0 w.from.0 is (λ k e below ends.
      let default : get_or alongs k e ≡ along_at alongs k = get_or_default alongs k e (along_at [] 0) below in
      sym (same_negative drive (driver_of d.wires) same (sum_of sums) (get_or alongs k e))
      ∙ (ap (is_negative drive (sum_of sums)) default ∙ quiet k below (sym (ap (λ (x : Along). x.to.0) default) ∙ ends)))

  -- there is room where no delay reaches too little
  pub HaveRoom-made : IsLeastNegative drive (sum_of sums) alongs (length alongs) None → HaveRoom d alongs numbers
  HaveRoom-made none = λ k e below. none_at (get_or d.wires k e) (driven k e below) (λ j inside ends. none j inside)

  driven-by : (x : Along) (o : Option ℕ) → is_negative_by (sum_of sums) x o ≡ true → (u : ℕ) × (o ≡ Some u)
  driven-by x None less = absurd (true≢false (sym less))
  driven-by x (Some u) less = (u, refl)

  -- and else the first wire where one does has a negative rest
  pub IsFirstNegative-made : (v : PinId) → IsLeastNegative drive (sum_of sums) alongs (length alongs) (Some v) → IsFirstNegative d alongs numbers v.0
  IsFirstNegative-made v least =
      let found = least.0 in
      let driver = driven-by (along_at alongs found.place) (drive (along_at alongs found.place).to.0) found.negative in
      let is : driver_of d.wires v.0 ≡ Some driver.0 = sym (ap (driver_of d.wires) found.ends) ∙ (sym (same (along_at alongs found.place).to.0) ∙ driver.1) in
      let split = split_at d.wires v.0 driver.0 design.by_last_pin is in
      let moved : IsNegativeAt (driver_of d.wires) (sum_of sums) alongs (length alongs) v.0 = record {
        place = found.place;
        before = found.before;
        ends = found.ends;
        negative = sym (same_negative drive (driver_of d.wires) same (sum_of sums) (along_at alongs found.place)) ∙ found.negative;
      } in
      record {
        before = split.before;
        wire = split.wire;
        behind = split.behind;
        stands = split.stands;
        first = λ k e below.
            let lower = split.lower k e below in
            none_at (get_or split.before k e) (before_driven split.before split.wire split.behind split.stands k e below) (λ j inside ends. least.1 j inside (omega (arith, ends, lower)));
        negative = subst (HasNegativeRest d alongs numbers) (sym split.pin) (negative_rest d design alongs (sum_of sums) numbers zipped joined v.0 moved);
        pin = split.pin;
      }
    where
      before_driven : (before : List Wire) (wire : Wire) (behind : List Wire) → d.wires ≡ before ++ wire ∷ behind → (k : ℕ) (e : Wire) → k < length before
          → driver_of d.wires (get_or before k e).to.0 ≡ Some (get_or before k e).from.0
      before_driven before wire behind stands k e below =
          let size : length d.wires ≡ length (before ++ wire ∷ behind) = ap length stands in
          let place : get_or d.wires k e ≡ get_or before k e = ap (λ xs. get_or xs k e) stands ∙ get_or_append_left before (wire ∷ behind) e k below in
          subst (λ (w : Wire). driver_of d.wires w.to.0 ≡ Some w.from.0) place (driven k e (let sum = length-append before (wire ∷ behind) in omega (arith, size, sum, below)))
