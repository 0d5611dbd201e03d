-- Delays along wires decide the list of the wires' delays.
use Rattle.std.specs.Prelude.{suc}
use Rattle.std.specs.List.{All, AllPairs, AllZip, list_any}
use Rattle.std.specs.Option.{option_map}
use Rattle.std.proofs.Common.{◌≡◌, ℕ, ◌<◌, ◌==◌, ◌||◌, nat_lt, Bool, true, false, cond, List, [], ◌∷◌, length, find, get_or, Some, ℤ, pos, ◌+ℤ◌, ◌-ℤ◌, refl, sym, ap, subst, ◌∙◌, arith, true≢false}
use Rattle.std.proofs.lemmas.Bool.{eqb-true, eq-eqb, ne_eqb, ltb-true}
use Rattle.std.proofs.lemmas.Slice.Zip.{AllZip-long}
use Rattle.std.proofs.lemmas.Option.{same_Some, none-some}
use Rattle.std.proofs.lemmas.List.Elements.{All-head, All-tail, All-weaker}
use Rattle.bud_design.specs.declared.designs.Wire.{Wire}
use Rattle.bud_design.specs.Designs.{Design, is_wire, LeadsTo}
use Rattle.bud_design.specs.DesignRules.{IsDesign, IsWireIn}
use Rattle.net_delays.specs.Alongs.{ending_at}
use Rattle.net_delays.specs.Nets.{AreOneNet, number_into, sum_into, IsRest, IsWireDelay, AreWireDelays}
use Rattle.net_delays.specs.declared.alongs.Along.{Along}
use Rattle.net_delays.proofs.NetLaws.{wire_driver}
use Rattle.timing_laws.specs.Delays.{sum_at, IsRestOf, AreDelaysOf, is_driven}
use Rattle.timing_laws.proofs.WireDelays.{delays-agree}

module _ (d : Design) (alongs : List Along) (numbers : List ℤ) where
  sum-same : (vs : List ℕ) → sum_into d numbers vs ≡ sum_at (number_into d.wires numbers) vs
  sum-same [] = refl
  sum-same (v ∷ vs) = ap (λ s. number_into d.wires numbers v +ℤ s) (sum-same vs)

  rest-of : (x : Along) (rest : ℤ) → IsRest d numbers x rest → IsRestOf d 0 (λ (y : Along). y.from.0) (λ (y : Along). y.to.0) (λ (y : Along). y.value) (number_into d.wires numbers) x rest
  rest-of x rest is = record { before = is.before; wired = is.wired; rest_is = is.rest_is ∙ ap (λ s. x.value -ℤ s) (sum-same is.before) }

  rests-of : (xs : List Along) (rests : List ℤ) → AllZip (IsRest d numbers) xs rests
      → AllZip (IsRestOf d 0 (λ (y : Along). y.from.0) (λ (y : Along). y.to.0) (λ (y : Along). y.value) (number_into d.wires numbers)) xs rests
  rests-of [] [] zip = zip
  rests-of [] (r ∷ rs) zip = absurd zip
  rests-of (x ∷ xs) [] zip = absurd zip
  rests-of (x ∷ xs) (r ∷ rs) zip = (rest-of x r zip.0, rests-of xs rs zip.1)

  -- what the number of the wire into a pin is
  number-none : (ws : List Wire) (zs : List ℤ) (v : ℕ) → list_any (λ w. w.to.0 == v) ws ≡ false → number_into ws zs v ≡ pos 0
  number-none [] zs v none = refl
  number-none (w ∷ ws) [] v none = refl
  number-none (w ∷ ws) (z ∷ zs) v none = by_test (w.to.0 == v) none (number-none ws zs v)
    where
      by_test : (b : Bool) → (b || list_any (λ (u : Wire). u.to.0 == v) ws) ≡ false → (list_any (λ (u : Wire). u.to.0 == v) ws ≡ false → number_into ws zs v ≡ pos 0) → cond b z (number_into ws zs v) ≡ pos 0
      by_test true quiet rest = absurd (true≢false quiet)
      by_test false quiet rest = rest quiet

  number-some : (ws : List Wire) (zs : List ℤ) (v : ℕ) → AllZip (λ (w : Wire) z. IsWireDelay d alongs numbers w.to.0 z) ws zs → list_any (λ w. w.to.0 == v) ws ≡ true → IsWireDelay d alongs numbers v (number_into ws zs v)
  number-some [] zs v zip some = absurd (true≢false (sym some))
  number-some (w ∷ ws) [] v zip some = absurd zip
  number-some (w ∷ ws) (z ∷ zs) v zip some = by_test (w.to.0 == v) refl some (number-some ws zs v zip.1)
    where
      by_test : (b : Bool) → (w.to.0 == v) ≡ b → (b || list_any (λ (u : Wire). u.to.0 == v) ws) ≡ true → (list_any (λ (u : Wire). u.to.0 == v) ws ≡ true → IsWireDelay d alongs numbers v (number_into ws zs v))
          → IsWireDelay d alongs numbers v (cond b z (number_into ws zs v))
      by_test true is some rest = subst (λ u. IsWireDelay d alongs numbers u z) (eqb-true w.to.0 v is) zip.0
      by_test false is some rest = rest some

  are-delays : AreWireDelays d alongs numbers → AreDelaysOf d 0 (λ (y : Along). y.from.0) (λ (y : Along). y.to.0) (λ (y : Along). y.value) alongs (is_driven d) (number_into d.wires numbers)
  are-delays delays = record {
    none = λ v quiet. number-none d.wires numbers v quiet;
    each = λ v driven. (let is = number-some d.wires numbers v delays driven in (is.rests, (rests-of (ending_at alongs v) is.rests is.are_rests, is.number_is)));
  }

tail-rises : (w : Wire) (ws : List Wire) → AllPairs (λ (x y : Wire). nat_lt x.to.0 y.to.0 ≡ true) (w ∷ ws) → AllPairs (λ (x y : Wire). nat_lt x.to.0 y.to.0 ≡ true) ws
tail-rises w ws rises = λ i j e less below. rises (suc i) (suc j) e (omega (arith, less)) (omega (arith, below))

-- numbers that are the same at each last pin are the same
lists-same : (ws : List Wire) (xs ys : List ℤ) → AllPairs (λ (x y : Wire). nat_lt x.to.0 y.to.0 ≡ true) ws → length xs ≡ length ws → length ys ≡ length ws → ((k : ℕ) (e : Wire) → k < length ws → number_into ws xs (get_or ws k e).to.0 ≡ number_into ws ys (get_or ws k e).to.0) → xs ≡ ys
lists-same [] [] [] rises first second same = refl
lists-same [] (x ∷ xs) ys rises first second same = absurd (omega (arith, first))
lists-same [] [] (y ∷ ys) rises first second same = absurd (omega (arith, second))
lists-same (w ∷ ws) [] ys rises first second same = absurd (omega (arith, first))
lists-same (w ∷ ws) (x ∷ xs) [] rises first second same = absurd (omega (arith, second))
lists-same (w ∷ ws) (x ∷ xs) (y ∷ ys) rises first second same =
    let own : (w.to.0 == w.to.0) ≡ true = eq-eqb w.to.0 w.to.0 refl in
    let here : x ≡ y = subst (λ b. cond b x (number_into ws xs w.to.0) ≡ cond b y (number_into ws ys w.to.0)) own (same 0 w (omega arith)) in
    ap (λ z. z ∷ xs) here ∙ ap (λ zs. y ∷ zs) (lists-same ws xs ys (tail-rises w ws rises) (omega (arith, first)) (omega (arith, second)) (λ k e below.
    let less = ltb-true w.to.0 (get_or ws k e).to.0 (rises 0 (suc k) e (omega arith) (omega (arith, below))) in
    let other : (w.to.0 == (get_or ws k e).to.0) ≡ false = ne_eqb w.to.0 (get_or ws k e).to.0 (λ equal. omega (arith, equal, less)) in
    subst (λ b. cond b x (number_into ws xs (get_or ws k e).to.0) ≡ cond b y (number_into ws ys (get_or ws k e).to.0)) other (same (suc k) e (omega (arith, below)))))

module _ (d : Design) (design : IsDesign d) where
  one-driver : (a b v : ℕ) → is_wire d 0 a v ≡ true → is_wire d 0 b v ≡ true → a ≡ b
  one-driver a b v first second = same_Some a b (sym (wire_driver d design a v first) ∙ wire_driver d design b v second)

  find-within : (ws : List Wire) (v u : ℕ) → All (λ (w : Wire). w.from.0 < length d.pins) ws → option_map (λ (w : Wire). w.from.0) (find (λ w. w.to.0 == v) ws) ≡ Some u → u < length d.pins
  find-within [] v u each e = absurd (none-some u e)
  find-within (w ∷ ws) v u each e = by_test (w.to.0 == v) e (find-within ws v u (All-tail (λ (x : Wire). x.from.0 < length d.pins) w ws each))
    where
      by_test : (b : Bool) → option_map (λ (x : Wire). x.from.0) (cond b (Some w) (find (λ (x : Wire). x.to.0 == v) ws)) ≡ Some u → (option_map (λ (x : Wire). x.from.0) (find (λ (x : Wire). x.to.0 == v) ws) ≡ Some u → u < length d.pins) → u < length d.pins
      by_test true here rest = subst (λ x. x < length d.pins) (same_Some w.from.0 u here) (All-head (λ (x : Wire). x.from.0 < length d.pins) w ws each)
      by_test false here rest = rest here

  lead-within : (a b : ℕ) → LeadsTo d 0 a b → a < length d.pins
  lead-within a b leads = find-within d.wires leads.0 a (All-weaker (IsWireIn d) (λ (w : Wire). w.from.0 < length d.pins) (λ w is. is.from) d.wires design.wires) (wire_driver d design a leads.0 leads.1.1.0)

  module _ (alongs : List Along) (nets : All (λ x. AreOneNet d x.from.0 x.to.0) alongs) where
    pub one-list_of_delays : (xs ys : List ℤ) → AreWireDelays d alongs xs → AreWireDelays d alongs ys → xs ≡ ys
    one-list_of_delays xs ys first second =
        lists-same d.wires xs ys design.by_last_pin
        (AllZip-long (λ (w : Wire) z. IsWireDelay d alongs xs w.to.0 z) d.wires xs first) (AllZip-long (λ (w : Wire) z. IsWireDelay d alongs ys w.to.0 z) d.wires ys second)
        (λ k e below. delays-agree d 0 (λ (x : Along). x.from.0) (λ (x : Along). x.to.0) (λ (x : Along). x.value) alongs (is_driven d) one-driver (length d.pins) lead-within
        (All-weaker (λ x. AreOneNet d x.from.0 x.to.0) (λ x. LeadsTo d 0 x.to.0 x.to.0 → ⊥) (λ x net. net.no_ring) alongs nets)
        (number_into d.wires xs) (number_into d.wires ys) (are-delays d alongs xs first) (are-delays d alongs ys second) (get_or d.wires k e).to.0)
