-- The delays of wires by the sums over their trees.
use Rattle.std.specs.Prelude.{zero, suc}
use Rattle.std.specs.List.{All, AllZip, list_any}
use Rattle.std.specs.Option.{option_map}
use Rattle.std.proofs.Common.{◌≡◌, ℕ, ◌+◌, ◌<◌, ◌≤◌, ◌⊎◌, ◌==◌, ◌||◌, Bool, true, false, cond, List, [], ◌∷◌, ◌++◌, length, map, filter, find, get_or, Option, Some, None, ℤ, ◌+ℤ◌, ◌-ℤ◌, ◌≤ℤ◌, pos, int_le, int_lt, unwrap_or, refl, sym, ap, subst, ◌∙◌, inl, inr, arith, true≢false}
use Rattle.std.proofs.lemmas.Bool.{eqb-true, eq-eqb, ne_eqb, cases_Bool}
use Rattle.std.proofs.lemmas.Grind.{common_steps}
use Rattle.std.proofs.lemmas.Int.{ints}
use Rattle.std.proofs.lemmas.Option.{same_Some, none-some}
use Rattle.std.proofs.lemmas.List.Elements.{All-nil, All-cons, All-head, All-tail}
use Rattle.bud_base.specs.declared.ids.PinId.{PinId}
use Rattle.bud_design.specs.declared.designs.Wire.{Wire}
use Rattle.bud_design.specs.Designs.{Design, driver_of, is_wire, Wired}
use Rattle.bud_design.specs.DesignRules.{IsDesign}
use Rattle.bud_design.specs.Lists.{greater, greatest}
use Rattle.net_delays.specs.Drives.{Leads, AreJoined}
use Rattle.net_delays.specs.Alongs.{along_at, ending_at, sum_of, reach, greatest_reach, IsSum}
use Rattle.net_delays.specs.Rests.{wire_at, step_of, AreSteps, is_negative_by, is_negative, IsNegativeAt, IsLeastNegative}
use Rattle.net_delays.specs.Nets.{number_into, sum_into, IsRest, AreRests, IsWireDelay, AreWireDelays, HasNegativeRest, HaveRoom}
use Rattle.net_delays.specs.declared.alongs.Along.{Along}
use Rattle.net_delays.proofs.Adding.{All-ending}
use Rattle.net_delays.proofs.NetLaws.{wire_driver, wired_before}

-- numbers that are steps, one for each wire
pub zip_steps : (sums : ℕ → ℤ) (wires : List Wire) (numbers : List ℤ) → length numbers ≡ length wires → ((k : ℕ) → k < length wires → sum_of numbers k ≡ step_of sums (wire_at wires k))
    → AllZip (λ w z. z ≡ step_of sums w) wires numbers
zip_steps sums [] [] size each = tt
zip_steps sums [] (z ∷ zs) size each = absurd (omega (arith, size))
zip_steps sums (w ∷ ws) [] size each = absurd (omega (arith, size))
zip_steps sums (w ∷ ws) (z ∷ zs) size each = (each 0 (omega arith), zip_steps sums ws zs (omega (arith, size)) (λ k below. each (suc k) (omega (arith, below))))

number-by : (sums : ℕ → ℤ) (w : Wire) (ws : List Wire) (z : ℤ) (zs : List ℤ) (v a : ℕ) (b : Bool) → w.to.0 == v ≡ b → z ≡ step_of sums w → (driver_of ws v ≡ Some a → number_into ws zs v ≡ sums v -ℤ sums a)
    → option_map (λ (x : Wire). x.from.0) (cond b (Some w) (find (λ x. x.to.0 == v) ws)) ≡ Some a → cond b z (number_into ws zs v) ≡ sums v -ℤ sums a
number-by sums w ws z zs v a true is step rest e = step ∙ (ap (λ n. sums n -ℤ sums w.from.0) (eqb-true w.to.0 v is) ∙ ap (λ n. sums v -ℤ sums n) (same_Some w.from.0 a e))
number-by sums w ws z zs v a false is step rest e = rest e

-- the number of the wire into a pin
number_is : (sums : ℕ → ℤ) (ws : List Wire) (zs : List ℤ) (v a : ℕ) → AllZip (λ w z. z ≡ step_of sums w) ws zs → driver_of ws v ≡ Some a → number_into ws zs v ≡ sums v -ℤ sums a
number_is sums [] [] v a steps e = absurd (none-some a e)
number_is sums [] (z ∷ zs) v a steps e = absurd steps
number_is sums (w ∷ ws) [] v a steps e = absurd steps
number_is sums (w ∷ ws) (z ∷ zs) v a steps e = number-by sums w ws z zs v a (w.to.0 == v) refl steps.0 (number_is sums ws zs v a steps.1) e

greatest_less-by : (x c : ℤ) (o : Option ℤ) → unwrap_or (Some (greater (x -ℤ c) (option_map (λ z. z -ℤ c) o))) (pos 0) ≡ unwrap_or (Some (greater x o)) c -ℤ c
greatest_less-by x c None = refl
greatest_less-by x c (Some y) = grind (arith, common_steps, ints)

option-less : (x c : ℤ) (o : Option ℤ) → Some (greater (x -ℤ c) (option_map (λ z. z -ℤ c) o)) ≡ option_map (λ z. z -ℤ c) (Some (greater x o))
option-less x c None = refl
option-less x c (Some y) = ap (λ z. Some z) (grind (arith, common_steps, ints))

-- the greatest of numbers that are all less by as much
greatest_less : (f : Along → ℤ) (c : ℤ) (xs : List Along) → greatest (map (λ x. f x -ℤ c) xs) ≡ option_map (λ z. z -ℤ c) (greatest (map f xs))
greatest_less f c [] = refl
greatest_less f c (x ∷ xs) = ap (λ o. Some (greater (f x -ℤ c) o)) (greatest_less f c xs) ∙ option-less (f x) c (greatest (map f xs))

unwrap_less : (c : ℤ) (o : Option ℤ) → unwrap_or (option_map (λ z. z -ℤ c) o) (pos 0) ≡ unwrap_or o c -ℤ c
unwrap_less c None = omega (arith, ints)
unwrap_less c (Some y) = refl

module _ (d : Design) (design : IsDesign d) (alongs : List Along) (sums : ℕ → ℤ) (numbers : List ℤ)
    (steps : AllZip (λ w z. z ≡ step_of sums w) d.wires numbers) (joined : All (λ x. AreJoined (driver_of d.wires) x.from.0 x.to.0) alongs) where
  -- the delays of wires before the last one add up to the difference of sums
  before_sum : (before : List ℕ) (a b u : ℕ) → driver_of d.wires b ≡ Some u → Wired d 0 a (before ++ b ∷ []) b → sum_into d numbers before ≡ sums u -ℤ sums a
  before_sum [] a b u driven wired =
      let both : Some u ≡ Some a = sym driven ∙ wire_driver d design a b wired.0 in
      let same = ap sums (same_Some u a both) in
      omega (arith, ints, same)
  before_sum (v ∷ vs) a b u driven wired =
      let rest = before_sum vs v b u driven wired.1 in
      let first = number_is sums d.wires numbers v a steps (wire_driver d design a v wired.0) in
      omega (arith, ints, rest, first)

  rest_at : (x : Along) (u : ℕ) (rest : ℤ) → driver_of d.wires x.to.0 ≡ Some u → IsRest d numbers x rest → rest ≡ reach sums x -ℤ sums u
  rest_at x u rest driven is =
      let before = before_sum is.before x.from.0 x.to.0 u driven is.wired in
      omega (arith, ints, before, is.rest_is)

  is_rest : (x : Along) (u : ℕ) → driver_of d.wires x.to.0 ≡ Some u → AreJoined (driver_of d.wires) x.from.0 x.to.0 → IsRest d numbers x (reach sums x -ℤ sums u)
  is_rest x u driven net =
      let way = wired_before d design x.from.0 x.to.0 net.leads in
      let before = before_sum way.0 x.from.0 x.to.0 u driven way.1 in
      record { before = way.0; wired = way.1; rest_is = omega (arith, ints, before) }

  rests_from : (u : ℕ) (xs : List Along) → All (λ x. IsRest d numbers x (reach sums x -ℤ sums u)) xs → AllZip (IsRest d numbers) xs (map (λ x. reach sums x -ℤ sums u) xs)
  rests_from u [] each = tt
  rests_from u (x ∷ xs) each = (All-head (λ y. IsRest d numbers y (reach sums y -ℤ sums u)) x xs each, rests_from u xs (All-tail (λ y. IsRest d numbers y (reach sums y -ℤ sums u)) x xs each))

  -- the rests at a pin with this driver
  are_rests : (v u : ℕ) → driver_of d.wires v ≡ Some u → AreRests d alongs numbers v (map (λ x. reach sums x -ℤ sums u) (ending_at alongs v))
  are_rests v u driven = rests_from u (ending_at alongs v) (All-ending (λ x. IsRest d numbers x (reach sums x -ℤ sums u)) alongs v
      (λ k e below ends. is_rest (get_or alongs k e) u (ap (driver_of d.wires) ends ∙ driven) (joined k e below)))

  wire_delay : (w : Wire) (z : ℤ) → driver_of d.wires w.to.0 ≡ Some w.from.0 → IsSum (driver_of d.wires) alongs sums w.to.0 → z ≡ step_of sums w → IsWireDelay d alongs numbers w.to.0 z
  wire_delay w z driven sum step = record {
    rests = map (λ x. reach sums x -ℤ sums w.from.0) (ending_at alongs w.to.0);
    are_rests = are_rests w.to.0 w.from.0 driven;
    number_is =
        step ∙ (ap (λ s. s -ℤ sums w.from.0) (sum w.from.0 driven)
        ∙ sym (ap (λ o. unwrap_or o (pos 0)) (greatest_less (reach sums) (sums w.from.0) (ending_at alongs w.to.0)) ∙ unwrap_less (sums w.from.0) (greatest_reach sums alongs w.to.0)));
  }

  pub delays_of : (ws : List Wire) (zs : List ℤ) → AllZip (λ w z. z ≡ step_of sums w) ws zs → All (λ (w : Wire). driver_of d.wires w.to.0 ≡ Some w.from.0) ws → ((v : ℕ) → IsSum (driver_of d.wires) alongs sums v)
      → AllZip (λ w z. IsWireDelay d alongs numbers w.to.0 z) ws zs
  delays_of [] [] zip driven sum = tt
  delays_of [] (z ∷ zs) zip driven sum = absurd zip
  delays_of (w ∷ ws) [] zip driven sum = absurd zip
  delays_of (w ∷ ws) (z ∷ zs) zip driven sum = (
    wire_delay w z (All-head (λ (x : Wire). driver_of d.wires x.to.0 ≡ Some x.from.0) w ws driven) (sum w.to.0) zip.0,
    delays_of ws zs zip.1 (All-tail (λ (x : Wire). driver_of d.wires x.to.0 ≡ Some x.from.0) w ws driven) sum,
  )

  -- the rests at a pin are these alone
  only_rests : (u : ℕ) (xs : List Along) (rests : List ℤ) → All (λ x. driver_of d.wires x.to.0 ≡ Some u) xs → AllZip (IsRest d numbers) xs rests → rests ≡ map (λ x. reach sums x -ℤ sums u) xs
  only_rests u [] [] driven zip = refl
  only_rests u [] (z ∷ zs) driven zip = absurd zip
  only_rests u (x ∷ xs) [] driven zip = absurd zip
  only_rests u (x ∷ xs) (z ∷ zs) driven zip =
      let first : z ≡ reach sums x -ℤ sums u = rest_at x u z (All-head (λ y. driver_of d.wires y.to.0 ≡ Some u) x xs driven) zip.0 in
      let others = only_rests u xs zs (All-tail (λ y. driver_of d.wires y.to.0 ≡ Some u) x xs driven) zip.1 in
      ap (λ y. y ∷ zs) first ∙ ap (λ ys. (reach sums x -ℤ sums u) ∷ ys) others

  less_is : (x y : ℤ) → int_lt (x -ℤ y) (pos 0) ≡ int_lt x y
  less_is x y = grind (arith, common_steps, ints)

  none_less : (u : ℕ) (xs : List Along) → All (λ x. int_lt (reach sums x) (sums u) ≡ false) xs → list_any (λ z. int_lt z (pos 0)) (map (λ x. reach sums x -ℤ sums u) xs) ≡ false
  none_less u [] each = refl
  none_less u (x ∷ xs) each =
      ap (λ b. b || list_any (λ z. int_lt z (pos 0)) (map (λ y. reach sums y -ℤ sums u) xs)) (less_is (reach sums x) (sums u) ∙ All-head (λ y. int_lt (reach sums y) (sums u) ≡ false) x xs each)
      ∙ none_less u xs (All-tail (λ y. int_lt (reach sums y) (sums u) ≡ false) x xs each)

  -- no rest is negative at a pin where no delay reaches too little
  pub no_negative_rest : (v u : ℕ) → driver_of d.wires v ≡ Some u → All (λ x. x.to.0 ≡ v → is_negative (driver_of d.wires) sums x ≡ false) alongs → HasNegativeRest d alongs numbers v → ⊥
  no_negative_rest v u driven each has =
      let rests = only_rests u (ending_at alongs v) has.rests
      (All-ending (λ x. driver_of d.wires x.to.0 ≡ Some u) alongs v (λ k e below ends. ap (driver_of d.wires) ends ∙ driven)) has.are_rests in
      let none = none_less u (ending_at alongs v) (All-ending (λ x. int_lt (reach sums x) (sums u) ≡ false) alongs v (λ k e below ends.
      sym (ap (is_negative_by sums (get_or alongs k e)) (ap (driver_of d.wires) ends ∙ driven)) ∙ each k e below ends)) in
      true≢false (sym has.negative ∙ (ap (list_any (λ z. int_lt z (pos 0))) rests ∙ none))

  or-later : (a b : Bool) → b ≡ true → a || b ≡ true
  or-later true b holds = refl
  or-later false b holds = holds

  some-by : (x : Along) (xs : List Along) (v u : ℕ) (b : Bool) → x.to.0 == v ≡ b → list_any (λ z. int_lt z (pos 0)) (map (λ y. reach sums y -ℤ sums u) (ending_at xs v)) ≡ true
      → list_any (λ z. int_lt z (pos 0)) (map (λ y. reach sums y -ℤ sums u) (cond b (x ∷ ending_at xs v) (ending_at xs v))) ≡ true
  some-by x xs v u true is rest = or-later (int_lt (reach sums x -ℤ sums u) (pos 0)) (list_any (λ z. int_lt z (pos 0)) (map (λ y. reach sums y -ℤ sums u) (ending_at xs v))) rest
  some-by x xs v u false is rest = rest

  some_less : (xs : List Along) (v u k : ℕ) → k < length xs → (along_at xs k).to.0 ≡ v → int_lt (reach sums (along_at xs k)) (sums u) ≡ true
      → list_any (λ z. int_lt z (pos 0)) (map (λ x. reach sums x -ℤ sums u) (ending_at xs v)) ≡ true
  some_less [] v u k below ends less = absurd (omega (arith, below))
  some_less (x ∷ xs) v u zero below ends less = rw (eq-eqb x.to.0 v ends, less_is (reach sums x) (sums u), less) refl
  some_less (x ∷ xs) v u (suc k) below ends less = some-by x xs v u (x.to.0 == v) refl (some_less xs v u k (omega (arith, below)) ends less)

  driven-by : (x : Along) (o : Option ℕ) → is_negative_by sums x o ≡ true → (u : ℕ) × ((o ≡ Some u) × (int_lt (reach sums x) (sums u) ≡ true))
  driven-by x None less = absurd (true≢false (sym less))
  driven-by x (Some u) less = (u, (refl, less))

  -- one is, where one reaches too little
  pub negative_rest : (v : ℕ) → IsNegativeAt (driver_of d.wires) sums alongs (length alongs) v → HasNegativeRest d alongs numbers v
  negative_rest v found =
      let driven = driven-by (along_at alongs found.place) (driver_of d.wires (along_at alongs found.place).to.0) found.negative in
      let is : driver_of d.wires v ≡ Some driven.0 = sym (ap (driver_of d.wires) found.ends) ∙ driven.1.0 in
      record {
        rests = map (λ x. reach sums x -ℤ sums driven.0) (ending_at alongs v);
        are_rests = are_rests v driven.0 is;
        negative = some_less alongs v driven.0 found.place found.before found.ends driven.1.1;
      }
