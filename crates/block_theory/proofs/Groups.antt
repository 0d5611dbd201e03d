-- Where no through pin lies inside a block, no class changes there.
use Rattle.std.specs.Prelude.{◌≡◌, ℕ, ◌-◌, ◌==◌, ◌||◌, min, Bool, true, false, List, [], ◌∷◌, map, filter, find, Option, Some, None, All, slice_index_or, if◌then◌else◌}
use Rattle.std.specs.Option.{option_or}
use Rattle.std.proofs.Common.{true≢false, sym, ◌∙◌, refl, ap}
use Rattle.std.proofs.lemmas.Bool.Decides.{Decides-eqb}
use Rattle.std.proofs.lemmas.Option.{none-some}
use Rattle.std.proofs.lemmas.List.Elements.{All-head, All-tail, All-nil, All-cons}
use Rattle.bud_base.specs.declared.ids.PinId.{PinId}
use Rattle.bud_design.specs.declared.clocks.Exception.{Exception}
use Rattle.bud_design.specs.declared.clocks.Constraints.{Constraints}
use Rattle.bud_design.specs.declared.layers.Class.{Class}
use Rattle.bud_design.specs.declared.layers.Met.{Met}
use Rattle.bud_design.specs.Designs.{Design, pin_at, is_inside}
use Rattle.bud_design.specs.Exceptions.{has_pin, group_after, groups_in, groups_of, step_at, class_at}
use Rattle.bud_design.specs.Lists.{first_some}
use Rattle.block_theory.specs.Blocks.{least_pin, group_inside, through_inside}

or-none : {X : Type 0} (o p : Option X) → option_or o p ≡ None → (o ≡ None) × (p ≡ None)
or-none None p e = (refl, e)
or-none (Some x) p e = absurd (none-some x (sym e))

first_some-none : {X Y : Type 0} (f : X → Option Y) (xs : List X) → first_some f xs ≡ None → All (λ x. f x ≡ None) xs
first_some-none f [] e = All-nil (λ x. f x ≡ None)
first_some-none f (x ∷ xs) e =
    let both = or-none (f x) (first_some f xs) e in
    All-cons (λ x. f x ≡ None) x xs both.0 (first_some-none f xs both.1)

least_pin-some : (n : ℕ) (vs : List PinId) → least_pin (Some n) vs ≡ None → ⊥
least_pin-some n [] e = none-some n (sym e)
least_pin-some n (v ∷ vs) e = least_pin-some (min n v.0) vs e

or-false : (a b : Bool) → a ≡ false → b ≡ false → a || b ≡ false
or-false a b e f = rw (e, f) refl

-- none of the pins is this one, which passes the test, where none that pass it has the least number
none-such : (test : ℕ → Bool) (g : List PinId) (v : ℕ) → least_pin None (filter (λ p. test p.0) g) ≡ None → test v ≡ true → has_pin g v ≡ false
none-such test [] v none such = refl
none-such test (p ∷ ps) v none such = by_test (test p.0) refl (λ e. none-such test ps v e such)
  where
    differs : (b : Bool) → (p.0 == v) ≡ b → test p.0 ≡ false → b ≡ false
    differs false e other = refl
    differs true e other = absurd (true≢false (sym such ∙ (ap test (sym ((Decides-eqb p.0 v).0 e)) ∙ other)))

    by_test : (b : Bool) → test p.0 ≡ b → (least_pin None (filter (λ q. test q.0) ps) ≡ None → has_pin ps v ≡ false) → has_pin (p ∷ ps) v ≡ false
    by_test true e rest = absurd (least_pin-some p.0 (filter (λ q. test q.0) ps) (sym (rw e refl) ∙ none))
    by_test false e rest = or-false (p.0 == v) (has_pin ps v) (differs (p.0 == v) refl e) (rest (sym (rw e refl) ∙ none))

-- groups that don't have the pin
abbrev pub LackPin : ℕ → List (List PinId) → Type 0
LackPin v groups = All (λ g. has_pin g v ≡ false) groups

group_after-lacks : (v k : ℕ) (gs : List (List PinId)) → LackPin v gs → has_pin (group_after k gs) v ≡ false
group_after-lacks v k [] lack = refl
group_after-lacks v k (g ∷ gs) lack = by_test (k == 0) (group_after-lacks v (k - 1) gs (All-tail (λ g. has_pin g v ≡ false) g gs lack))
  where
    by_test : (b : Bool) → has_pin (group_after (k - 1) gs) v ≡ false → has_pin (if b then g else group_after (k - 1) gs) v ≡ false
    by_test true rest = All-head (λ g. has_pin g v ≡ false) g gs lack
    by_test false rest = rest

groups_of-lack : (v number : ℕ) (es : List Exception) → All (λ e. LackPin v e.groups) es → LackPin v (groups_of es number)
groups_of-lack v number [] lack = All-nil (λ g. has_pin g v ≡ false)
groups_of-lack v number (e ∷ es) lack = by_test (e.number == number) (groups_of-lack v number es (All-tail (λ e. LackPin v e.groups) e es lack))
  where
    by_test : (b : Bool) → LackPin v (groups_of es number) → LackPin v (groups_in (if b then Some e else find (λ e. e.number == number) es))
    by_test true rest = All-head (λ e. LackPin v e.groups) e es lack
    by_test false rest = rest

step_at-same : (v : ℕ) (es : List Exception) (m : Met) → All (λ e. LackPin v e.groups) es → step_at es v m ≡ m
step_at-same v es m lack = rw (group_after-lacks v m.steps (groups_of es m.number) (groups_of-lack v m.number es lack)) refl

steps-same : (v : ℕ) (es : List Exception) (ms : List Met) → All (λ e. LackPin v e.groups) es → map (step_at es v) ms ≡ ms
steps-same v es [] lack = refl
steps-same v es (m ∷ ms) lack = rw (step_at-same v es m lack, steps-same v es ms lack) refl

-- groups that have no pin inside the block lack each pin there
pub groups-lack : (d : Design) (b v : ℕ) (es : List Exception) → through_inside d (b ∷ []) es ≡ None → is_inside d.places b (pin_at d.pins v).place ≡ true → All (λ e. LackPin v e.groups) es
groups-lack d b v es none inner i e below j g within =
    let of_block = (or-none (first_some (λ e. first_some (group_inside d b) e.groups) es) None none).0 in
    let of_exception = first_some-none (λ (e : Exception). first_some (group_inside d b) e.groups) es of_block i e below in
    none-such (λ u. is_inside d.places b (pin_at d.pins u).place) (slice_index_or (slice_index_or es i e).groups j g) v
    (first_some-none (group_inside d b) (slice_index_or es i e).groups of_exception j g within) inner

-- so no class changes at a pin inside
pub class_at-inside : (d : Design) (b v : ℕ) (all : Constraints) (k : Class) → through_inside d (b ∷ []) all.exceptions ≡ None → is_inside d.places b (pin_at d.pins v).place ≡ true
    → class_at all k v ≡ k
class_at-inside d b v all k none inner =
    ap (λ ms. record { clock = k.clock; edge = k.edge; exceptions = ms }) (steps-same v all.exceptions k.exceptions (groups-lack d b v all.exceptions none inner))

-- no block of a list has a through pin inside where the list has none
pub through-each : (d : Design) (blocks : List ℕ) (es : List Exception) → through_inside d blocks es ≡ None → All (λ b. through_inside d (b ∷ []) es ≡ None) blocks
through-each d blocks es none i e below =
    rw (first_some-none (λ b. first_some (λ e. first_some (group_inside d b) e.groups) es) blocks none i e below) refl
