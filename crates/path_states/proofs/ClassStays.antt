-- The class stays at a pin that lies in no group.
use Rattle.std.proofs.Common.{◌≡◌, ℕ, ◌==◌, ◌-◌, ◌||◌, Bool, true, false, List, [], ◌∷◌, map, Some, refl, ◌∙◌, ap, true≢false}
use Rattle.std.specs.Prelude.{find, if◌then◌else◌}
use Rattle.std.specs.List.{list_any}
use Rattle.bud_base.specs.declared.ids.PinId.{PinId}
use Rattle.bud_design.specs.Exceptions.{has_pin, group_after, groups_in, groups_of, step_at, class_at}
use Rattle.bud_design.specs.declared.clocks.Constraints.{Constraints}
use Rattle.bud_design.specs.declared.clocks.Exception.{Exception}
use Rattle.bud_design.specs.declared.layers.Class.{Class}
use Rattle.bud_design.specs.declared.layers.Met.{Met}
use Rattle.path_states.specs.Groups.{is_in_groups}

or-false : (a b : Bool) → a || b ≡ false → (a ≡ false) × (b ≡ false)
or-false true b none = absurd (true≢false none)
or-false false b none = (refl, none)

-- a pin in none of the groups is not in the one behind some of them
outside-group : (groups : List (List PinId)) (k v : ℕ) → list_any (λ g. has_pin g v) groups ≡ false → has_pin (group_after k groups) v ≡ false
outside-group [] k v none = refl
outside-group (g ∷ gs) k v none =
    let both = or-false (has_pin g v) (list_any (λ h. has_pin h v) gs) none in
    at_or_behind (k == 0) both.0 (outside-group gs (k - 1) v both.1)
  where
    at_or_behind : (b : Bool) → has_pin g v ≡ false → has_pin (group_after (k - 1) gs) v ≡ false → has_pin (if b then g else group_after (k - 1) gs) v ≡ false
    at_or_behind true here later = here
    at_or_behind false here later = later

outside-found : (es : List Exception) (number v : ℕ) → list_any (λ e. is_in_groups e v) es ≡ false → list_any (λ g. has_pin g v) (groups_of es number) ≡ false
outside-found [] number v none = refl
outside-found (e ∷ es) number v none =
    let both = or-false (is_in_groups e v) (list_any (λ x. is_in_groups x v) es) none in
    here_or_later (e.number == number) both.0 (outside-found es number v both.1)
  where
    here_or_later : (b : Bool) → is_in_groups e v ≡ false → list_any (λ g. has_pin g v) (groups_of es number) ≡ false
        → list_any (λ g. has_pin g v) (groups_in (if b then Some e else find (λ x. x.number == number) es)) ≡ false
    here_or_later true here later = here
    here_or_later false here later = later

step-stays : (es : List Exception) (v : ℕ) (m : Met) → list_any (λ e. is_in_groups e v) es ≡ false → step_at es v m ≡ m
step-stays es v m none = rw (outside-group (groups_of es m.number) m.steps v (outside-found es m.number v none)) refl

steps-stay : (es : List Exception) (v : ℕ) (ms : List Met) → list_any (λ e. is_in_groups e v) es ≡ false → map (step_at es v) ms ≡ ms
steps-stay es v [] none = refl
steps-stay es v (m ∷ ms) none = ap (λ x. x ∷ map (step_at es v) ms) (step-stays es v m none) ∙ ap (λ xs. m ∷ xs) (steps-stay es v ms none)

pub class-stays : (all : Constraints) (k : Class) (v : ℕ) → list_any (λ e. is_in_groups e v) all.exceptions ≡ false → class_at all k v ≡ k
class-stays all k v none = ap (λ ms. record { clock = k.clock; edge = k.edge; exceptions = ms }) (steps-stay all.exceptions v k.exceptions none)
