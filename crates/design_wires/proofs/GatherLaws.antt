-- The wires of all places, place by place.
use Rattle.std.specs.Prelude.{◌≡◌, ℕ, ◌<◌, ◌+◌, List, [], ◌∷◌, ◌++◌, length, map, take, drop, flat_map, slice_index_or, Option, All, Contains}
use Rattle.std.specs.List.{range_with_len}
use Rattle.std.proofs.Common.{arith, sym, ◌∙◌, ap, subst}
use Rattle.std.proofs.lemmas.List.{append-nil, take_more, take-append-drop}
use Rattle.std.proofs.lemmas.List.Concat.{flat_map-append}
use Rattle.std.proofs.lemmas.List.Elements.{All-map, Contains-append_left, filter_map-append}
use Rattle.bud_design.specs.declared.designs.Place.{Place}
use Rattle.bud_design.specs.declared.designs.Pin.{Pin}
use Rattle.bud_design.specs.declared.designs.Wire.{Wire}
use Rattle.net_drivers.specs.declared.pins.LocalWire.{LocalWire}
use Rattle.elaborations.specs.Elaborations.{wire_at}
use Rattle.elaborations.proofs.Lists.{range-append, All-flat_map}
use Rattle.design_wires.specs.Gathering.{gathered, JoinPins}
use Rattle.design_wires.specs.Sorting.{somes}

pub flat_map-more : {X : Type 0} (f : ℕ → List X) (n : ℕ) → flat_map f (range_with_len 0 (n + 1)) ≡ flat_map f (range_with_len 0 n) ++ f n
flat_map-more f n =
    ap (flat_map f) (range-append 0 n 1 ∙ ap (λ j. range_with_len 0 n ++ j ∷ []) (let z : 0 + n ≡ n = omega arith in z))
    ∙ (flat_map-append f (range_with_len 0 n) (n ∷ []) ∙ ap (λ xs. flat_map f (range_with_len 0 n) ++ xs) (append-nil (f n)))

-- the wires end at pins of the design
pub gathered-within : (places : List Place) (pins : List Pin) (wires : ℕ → List LocalWire) → JoinPins places pins wires → All (λ w. w.to.0 < length pins) (gathered places pins wires)
gathered-within places pins wires join =
    All-flat_map (λ w. w.to.0 < length pins) (λ p. map (wire_at places pins p) (wires p)) 0 (length places)
    (λ p low high. All-map (λ w. w.to.0 < length pins) (wire_at places pins p) (wires p) (λ k d below. (join p (omega (arith, high)) k d below).to.below))

pub somes-more : (slots : List (Option Wire)) (i : ℕ) (slot : Option Wire) → i < length slots → slot ≡ slice_index_or slots i slot → somes (take (i + 1) slots) ≡ somes (take i slots) ++ somes (slot ∷ [])
somes-more slots i slot below is =
    ap somes (take_more slots i slot below ∙ ap (λ s. take i slots ++ s ∷ []) (sym is)) ∙ filter_map-append (λ s. s) (take i slots) (slot ∷ [])

pub contains-take : (xs : List Wire) (i : ℕ) (x : Wire) → Contains (take i xs) x → Contains xs x
contains-take xs i x has = subst (λ ys. Contains ys x) (take-append-drop i xs) (Contains-append_left (take i xs) (drop i xs) x has)
