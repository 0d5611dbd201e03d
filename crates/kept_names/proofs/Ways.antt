-- The names of pins below a root, and of modules.
use Rattle.std.proofs.Common.{◌≡◌, ℕ, zero, suc, ◌<◌, true, Option, Some, None, List, [], ◌∷◌, ◌++◌, map, reverse, take_while, length, All, not, ◌==◌, refl, sym, subst}
use Rattle.std.specs.List.{AllByRecursion}
use Rattle.std.proofs.lemmas.List.{reverse-append}
use Rattle.std.proofs.lemmas.List.Elements.{All-head, All-tail}
use Rattle.bud_design.specs.declared.designs.Place.{Place}
use Rattle.bud_design.specs.Designs.{Design, place_at, pin_at, lineage, way_down, pin_name}
use Rattle.bud_design.specs.DesignRules.{HasPlaceName, HasPrintedTexts, HasPrintedNames}
use Rattle.bud_design.specs.Names.{bit_name}
use Rattle.bud_design.proofs.NameLaws.{IsShort}
use Rattle.sdc_writer.specs.Printable.{is_kept_name}
use Rattle.kept_names.proofs.Names.{Kept, IsKept, name_kept, bit_kept, join_kept}

own_kept : (parent : Option ℕ) (name : List ℕ) → HasPlaceName parent name → Kept name
own_kept None name is = subst Kept (sym is) refl
own_kept (Some parent) name is = (name_kept name is).kept

-- the name of any place; there is none past the last
place_kept : (places : List Place) (p : ℕ) → All HasPrintedTexts places → Kept (place_at places p).name
place_kept [] p all = refl
place_kept (x ∷ xs) zero all = own_kept x.parent x.name (All-head HasPrintedTexts x xs all).0
place_kept (x ∷ xs) (suc p) all = place_kept xs p (All-tail HasPrintedTexts x xs all)

all_kept : (places : List Place) (ps : List ℕ) → All HasPrintedTexts places → AllByRecursion Kept (map (λ q. (place_at places q).name) ps)
all_kept places [] all = tt
all_kept places (p ∷ ps) all = (place_kept places p all, all_kept places ps all)

both_kept : (xs ys : List (List ℕ)) → AllByRecursion Kept xs → AllByRecursion Kept ys → AllByRecursion Kept (xs ++ ys)
both_kept [] ys first second = second
both_kept (x ∷ xs) ys first second = (first.0, both_kept xs ys first.1 second)

reversed_kept : (xs : List (List ℕ)) → AllByRecursion Kept xs → AllByRecursion Kept (reverse xs)
reversed_kept [] all = tt
reversed_kept (x ∷ xs) all = subst (AllByRecursion Kept) (sym (reverse-append (x ∷ []) xs)) (both_kept (reverse xs) (x ∷ []) (reversed_kept xs all.1) (all.0, tt))

kept_is : (name : List ℕ) → IsKept name → is_kept_name name ≡ true
kept_is name is = rw (is.some, is.kept) refl

pub pin_kept : (d : Design) (root v : ℕ) → HasPrintedNames d → All (λ x. IsShort x.bit) d.pins → v < length d.pins → is_kept_name (pin_name d root v) ≡ true
pin_kept d root v names shorts below =
    let pin = pin_at d.pins v in
    let way = reversed_kept (map (λ q. (place_at d.places q).name) (take_while (λ q. not (q == root)) (lineage d.places pin.place))) (all_kept d.places (take_while (λ q. not (q == root)) (lineage d.places pin.place)) names.places) in
    let last = bit_kept pin.port pin.bit (shorts v (pin_at [] 0) below) (name_kept pin.port (names.ports v (pin_at [] 0) below)) in
    kept_is (pin_name d root v) (join_kept (way_down d.places root pin.place) (bit_name pin.port pin.bit) way last)

pub module_kept : (d : Design) (p : ℕ) → HasPrintedNames d → p < length d.places → is_kept_name (place_at d.places p).«module» ≡ true
module_kept d p names below = kept_is (place_at d.places p).«module» (name_kept (place_at d.places p).«module» (names.places p (place_at [] 0) below).1)
