-- The spans of pieces that are not refused.
use Rattle.std.proofs.Common.{◌≡◌, ◌∙◌, ℕ, ◌+◌, ◌≤◌, List, [], ◌∷◌, ◌||◌, length, refl, ap, sym, subst, Option, Some, None, map}
use Rattle.std.proofs.lemmas.Option.{same_Some}
use Rattle.bud_syntax.specs.declared.modules.Module.{Module}
use Rattle.bud_syntax.specs.declared.modules.Range.{Range}
use Rattle.bud_syntax.specs.declared.modules.Piece.{Piece}
use Rattle.bud_syntax.specs.declared.modules.Piece.TheVariants.{Net, Bit, Part}
use Rattle.module_nets.specs.Entering.{bad_select, is_outside}
use Rattle.module_nets.specs.Gathering.{place_among}
use Rattle.module_nets.specs.NetTables.{IsNetSpan, IsSpanOf, IsSpan, IsOfNet, IsNetOf}
use Rattle.module_nets.specs.Nets.{NetBit, piece_net, piece_bits, all_bits, range_of, net_bits, bit_of, range_bits}
use Rattle.module_nets.specs.Numbers.{module_nets, capped, place_in, IsNamedApart}
use Rattle.module_nets.specs.declared.gathering.NetPlace.{NetPlace}
use Rattle.module_nets.specs.declared.nets.Span.{Span}
use Rattle.module_nets.proofs.SpanLaws.{IsWithin, stands, not_found, part_span, bit_span, inside_of, unrefused, both_inside}

map-twice : {X Y Z : Type 0} (f : X → Y) (g : Y → Z) (xs : List X) → map g (map f xs) ≡ map (λ x. g (f x)) xs
map-twice f g [] = refl
map-twice f g (x ∷ xs) = ap (λ ys. g (f x) ∷ ys) (map-twice f g xs)

same_span : (m : Module) (name : List ℕ) (s : Span) → IsSpan m (map (λ b. Some b) (net_bits m name)) s → IsSpan m (piece_bits m (Net name)) s
same_span m name s span =
    let P : List (Option NetBit) → Type 0 = λ bits. IsSpan m bits s in
    subst P (map-twice (bit_of name) (λ b. Some b) (range_bits (range_of m name))) span

-- the span of a whole net
pub net_piece : (m : Module) (piece : Piece) (name slice : List ℕ) (span : Option Span) → piece ≡ Net name → slice ≡ name → IsNetSpan m slice span → IsSpanOf m piece span
net_piece m piece name slice None is slice_is span = absurd span
net_piece m piece name slice (Some s) is slice_is span =
    let P : Piece → Type 0 = λ p. IsSpan m (piece_bits m p) s in
    let Q : List ℕ → Type 0 = λ n. IsSpan m (map (λ b. Some b) (net_bits m n)) s in
    subst P (sym is) (same_span m name s (subst Q slice_is span))

pub used_net : (m : Module) (piece : Piece) (name slice : List ℕ) → piece_net piece ≡ Some name → slice ≡ name → IsOfNet m (piece_net piece) → IsNetOf m slice
used_net m piece name slice net slice_is used =
    let P : Option (List ℕ) → Type 0 = IsOfNet m in
    let Q : List ℕ → Type 0 = IsNetOf m in
    subst Q (sym slice_is) (subst P net used)

-- the net of a piece is in the table
pub piece_found : {X : Type 0} (m : Module) (piece : Piece) (name slice : List ℕ) (found : Option NetPlace) → piece_net piece ≡ Some name → slice ≡ name → IsOfNet m (piece_net piece)
    → found ≡ place_among 0 (module_nets m) slice → found ≡ None → X
piece_found m piece name slice found net slice_is used found_is none =
    absurd (not_found m slice found (used_net m piece name slice net slice_is used) found_is none)

-- the span of one bit
pub bit_piece : (m : Module) (piece : Piece) (name slice : List ℕ) (n number bits : ℕ) (found : Option NetPlace) (place : NetPlace) → IsNamedApart m → bits ≡ capped (length (all_bits m)) → bits ≤ 8388608
    → IsOfNet m (piece_net piece) → bad_select m piece ≡ None → piece ≡ Bit name n → slice ≡ name → found ≡ place_among 0 (module_nets m) slice → found ≡ Some place
    → number ≡ capped (place.first + place_in place.range (Some n)) → IsSpan m (piece_bits m piece) (record { first = number; last = number })
bit_piece m piece name slice n number bits found place apart all small used select is slice_is found_is place_is number_is =
    let net : piece_net piece ≡ Some name = ap piece_net is in
    let there : IsNetOf m name = used_net m piece name name net refl used in
    let stood = stands m name found place bits apart there (found_is ∙ ap (place_among 0 (module_nets m)) slice_is) place_is all small in
    let inside = inside_of (range_of m name) n (unrefused (is_outside (range_of m name) n) name (sym (ap (bad_select m) is) ∙ select)) in
    let P : Piece → Type 0 = λ p. IsSpan m (piece_bits m p) (record { first = number; last = number }) in
    subst P (sym is) (bit_span m name place inside.bounds n number stood (stood.range ∙ inside.is) inside.within number_is)

-- the span of a part
pub part_piece : (m : Module) (piece : Piece) (name slice : List ℕ) (a b first last bits : ℕ) (found : Option NetPlace) (place : NetPlace) → IsNamedApart m → bits ≡ capped (length (all_bits m)) → bits ≤ 8388608
    → IsOfNet m (piece_net piece) → bad_select m piece ≡ None → piece ≡ Part name a b → slice ≡ name → found ≡ place_among 0 (module_nets m) slice → found ≡ Some place
    → first ≡ capped (place.first + place_in place.range (Some a)) → last ≡ capped (place.first + place_in place.range (Some b))
    → IsSpan m (piece_bits m piece) (record { first = first; last = last })
part_piece m piece name slice a b first last bits found place apart all small used select is slice_is found_is place_is first_is last_is =
    let net : piece_net piece ≡ Some name = ap piece_net is in
    let there : IsNetOf m name = used_net m piece name name net refl used in
    let stood = stands m name found place bits apart there (found_is ∙ ap (place_among 0 (module_nets m)) slice_is) place_is all small in
    let parts = both_inside (is_outside (range_of m name) a) (is_outside (range_of m name) b)
    (unrefused (is_outside (range_of m name) a || is_outside (range_of m name) b) name (sym (ap (bad_select m) is) ∙ select)) in
    let ina = inside_of (range_of m name) a parts.0 in
    let inb = inside_of (range_of m name) b parts.1 in
    let one : inb.bounds ≡ ina.bounds = same_Some inb.bounds ina.bounds (sym inb.is ∙ ina.is) in
    let Q : Range → Type 0 = λ r. IsWithin r.left r.right b in
    let P : Piece → Type 0 = λ p. IsSpan m (piece_bits m p) (record { first = first; last = last }) in
    subst P (sym is) (part_span m name place ina.bounds a b first last stood (stood.range ∙ ina.is) ina.within (subst Q one inb.within) first_is last_is)
