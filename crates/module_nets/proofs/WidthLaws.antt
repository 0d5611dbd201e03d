-- How many bits ranges, ports and nets have.
use Rattle.std.proofs.Common.{◌≡◌, ℕ, ◌+◌, ◌-◌, ◌<◌, ◌≤◌, nat_le, Option, Some, None, List, [], ◌∷◌, length, map, sum_by, length-append, refl, sym, ap, ◌∙◌, arith}
use Rattle.std.specs.List.{range_with_len}
use Rattle.std.proofs.lemmas.Bool.{leb-true, leb-false}
use Rattle.std.proofs.lemmas.List.{length-map, length-reverse}
use Rattle.std.proofs.lemmas.List.Concat.{length-flat_map, flat_map-cons}
use Rattle.std.proofs.lemmas.List.Sums.{sum_by-cons}
use Rattle.std.proofs.lemmas.List.FromFn.{length-range_with_len}
use Rattle.bud_syntax.specs.declared.modules.Range.{Range}
use Rattle.bud_syntax.specs.declared.modules.Piece.{Piece}
use Rattle.bud_syntax.specs.declared.modules.Piece.TheVariants.{Net, Part}
use Rattle.bud_syntax.specs.declared.modules.Module.{Module}
use Rattle.module_nets.specs.Nets.{numbers_between, range_bits, range_of, bit_of, port_bits, piece_bits, expression_bits}
use Rattle.module_nets.specs.Numbers.{distance, range_width}
use Rattle.module_nets.proofs.Bytes.{by_test}

pub length-numbers_between : (left right : ℕ) → length (numbers_between left right) ≡ distance left right + 1
length-numbers_between left right =
    by_test (nat_le left right)
    (λ h. let le : left ≤ right = leb-true left right h in rw h (length-range_with_len left (right + 1 - left) ∙ omega (arith, le)))
    (λ h. let lt : right < left = leb-false left right h in rw h (length-reverse (range_with_len right (left + 1 - right)) ∙ length-range_with_len right (left + 1 - right) ∙ omega (arith, lt)))

pub length-range_bits : (range : Option Range) → length (range_bits range) ≡ range_width range
length-range_bits None = refl
length-range_bits (Some r) = length-map (numbers_between r.left r.right) (λ n. Some n) ∙ length-numbers_between r.left r.right

pub sum_by-same : {X : Type 0} (f g : X → ℕ) (xs : List X) → ((x : X) → f x ≡ g x) → sum_by f xs ≡ sum_by g xs
sum_by-same f g [] same = refl
sum_by-same f g (x ∷ xs) same = sum_by-cons f x xs ∙ (ap (λ n. n + sum_by f xs) (same x) ∙ (ap (λ n. g x + n) (sum_by-same f g xs same) ∙ sym (sum_by-cons g x xs)))

pub length-port_bits : (m : Module) → length (port_bits m) ≡ sum_by (λ p. range_width p.range) m.ports
length-port_bits m =
    length-flat_map (λ p. map (λ b. record { port = p.name; bit = b; dir = p.dir }) (range_bits p.range)) m.ports
    ∙ sum_by-same (λ p. length (map (λ b. record { port = p.name; bit = b; dir = p.dir }) (range_bits p.range))) (λ p. range_width p.range) m.ports
    (λ p. length-map (range_bits p.range) (λ b. record { port = p.name; bit = b; dir = p.dir }) ∙ length-range_bits p.range)

-- ---- pieces and expressions
pub net_width : (m : Module) (piece : Piece) (name slice : List ℕ) (range : Option Range) (w : ℕ) → piece ≡ Net name → slice ≡ name → range ≡ range_of m slice → w ≡ range_width range
    → w ≡ length (piece_bits m piece)
net_width m piece name slice range w is slice_is range_is width =
    width ∙ (ap range_width range_is ∙ (ap (λ n. range_width (range_of m n)) slice_is
    ∙ (sym (length-map (range_bits (range_of m name)) (λ b. Some (bit_of name b)) ∙ length-range_bits (range_of m name)) ∙ ap (λ p. length (piece_bits m p)) (sym is))))

pub part_width : (m : Module) (piece : Piece) (name : List ℕ) (left right w : ℕ) → piece ≡ Part name left right → w ≡ range_width (Some (record { left = left; right = right })) → w ≡ length (piece_bits m piece)
part_width m piece name left right w is width =
    width ∙ (sym (length-map (numbers_between left right) (λ n. Some (bit_of name (Some n))) ∙ length-numbers_between left right) ∙ ap (λ p. length (piece_bits m p)) (sym is))

pub width-cons : (m : Module) (x : Piece) (xs : List Piece) → length (expression_bits m (x ∷ xs)) ≡ length (piece_bits m x) + length (expression_bits m xs)
width-cons m x xs = ap length (flat_map-cons (piece_bits m) x xs) ∙ length-append (piece_bits m x) (expression_bits m xs)
