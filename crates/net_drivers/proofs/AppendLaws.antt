-- Numbers of bits, one list behind the other.
use Rattle.std.proofs.Common.{◌≡◌, ℕ, zero, suc, ◌+◌, ◌-◌, ◌<◌, ◌≤◌, nat_le, Bool, true, false, Option, Some, None, List, [], ◌∷◌, ◌++◌, get_or, length, map, take, reverse, replicate, All, Result, Ok, Err, OnOk, refl, sym, ap, ◌∙◌, subst, arith, length-append, append_assoc}
use Rattle.std.specs.List.{flat_map, range_with_len}
use Rattle.std.specs.Option.{option_map}
use Rattle.std.proofs.lemmas.Bool.{leb-true, leb-false}
use Rattle.std.proofs.lemmas.Option.{none-some}
use Rattle.std.proofs.lemmas.List.{length-map, map-append, append-nil, get_or-reverse, length-reverse, reverse-append, nil_from_length}
use Rattle.std.proofs.lemmas.List.Concat.{flat_map-append}
use Rattle.std.proofs.lemmas.List.Elements.{All-nil, All-cons, All-append}
use Rattle.std.proofs.lemmas.List.FromFn.{length-range_with_len}
use Rattle.bud_syntax.specs.declared.modules.Range.{Range}
use Rattle.bud_syntax.specs.declared.modules.Piece.{Piece}
use Rattle.bud_syntax.specs.declared.modules.Piece.TheVariants.{Net, Bit, Part, Const}
use Rattle.bud_syntax.specs.declared.modules.Module.{Module}
use Rattle.module_nets.specs.Nets.{NetBit, all_bits, numbers_between, piece_bits, piece_net, expression_bits, range_bits, or_open}
use Rattle.module_nets.specs.Numbers.{range_width}
use Rattle.module_nets.specs.NetTables.{IsSpan, IsSpanOf}
use Rattle.module_nets.specs.declared.nets.Span.{Span}
use Rattle.module_nets.proofs.Bytes.{by_test}
use Rattle.module_nets.proofs.ListSteps.{take_one}
use Rattle.module_nets.proofs.WidthLaws.{length-range_bits}
use Rattle.net_drivers.specs.Appending.{named_bits, AreNumbers, Appends, constant_width}
use Rattle.net_drivers.specs.Numbering.{bit_at}
use Rattle.net_drivers.specs.Slots.{IsBelow}

pub Appends-none : (m : Module) (old : List (Option ℕ)) → Appends m [] old old
Appends-none m old = record { added = []; is = sym (append-nil old); numbers = record { named = refl; below = All-nil (IsBelow (length (all_bits m))) } }

pub Appends-both : {m : Module} {bs cs : List (Option NetBit)} {old middle new : List (Option ℕ)} → Appends m bs old middle → Appends m cs middle new → Appends m (bs ++ cs) old new
Appends-both {m} {bs} {cs} {old} {middle} {new} first second = record {
  added = first.added ++ second.added;
  is = second.is ∙ (ap (λ xs. xs ++ second.added) first.is ∙ append_assoc old first.added second.added);
  numbers = record {
    named = map-append (λ n. option_map (bit_at (all_bits m)) n) first.added second.added ∙ (ap (λ xs. xs ++ named_bits (all_bits m) second.added) first.numbers.named ∙ ap (λ xs. bs ++ xs) second.numbers.named);
    below = All-append (IsBelow (length (all_bits m))) first.added second.added first.numbers.below second.numbers.below;
  };
}

pub Appends-same : {m : Module} {bs cs : List (Option NetBit)} {old new : List (Option ℕ)} → bs ≡ cs → Appends m bs old new → Appends m cs old new
Appends-same {m} {bs} {cs} {old} {new} same appends = subst (λ xs. Appends m xs old new) same appends

some_named : (bits : List NetBit) (ns : List ℕ) → named_bits bits (map (λ n. Some n) ns) ≡ map (λ n. Some (bit_at bits n)) ns
some_named bits [] = refl
some_named bits (n ∷ ns) = ap (λ xs. Some (bit_at bits n) ∷ xs) (some_named bits ns)

some_below : (count : ℕ) (ns : List ℕ) → All (λ n. n < count) ns → All (IsBelow count) (map (λ n. Some n) ns)
some_below count [] below = All-nil (IsBelow count)
some_below count (n ∷ ns) below = All-cons (IsBelow count) (Some n) (map (λ k. Some k) ns) (below 0 0 (omega arith)) (some_below count ns (λ k d within. below (suc k) d (omega arith)))

range_below : (low width count : ℕ) → low + width ≤ count → All (λ n. n < count) (range_with_len low width)
range_below low zero count fits = All-nil (λ n. n < count)
range_below low (suc width) count fits = All-cons (λ n. n < count) low (range_with_len (low + 1) width) (omega arith) (range_below (low + 1) width count (omega arith))

reverse_below : (count : ℕ) (ns : List ℕ) → All (λ n. n < count) ns → All (λ n. n < count) (reverse ns)
reverse_below count ns below = λ k d within.
    let inside : k < length ns = omega (arith, length-reverse ns) in
    let P : ℕ → Type 0 = λ n. n < count in
    subst P (sym (get_or-reverse ns k d inside)) (below (length ns - 1 - k) d (omega arith))

pub numbers_below : (count first last : ℕ) → first < count → last < count → All (λ n. n < count) (numbers_between first last)
numbers_below count first last f l =
    by_test (nat_le first last)
    (λ h. let up : first ≤ last = leb-true first last h in rw h (range_below first (last + 1 - first) count (omega arith)))
    (λ h. let down : last < first = leb-false first last h in rw h (reverse_below count (range_with_len last (first + 1 - last)) (range_below last (first + 1 - last) count (omega arith))))

pub Appends-span : {m : Module} {bs : List (Option NetBit)} {span : Span} {old new : List (Option ℕ)} → IsSpan m bs span → new ≡ old ++ map (λ n. Some n) (numbers_between span.first span.last) → Appends m bs old new
Appends-span {m} {bs} {span} {old} {new} is put' = record {
  added = map (λ n. Some n) (numbers_between span.first span.last);
  is = put';
  numbers = record {
    named = some_named (all_bits m) (numbers_between span.first span.last) ∙ sym is.numbered;
    below = some_below (length (all_bits m)) (numbers_between span.first span.last) (numbers_below (length (all_bits m)) span.first span.last is.first is.last);
  };
}

none_named : (bits : List NetBit) (width : ℕ) → named_bits bits (replicate width None) ≡ replicate width None
none_named bits zero = refl
none_named bits (suc width) = ap (λ xs. None ∷ xs) (none_named bits width)

none_below : (count width : ℕ) → All (IsBelow count) (replicate width None)
none_below count zero = All-nil (IsBelow count)
none_below count (suc width) = All-cons (IsBelow count) None (replicate width None) tt (none_below count width)

pub Appends-replicate : {m : Module} {bs : List (Option NetBit)} {old new : List (Option ℕ)} (width : ℕ) → bs ≡ replicate width None → new ≡ old ++ replicate width None → Appends m bs old new
Appends-replicate {m} {bs} {old} {new} width are put' = record {
  added = replicate width None;
  is = put';
  numbers = record { named = none_named (all_bits m) width ∙ sym are; below = none_below (length (all_bits m)) width };
}

pub constant_bits_are : (m : Module) (piece : Piece) → piece_net piece ≡ None → piece_bits m piece ≡ replicate (constant_width piece) None
constant_bits_are m (Net name) none = absurd (none-some name (sym none))
constant_bits_are m (Bit name n) none = absurd (none-some name (sym none))
constant_bits_are m (Part name left right) none = absurd (none-some name (sym none))
constant_bits_are m (Const width) none = refl

pub expression-next : (m : Module) (pieces : List Piece) (i : ℕ) (piece : Piece) → i < length pieces → piece ≡ get_or pieces i piece
    → expression_bits m (take i pieces) ++ piece_bits m piece ≡ expression_bits m (take (i + 1) pieces)
expression-next m pieces i piece within is =
    sym (ap (expression_bits m) (take_one pieces i piece within is) ∙ (flat_map-append (piece_bits m) (take i pieces) (piece ∷ []) ∙ ap (λ xs. expression_bits m (take i pieces) ++ xs) (append-nil (piece_bits m piece))))

open_bits : (bs : List (Option ℕ)) → ◌≡◌ {A = List (Option NetBit)} (map (λ b. None) bs) (replicate (length bs) None)
open_bits [] = refl
open_bits (b ∷ bs) = ap (λ xs. None ∷ xs) (open_bits bs)

pub open_port : (range : Option Range) → or_open range [] ≡ replicate (range_width range) None
open_port range = open_bits (range_bits range) ∙ ap (λ n. replicate n None) (length-range_bits range)

added_length : {m : Module} {bs : List (Option NetBit)} {old new : List (Option ℕ)} → Appends m bs old new → length new ≡ length old + length bs
added_length {m} {bs} {old} {new} appends =
    ap length appends.is ∙ (length-append old appends.added ∙ ap (λ k. length old + k) (sym (length-map appends.added (λ n. option_map (bit_at (all_bits m)) n)) ∙ ap length appends.numbers.named))

pub Appends-open : {m : Module} {bs : List (Option NetBit)} {old middle new : List (Option ℕ)} (range : Option Range) → Appends m bs old middle → length middle ≡ length old → new ≡ middle ++ replicate (range_width range) None → Appends m (or_open range bs) old new
Appends-open {m} {bs} {old} {middle} {new} range appends same put' =
    let none : bs ≡ [] = nil_from_length bs (omega (arith, added_length appends, same)) in
    let open' : or_open range bs ≡ replicate (range_width range) None = ap (or_open range) none ∙ open_port range in
    let whole = Appends-both appends (Appends-replicate {m = m} {bs = replicate (range_width range) None} {old = middle} {new = new} (range_width range) refl put') in
    Appends-same (ap (λ xs. xs ++ replicate (range_width range) None) none ∙ sym open') whole

or_open-some : (range : Option Range) (bs : List (Option NetBit)) → (length bs ≡ 0 → ⊥) → bs ≡ or_open range bs
or_open-some range [] some = absurd (some refl)
or_open-some range (b ∷ bs) some = refl

pub Appends-linked : {m : Module} {bs : List (Option NetBit)} {old new : List (Option ℕ)} (range : Option Range) → Appends m bs old new → (length new ≡ length old → ⊥) → Appends m (or_open range bs) old new
Appends-linked {m} {bs} {old} {new} range appends other =
    Appends-same (or_open-some range bs (λ none. other (omega (arith, added_length appends, none)))) appends

-- what holds where a call succeeds
pub on_ok : {X E P Q : Type 0} (r : Result X E) → (P → Q) → OnOk r P → OnOk r Q
on_ok (Ok x) f holds = f holds
on_ok (Err e) f holds = holds

pub range-next : (n end : ℕ) → n < end → range_with_len n (end - n) ≡ n ∷ range_with_len (n + 1) (end - (n + 1))
range-next n end less = let e : end - n ≡ suc (end - (n + 1)) = omega arith in rw e refl

range-last : (low width : ℕ) → range_with_len low (suc width) ≡ range_with_len low width ++ (low + width) ∷ []
range-last low zero = let e : low + 0 ≡ low = omega arith in rw e refl
range-last low (suc width) = let e : low + suc width ≡ (low + 1) + width = omega arith in rw e (ap (λ xs. low ∷ xs) (range-last (low + 1) width))

pub range-falls : (n last : ℕ) → last < n → reverse (range_with_len last (n - last)) ≡ (n - 1) ∷ reverse (range_with_len last (n - 1 - last))
range-falls n last less =
    let e : n - last ≡ suc (n - 1 - last) = omega arith in
    let f : last + (n - 1 - last) ≡ n - 1 = omega arith in
    ap (λ w. reverse (range_with_len last w)) e ∙ (ap reverse (range-last last (n - 1 - last) ∙ ap (λ k. range_with_len last (n - 1 - last) ++ k ∷ []) f) ∙ reverse-append (range_with_len last (n - 1 - last)) ((n - 1) ∷ []))

pub put-next : (into after : List (Option ℕ)) (n : ℕ) (ns rest : List ℕ) → ns ≡ n ∷ rest → after ≡ into ++ Some n ∷ [] → after ++ map (λ k. Some k) rest ≡ into ++ map (λ k. Some k) ns
put-next into after n ns rest is put' = ap (λ xs. xs ++ map (λ k. Some k) rest) put' ∙ (append_assoc into (Some n ∷ []) (map (λ k. Some k) rest) ∙ ap (λ xs. into ++ map (λ k. Some k) xs) (sym is))
