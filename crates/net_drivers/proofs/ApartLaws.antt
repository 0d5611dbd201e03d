-- No net bit of a module stands twice among all its bits.
use Rattle.std.proofs.Common.{◌≡◌, ℕ, ◌+◌, ◌-◌, ◌<◌, ◌≤◌, ◌==◌, ◌||◌, ◌&&◌, nat_le, Bool, true, false, Option, Some, None, List, [], ◌∷◌, ◌++◌, get_or, length, map, All, refl, sym, ap, ◌∙◌, subst, arith, length-append, ⊎_elim}
use Rattle.std.specs.List.{flat_map}
use Rattle.std.specs.Str.{bytes_eq}
use Rattle.std.proofs.lemmas.Bool.{leb-true, leb-false, le-leb, cases_lt, and_parts, eq-eqb, eqb-true}
use Rattle.std.proofs.lemmas.Option.{none-some, same_Some}
use Rattle.std.proofs.lemmas.List.{length-map, get_or-map, get_or_append_left, get_or-append-add}
use Rattle.std.proofs.lemmas.List.Elements.{All-nil, All-cons, All-head, All-tail}
use Rattle.bud_design.specs.Lists.{first_again, has_name}
use Rattle.bud_syntax.specs.declared.modules.Range.{Range}
use Rattle.bud_syntax.specs.declared.modules.Module.{Module}
use Rattle.module_nets.specs.Nets.{NetBit, bit_of, same_number, same_bit, numbers_between, range_bits, all_bits}
use Rattle.module_nets.specs.Numbers.{Net, module_nets, distance, range_width, place_in, bits_before, IsNamedApart}
use Rattle.module_nets.proofs.Bytes.{by_test, bytes_same, bytes_itself, bytes_turned}
use Rattle.module_nets.proofs.NetLaws.{ranged, bits_of_net, all_bits_are, nets_apart}
use Rattle.module_nets.proofs.SpanLaws.{step, number_at}
use Rattle.module_nets.proofs.WidthLaws.{length-numbers_between, length-range_bits}
use Rattle.net_drivers.specs.Numbering.{bit_at, AreApart}

distance-up : (a s : ℕ) → a ≤ s → distance a s ≡ s - a
distance-up a s up = omega arith

distance-down : (a s : ℕ) → s < a → distance a s ≡ a - s
distance-down a s down = omega arith

step-up : (a b k : ℕ) → nat_le a b ≡ true → step a b k ≡ a + k
step-up a b k up = rw up refl

step-down : (a b k : ℕ) → nat_le a b ≡ false → step a b k ≡ a - k
step-down a b k down = rw down refl

distance-step : (a b k : ℕ) → k < distance a b + 1 → distance a (step a b k) ≡ k
distance-step a b k within =
    by_test (nat_le a b)
    (λ h. ap (distance a) (step-up a b k h) ∙ (distance-up a (a + k) (omega arith) ∙ omega arith))
    (λ h.
    let down : b < a = leb-false a b h in
    let less : k ≤ a - b = omega (arith, within, distance-down a b down) in
    ap (distance a) (step-down a b k h)
    ∙ ⊎_elim
    (λ lower. distance-down a (a - k) lower ∙ omega (arith, less, down))
    (λ upper. distance-up a (a - k) upper ∙ omega (arith, upper, less, down))
    (cases_lt (a - k) a))

place-number : (range : Option Range) (k : ℕ) → k < range_width range → place_in range (get_or (range_bits range) k None) ≡ k
place-number None k within = omega (arith, within)
place-number (Some r) k within =
    let below : k < length (numbers_between r.left r.right) = omega (arith, within, length-numbers_between r.left r.right) in
    let here : get_or (range_bits (Some r)) k None ≡ Some (step r.left r.right k)
    = get_or-map (λ n. Some n) (numbers_between r.left r.right) k 0 None below ∙ ap (λ n. Some n) (number_at r.left r.right k within) in
    ap (place_in (Some r)) here ∙ distance-step r.left r.right k within

-- the number of a bit by arithmetic
abbrev number_in : List Net → NetBit → ℕ
number_in nets b = bits_before nets b.net + place_in (ranged nets b.net) b.bit

or_false : (a b : Bool) → (a || b) ≡ false → (a ≡ false) × (b ≡ false)
or_false true b none = absurd (cc)
or_false false b none = (refl, none)

unseen_head : (seen : List (List ℕ)) (name : List ℕ) (names : List (List ℕ)) → first_again seen (name ∷ names) ≡ None → (has_name seen name ≡ false) × (first_again (name ∷ seen) names ≡ None)
unseen_head seen name names none =
    by_test (has_name seen name)
    (λ h. let wrong : Some name ≡ None = rw h at none in absurd (none-some name (sym wrong)))
    (λ h. (h, rw h at none))

unseen_names : (seen : List (List ℕ)) (nets : List Net) → first_again seen (map (λ n. n.name) nets) ≡ None → All (λ n. has_name seen n.name ≡ false) nets
unseen_names seen [] none = All-nil (λ n. has_name seen n.name ≡ false)
unseen_names seen (n ∷ nets) none =
    let parts = unseen_head seen n.name (map (λ x. x.name) nets) none in
    All-cons (λ x. has_name seen x.name ≡ false) n nets parts.0
    (λ k d below. (or_false (bytes_eq (get_or nets k d).name n.name) (has_name seen (get_or nets k d).name) (unseen_names (n.name ∷ seen) nets parts.1 k d below)).1)

other_names : (seen : List (List ℕ)) (n : Net) (nets : List Net) → first_again (n.name ∷ seen) (map (λ x. x.name) nets) ≡ None → All (λ x. bytes_eq n.name x.name ≡ false) nets
other_names seen n nets none = λ k d below.
    bytes_turned n.name (get_or nets k d).name ∙ (or_false (bytes_eq (get_or nets k d).name n.name) (has_name seen (get_or nets k d).name) (unseen_names (n.name ∷ seen) nets none k d below)).0

-- bits of other nets than one of this name
abbrev IsOther : List ℕ → NetBit → Type 0
IsOther name b = bytes_eq name b.net ≡ false

other_bits : (name : List ℕ) (x : Net) (bs : List (Option ℕ)) → bytes_eq name x.name ≡ false → All (IsOther name) (map (bit_of x.name) bs)
other_bits name x [] other = All-nil (IsOther name)
other_bits name x (b ∷ bs) other = All-cons (IsOther name) (bit_of x.name b) (map (bit_of x.name) bs) other (other_bits name x bs other)

all-append : {X : Type 0} (P : X → Type 0) (xs ys : List X) → All P xs → All P ys → All P (xs ++ ys)
all-append P [] ys first second = second
all-append P (x ∷ xs) ys first second = All-cons P x (xs ++ ys) (All-head P x xs first) (all-append P xs ys (All-tail P x xs first) second)

other_nets : (name : List ℕ) (nets : List Net) → All (λ x. bytes_eq name x.name ≡ false) nets → All (IsOther name) (flat_map bits_of_net nets)
other_nets name [] others = All-nil (IsOther name)
other_nets name (x ∷ nets) others =
    all-append (IsOther name) (bits_of_net x) (flat_map bits_of_net nets) (other_bits name x (range_bits x.range) (All-head (λ y. bytes_eq name y.name ≡ false) x nets others))
    (other_nets name nets (All-tail (λ y. bytes_eq name y.name ≡ false) x nets others))

number_first : (n : Net) (nets : List Net) (k : ℕ) (d : NetBit) → k < length (bits_of_net n) → number_in (n ∷ nets) (get_or (bits_of_net n) k d) ≡ k
number_first n nets k d within =
    let below : k < length (range_bits n.range) = omega (arith, within, length-map (range_bits n.range) (bit_of n.name)) in
    let wide : k < range_width n.range = omega (arith, below, length-range_bits n.range) in
    let here : get_or (bits_of_net n) k d ≡ bit_of n.name (get_or (range_bits n.range) k None) = get_or-map (bit_of n.name) (range_bits n.range) k None d below in
    let itself = bytes_itself n.name in
    let number : number_in (n ∷ nets) (bit_of n.name (get_or (range_bits n.range) k None)) ≡ 0 + place_in n.range (get_or (range_bits n.range) k None) = rw itself refl in
    ap (number_in (n ∷ nets)) here ∙ (number ∙ omega (arith, place-number n.range k wide))

number_later : (n : Net) (nets : List Net) (b : NetBit) → bytes_eq n.name b.net ≡ false → number_in (n ∷ nets) b ≡ range_width n.range + number_in nets b
number_later n nets b other = rw other (omega arith)

number_is : (seen : List (List ℕ)) (nets : List Net) (k : ℕ) (d : NetBit) → first_again seen (map (λ n. n.name) nets) ≡ None → k < length (flat_map bits_of_net nets)
    → number_in nets (get_or (flat_map bits_of_net nets) k d) ≡ k
number_is seen [] k d none within = absurd (omega (arith, within))
number_is seen (n ∷ nets) k d none within =
    let parts = unseen_head seen n.name (map (λ x. x.name) nets) none in
    let rest = flat_map bits_of_net nets in
    ⊎_elim
    (λ less. ap (number_in (n ∷ nets)) (get_or_append_left (bits_of_net n) rest d k less) ∙ number_first n nets k d less)
    (λ more.
    let width : length (bits_of_net n) ≡ range_width n.range = length-map (range_bits n.range) (bit_of n.name) ∙ length-range_bits n.range in
    let j : ℕ = k - length (bits_of_net n) in
    let split : length (bits_of_net n) + j ≡ k = omega (arith, more) in
    let below : j < length rest = omega (arith, within, more, length-append (bits_of_net n) rest) in
    let there : get_or (bits_of_net n ++ rest) k d ≡ get_or rest j d = ap (λ i. get_or (bits_of_net n ++ rest) i d) (sym split) ∙ get_or-append-add (bits_of_net n) rest j d in
    let other = other_nets n.name nets (other_names seen n nets parts.1) j d below in
    ap (number_in (n ∷ nets)) there
    ∙ (number_later n nets (get_or rest j d) other
    ∙ (ap (λ i. range_width n.range + i) (number_is (n.name ∷ seen) nets j d parts.1 below) ∙ omega (arith, width, split))))
    (cases_lt k (length (bits_of_net n)))

number_of_place : (m : Module) (k : ℕ) → IsNamedApart m → k < length (all_bits m) → number_in (module_nets m) (bit_at (all_bits m) k) ≡ k
number_of_place m k apart within =
    let are = all_bits_are m apart in
    let d : NetBit = record { net = []; bit = None } in
    let below : k < length (flat_map bits_of_net (module_nets m)) = omega (arith, within, ap length are) in
    ap (λ bits. number_in (module_nets m) (bit_at bits k)) are ∙ number_is [] (module_nets m) k d (nets_apart m apart) below

same_number-is : (a b : Option ℕ) → same_number a b ≡ true → a ≡ b
same_number-is None None same = refl
same_number-is None (Some n) same = absurd (cc)
same_number-is (Some n) None same = absurd (cc)
same_number-is (Some m) (Some n) same = ap (λ k. Some k) (eqb-true m n same)

same_number-itself : (a : Option ℕ) → same_number a a ≡ true
same_number-itself None = refl
same_number-itself (Some n) = eq-eqb n n refl

same_bit-is : (a b : NetBit) → same_bit a b ≡ true → a ≡ b
same_bit-is a b same =
    let parts = and_parts (bytes_eq a.net b.net) (same_number a.bit b.bit) same in
    let net = bytes_same a.net b.net parts.0 in
    let bit = same_number-is a.bit b.bit parts.1 in
    let one : bit_of a.net a.bit ≡ bit_of b.net a.bit = ap (λ n. bit_of n a.bit) net in
    one ∙ ap (bit_of b.net) bit

same_bit-itself : (a : NetBit) → same_bit a a ≡ true
same_bit-itself a = rw (bytes_itself a.net) (same_number-itself a.bit)

pub bits_apart : (m : Module) → IsNamedApart m → AreApart (all_bits m)
bits_apart m apart = record {
  apart = λ i j iin jin.
      let a = bit_at (all_bits m) i in
      let b = bit_at (all_bits m) j in
      by_test (same_bit a b)
      (λ same.
      let number = ap (number_in (module_nets m)) (same_bit-is a b same) in
      let equal : i ≡ j = sym (number_of_place m i apart iin) ∙ (number ∙ number_of_place m j apart jin) in
      same ∙ sym (eq-eqb i j equal))
      (λ other.
      other ∙ sym (by_test (i == j)
      (λ equal.
      let itself : same_bit a b ≡ true = subst (λ k. same_bit a (bit_at (all_bits m) k) ≡ true) (eqb-true i j equal) (same_bit-itself a) in
      absurd (let e : true ≡ false = sym itself ∙ other in cc))
      (λ differ. differ)));
}
