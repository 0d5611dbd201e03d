-- Net bits by their numbers, along the nets of a module.
use Rattle.std.proofs.Common.{◌≡◌, ℕ, ◌+◌, ◌-◌, ◌<◌, ◌≤◌, Option, Some, None, List, [], take, get_or, length, map, refl, sym, ap, ◌∙◌, subst, arith}
use Rattle.std.specs.Borrow.{Bor}
use Rattle.std.specs.List.{flat_map}
use Rattle.std.proofs.lemmas.Bool.{le-leb, lt-leb}
use Rattle.std.proofs.lemmas.List.{length-map, get_or-map, take_more, take_all}
use Rattle.std.proofs.lemmas.List.Concat.{get_or-flat_map}
use Rattle.std.proofs.lemmas.List.Sums.{sum_by_push}
use Rattle.bud_syntax.specs.declared.modules.Range.{Range}
use Rattle.bud_syntax.specs.declared.modules.Module.{Module}
use Rattle.module_nets.specs.NetTables.{bit_at}
use Rattle.module_nets.specs.Nets.{NetBit, bit_of, range_bits, range_of, numbers_between, all_bits}
use Rattle.module_nets.specs.Numbers.{Net, module_nets, distance, range_width, bits_in, IsNamedApart}
use Rattle.module_nets.proofs.NetLaws.{ranged_is, own_range, nets_apart, bits_of_net, all_bits_are, length-bits_of_nets, count-all_bits}
use Rattle.module_nets.proofs.SpanLaws.{step, number_at}
use Rattle.module_nets.proofs.WidthLaws.{length-range_bits, length-numbers_between}

-- ---- a bit of a range by its place
in_range : (r : Range) (place n : ℕ) → place < distance r.left r.right + 1 → n ≡ step r.left r.right place → Some n ≡ get_or (range_bits (Some r)) place None
in_range r place n within is =
    ap (λ k. Some k) (is ∙ sym (number_at r.left r.right place within))
    ∙ sym (get_or-map (λ k. Some k) (numbers_between r.left r.right) place 0 None (omega (arith, within, length-numbers_between r.left r.right)))

pub in_rising : (range : Option Range) (r : Range) (place : ℕ) → range ≡ Some r → r.left ≤ r.right → place < range_width range → Some (r.left + place) ≡ get_or (range_bits range) place None
in_rising range r place is up within =
    let step_is : r.left + place ≡ step r.left r.right place = rw (le-leb r.left r.right up) refl in
    in_range r place (r.left + place) (omega (arith, within, ap range_width is)) step_is ∙ ap (λ x. get_or (range_bits x) place None) (sym is)

pub in_falling : (range : Option Range) (r : Range) (place : ℕ) → range ≡ Some r → r.right < r.left → place < range_width range → Some (r.left - place) ≡ get_or (range_bits range) place None
in_falling range r place is down within =
    let step_is : r.left - place ≡ step r.left r.right place = rw (lt-leb r.left r.right down) refl in
    in_range r place (r.left - place) (omega (arith, within, ap range_width is)) step_is ∙ ap (λ x. get_or (range_bits x) place None) (sym is)

-- ---- along the nets
abbrev no_net : Net
no_net = record { name = []; range = None }

below_nets : (items : List (Bor (List ℕ))) (nets : List Net) (i : ℕ) → map (λ x. x.now) items ≡ map (λ x. x.name) nets → i < length items → i < length nets
below_nets items nets i named within = omega (arith, within, ap length named, length-map items (λ (x : Bor (List ℕ)). x.now), length-map nets (λ (x : Net). x.name))

named_at : (items : List (Bor (List ℕ))) (nets : List Net) (i : ℕ) (d : Bor (List ℕ)) → map (λ x. x.now) items ≡ map (λ x. x.name) nets → i < length items → (get_or items i d).now ≡ (get_or nets i no_net).name
named_at items nets i d named within =
    sym (get_or-map (λ (x : Bor (List ℕ)). x.now) items i d [] within)
    ∙ (ap (λ ns. get_or ns i []) named ∙ get_or-map (λ (x : Net). x.name) nets i no_net [] (below_nets items nets i named within))

-- the range of the net at a place
range_at_place : (m : Module) (items : List (Bor (List ℕ))) (i : ℕ) (d : Bor (List ℕ)) (range : Option Range) → IsNamedApart m → map (λ x. x.now) items ≡ map (λ x. x.name) (module_nets m) → i < length items
    → range ≡ range_of m (get_or items i d).now → range ≡ (get_or (module_nets m) i no_net).range
range_at_place m items i d range apart named within is =
    is ∙ (ap (range_of m) (named_at items (module_nets m) i d named within)
    ∙ (sym (ranged_is m (get_or (module_nets m) i no_net).name) ∙ own_range [] (module_nets m) (nets_apart m apart) i no_net (below_nets items (module_nets m) i named within)))

bits_one : (nets : List Net) (i : ℕ) → i < length nets → bits_in (take (i + 1) nets) ≡ bits_in (take i nets) + range_width (get_or nets i no_net).range
bits_one nets i within = ap bits_in (take_more nets i no_net within) ∙ sum_by_push (λ n. range_width n.range) (take i nets) (get_or nets i no_net)

pub bits_counted : (m : Module) (slice items : List (Bor (List ℕ))) (i before width : ℕ) (d : Bor (List ℕ)) (range : Option Range) → IsNamedApart m → slice ≡ items → map (λ x. x.now) items ≡ map (λ x. x.name) (module_nets m)
    → i < length slice → range ≡ range_of m (get_or slice i d).now → width ≡ range_width range → before ≡ bits_in (take i (module_nets m)) → before + width ≡ bits_in (take (i + 1) (module_nets m))
bits_counted m slice items i before width d range apart same named within range_is width_is before_is =
    let P : List (Bor (List ℕ)) → Type 0 = λ xs. i < length xs in
    let near = subst P same within in
    let own = range_at_place m items i d range apart named near (range_is ∙ ap (λ xs. range_of m (get_or xs i d).now) same) in
    omega (arith, before_is, width_is, ap range_width own, bits_one (module_nets m) i (below_nets items (module_nets m) i named near))

pub bit_found : (m : Module) (slice items : List (Bor (List ℕ))) (i before width number : ℕ) (d : Bor (List ℕ)) (range : Option Range) (bit : Option ℕ) → IsNamedApart m → slice ≡ items
    → map (λ x. x.now) items ≡ map (λ x. x.name) (module_nets m) → i < length slice → range ≡ range_of m (get_or slice i d).now → width ≡ range_width range → before ≡ bits_in (take i (module_nets m))
    → before ≤ number → number - before < width → bit ≡ get_or (range_bits range) (number - before) None → bit_of (get_or slice i d).now bit ≡ bit_at m number
bit_found m slice items i before width number d range bit apart same named within range_is width_is before_is below inside bit_is =
    let P : List (Bor (List ℕ)) → Type 0 = λ xs. i < length xs in
    let near = subst P same within in
    let nets : List Net = module_nets m in
    let n : Net = get_or nets i no_net in
    let e : NetBit = record { net = []; bit = None } in
    let j : ℕ = number - before in
    let own : range ≡ n.range = range_at_place m items i d range apart named near (range_is ∙ ap (λ xs. range_of m (get_or xs i d).now) same) in
    let in_net = below_nets items nets i named near in
    let in_bits : j < length (range_bits n.range) = omega (arith, inside, width_is, ap range_width own, length-range_bits n.range) in
    let in_all : j < length (bits_of_net n) = omega (arith, in_bits, length-map (range_bits n.range) (bit_of n.name)) in
    let place : length (flat_map bits_of_net (take i nets)) + j ≡ number = omega (arith, length-bits_of_nets (take i nets), before_is, below) in
    let found : get_or (flat_map bits_of_net nets) number e ≡ bit_of n.name (get_or (range_bits n.range) j None) =
    ap (λ k. get_or (flat_map bits_of_net nets) k e) (sym place) ∙ (get_or-flat_map bits_of_net nets i j no_net e in_net in_all ∙ get_or-map (bit_of n.name) (range_bits n.range) j None e in_bits) in
    ap (λ x. bit_of x bit) (ap (λ xs. (get_or xs i d).now) same ∙ named_at items nets i d named near)
    ∙ (ap (bit_of n.name) (bit_is ∙ ap (λ r. get_or (range_bits r) j None) own)
    ∙ (sym found ∙ ap (λ bits. get_or bits number e) (sym (all_bits_are m apart))))

pub bit_missed : (m : Module) (slice items : List (Bor (List ℕ))) (i before number : ℕ) → IsNamedApart m → slice ≡ items → map (λ x. x.now) items ≡ map (λ x. x.name) (module_nets m) → length slice ≤ i
    → before ≡ bits_in (take i (module_nets m)) → before ≤ number → number < length (all_bits m) → ⊥
bit_missed m slice items i before number apart same named past before_is below within =
    let all : length (module_nets m) ≤ i =
    omega (arith, past, ap length same, ap length named, length-map items (λ (x : Bor (List ℕ)). x.now), length-map (module_nets m) (λ (x : Net). x.name)) in
    let whole : bits_in (take i (module_nets m)) ≡ bits_in (module_nets m) = ap bits_in (take_all i (module_nets m) all) in
    omega (arith, before_is, below, within, whole, count-all_bits m apart)
