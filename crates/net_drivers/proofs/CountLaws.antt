-- How often bits are driven by number is how often by name.
use Rattle.std.proofs.Common.{◌≡◌, ℕ, zero, suc, ◌+◌, ◌-◌, ◌<◌, ◌≤◌, ◌==◌, nat_lt, nat_le, Bool, true, false, cond, List, [], ◌∷◌, ◌++◌, length, map, reverse, replicate, min, max, count_by, sum_by, Option, Some, None, All, refl, sym, ◌∙◌, ap, subst, arith, ⊎_elim, add-one, zero-add}
use Rattle.std.proofs.lemmas.List.{reverse-append}
use Rattle.std.proofs.lemmas.Bool.{cases_lt}
use Rattle.std.proofs.lemmas.Bool.Decides.{nat_tests}
use Rattle.std.proofs.lemmas.List.Elements.{All-head, All-tail}
use Rattle.std.proofs.lemmas.List.Sums.{sum_by-cons, sum_by-append}
use Rattle.std.specs.List.{range_with_len, flat_map}
use Rattle.module_nets.specs.Nets.{NetBit, same_bit, numbers_between}
use Rattle.net_drivers.specs.declared.covers.Ends.{Ends}
use Rattle.net_drivers.specs.declared.slots.Slot.{Slot}
use Rattle.net_drivers.specs.Covers.{one_if, ends_at, covered, passing, times, AreOrdered, Adds}
use Rattle.net_drivers.specs.Drivers.{Source, assigned, Drive, drive, drive_if, pair_drives}
use Rattle.net_drivers.specs.Slots.{Put, counted}
use Rattle.net_drivers.specs.Numbering.{bit_at, AreApart, named, IsPut}
use Rattle.net_drivers.specs.Phases.{driving, Counts, is_bit, standing, Stands}
use Rattle.net_drivers.proofs.CoverLemmas.{Adds-covered, Adds-both, Adds-none, times-append}

abbrev pub bits_of : List Put → List ℕ
bits_of ps = map (λ p. p.bit) ps

driving-cons : (b : NetBit) (d : Drive) (ds : List Drive) → driving b (d ∷ ds) ≡ one_if (same_bit d.bit b) + driving b ds
driving-cons b d ds = sum_by-cons (λ x. cond (same_bit x.bit b) 1 0) d ds ∙ ap (λ n. n + driving b ds) (one (same_bit d.bit b))
  where
    one : (s : Bool) → cond s 1 0 ≡ one_if s
    one true = refl
    one false = refl

pub driving-append : (b : NetBit) (ds es : List Drive) → driving b (ds ++ es) ≡ driving b ds + driving b es
driving-append b [] es = omega arith
driving-append b (d ∷ ds) es = driving-cons b d (ds ++ es) ∙ (ap (λ n. one_if (same_bit d.bit b) + n) (driving-append b ds es) ∙ omega (arith, driving-cons b d ds))

pub driving-named : (bits : List NetBit) (ps : List Put) (k : ℕ) → AreApart bits → All (IsPut (length bits)) ps → k < length bits → driving (bit_at bits k) (map (named bits) ps) ≡ times k (bits_of ps)
driving-named bits [] k apart puts within = refl
driving-named bits (p ∷ ps) k apart puts within =
    let here = All-head (IsPut (length bits)) p ps puts in
    driving-cons (bit_at bits k) (named bits p) (map (named bits) ps)
    ∙ (ap (λ s. one_if s + driving (bit_at bits k) (map (named bits) ps)) (apart.apart p.bit k here.bit within)
    ∙ ap (λ n. one_if (p.bit == k) + n) (driving-named bits ps k apart (All-tail (IsPut (length bits)) p ps puts) within))

Adds-one : (rows : List Ends) (b : ℕ) → b < length rows → Adds (b ∷ []) rows (covered b (b + 1) rows)
Adds-one rows b within =
    let width : b + 1 - b ≡ 1 = omega arith in
    let P : ℕ → Type 0 = λ w. Adds (range_with_len b w) rows (covered b (b + 1) rows) in
    subst P width (Adds-covered rows b (b + 1) within (omega arith))

Adds-counted : (count : ℕ) (ps : List Put) (rows : List Ends) → length rows ≡ count → All (IsPut count) ps → Adds (bits_of ps) rows (counted ps rows)
Adds-counted count [] rows size puts = Adds-none rows
Adds-counted count (p ∷ ps) rows size puts =
    let here = All-head (IsPut count) p ps puts in
    let one = Adds-one rows p.bit (omega (arith, here.bit)) in
    Adds-both one (Adds-counted count ps (covered p.bit (p.bit + 1) rows) (one.size ∙ size) (All-tail (IsPut count) p ps puts))

pub Counts-counted : (bits : List NetBit) (ps : List Put) (rows : List Ends) → AreApart bits → length rows ≡ length bits → All (IsPut (length bits)) ps → Counts bits (map (named bits) ps) rows (counted ps rows)
Counts-counted bits ps rows apart size puts =
    let adds = Adds-counted (length bits) ps rows size puts in
    record {
      size = adds.size;
      ordered = adds.ordered;
      counts = λ ordered k within. let w : k < length rows = omega arith in adds.counts ordered k w ∙ ap (λ n. min 2 (passing rows k + n)) (sym (driving-named bits ps k apart puts within));
    }

min-adds : (new middle old x y xy : ℕ) → new ≡ min 2 (middle + y) → middle ≡ min 2 (old + x) → xy ≡ x + y → new ≡ min 2 (old + xy)
min-adds new middle old x y xy p q r = omega arith

pub Counts-both : {bits : List NetBit} {ds es : List Drive} {old middle new : List Ends} → Counts bits ds old middle → Counts bits es middle new → Counts bits (ds ++ es) old new
Counts-both {bits} {ds} {es} {old} {middle} {new} first second = record {
  size = second.size ∙ first.size;
  ordered = λ ordered. second.ordered (first.ordered ordered);
  counts = λ ordered k within. min-adds _ _ _ _ _ _ (second.counts (first.ordered ordered) k within) (first.counts ordered k within) (driving-append (bit_at bits k) ds es);
}

pub standing-append : (b : NetBit) (xs ys : List (Option NetBit)) → standing b (xs ++ ys) ≡ standing b xs + standing b ys
standing-append b [] ys = omega arith
standing-append b (x ∷ xs) ys = omega (arith, standing-append b xs ys)

pub standing-none : (b : NetBit) (width : ℕ) → standing b (replicate width None) ≡ 0
standing-none b zero = refl
standing-none b (suc width) = omega (arith, standing-none b width)

pub standing-numbers : (bits : List NetBit) (ns : List ℕ) (k : ℕ) → AreApart bits → All (λ n. n < length bits) ns → k < length bits → standing (bit_at bits k) (map (λ n. Some (bit_at bits n)) ns) ≡ times k ns
standing-numbers bits [] k apart below within = refl
standing-numbers bits (n ∷ ns) k apart below within =
    ap (λ s. one_if s + standing (bit_at bits k) (map (λ n. Some (bit_at bits n)) ns)) (apart.apart n k (All-head (λ n. n < length bits) n ns below) within)
    ∙ ap (λ t. one_if (n == k) + t) (standing-numbers bits ns k apart (All-tail (λ n. n < length bits) n ns below) within)

-- a left side drives its bits where the right side is no shorter
pub driving-pairs : (b : NetBit) (ls rs : List (Option NetBit)) → length ls ≤ length rs → driving b (pair_drives ls rs) ≡ standing b ls
driving-pairs b [] rs less = refl
driving-pairs b (l ∷ ls) [] less = absurd (omega arith)
driving-pairs b (None ∷ ls) (r ∷ rs) less = driving-pairs b ls rs (omega arith) ∙ sym (zero-add (standing b ls))
driving-pairs b (Some l ∷ ls) (r ∷ rs) less = driving-cons b (drive l (assigned r)) (pair_drives ls rs) ∙ ap (λ n. one_if (same_bit l b) + n) (driving-pairs b ls rs (omega arith))

-- a left side of constants drives nothing
pub driving-constants : (b : NetBit) (width : ℕ) (rs : List (Option NetBit)) → pair_drives (replicate width None) rs ≡ []
driving-constants b zero rs = refl
driving-constants b (suc width) [] = refl
driving-constants b (suc width) (r ∷ rs) = driving-constants b width rs

times-reverse : (b : ℕ) (xs : List ℕ) → times b (reverse xs) ≡ times b xs
times-reverse b [] = refl
times-reverse b (x ∷ xs) = ap (times b) (reverse-append (x ∷ []) xs) ∙ (times-append b (reverse xs) (x ∷ []) ∙ omega (arith, times-reverse b xs))

Adds-same : (xs ys : List ℕ) (old new : List Ends) → ((b : ℕ) → times b xs ≡ times b ys) → Adds ys old new → Adds xs old new
Adds-same xs ys old new same adds = record {
  size = adds.size;
  ordered = adds.ordered;
  counts = λ ordered b within. adds.counts ordered b within ∙ ap (λ t. min 2 (passing old b + t)) (sym (same b));
}

-- a span counts each of its numbers once
pub Adds-span : (rows : List Ends) (first last : ℕ) → min first last < length rows → Adds (numbers_between first last) rows (covered (min first last) (max first last + 1) rows)
Adds-span rows first last within =
    ⊎_elim
    (λ more.
    let test : nat_le first last ≡ false = grind (arith, nat_tests) in
    let low : min first last ≡ last = omega arith in
    let high : max first last + 1 ≡ first + 1 = omega arith in
    let numbers : (b : ℕ) → times b (numbers_between first last) ≡ times b (range_with_len last (first + 1 - last)) = λ b. ap (λ t. times b (cond t (range_with_len first (last + 1 - first)) (reverse (range_with_len last (first + 1 - last))))) test ∙ times-reverse b (range_with_len last (first + 1 - last)) in
    Adds-same _ _ rows _ numbers
    (subst (λ l. Adds (range_with_len last (first + 1 - last)) rows (covered l (max first last + 1) rows)) (sym low)
    (subst (λ h. Adds (range_with_len last (first + 1 - last)) rows (covered last h rows)) (sym high)
    (Adds-covered rows last (first + 1) (omega arith) (omega arith)))))
    (λ less.
    let test : nat_le first last ≡ true = grind (arith, nat_tests) in
    let low : min first last ≡ first = omega arith in
    let high : max first last + 1 ≡ last + 1 = omega arith in
    let numbers : (b : ℕ) → times b (numbers_between first last) ≡ times b (range_with_len first (last + 1 - first)) = λ b. ap (λ t. times b (cond t (range_with_len first (last + 1 - first)) (reverse (range_with_len last (first + 1 - last))))) test in
    Adds-same _ _ rows _ numbers
    (subst (λ l. Adds (range_with_len first (last + 1 - first)) rows (covered l (max first last + 1) rows)) (sym low)
    (subst (λ h. Adds (range_with_len first (last + 1 - first)) rows (covered first h rows)) (sym high)
    (Adds-covered rows first (last + 1) (omega arith) (omega arith)))))
    (cases_lt last first)
