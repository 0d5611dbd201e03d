-- The port bits of a place, which stand side by side.
use Rattle.std.proofs.Common.{◌≡◌, ℕ, zero, suc, ◌+◌, ◌-◌, ◌<◌, ◌≤◌, Bool, true, false, List, [], ◌∷◌, ◌++◌, map, filter, length, refl, sym, ◌∙◌, ap, arith, inl, inr}
use Rattle.std.specs.List.{list_any, range_with_len}
use Rattle.std.proofs.lemmas.Bool.{cases_lt, ne_eqb}
use Rattle.std.proofs.lemmas.Bool.Decides.{Decides-eqb}
use Rattle.std.proofs.lemmas.List.{append-nil}
use Rattle.std.proofs.lemmas.List.FromFn.{map-range_with_len_more}
use Rattle.std.proofs.lemmas.List.Elements.{All-nil, All-cons}
use Rattle.bud_base.specs.declared.ids.PinId.{PinId}
use Rattle.bud_design.specs.declared.designs.Pin.{Pin}
use Rattle.bud_design.specs.Designs.{pin_at}
use Rattle.timing_objects.specs.PortNames.{numbers, AreBelow, is_at}
use Rattle.timing_objects.specs.Spans.{IsSpan}

range-some : (k n : ℕ) → k < n → range_with_len k (n - k) ≡ k ∷ range_with_len (k + 1) (n - (k + 1))
range-some k n below =
    let one : n - k ≡ suc (n - (k + 1)) = omega (arith, below) in
    ap (range_with_len k) one

range-none : (k n : ℕ) → n ≤ k → range_with_len k (n - k) ≡ []
range-none k n past =
    let none : n - k ≡ 0 = omega (arith, past) in
    ap (range_with_len k) none

filter-here : (q : ℕ → Bool) (k n : ℕ) → k < n → q k ≡ true → filter q (range_with_len k (n - k)) ≡ k ∷ filter q (range_with_len (k + 1) (n - (k + 1)))
filter-here q k n below is = ap (filter q) (range-some k n below) ∙ rw is refl

filter-next : (q : ℕ → Bool) (k n : ℕ) → k < n → q k ≡ false → filter q (range_with_len k (n - k)) ≡ filter q (range_with_len (k + 1) (n - (k + 1)))
filter-next q k n below is = ap (filter q) (range-some k n below) ∙ rw is refl

-- numbers that don't pass, and numbers that do
filter-skip : (q : ℕ → Bool) (m k n : ℕ) → k + m ≤ n → ((v : ℕ) → k ≤ v → v < k + m → q v ≡ false) → filter q (range_with_len k (n - k)) ≡ filter q (range_with_len (k + m) (n - (k + m)))
filter-skip q zero k n small fail = let same : k ≡ k + 0 = omega arith in ap (λ k. filter q (range_with_len k (n - k))) same
filter-skip q (suc m) k n small fail =
    let same : k + 1 + m ≡ k + suc m = omega arith in
    filter-next q k n (omega (arith, small)) (fail k (omega arith) (omega arith))
    ∙ (filter-skip q m (k + 1) n (omega (arith, small)) (λ v low high. fail v (omega (arith, low)) (omega (arith, high)))
    ∙ ap (λ k. filter q (range_with_len k (n - k))) same)

filter-take : (q : ℕ → Bool) (m k n : ℕ) → k + m ≤ n → ((v : ℕ) → k ≤ v → v < k + m → q v ≡ true)
    → filter q (range_with_len k (n - k)) ≡ range_with_len k m ++ filter q (range_with_len (k + m) (n - (k + m)))
filter-take q zero k n small pass = let same : k ≡ k + 0 = omega arith in ap (λ k. filter q (range_with_len k (n - k))) same
filter-take q (suc m) k n small pass =
    let same : k + 1 + m ≡ k + suc m = omega arith in
    filter-here q k n (omega (arith, small)) (pass k (omega arith) (omega arith))
    ∙ ap (λ ks. k ∷ ks)
    (filter-take q m (k + 1) n (omega (arith, small)) (λ v low high. pass v (omega (arith, low)) (omega (arith, high)))
    ∙ ap (λ j. range_with_len (k + 1) m ++ filter q (range_with_len j (n - j))) same)

filter-span : (q : ℕ → Bool) (a b n : ℕ) → a ≤ b → b ≤ n → ((v : ℕ) → v < a → q v ≡ false) → ((v : ℕ) → a ≤ v → v < b → q v ≡ true) → ((v : ℕ) → b ≤ v → v < n → q v ≡ false)
    → filter q (range_with_len 0 n) ≡ range_with_len a (b - a)
filter-span q a b n ordered within before inside behind =
    let all : n ≡ n - 0 = omega arith in
    let first : 0 + a ≡ a = omega arith in
    let last : a + (b - a) ≡ b = omega (arith, ordered) in
    let end : b + (n - b) ≡ n = omega (arith, within) in
    ap (λ m. filter q (range_with_len 0 m)) all
    ∙ (filter-skip q a 0 n (omega (arith, ordered, within)) (λ v low high. before v (omega (arith, high)))
    ∙ (ap (λ k. filter q (range_with_len k (n - k))) first
    ∙ (filter-take q (b - a) a n (omega (arith, ordered, within)) (λ v low high. inside v low (omega (arith, high, ordered)))
    ∙ (ap (λ ks. range_with_len a (b - a) ++ ks)
    (ap (λ k. filter q (range_with_len k (n - k))) last
    ∙ (filter-skip q (n - b) b n (omega (arith, within)) (λ v low high. behind v low (omega (arith, high, within)))
    ∙ (ap (λ k. filter q (range_with_len k (n - k))) end ∙ ap (filter q) (range-none n n (omega arith)))))
    ∙ append-nil (range_with_len a (b - a))))))

-- the bits of a place stand between the pins of lower places and those of higher ones
pub is-span : (pins : List Pin) (place a b : ℕ) → a ≤ length pins → b ≤ length pins → ((v : ℕ) → v < a → (pin_at pins v).place < place)
    → ((v : ℕ) → a ≤ v → v < length pins → place ≤ (pin_at pins v).place) → ((v : ℕ) → v < b → (pin_at pins v).place ≤ place)
    → ((v : ℕ) → b ≤ v → v < length pins → place < (pin_at pins v).place) → IsSpan pins place a b
is-span pins place a b withina withinb before from upto behind =
    let ordered : a ≤ b = elim (cases_lt b a) [
      | inl less ↦ absurd (omega (arith, before b less, behind b (omega arith) (omega (arith, less, withina))))
      | inr most ↦ most
    ] in
    record {
      ordered = ordered;
      within = withinb;
      bits = filter-span (is_at pins place) a b (length pins) ordered withinb
          (λ v low. ne_eqb (pin_at pins v).place place (λ e. absurd (omega (arith, e, before v low))))
          (λ v low high. let least = from v low (omega (arith, high, withinb)) in let most = upto v high in (Decides-eqb (pin_at pins v).place place).1 (omega (arith, least, most)))
          (λ v low high. ne_eqb (pin_at pins v).place place (λ e. absurd (omega (arith, e, behind v low high))));
    }

-- ---- bits gathered number by number
abbrev pub pin_of : ℕ → PinId
pin_of v = record { 0 = v }

pub numbers-of : (vs : List ℕ) → numbers (map pin_of vs) ≡ vs
numbers-of [] = refl
numbers-of (v ∷ vs) = ap (λ us. v ∷ us) (numbers-of vs)

pub last-of : (a v : ℕ) → a ≤ v → map pin_of (range_with_len a (v - a)) ++ pin_of v ∷ [] ≡ map pin_of (range_with_len a (v + 1 - a))
last-of a v low =
    let one : v - a + 1 ≡ v + 1 - a = omega (arith, low) in
    sym (map-range_with_len_more pin_of a (v - a) v (omega (arith, low))) ∙ ap (λ m. map pin_of (range_with_len a m)) one

pub below-of : (pins : List Pin) (m k : ℕ) → k + m ≤ length pins → AreBelow pins (map pin_of (range_with_len k m))
below-of pins zero k small = All-nil (λ (v : PinId). v.0 < length pins)
below-of pins (suc m) k small =
    All-cons (λ (v : PinId). v.0 < length pins) (pin_of k) (map pin_of (range_with_len (k + 1) m)) (omega (arith, small)) (below-of pins m (k + 1) (omega (arith, small)))

-- ---- whether a number passes
pub any-yes : (t : ℕ → Bool) (k n : ℕ) → k < n → t k ≡ true → list_any t (range_with_len k (n - k)) ≡ true
any-yes t k n below is = ap (list_any t) (range-some k n below) ∙ rw is refl

pub any-no : (t : ℕ → Bool) (k n : ℕ) → k < n → t k ≡ false → list_any t (range_with_len k (n - k)) ≡ list_any t (range_with_len (k + 1) (n - (k + 1)))
any-no t k n below is = ap (list_any t) (range-some k n below) ∙ rw is refl

pub any-end : (t : ℕ → Bool) (k n : ℕ) → n ≤ k → list_any t (range_with_len k (n - k)) ≡ false
any-end t k n past = ap (list_any t) (range-none k n past)
