-- Rings of items, turned so that the least number comes first.
use Rattle.std.proofs.Common.{◌≡◌, ℕ, suc, ◌+◌, ◌-◌, ◌<◌, ◌≤◌, List, [], ◌∷◌, ◌++◌, length, get_or, drop, take, sym, ◌∙◌, ap, subst, inl, inr, arith, length-append, length-drop}
use Rattle.std.specs.List.{between}
use Rattle.std.proofs.lemmas.Bool.{cases_lt}
use Rattle.std.proofs.lemmas.List.{length-take, get_or-drop, get_or-take, get_or_append_left, get_or-append_right, take-append-drop, take-append-le, drop-append-le}
use Rattle.std.proofs.lemmas.List.Elements.{All-from_get_or}
use Rattle.std.proofs.lemmas.List.Edits.{length-between}
use Rattle.std.proofs.lemmas.Slice.{between-put_mid}
use borrow.Rule.Slice.PartMut.{put_mid}
use Rattle.bud_base.specs.Paths.{Joins}
use Rattle.bud_base.specs.Orders.{IsCycle}
use Rattle.bud_base.specs.Rings.{IsRing, HasRing, HasCycle, IsTurned}
use Rattle.bud_base.proofs.Joining.{Joins-turned}
use Rattle.bud_base.specs.declared.ids.ItemId.{ItemId}
use Rattle.bud_base.specs.declared.problems.Item.{Item}
use Rattle.bud_base.specs.declared.orders.Span.{Span}

abbrev pub number_at : List ItemId → ℕ → ℕ
number_at is k = (get_or is k (record { 0 = 0 })).0

-- a ring whose first number is its least is a cycle
IsCycle-from_least : (items : List Item) (is : List ItemId) (b : ℕ) → 0 < length is → Joins items b is b → ((k : ℕ) → k < length is → number_at is 0 ≤ number_at is k) → IsCycle items is
IsCycle-from_least items [] b some joined least = absurd (omega arith)
IsCycle-from_least items (i ∷ is) b some joined least = (
  subst (λ a. Joins items a (i ∷ is) a) (sym joined.1) joined,
  All-from_get_or (λ j. i.0 ≤ j.0) is (record { 0 = 0 }) (λ k below. least (suc k) (omega arith)),
)

-- each number of a turned list stands in the list
number_at-turned : (xs : List ItemId) (p k : ℕ) → p ≤ length xs → k < length xs → (j : ℕ) × ((j < length xs) × (number_at (drop p xs ++ take p xs) k ≡ number_at xs j))
number_at-turned xs p k within below =
    let size : length (drop p xs) ≡ length xs - p = length-drop p xs in
    elim (cases_lt k (length xs - p)) [
      | inl low ↦ (
        p + k,
        (
          omega arith,
          ap (λ (x : ItemId). x.0) (get_or_append_left (drop p xs) (take p xs) (record { 0 = 0 }) k (omega arith) ∙ get_or-drop p xs k (record { 0 = 0 })),
        ),
      )
      | inr high ↦ (
        k - (length xs - p),
        (
          omega arith,
          ap (λ (x : ItemId). x.0)
              (get_or-append_right (drop p xs) (take p xs) (length xs - p) k (record { 0 = 0 }) size high ∙ get_or-take p xs (k - (length xs - p)) (record { 0 = 0 }) (omega arith)),
        ),
      )
    ]

-- the first number of a turned list
number_at-turned_first : (xs : List ItemId) (p : ℕ) → p < length xs → number_at (drop p xs ++ take p xs) 0 ≡ number_at xs p
number_at-turned_first xs p within =
    let size : length (drop p xs) ≡ length xs - p = length-drop p xs in
    ap (λ (x : ItemId). x.0) (get_or_append_left (drop p xs) (take p xs) (record { 0 = 0 }) 0 (omega arith) ∙ get_or-drop p xs 0 (record { 0 = 0 }))
    ∙ ap (number_at xs) (omega arith)

length-turned : (xs : List ItemId) (p : ℕ) → p ≤ length xs → length (drop p xs ++ take p xs) ≡ length xs
length-turned xs p within = omega (arith, length-append (drop p xs) (take p xs), length-drop p xs, length-take p xs)

pub IsCycle-from_turned : (items : List Item) (old new : List ItemId) → IsRing items old → IsTurned old new → IsCycle items new
IsCycle-from_turned items old new ring turned =
    let p : ℕ = turned.place in
    let inside : p < length old = turned.least.within in
    let whole : Joins items ring.0 (take p old ++ drop p old) ring.0 = rw take-append-drop ring.1 in
    let around = Joins-turned items (take p old) (drop p old) ring.0 whole in
    let size : length (drop p old ++ take p old) ≡ length old = length-turned old p (omega arith) in
    rw (turned.turned)
    (IsCycle-from_least items (drop p old ++ take p old) around.0 (omega arith) around.1
    (λ k below.
    let found = number_at-turned old p k (omega arith) (omega arith) in
    rw (number_at-turned_first old p inside, found.1.1) (turned.least.least found.0 found.1.0)))

between-append : (xs ys : List ItemId) (i j : ℕ) → i ≤ j → j ≤ length xs → between i j (xs ++ ys) ≡ between i j xs
between-append xs ys i j low high =
    let room : j - i ≤ length (drop i xs) = omega (arith, length-drop i xs) in
    rw (drop-append-le i xs ys (omega arith)) (take-append-le (j - i) (drop i xs) ys room)

-- a ring on the way is turned there
pub HasCycle-from_turned : (items : List Item) (path rest : List ItemId) (ring : Span) (turned : List ItemId) → HasRing items path ring
    → IsTurned (between ring.from ring.to (path ++ rest)) turned → HasCycle items (put_mid ring.from (ring.to - ring.from) (path ++ rest) turned) ring
HasCycle-from_turned items path rest ring turned has turns =
    let whole : List ItemId = path ++ rest in
    let old : List ItemId = between ring.from ring.to whole in
    let same : old ≡ between ring.from ring.to path = between-append path rest ring.from ring.to (omega (arith, has.some)) has.within in
    let room : ring.to ≤ length whole = omega (arith, length-append path rest, has.within) in
    let old_size : length old ≡ ring.to - ring.from = length-between whole ring.from ring.to room in
    let size : length turned ≡ ring.to - ring.from
    = ap length turns.turned ∙ (length-turned old turns.place (omega (arith, turns.least.within)) ∙ old_size) in
    let place : between ring.from ring.to (put_mid ring.from (ring.to - ring.from) whole turned) ≡ turned
    = between-put_mid ring.from (ring.to - ring.from) whole turned ring.to (omega (arith, has.some)) size in
    record {
      some = omega (arith, has.some);
      within = omega (
        arith,
        has.some,
        length-take ring.from whole,
        length-append (take ring.from whole) (turned ++ drop (ring.to - ring.from) (drop ring.from whole)),
        length-append turned (drop (ring.to - ring.from) (drop ring.from whole)),
      );
      cycle = rw place (IsCycle-from_turned items old turned (rw same has.joined) turns);
    }
