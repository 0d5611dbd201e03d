-- A row of two items that meets its end.
use Rattle.std.proofs.Common.{◌≡◌, ℕ, zero, suc, ℤ, pos, ◌≤ℤ◌, ◌+ℤ◌, ◌-ℤ◌, ◌<◌, List, [], ◌∷◌, length, arith, ap, sym, subst}
use Rattle.std.proofs.lemmas.Int.{ints}
use Rattle.bud_base.specs.Paths.{item_at, start_at, end_at, Meets, least_of}
use Rattle.bud_base.specs.Arrivals.{FollowDelays, FollowStarts}
use Rattle.bud_base.proofs.Sums.{slack-ge_arrivals}
use Rattle.bud_base.specs.declared.problems.Item.{Item}
use Rattle.bud_base.specs.declared.problems.Start.{Start}
use Rattle.bud_base.specs.declared.problems.End.{End}
use Rattle.bud_base.specs.declared.problems.Problem.{Problem}
use Rattle.bud_flow.specs.Sums.{number_at}

abbrev row_items : ℕ → ℕ → List Item
row_items first second =
    record { from = record { 0 = 0 }; to = record { 0 = 1 }; least = pos 40; greatest = pos 100; weight = first }
    ∷ record { from = record { 0 = 1 }; to = record { 0 = 2 }; least = pos 30; greatest = pos 90; weight = second }
    ∷ []

abbrev row_starts : List Start
row_starts = record { node = record { 0 = 0 }; offset = pos 0 } ∷ []

abbrev row_ends : ℤ → List End
row_ends require = record { node = record { 0 = 2 }; require = require } ∷ []

abbrev arrival : ℕ → ℤ
arrival = number_at (pos 0 ∷ pos 40 ∷ pos 70 ∷ [])

each : (first second : ℕ) (k : ℕ) → k < 2
    → (arrival (item_at (row_items first second) k).from.0 +ℤ (item_at (row_items first second) k).least) ≤ℤ arrival (item_at (row_items first second) k).to.0
each first second zero within = omega (arith, ints)
each first second (suc zero) within = omega (arith, ints)
each first second (suc (suc k)) within = absurd (omega (arith, within))

follow : (first second : ℕ) (p : Problem) → p.items ≡ row_items first second → FollowDelays p.items (least_of p) arrival
follow first second p is i within =
    let Q : List Item → ℕ → Type 0 = λ xs k. (arrival (item_at xs k).from.0 +ℤ (item_at xs k).least) ≤ℤ arrival (item_at xs k).to.0 in
    let all : (k : ℕ) → k < 2 → Q (row_items first second) k = each first second in
    let two : length p.items ≡ 2 = ap length is in
    subst (λ (xs : List Item). Q xs i) (sym is) (all i (omega (arith, within, two)))

first_start : (k : ℕ) → k < 1 → (start_at row_starts k).offset ≤ℤ arrival (start_at row_starts k).node.0
first_start zero within = omega (arith, ints)
first_start (suc k) within = absurd (omega (arith, within))

begin : (p : Problem) → p.starts ≡ row_starts → FollowStarts p.starts arrival
begin p is s within =
    let Q : List Start → ℕ → Type 0 = λ xs k. (start_at xs k).offset ≤ℤ arrival (start_at xs k).node.0 in
    let all : (k : ℕ) → k < 1 → Q row_starts k = first_start in
    let one : length p.starts ≡ 1 = ap length is in
    subst (λ (xs : List Start). Q xs s) (sym is) (all s (omega (arith, within, one)))

only_end : (require : ℤ) → pos 70 ≤ℤ require → (k : ℕ) → k < 1 → pos 0 ≤ℤ ((end_at (row_ends require) k).require -ℤ arrival (end_at (row_ends require) k).node.0)
only_end require late zero within = omega (arith, ints, late)
only_end require late (suc k) within = absurd (omega (arith, within))

pub Meets-row : (first second : ℕ) (require : ℤ) (p : Problem) → pos 70 ≤ℤ require → p.items ≡ row_items first second → p.starts ≡ row_starts → p.ends ≡ row_ends require → Meets p
Meets-row first second require p late is_items is_starts is_ends path is_path =
    let bound = slack-ge_arrivals p (least_of p) arrival path (follow first second p is_items) (begin p is_starts) is_path in
    let Q : List End → ℕ → Type 0 = λ xs k. pos 0 ≤ℤ ((end_at xs k).require -ℤ arrival (end_at xs k).node.0) in
    let all : (k : ℕ) → k < 1 → Q (row_ends require) k = only_end require late in
    let one : length p.ends ≡ 1 = ap length is_ends in
    let last : Q p.ends path.end = subst (λ (xs : List End). Q xs path.end) (sym is_ends) (all path.end (omega (arith, is_path.end, one))) in
    omega (arith, ints, bound, last)
