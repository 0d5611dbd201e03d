-- What items that join up add up to, and what arrivals say of it.
use Rattle.std.proofs.Common.{◌≡◌, ℕ, ℤ, ◌+ℤ◌, ◌-ℤ◌, ◌≤ℤ◌, List, [], ◌∷◌, ◌++◌, arith}
use Rattle.std.proofs.lemmas.Int.{ints}
use Rattle.bud_base.specs.Paths.{Joins, item_at, end_at, Path, IsPath, sum_along, room, slack}
use Rattle.bud_base.specs.Arrivals.{FollowDelays, FollowStarts, AreSuiting}
use Rattle.bud_base.specs.declared.ids.ItemId.{ItemId}
use Rattle.bud_base.specs.declared.problems.Item.{Item}
use Rattle.bud_base.specs.declared.problems.Problem.{Problem}

pub sum_along-append : (delay : ItemId → ℤ) (xs ys : List ItemId) → sum_along delay (xs ++ ys) ≡ sum_along delay xs +ℤ sum_along delay ys
sum_along-append delay [] ys = omega (arith, ints)
sum_along-append delay (x ∷ xs) ys = omega (arith, ints, sum_along-append delay xs ys)

-- items that join up add up to no more than the arrivals differ
pub sum_along-le_arrivals : (items : List Item) (delay : ItemId → ℤ) (arrival : ℕ → ℤ) (is : List ItemId) (a b : ℕ) → FollowDelays items delay arrival → Joins items a is b
    → sum_along delay is ≤ℤ (arrival b -ℤ arrival a)
sum_along-le_arrivals items delay arrival [] a b follow joined = rw joined (omega (arith, ints))
sum_along-le_arrivals items delay arrival (i ∷ is) a b follow joined =
    let rest = sum_along-le_arrivals items delay arrival is (item_at items i.0).to.0 b follow joined.2 in
    rw (← joined.1) (omega (arith, ints, rest, follow i.0 joined.0))

-- a path has at least the slack that the arrival leaves at its end
pub slack-ge_arrivals : (p : Problem) (delay : ItemId → ℤ) (arrival : ℕ → ℤ) (path : Path) → FollowDelays p.items delay arrival → FollowStarts p.starts arrival → IsPath p path
    → ((end_at p.ends path.end).require -ℤ arrival (end_at p.ends path.end).node.0) ≤ℤ slack p delay path
slack-ge_arrivals p delay arrival path follow begin is_path =
    omega (arith, ints, sum_along-le_arrivals p.items delay arrival path.items _ _ follow is_path.joined, begin path.start is_path.start)

-- a path adds up to at most its room where the arrivals suit the delays
pub sum_along-le_room : (p : Problem) (delay : ItemId → ℤ) (arrival : ℕ → ℤ) (path : Path) → AreSuiting p delay arrival → IsPath p path
    → sum_along delay path.items ≤ℤ room p path
sum_along-le_room p delay arrival path suit is_path =
    omega (arith, ints, sum_along-le_arrivals p.items delay arrival path.items _ _ suit.items is_path.joined, suit.starts path.start is_path.start, suit.ends path.end is_path.end)
