-- When arrivals at the nodes suit delays, item by item, start by start and end by end.
use Rattle.std.specs.Prelude.{ℕ, ℤ, ◌+ℤ◌, ◌≤ℤ◌}
use Rattle.bud_base.specs.Arrivals.{AreSuiting}
use Rattle.bud_base.specs.Paths.{item_at, start_at, end_at}
use Rattle.bud_base.specs.declared.ids.ItemId.{ItemId}
use Rattle.bud_base.specs.declared.problems.Problem.{Problem}

-- the item's delay is over before the arrival at its last node
abbrev pub SuitsItem : Problem → (ItemId → ℤ) → (ℕ → ℤ) → ℕ → Type 0
SuitsItem p delay arrival i = (arrival (item_at p.items i).from.0 +ℤ delay (record { 0 = i })) ≤ℤ arrival (item_at p.items i).to.0

-- the arrival at the start's node is no earlier than its offset
abbrev pub SuitsStart : Problem → (ℕ → ℤ) → ℕ → Type 0
SuitsStart p arrival s = (start_at p.starts s).offset ≤ℤ arrival (start_at p.starts s).node.0

-- the arrival at the end's node is no later than its required time
abbrev pub SuitsEnd : Problem → (ℕ → ℤ) → ℕ → Type 0
SuitsEnd p arrival e = arrival (end_at p.ends e).node.0 ≤ℤ (end_at p.ends e).require

-- all of them suit
abbrev pub Suit : Problem → (ItemId → ℤ) → (ℕ → ℤ) → Type 0
Suit p delay arrival = AreSuiting p delay arrival
