-- Arrivals of the nodes, and how they suit delays.
use Rattle.std.specs.Prelude.{ℕ, ℤ, ◌+ℤ◌, ◌≤ℤ◌, ◌<◌, List, length}
use Rattle.bud_base.specs.Paths.{item_at, start_at, end_at}
use Rattle.bud_base.specs.declared.ids.ItemId.{ItemId}
use Rattle.bud_base.specs.declared.problems.Item.{Item}
use Rattle.bud_base.specs.declared.problems.Start.{Start}
use Rattle.bud_base.specs.declared.problems.End.{End}
use Rattle.bud_base.specs.declared.problems.Problem.{Problem}

-- at the last node of each item the arrival is at least that of its first node and the item's delay, in ps
abbrev pub FollowDelays : List Item → (ItemId → ℤ) → (ℕ → ℤ) → Type 0
FollowDelays items delay arrival =
    (i : ℕ) → i < length items → (arrival (item_at items i).from.0 +ℤ delay (record { 0 = i })) ≤ℤ arrival (item_at items i).to.0

-- at each start the arrival is at least its offset
abbrev pub FollowStarts : List Start → (ℕ → ℤ) → Type 0
FollowStarts starts arrival = (s : ℕ) → s < length starts → (start_at starts s).offset ≤ℤ arrival (start_at starts s).node.0

-- at each end the arrival is at most its required time
abbrev pub MeetEnds : List End → (ℕ → ℤ) → Type 0
MeetEnds ends arrival = (e : ℕ) → e < length ends → arrival (end_at ends e).node.0 ≤ℤ (end_at ends e).require

-- the arrivals suit the delays
pub record AreSuiting (p : Problem) (delay : ItemId → ℤ) (arrival : ℕ → ℤ) : Type 0 where
  pub items : FollowDelays p.items delay arrival
  pub starts : FollowStarts p.starts arrival
  pub ends : MeetEnds p.ends arrival
