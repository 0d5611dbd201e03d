-- By what a node has its earliest and its latest time: a start or an end at it, or an item that brings it this time.
use Rattle.std.specs.Prelude.{◌≡◌, ◌⊎◌, ℕ, ◌<◌, ℤ, ◌+ℤ◌, List, length}
use Rattle.bud_base.specs.declared.problems.Problem.{Problem}
use Rattle.bud_base.specs.Paths.{item_at, start_at, end_at}
use Rattle.bud_flow.specs.Sums.{number_at}

pub record StartsAt (p : Problem) (times : List ℤ) (n : ℕ) : Type 0 where
  pub start : ℕ
  pub below : start < length p.starts
  pub node : (start_at p.starts start).node.0 ≡ n
  pub time : (start_at p.starts start).offset ≡ number_at times n

pub record EndsAt (p : Problem) (times : List ℤ) (n : ℕ) : Type 0 where
  pub end : ℕ
  pub below : end < length p.ends
  pub node : (end_at p.ends end).node.0 ≡ n
  pub time : (end_at p.ends end).require ≡ number_at times n

-- the item's nodes have times that are its least delay apart
abbrev pub IsTight : Problem → List ℤ → ℕ → Type 0
IsTight p times i = (number_at times (item_at p.items i).from.0 +ℤ (item_at p.items i).least) ≡ number_at times (item_at p.items i).to.0

pub record ComesBy (p : Problem) (times : List ℤ) (n : ℕ) : Type 0 where
  pub item : ℕ
  pub below : item < length p.items
  pub to : (item_at p.items item).to.0 ≡ n
  pub tight : IsTight p times item

pub record GoesBy (p : Problem) (times : List ℤ) (n : ℕ) : Type 0 where
  pub item : ℕ
  pub below : item < length p.items
  pub from : (item_at p.items item).from.0 ≡ n
  pub tight : IsTight p times item

-- an earliest time has a cause, and so has a latest one
abbrev pub HasEarlyCause : Problem → List ℤ → ℕ → Type 0
HasEarlyCause p times n = StartsAt p times n ⊎ ComesBy p times n

abbrev pub HasLateCause : Problem → List ℤ → ℕ → Type 0
HasLateCause p times n = EndsAt p times n ⊎ GoesBy p times n
