-- Live classes in the order of their first launches and then their steps.
use Rattle.std.specs.Prelude.{◌≡◌, ℕ, ◌<◌, ◌==◌, ◌&&◌, ◌||◌, ◌≤◌, nat_lt, Bool, true, List, length, Option, Some, None, slice_index_or, All, AllPairs, Contains}
use Rattle.bud_design.specs.declared.layers.Class.{Class}
use Rattle.bud_design.specs.Layers.{class_number, steps_before}
use Rattle.path_states.specs.declared.tables.State.{State}
use Rattle.state_numbers.specs.declared.ranks.KindKey.{KindKey}
use Rattle.state_numbers.specs.Firsts.{IsFirstIn}

abbrev pub key_before : List Class → KindKey → KindKey → Bool
key_before classes x y =
    nat_lt x.launch y.launch || (x.launch == y.launch && steps_before (class_number classes x.kind).exceptions (class_number classes y.kind).exceptions)

abbrev pub key_at : List KindKey → ℕ → KindKey
key_at keys r = slice_index_or keys r (record { kind = 0; launch = 0 })

-- the class is one of the first `count`, and has this first launch
abbrev pub IsKey : List (Option ℕ) → ℕ → KindKey → Type 0
IsKey firsts count x = (x.kind < count) × (slice_index_or firsts x.kind None ≡ Some x.launch)

-- the keys of the first `count` classes
pub record AreKeys (firsts : List (Option ℕ)) (count : ℕ) (keys : List KindKey) : Type 0 where
  pub few : length keys ≤ count
  pub sound : All (IsKey firsts count) keys
  pub complete : (x : KindKey) → IsKey firsts count x → Contains keys x

-- the place of a class among the first `count` keys
abbrev pub IsRank : List KindKey → ℕ → ℕ → Option ℕ → Type 0
IsRank keys count c None = (r : ℕ) → r < count → (key_at keys r).kind ≡ c → ⊥
IsRank keys count c (Some r) = (r < count) × ((key_at keys r).kind ≡ c)

abbrev pub AreRanks : List KindKey → ℕ → List (Option ℕ) → Type 0
AreRanks keys count ranks = (c : ℕ) → c < length ranks → IsRank keys count c (slice_index_or ranks c None)

pub record AreRanked (classes : List Class) (states : List State) (launches : List ℕ) (live : List Bool) (keys : List KindKey) (ranks : List (Option ℕ)) : Type 0 where
  pub size : length ranks ≡ length classes
  pub rising : AllPairs (λ x y. key_before classes x y ≡ true) keys
  pub kinds : All (λ x. x.kind < length classes) keys
  pub firsts : All (λ x. IsFirstIn states launches live (length states) x.kind (Some x.launch)) keys
  pub ranks_are : AreRanks keys (length keys) ranks
  pub dead : (c : ℕ) → c < length ranks → slice_index_or ranks c None ≡ None → IsFirstIn states launches live (length states) c None
