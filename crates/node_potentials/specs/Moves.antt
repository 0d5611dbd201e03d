-- Nodes whose potential moved.
use Rattle.std.specs.Prelude.{◌≡◌, ℕ, ℤ, ◌+◌, ◌<◌, ◌≤◌, Bool, true, false, List, [], ◌∷◌, length, slice_index_or}
use Rattle.bud_base.specs.declared.ids.NodeId.{NodeId}
use Rattle.bud_flow.specs.Sums.{number_at}

abbrev pub flag_at : List Bool → ℕ → Bool
flag_at flags v = slice_index_or flags v false

abbrev pub node_at : List NodeId → ℕ → ℕ
node_at nodes k = (slice_index_or nodes k (record { 0 = 0 })).0

-- how many flags are down
abbrev pub down_count : List Bool → ℕ
down_count [] = 0
down_count (false ∷ flags) = 1 + down_count flags
down_count (true ∷ flags) = down_count flags

-- the node stands at a place from the first to below the last
pub record IsListed (nodes : List NodeId) (first last v : ℕ) : Type 0 where
  pub place : ℕ
  pub above : first ≤ place
  pub below : place < last
  pub is : node_at nodes place ≡ v

-- the nodes whose flag is up stand in the first places, so many, and there is a place for each of the others
pub record AreNoted (flags : List Bool) (nodes : List NodeId) (count : ℕ) : Type 0 where
  pub size : length nodes ≡ length flags
  pub few : count + down_count flags ≡ length flags
  pub inside : (k : ℕ) → k < count → node_at nodes k < length flags
  pub each : (v : ℕ) → flag_at flags v ≡ true → IsListed nodes 0 count v

-- where the flag is down the two potentials of a node are the same
abbrev pub AreSame : List ℤ → List ℤ → List Bool → Type 0
AreSame kept present flags = (v : ℕ) → flag_at flags v ≡ false → number_at kept v ≡ number_at present v
