-- The first launch of a live state of a class.
use Rattle.std.specs.Prelude.{◌≡◌, ℕ, ◌<◌, ◌≤◌, nat_lt, Bool, true, false, List, Option, Some, None, slice_index_or, if◌then◌else◌}
use Rattle.path_states.specs.Tables.{state_at}
use Rattle.path_states.specs.declared.tables.State.{State}

abbrev pub lesser : Option ℕ → ℕ → ℕ
lesser None n = n
lesser (Some m) n = if nat_lt m n then m else n

-- the state is live and has the class
pub record IsLiveIn (states : List State) (live : List Bool) (c i : ℕ) : Type 0 where
  pub live_is : slice_index_or live i false ≡ true
  pub kind_is : (state_at states i).kind ≡ c

pub record HasFirst (states : List State) (launches : List ℕ) (live : List Bool) (count c n : ℕ) : Type 0 where
  pub state : ℕ
  pub within : state < count
  pub alive : IsLiveIn states live c state
  pub launch : slice_index_or launches state 0 ≡ n
  pub first : (i : ℕ) → i < count → IsLiveIn states live c i → n ≤ slice_index_or launches i 0

-- the first launch among so many states
abbrev pub IsFirstIn : List State → List ℕ → List Bool → ℕ → ℕ → Option ℕ → Type 0
IsFirstIn states launches live count c None = (i : ℕ) → i < count → IsLiveIn states live c i → ⊥
IsFirstIn states launches live count c (Some n) = HasFirst states launches live count c n
