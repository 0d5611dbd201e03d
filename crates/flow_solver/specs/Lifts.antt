-- Potentials that are lifted by labels.
use Rattle.std.specs.Prelude.{◌≡◌, ◌≢◌, ℕ, ℤ, ◌+◌, ◌<◌, ◌≤◌, ◌+ℤ◌, ◌-ℤ◌, Bool, List}
use Rattle.bud_flow.specs.Sums.{number_at}
use Rattle.residual.specs.Networks.{Network, IsLawful}

-- potentials that differ from others by what the root's label is above each node's
pub record AreLifted (nodes : ℕ) (before after : List ℤ) (label : ℕ → ℤ) : Type 0 where
  pub each : (v : ℕ) → v < nodes + 1 → number_at after v ≡ number_at before v +ℤ (label nodes -ℤ label v)

-- the network with these potentials
abbrev pub with_potentials : Network → List ℤ → Bool → Network
with_potentials net potentials is_open = record net { potentials = potentials; is_open = is_open }

-- the potentials of the nodes below a number are lifted, and nothing else has changed
pub record AreLiftedBelow (old new : Network) (label : ℕ → ℤ) (k : ℕ) : Type 0 where
  pub same : new ≡ with_potentials old new.potentials new.is_open
  pub lifted : (v : ℕ) → v < k → number_at new.potentials v ≡ number_at old.potentials v +ℤ (label old.nodes -ℤ label v)
  pub others : (v : ℕ) → k ≤ v → number_at new.potentials v ≡ number_at old.potentials v
  pub lawful : IsLawful new

-- the potential of a node is lifted by this, and nothing else has changed
pub record IsLiftedAt (old new : Network) (v : ℕ) (by : ℤ) : Type 0 where
  pub here : number_at new.potentials v ≡ number_at old.potentials v +ℤ by
  pub others : (w : ℕ) → w ≢ v → number_at new.potentials w ≡ number_at old.potentials w
  pub same : new ≡ with_potentials old new.potentials new.is_open
  pub lawful : IsLawful new
