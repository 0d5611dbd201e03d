-- The residual arcs that leave a node.
use Rattle.std.specs.Prelude.{◌≡◌, ◌==◌, ℕ, zero, suc, ◌*◌, ◌<◌, ◌++◌, List, [], ◌∷◌, length, if◌then◌else◌}
use Rattle.arc_lists.specs.KeyLists.{keys_at}
use Rattle.residual.specs.Arcs.{residual_at}
use Rattle.residual.specs.Networks.{Network}
use Rattle.residual.specs.declared.arcs.Arc.{Arc}

-- the node that the residual arc of a key leaves, whatever the flow
abbrev pub tail_of : List Arc → ℕ → ℕ
tail_of arcs key = (residual_at arcs [] key).from.0

-- the keys below a count whose residual arcs leave the node, in rising order
abbrev pub leaving_below : List Arc → ℕ → ℕ → List ℕ
leaving_below arcs zero v = []
leaving_below arcs (suc key) v = leaving_below arcs key v ++ (if tail_of arcs key == v then key ∷ [] else [])

-- the keys of the residual arcs that leave the node, whether they have room or not, in rising order
abbrev pub leaving : Network → ℕ → List ℕ
leaving net v = leaving_below net.arcs (2 * length net.arcs) v

-- the lists are those of the keys below a count that leave each of so many nodes
pub record AreListed (arcs : List Arc) (lists : List (List ℕ)) (nodes count : ℕ) : Type 0 where
  pub size : length lists ≡ nodes
  pub each : (v : ℕ) → v < nodes → keys_at lists v ≡ leaving_below arcs count v
