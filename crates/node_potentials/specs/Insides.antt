-- How the fields of potentials keep their value.
use Rattle.std.specs.Prelude.{◌≡◌, ℕ, ℤ, Bool, List, length}
use Rattle.bud_base.specs.declared.ids.NodeId.{NodeId}
use Rattle.node_potentials.specs.Moves.{AreNoted, AreSame}
use Rattle.node_potentials.specs.Rounds.{Round}
use Rattle.node_potentials.specs.declared.rounds.Potentials.TheInside.{Inside}

abbrev pub round_of : Inside → Round
round_of p = record { kept = p.kept.items; present = p.present.items }

-- the nodes whose potentials differ are noted
pub record AreKept (kept present : List ℤ) (flags : List Bool) (nodes : List NodeId) (count : ℕ) : Type 0 where
  pub noted : AreNoted flags nodes count
  pub same : AreSame kept present flags
  pub kept_size : length kept ≡ length flags
  pub present_size : length present ≡ length flags

abbrev pub IsKeeping : Inside → Type 0
IsKeeping p = AreKept p.kept.items p.present.items p.is_moved.items p.moved.items p.count
