-- The share by sound lines is sound.
use Rattle.std.proofs.Common.{◌≡◌, ℕ, List, subst, sym}
use Rattle.std.specs.Prelude.{All, slice_index_or}
use Rattle.bud_design.specs.Arcs.{Arc}
use Rattle.bud_design.specs.Designs.{Design}
use Rattle.bud_design.specs.Policies as policies
use Rattle.bud_design.specs.Policies.{share}
use Rattle.bud_design.specs.declared.clocks.Clock.{Clock}
use Rattle.bud_design.specs.declared.policies.PolicyLine.{PolicyLine}
use Rattle.bud_design.specs.declared.policies.PolicyLine.TheVariants as line
use Rattle.layer_theory.proofs.LayerRanges as ranges
use Rattle.policy_lines.specs.Shares.{IsSoundShare, IsSoundLine}

in_range : (l : PolicyLine) → IsSoundLine l → ranges.IsSoundLine l
in_range (line.Block path) sound = tt
in_range (line.Default extra weight clock) sound = record { low = sound.low; high = sound.high; most = sound.most }
in_range (line.Inst path extra weight clock) sound = record { low = sound.low; high = sound.high; most = sound.most }
in_range (line.Arc from to extra weight clock) sound = record { low = sound.low; high = sound.high; most = sound.most }

pub share-sound : (d : Design) (arcs : List Arc) (lines : List PolicyLine) (a : ℕ) (c : Clock) (given : policies.Share) → given ≡ share d arcs lines a c → All IsSoundLine lines → IsSoundShare given
share-sound d arcs lines a c given is sound =
    let by_range = ranges.share-sound d arcs lines (λ k l below. in_range (slice_index_or lines k l) (sound k l below)) a c in
    subst IsSoundShare (sym is) (record { low = by_range.low; high = by_range.high; most = by_range.most })
