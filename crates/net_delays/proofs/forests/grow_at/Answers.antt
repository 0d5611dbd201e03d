use Rattle.std.proofs.Common.{◌≡◌, ◌+◌, ◌-◌, ◌<◌, ℕ, sym, subst, refl, ◌∙◌, arith, length, take, drop}
use Rattle.std.proofs.lemmas.List.{take_rest}
use Rattle.std.proofs.lemmas.Result.{on_ok_weaker}
use Rattle.net_delays.specs.Drives.{drive_of}
use Rattle.net_delays.specs.Climbs.{IsClimbed, IsCrowned, IsSettling}
use Rattle.net_delays.proofs.Crowning.{IsSettling-top, IsGrown-more}
use Rattle.net_delays.proofs.forests.grow_at.Goals as goal
use Rattle.net_delays.proofs.forests.grow_at.Goals.{After-settle_top}

crowned : (c : After-settle_top) → IsCrowned c.climb.new.marks c.settle_top.new.marks (drop c.in_ok-top.top c.climb.new.path.items) (length (drop c.in_ok-top.top c.climb.new.path.items))
crowned c = rw (c.as_slice-path.ensures.value, take_rest) at c.settle_top.ensures

pub settle-requires : goal.settle-requires
settle-requires c =
    let climbed = c.in_ok-top.ensures in
    let crown = crowned (goal.at.settle-requires c).After-settle_top in
    record {
      few = omega (arith, crown.size, climbed.size, c.requires.grown.size, c.requires.few);
      sizes = omega (arith, crown.size, climbed.size, c.requires.grown.size);
      top = rw c.as_slice-path.ensures.value (IsSettling-top _ _ _ _ _ _ _ climbed crown _ c.requires.grown.settled);
    }

pub returns : goal.returns
returns c =
    let crown = crowned (goal.at.returns c).After-settle_top in
    on_ok_weaker c.settle.result
    (λ settled. IsGrown-more _ _ _ _ _ _ _ _ _ _ _ c.in_ok-top.ensures crown (rw c.as_slice-path.ensures.value at settled) c.requires.grown) c.settle.ensures
