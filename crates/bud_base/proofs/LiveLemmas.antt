-- Live nodes and the paths that they lie on.
use Rattle.std.proofs.Common.{◌↔◌, ℕ, ◌++◌, refl}
use Rattle.bud_base.specs.Paths.{Path, IsPath}
use Rattle.bud_base.specs.Orders.{IsLive, Passes}
use Rattle.bud_base.proofs.Joining.{Joins-append}
use Rattle.bud_base.specs.declared.problems.Problem.{Problem}

pub IsLive-iff_path : (p : Problem) (n : ℕ) → (IsLive p n ↔ ((path : Path) × IsPath p path × Passes p path n))
IsLive-iff_path p n = (
  λ live. (
    record { start = live.0.start; items = live.0.items ++ live.1.items; end = live.1.end },
    record { start = live.0.within; end = live.1.within; joined = Joins-append p.items live.0.items live.1.items _ n _ live.0.joined live.1.joined },
    record { before = live.0.items; after = live.1.items; parts = refl; there = live.0.joined; onward = live.1.joined },
  ),
  λ (path, is_path, passes). (
    record { start = path.start; items = passes.before; within = is_path.start; joined = passes.there },
    record { items = passes.after; end = path.end; within = is_path.end; joined = passes.onward },
  ),
)
