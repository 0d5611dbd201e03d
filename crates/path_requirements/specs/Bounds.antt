-- What exceptions that match ask for, taken one after the other.
use Rattle.std.specs.Prelude.{ℤ, pos, ◌-◌, ◌*ℤ◌, ◌≤ℤ◌, true, false, List, [], ◌∷◌, Option, Some, None, if◌then◌else◌}
use Rattle.bud_design.specs.declared.clocks.Clock.{Clock}
use Rattle.bud_design.specs.declared.clocks.ExceptionKind.{ExceptionKind}
use Rattle.bud_design.specs.declared.clocks.ExceptionKind.TheVariants.{FalsePath, Multicycle, MaxDelay}
use Rattle.bud_design.specs.Lists.{lesser}
use Rattle.path_requirements.specs.declared.requirements.Bounds.{Bounds}

-- what multicycles add fits a machine word beside a relation
abbrev pub IsModest : Option ℤ → Type 0
IsModest None = Unit {0}
IsModest (Some time) = (pos 0 ≤ℤ time) × (time ≤ℤ pos 4294967294000000000)

abbrev pub no_bounds : Bounds
no_bounds = record { never = false; most = None; more = None }

-- the bounds with one exception more
abbrev pub bounds_with : Clock → Clock → Bounds → ExceptionKind → Bounds
bounds_with launch capture bounds FalsePath = record bounds { never = true }
bounds_with launch capture bounds (Multicycle n by_launch) =
    record bounds { more = Some (lesser (pos (n - 1) *ℤ (if by_launch then launch.period else capture.period)) bounds.more) }
bounds_with launch capture bounds (MaxDelay amount) = record bounds { most = Some (lesser amount bounds.most) }

-- the bounds with some exceptions more
abbrev pub bounds_with_all : Clock → Clock → Bounds → List ExceptionKind → Bounds
bounds_with_all launch capture bounds [] = bounds
bounds_with_all launch capture bounds (kind ∷ kinds) = bounds_with_all launch capture (bounds_with launch capture bounds kind) kinds
