-- The exceptions that the states of a class meet.
use Rattle.std.specs.Prelude.{ℕ, ◌==◌, ◌&&◌, List, [], ◌∷◌, Option, Some, None, length, find, filter_map, if◌then◌else◌}
use Rattle.bud_design.specs.declared.clocks.Capture.{Capture}
use Rattle.bud_design.specs.declared.clocks.Exception.{Exception}
use Rattle.bud_design.specs.declared.clocks.ExceptionKind.{ExceptionKind}
use Rattle.bud_design.specs.declared.layers.Met.{Met}
use Rattle.bud_design.specs.Exceptions.{meets_to}

-- the first exception, where it has the number
abbrev pub first_of : List Exception → ℕ → Option Exception
first_of [] number = None
first_of (e ∷ es) number = if e.number == number then Some e else None

-- the exception's kind, where all its groups are met and the capture meets its to-part
abbrev pub kind_where : Option Exception → Capture → Met → Option ExceptionKind
kind_where None x m = None
kind_where (Some e) x m = if m.steps == length e.groups && meets_to e x then Some e.kind else None

abbrev pub kind_met : List Exception → Capture → Met → Option ExceptionKind
kind_met exceptions x m = kind_where (find (λ e. e.number == m.number) exceptions) x m

abbrev pub kinds_met : List Exception → Capture → List Met → List ExceptionKind
kinds_met exceptions x ms = filter_map (kind_met exceptions x) ms
