-- What the steps of binding say is what binding says.
use Rattle.std.specs.Result.{IfOk}
use Rattle.std.proofs.Common.{Result, Ok, Err}
use Rattle.bud_design.specs.declared.timings.Timing.{Timing}
use Rattle.bud_design.specs.Designs.{Design}
use Rattle.delay_bind.specs.Entries.{Entries}
use Rattle.delay_bind.specs.Binding.{IsMade, IsTimingAnswer}
use Rattle.delay_bind.specs.declared.faults.BindFault.{BindFault}

-- what holds of a timing that is made holds of the answer
pub IfOk-made : (d : Design) (e : Entries) (P : Timing → Type 0) (result : Result Timing BindFault) → ((t : Timing) → IsMade d e t → P t) → IsTimingAnswer d e result → IfOk result P
IfOk-made d e P (Ok t) holds is = holds t is
IfOk-made d e P (Err fault) holds is = tt
