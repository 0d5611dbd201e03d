-- What a command makes of what the commands before it say.
use Rattle.std.specs.Prelude.{◌≡◌, Result, Ok, Err}
use Rattle.timing_objects.specs.declared.faults.ResolveFault.{ResolveFault}
use Rattle.timing_objects.specs.Answers.{Answer, Fails}

-- the new value is what the definition answers, or it refuses so, unless memory ran out
abbrev pub Changes : {X : Type 0} → Answer X → X → Result (Unit {0}) ResolveFault → Type 0
Changes answer new (Ok _) = answer ≡ Ok new
Changes answer new (Err fault) = Fails fault answer
