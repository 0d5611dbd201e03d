use Rattle.std.specs.Prelude.{[]}
use Rattle.block_names.proofs.DelayReadings.{inputs-read, outputs-read}
use Rattle.block_names.proofs.laws.port_delays_read_as_meant.Goals as goal

pub returns-clause-inputs : goal.returns-clause-inputs
returns-clause-inputs c = λ x arrivals nodes scope number design block differ few clocks none are may apart.
    inputs-read x design block differ few arrivals nodes [] scope number clocks none are may apart

pub returns-clause-outputs : goal.returns-clause-outputs
returns-clause-outputs c = λ x arrivals nodes scope number design block differ few clocks none are may apart.
    outputs-read x design block differ few arrivals nodes [] scope number clocks none are may apart
