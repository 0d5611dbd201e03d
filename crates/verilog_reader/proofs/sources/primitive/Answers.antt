use Rattle.verilog_reader.specs.Sources as sources
use Rattle.verilog_reader.proofs.sources.primitive.Goals as goal

pub returns-in-Some-clause-read : goal.returns-in-Some-clause-read
unfolding sources.primitive
returns-in-Some-clause-read c = rw c.in_ok-rest.ensures.read c.in-Some.ensures.read
