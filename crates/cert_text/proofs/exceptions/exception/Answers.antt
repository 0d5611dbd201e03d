use Rattle.std.proofs.Common.{[]}
use Rattle.cert_text.proofs.ExceptionLaws.{exception_one, exception_fails}
use Rattle.cert_text.proofs.exceptions.exception.Goals as goal

pub returns-in-Some-part_count-clause-read : goal.returns-in-Some-part_count-clause-read
returns-in-Some-part_count-clause-read c = exception_one _ _ _ _ _ c.in-None.ensures.parts (c.in-Some-part_count.ensures.read [])

pub returns-in-None-part_count-clause-read : goal.returns-in-None-part_count-clause-read
returns-in-None-part_count-clause-read c = exception_fails _ _ _ _ c.in-None.ensures.parts (c.in-None-part_count.ensures.read [])
