use Rattle.std.proofs.Common.{◌∷◌, []}
use Rattle.line_text.specs.Parts.{cut_at}
use Rattle.line_text.specs.Spans.{part_of}
use Rattle.cert_text.specs.Exceptions.{is_colon}
use Rattle.cert_text.proofs.ExceptionLaws.{exception_fails, exception_second_fails, exception_two, exception_three}
use Rattle.cert_text.proofs.exceptions.numbers.Goals as goal

pub returns-in_default-clause-read : goal.returns-in_default-clause-read
returns-in_default-clause-read c = λ field cut. exception_fails field _ _ _ cut (c.in_default.ensures.read (cut_at is_colon (part_of c.args.behind)))

pub returns-in-Some-halves-clause-read : goal.returns-in-Some-halves-clause-read
returns-in-Some-halves-clause-read c = λ field cut.
    let parts = c.in-Some-halves.ensures.parts in
    exception_three field _ _ (part_of c.in-Some-halves.field-0.1) _ _ c.in-Some.breach (rw parts at cut) (rw parts at (c.in-Some.ensures.read (cut_at is_colon (part_of c.args.behind))))

pub returns-in-Some-part_count-clause-read : goal.returns-in-Some-part_count-clause-read
returns-in-Some-part_count-clause-read c = λ field cut.
    let parts = c.in-None.ensures.parts in
    exception_two field _ _ _ _ _ _ _ (rw parts at cut) (c.in-Some.ensures.read (part_of c.args.behind ∷ [])) (c.in-Some-part_count.ensures.read [])

pub returns-in-None-part_count-clause-read : goal.returns-in-None-part_count-clause-read
returns-in-None-part_count-clause-read c = λ field cut.
    let parts = c.in-None.ensures.parts in
    exception_second_fails field _ _ _ _ _ _ (rw parts at cut) (c.in-Some.ensures.read (part_of c.args.behind ∷ [])) (c.in-None-part_count.ensures.read [])
