use Rattle.std.proofs.Common.{arith}
use Rattle.std.proofs.lemmas.List.{take_rest}
use Rattle.cert_text.proofs.ExceptionLaws.{colon_found, colon_missing}
use Rattle.cert_text.proofs.exceptions.halves.Goals as goal

pub returns-then-place-field-clause-parts : goal.returns-then-place-field-clause-parts
returns-then-place-field-clause-parts c = colon_missing _ _ c.args.field.bytes.now c.colon_place-place.ensures.first c.if-place-field.true

pub returns-clause-parts : goal.returns-clause-parts
returns-clause-parts c = rw take_rest (colon_found _ _ c.args.field.bytes.now c.colon_place-place.ensures.first (omega arith))
