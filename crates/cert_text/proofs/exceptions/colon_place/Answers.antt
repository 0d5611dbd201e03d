use Rattle.std.proofs.Common.{sym, arith}
use Rattle.std.proofs.lemmas.List.Sums.{position_or_len_is}
use Rattle.std.proofs.lemmas.Bool.{eq-eqb}
use Rattle.cert_text.specs.Exceptions.{is_colon}
use Rattle.cert_text.proofs.exceptions.colon_place.Goals as goal

pub returns-then-byte-eq58-clause-first : goal.returns-then-byte-eq58-clause-first
returns-then-byte-eq58-clause-first c =
    sym (position_or_len_is is_colon c.args.field.now _ 0 (omega arith) c.loop-i.invariant (λ _. eq-eqb _ 58 (omega arith)))

pub returns-clause-first : goal.returns-clause-first
returns-clause-first c =
    sym (position_or_len_is is_colon c.args.field.now _ 0 (omega arith) (λ k h. c.loop-i.invariant k (omega arith)) (λ h. absurd (omega arith)))
