use Rattle.std.proofs.Common.{sym, ◌∙◌, arith}
use Rattle.std.proofs.lemmas.List.Sums.{position_or_len_is}
use Rattle.line_text.specs.Spans.{cuts}
use Rattle.line_text.proofs.parts.first_length.Goals as goal

pub returns-then-is_cut-clause-first : goal.returns-then-is_cut-clause-first
returns-then-is_cut-clause-first c =
    sym (position_or_len_is (cuts c.args.cut) c.args.bytes.now _ 0 (omega arith) c.loop-i.invariant (λ _. sym c.is_cut.ensures ∙ c.if-is_cut.true))

pub returns-clause-first : goal.returns-clause-first
returns-clause-first c =
    sym (position_or_len_is (cuts c.args.cut) c.args.bytes.now _ 0 (omega arith) (λ k h. c.loop-i.invariant k (omega arith)) (λ h. absurd (omega arith)))
