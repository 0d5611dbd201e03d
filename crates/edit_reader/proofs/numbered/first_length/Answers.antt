use Rattle.std.proofs.Common.{sym, ◌∙◌, arith}
use Rattle.std.proofs.lemmas.List.Sums.{position_or_len_is}
use Rattle.line_text.specs.Parts.{is_feed}
use Rattle.edit_reader.proofs.numbered.first_length.Goals as goal

pub returns-then-is_feed-clause-first : goal.returns-then-is_feed-clause-first
returns-then-is_feed-clause-first c =
    sym (position_or_len_is is_feed c.args.bytes.now _ 0 (omega arith) c.loop-i.invariant (λ _. sym c.is_feed.ensures ∙ c.if-is_feed.true))

pub returns-clause-first : goal.returns-clause-first
returns-clause-first c =
    sym (position_or_len_is is_feed c.args.bytes.now _ 0 (omega arith) (λ k h. c.loop-i.invariant k (omega arith)) (λ h. absurd (omega arith)))
