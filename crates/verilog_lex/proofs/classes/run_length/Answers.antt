use Rattle.std.proofs.Common.{sym, ◌∙◌, arith}
use Rattle.std.proofs.lemmas.List.Sums.{prefix_len_is}
use Rattle.verilog_lex.specs.Classes.{passes}
use Rattle.verilog_lex.proofs.classes.run_length.Goals as goal

pub returns-then-not-passes-clause-run : goal.returns-then-not-passes-clause-run
returns-then-not-passes-clause-run c =
    sym (prefix_len_is (passes c.args.class) c.args.bytes.now _ 0 (omega arith) c.loop-i.invariant (λ _. sym c.passes.ensures ∙ c.if-not-passes.true))

pub returns-clause-run : goal.returns-clause-run
returns-clause-run c =
    sym (prefix_len_is (passes c.args.class) c.args.bytes.now _ 0 (omega arith) (λ k h. c.loop-i.invariant k (omega arith)) (λ h. absurd (omega arith)))
