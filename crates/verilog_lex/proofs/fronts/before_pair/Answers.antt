use Rattle.std.proofs.Common.{sym, ◌∙◌, ap, arith, ◌+◌, drop, length-drop}
use Rattle.std.specs.Option.{option_map}
use Rattle.verilog_lex.proofs.FrontLemmas.{pair_none}
use Rattle.verilog_lex.proofs.fronts.before_pair.Goals as goal

pub returns-clause-first : goal.returns-clause-first
returns-clause-first c =
    sym (c.loop-at.invariant.rest ∙ ap (option_map (λ n. n + c.loop-at.at)) (pair_none c.args.first c.args.second (drop c.loop-at.at c.args.bytes.now) (simp length-drop (omega arith))))
