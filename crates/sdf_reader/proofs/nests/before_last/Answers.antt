use Rattle.std.proofs.Common.{sym, ◌∙◌, ap, refl, rules, arith, length}
use Rattle.line_text.specs.Spans.{part_of}
use Rattle.sdf_lex.specs.Tokens.{tokens}
use Rattle.sdf_reader.specs.Lefts.{tokens_left}
use Rattle.sdf_reader.specs.Nests.{is_last, element, before_last, closes_behind}
use Rattle.sdf_reader.proofs.UntilLemmas.{until_ends, until_fails, until_turn}
use Rattle.sdf_reader.proofs.nests.before_last.Goals as goal

pub loop-behind-init : goal.loop-behind-init
unfolding before_last
loop-behind-init c = record { same = (length (tokens (part_of c.args.left.rest)), (omega arith, refl)); follows = search rules }

pub returns-then-begins_close-clause-read : goal.returns-then-begins_close-clause-read
returns-then-begins_close-clause-read c =
    sym c.loop-behind.invariant.same.1.1
    ∙ until_ends is_last element c.loop-behind.invariant.same.0 (tokens_left c.loop-behind.rest) (ap closes_behind c.in-Some.ensures.read ∙ sym c.begins_close.ensures ∙ c.if-begins_close.true)

pub loop-behind-preserved : goal.loop-behind-preserved
loop-behind-preserved c = record {
  same = until_turn is_last element c.loop-behind.invariant.same.0 _ _ (tokens_left c.loop-behind.rest) (tokens_left c.in-Some.behind) _ c.loop-behind.invariant.same.1.0 c.in-Some.ensures.on.fewer
      (ap closes_behind c.in-Some.ensures.read ∙ sym c.begins_close.ensures ∙ c.if-begins_close.false) c.in-Some.ensures.read c.loop-behind.invariant.same.1.1;
  follows = search rules;
}

pub returns-clause-read : goal.returns-clause-read
returns-clause-read c =
    sym c.loop-behind.invariant.same.1.1
    ∙ until_fails is_last element c.loop-behind.invariant.same.0 (tokens_left c.loop-behind.rest) (ap closes_behind c.in_default.ensures.read) c.in_default.ensures.read
