use Rattle.std.proofs.Common.{sym, ◌∙◌, ap, not, refl, rules, arith, length}
use Rattle.line_text.specs.Spans.{part_of}
use Rattle.sdf_lex.specs.Tokens.{tokens}
use Rattle.sdf_reader.specs.Lefts.{tokens_left}
use Rattle.sdf_reader.specs.Nests.{no_list, nested, lists}
use Rattle.sdf_reader.proofs.UntilLemmas.{until_ends, until_fails, until_turn}
use Rattle.sdf_reader.proofs.nests.lists.Goals as goal

pub loop-rest-init : goal.loop-rest-init
unfolding lists
loop-rest-init c = record { same = (length (tokens (part_of c.args.left.rest)), (omega arith, refl)); follows = search rules }

pub returns-in_default-clause-read : goal.returns-in_default-clause-read
returns-in_default-clause-read c =
    sym c.loop-rest.invariant.same.1.1
    ∙ until_fails no_list nested c.loop-rest.invariant.same.0 (tokens_left c.loop-rest.rest) (ap not (sym c.begins_open.ensures ∙ c.loop-rest-test.true)) c.in_default.ensures.read

pub loop-rest-preserved : goal.loop-rest-preserved
loop-rest-preserved c = record {
  same = until_turn no_list nested c.loop-rest.invariant.same.0 _ _ (tokens_left c.loop-rest.rest) (tokens_left c.in-Some.behind) _ c.loop-rest.invariant.same.1.0 c.in-Some.ensures.on.fewer
      (ap not (sym c.begins_open.ensures ∙ c.loop-rest-test.true)) c.in-Some.ensures.read c.loop-rest.invariant.same.1.1;
  follows = search rules;
}

pub returns-clause-read : goal.returns-clause-read
returns-clause-read c =
    sym c.loop-rest.invariant.same.1.1
    ∙ until_ends no_list nested c.loop-rest.invariant.same.0 (tokens_left c.loop-rest.rest) (ap not (sym c.begins_open.ensures ∙ c.loop-rest-test.false))
