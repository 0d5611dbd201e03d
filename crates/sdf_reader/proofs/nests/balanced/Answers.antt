use Rattle.std.proofs.Common.{sym, ◌∙◌, rules}
use Rattle.sdf_reader.specs.Lefts.{tokens_left}
use Rattle.sdf_reader.proofs.NestLemmas.{list_none, list_closes, list_turn, list_stray, balanced_found, balanced_fails}
use Rattle.sdf_reader.proofs.nests.balanced.Goals as goal

pub returns-then-is_stray-clause-read : goal.returns-then-is_stray-clause-read
returns-then-is_stray-clause-read c =
    balanced_fails (tokens_left c.args.left) (sym c.loop-lexeme.invariant.same ∙ list_stray c.loop-lexeme.depth _ _ _ c.in-Some.ensures.tokens (sym c.is_stray.ensures ∙ c.if-is_stray.true))

pub returns-then-ends_list-clause-read : goal.returns-then-ends_list-clause-read
returns-then-ends_list-clause-read c =
    balanced_found (tokens_left c.args.left) _ (sym c.loop-lexeme.invariant.same ∙ list_closes c.loop-lexeme.depth _ _ _ c.in-Some.ensures.tokens (sym c.ends_list.ensures ∙ c.if-ends_list.true))

pub loop-lexeme-preserved : goal.loop-lexeme-preserved
loop-lexeme-preserved c = record {
  same = sym (list_turn c.loop-lexeme.depth c.depth_behind-depth.result _ _ _ c.in-Some.ensures.tokens (sym c.is_stray.ensures ∙ c.if-is_stray.false) (sym c.ends_list.ensures ∙ c.if-ends_list.false) c.depth_behind-depth.ensures)
      ∙ c.loop-lexeme.invariant.same;
  order = search rules;
  stop_stays = search rules;
  deep = search rules;
  no_more = search rules;
}

pub returns-clause-read : goal.returns-clause-read
returns-clause-read c = balanced_fails (tokens_left c.args.left) (sym c.loop-lexeme.invariant.same ∙ list_none c.loop-lexeme.depth _ c.in_default.ensures.tokens)
