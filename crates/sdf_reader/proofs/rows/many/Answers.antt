use Rattle.std.proofs.Common.{sym, ◌∙◌, ap, not, refl, rules, arith, length}
use Rattle.line_text.specs.Spans.{part_of}
use Rattle.line_text.proofs.SectionLemmas.{fails_too}
use Rattle.sdf_lex.specs.Tokens.{tokens}
use Rattle.sdf_reader.specs.Lefts.{tokens_left}
use Rattle.sdf_reader.specs.Cells.{many}
use Rattle.sdf_reader.proofs.UntilLemmas.{until_ends, until_fails, until_turn}
use Rattle.sdf_reader.proofs.rows.many.Goals as goal

pub loop-alloc-init : goal.loop-alloc-init
unfolding many
loop-alloc-init g c = record { same = (length (tokens (part_of c.args.left.rest)), (omega arith, refl)); follows = search rules; size = search rules }

pub returns-in-Err-clause-read : goal.returns-in-Err-clause-read
returns-in-Err-clause-read g c =
    fails_too _ _ _ c.in-Err.ensures.read (λ fails. sym c.loop-alloc.invariant.same.1.1
    ∙ until_fails _ _ c.loop-alloc.invariant.same.0 (c.loop-alloc.all, tokens_left c.loop-alloc.rest) (ap not (sym c.begins_open.ensures ∙ c.loop-alloc-test.true)) fails)

pub loop-alloc-preserved : goal.loop-alloc-preserved
loop-alloc-preserved g c = record {
  same = until_turn _ _ c.loop-alloc.invariant.same.0 _ _ (c.loop-alloc.all, tokens_left c.loop-alloc.rest) (c.in-Ok.more, tokens_left c.in-Ok.behind) _ c.loop-alloc.invariant.same.1.0 c.in-Ok.ensures.on.fewer
      (ap not (sym c.begins_open.ensures ∙ c.loop-alloc-test.true)) c.in-Ok.ensures.read c.loop-alloc.invariant.same.1.1;
  follows = search rules;
  size = search rules;
}

pub returns-clause-read : goal.returns-clause-read
returns-clause-read g c =
    sym c.loop-alloc.invariant.same.1.1
    ∙ until_ends _ _ c.loop-alloc.invariant.same.0 (c.loop-alloc.all, tokens_left c.loop-alloc.rest) (ap not (sym c.begins_open.ensures ∙ c.loop-alloc-test.false))
