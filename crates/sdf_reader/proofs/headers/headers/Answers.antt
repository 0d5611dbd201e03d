use Rattle.std.proofs.Common.{sym, ◌∙◌, refl, rules, arith, length}
use Rattle.line_text.specs.Spans.{part_of}
use Rattle.sdf_lex.specs.Tokens.{tokens}
use Rattle.sdf_reader.specs.Lefts.{tokens_left}
use Rattle.sdf_reader.specs.Settings.{set_of}
use Rattle.sdf_reader.specs.Headers.{ends_headers, header, headers}
use Rattle.sdf_reader.proofs.UntilLemmas.{until_ends, until_fails, until_turn}
use Rattle.sdf_reader.proofs.headers.headers.Goals as goal

pub loop-heads-init : goal.loop-heads-init
unfolding headers
loop-heads-init c = record { same = (length (tokens (part_of c.args.first.left.rest)), (omega arith, refl)); follows = search rules }

pub returns-in_default-clause-read : goal.returns-in_default-clause-read
returns-in_default-clause-read c =
    sym c.loop-heads.invariant.same.1.1
    ∙ until_fails ends_headers header c.loop-heads.invariant.same.0 (set_of c.loop-heads.heads.settings, tokens_left c.loop-heads.heads.left)
    (sym (c.ends_headers.ensures (set_of c.loop-heads.heads.settings)) ∙ c.loop-heads-test.true) c.in_default.ensures.read

pub loop-heads-preserved : goal.loop-heads-preserved
loop-heads-preserved c = record {
  same = until_turn ends_headers header c.loop-heads.invariant.same.0 _ _ (set_of c.loop-heads.heads.settings, tokens_left c.loop-heads.heads.left)
      (set_of c.in-Some.more.settings, tokens_left c.in-Some.more.left) _ c.loop-heads.invariant.same.1.0 c.in-Some.ensures.on.fewer
      (sym (c.ends_headers.ensures (set_of c.loop-heads.heads.settings)) ∙ c.loop-heads-test.true) c.in-Some.ensures.read c.loop-heads.invariant.same.1.1;
  follows = search rules;
}

pub returns-clause-read : goal.returns-clause-read
returns-clause-read c =
    sym c.loop-heads.invariant.same.1.1
    ∙ until_ends ends_headers header c.loop-heads.invariant.same.0 (set_of c.loop-heads.heads.settings, tokens_left c.loop-heads.heads.left)
    (sym (c.ends_headers.ensures (set_of c.loop-heads.heads.settings)) ∙ c.loop-heads-test.false)
