use Rattle.std.proofs.Common.{length}
use Rattle.std.proofs.lemmas.List.{nil_from_length}
use Rattle.verilog_words.proofs.FinderLaws.{all_behind, sought_passed, sought_kept, sought_found, sought_none, sought_at_first}
use Rattle.verilog_words.proofs.finder.first_left_out.Goals as goal

pub loop-token-init : goal.loop-token-init
loop-token-init c = sought_at_first c.args.text.now c.args.tokens.now c.none-before.result (c.none-before.ensures c.args.text.now) c.requires

pub directive-name-requires-clause-behind : goal.directive-name-requires-clause-behind
directive-name-requires-clause-behind c = all_behind (length c.args.text.now) _ _ _ c.in-Some.ensures.cases.0 c.loop-token.invariant.within

pub turn_at-requires-clause-behind : goal.turn_at-requires-clause-behind
turn_at-requires-clause-behind c = all_behind (length c.args.text.now) _ _ _ c.in-Some.ensures.cases.0 c.loop-token.invariant.within

pub loop-token-preserved-in-Passes : goal.loop-token-preserved-in-Passes
loop-token-preserved-in-Passes c =
    sought_passed _ _ _ _ _ _ _ _ _ c.in-Some.ensures.cases.0 c.directive-name.ensures.name c.in-Passes.ensures.turn c.in-Passes.ensures.within.0 c.loop-token.invariant

pub returns-in-Some-word_at-clause-first : goal.returns-in-Some-word_at-clause-first
returns-in-Some-word_at-clause-first c =
    sought_found _ _ _ _ _ _ _ _ _ _ c.in-Some.ensures.cases.0 c.directive-name.ensures.name c.in-Keeps.ensures.turn c.in-Some-word_at.ensures.word c.loop-token.invariant

pub loop-token-preserved : goal.loop-token-preserved
loop-token-preserved c =
    sought_kept _ _ _ _ _ _ _ _ _ _ c.in-Some.ensures.cases.0 c.directive-name.ensures.name c.in-Keeps.ensures.turn c.in_default-word_at.ensures.word c.with-before.ensures
    (all_behind (length c.args.text.now) _ _ _ c.in-Some.ensures.cases.0 c.loop-token.invariant.within) c.loop-token.invariant

pub returns-clause-first : goal.returns-clause-first
returns-clause-first c = sought_none _ _ _ _ _ (nil_from_length _ c.in_default.ensures.cases) c.loop-token.invariant
