use Rattle.std.proofs.Common.{◌≡◌, ◌∷◌, [], ◌++◌, sym, ◌∙◌, rules}
use Rattle.line_text.proofs.SectionLemmas.{fails_too}
use Rattle.policy_reader.proofs.LineLemmas.{lines_turn, lines_fails, lines_ends}
use Rattle.policy_reader.proofs.reader.read_lines.Goals as goal

pub returns-in-Err-clause-read : goal.returns-in-Err-clause-read
returns-in-Err-clause-read c =
    fails_too c.in-Err.fault _ _ c.in-Err.ensures.read (λ none.
    sym c.loop-row.invariant.same ∙ lines_fails _ _ _ _ _ _ c.in-Some.ensures.parts none)

pub loop-row-preserved : goal.loop-row-preserved
loop-row-preserved c =
    let pushed : c.push.new.self.items ≡ c.loop-row.lines.items ++ c.in-Ok.read.0 ∷ [] = search rules in
    record {
      same =
          rw pushed (sym (lines_turn _ c.loop-row.lines.items c.in-Ok.read.0 _ _ _ c.loop-row.breach c.in-Ok.read.1 c.in-Some.ensures.parts c.in-Ok.ensures.read)
          ∙ c.loop-row.invariant.same);
      passed = search rules;
      order = search rules;
      stop_stays = search rules;
      size = search rules;
    }

pub returns-clause-read : goal.returns-clause-read
returns-clause-read c = sym c.loop-row.invariant.same ∙ lines_ends _ _ _ _ c.in_default.ensures.parts
