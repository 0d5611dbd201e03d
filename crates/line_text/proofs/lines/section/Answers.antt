use Rattle.std.proofs.Common.{◌≡◌, ◌∷◌, [], ◌++◌, sym, ◌∙◌, rules}
use Rattle.line_text.proofs.SectionLemmas.{section_turn, section_fails, section_stops, section_ends}
use Rattle.line_text.proofs.lines.section.Goals as goal
use Rattle.line_text.proofs.lines.section.Goals.{in-Some+then-not-begins, in_default}

pub returns-in_default-titled-clause-read : goal.returns-in_default-titled-clause-read
returns-in_default-titled-clause-read g c =
    sym c.loop-row.invariant.same ∙ section_fails _ _ _ _ _ _ _ c.in-Some.ensures.parts (sym (rw c.title.ensures at c.begins.ensures) ∙ c.if-not-begins.false) c.in_default-titled.ensures.read

pub loop-row-preserved : goal.loop-row-preserved
loop-row-preserved g c =
    let pushed : c.push.new.self.items ≡ c.loop-row.values.items ++ c.in-Some-titled.value ∷ [] = search rules in
    record {
      same =
          rw pushed (sym (section_turn _ _ c.loop-row.values.items c.in-Some-titled.value _ _ _ c.loop-row.breach c.in-Some-titled.least
          c.in-Some.ensures.parts (sym (rw c.title.ensures at c.begins.ensures) ∙ c.if-not-begins.false) c.in-Some-titled.ensures.read)
          ∙ c.loop-row.invariant.same);
      passed = search rules;
      order = search rules;
      stop_stays = search rules;
      size = search rules;
    }

pub returns-clause-read : goal.returns-clause-read
returns-clause-read g c =
    sym c.loop-row.invariant.same ∙ elim c.match-next_row.branch [
      | in-Some+then-not-begins w ↦ section_stops _ _ _ _ _ _ _ w.in-Some.ensures.parts (sym (rw w.title.ensures at w.begins.ensures) ∙ w.if-not-begins.true)
      | in_default w ↦ section_ends _ _ _ _ _ w.in_default.ensures.parts
    ]
