use Rattle.std.proofs.Common.{◌≡◌, ◌∷◌, [], ◌++◌, sym, ◌∙◌, rules}
use Rattle.line_text.proofs.SectionLemmas.{section_turn, section_fails, section_stops, section_ends, fails_too}
use Rattle.line_text.proofs.owned.owned_section.Goals as goal
use Rattle.line_text.proofs.owned.owned_section.Goals.{in-Some+then-not-begins, in_default}

pub returns-in-Err-clause-read : goal.returns-in-Err-clause-read
returns-in-Err-clause-read g c =
    fails_too c.in-Err.fault _ _ c.in-Err.ensures.read (λ none.
    sym c.loop-row.invariant.same ∙ section_fails _ _ _ _ _ _ _ c.in-Some.ensures.parts (sym (rw c.title.ensures at c.begins.ensures) ∙ c.if-not-begins.false) none)

pub loop-row-preserved : goal.loop-row-preserved
loop-row-preserved g c =
    let pushed : c.push.new.self.items ≡ c.loop-row.values.items ++ c.in-Ok.read.0 ∷ [] = search rules in
    record {
      same =
          rw pushed (sym (section_turn _ _ c.loop-row.values.items c.in-Ok.read.0 _ _ _ c.loop-row.breach c.in-Ok.read.1
          c.in-Some.ensures.parts (sym (rw c.title.ensures at c.begins.ensures) ∙ c.if-not-begins.false) c.in-Ok.ensures.read)
          ∙ c.loop-row.invariant.same);
      passed = search rules;
      order = search rules;
      stop_stays = search rules;
      size = search rules;
    }

pub returns-clause-read : goal.returns-clause-read
returns-clause-read g c =
    sym c.loop-row.invariant.same ∙ elim c.match-next_row.branch [
      | in-Some+then-not-begins w ↦ section_stops _ _ _ _ _ _ _ w.in-Some.ensures.parts (sym (rw w.title.ensures at w.begins.ensures) ∙ w.if-not-begins.true)
      | in_default w ↦ section_ends _ _ _ _ _ w.in_default.ensures.parts
    ]
