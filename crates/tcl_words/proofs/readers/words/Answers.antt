use Rattle.std.proofs.Common.{◌≡◌, ◌+◌, ◌∷◌, ◌++◌, [], List, false, true, sym, ◌∙◌, ap, subst, rules, append_assoc}
use Rattle.std.proofs.lemmas.List.{append-nil}
use Rattle.std.proofs.lemmas.Result.{err_from_is_err_and}
use Rattle.tcl_words.specs.Characters.{is_end}
use Rattle.tcl_words.specs.Scanning.{left, ends_by, StandAll}
use Rattle.tcl_words.specs.declared.words.Word.{Word}
use Rattle.tcl_words.proofs.ReadLemmas.{word_turn, words_over, no_words, words_refused}
use Rattle.tcl_words.proofs.readers.words.Goals as goal

pub returns-then-is_over-clause-answer : goal.returns-then-is_over-clause-answer
returns-then-is_over-clause-answer c =
    let over : ends_by (is_end c.args.scope) (left c.args.text.now c.gap_end-start.result) ≡ true = search rules in
    let P : List Word → Type 0 = λ ws. StandAll c.args.scope (c.args.base + c.args.at) (left c.args.text.now c.args.at) (left c.args.text.now c.gap_end-start.result) ws in
    subst P (append-nil c.words.words.items ∙ sym c.from_vec.ensures)
    (c.words.invariant.enough _ [] (words_over c.args.scope c.args.text.now (c.args.base + c.words.end) c.words.end c.gap_end-start.result c.gap_end-start.ensures.rest over))

pub returns-in_err-word-clause-answer : goal.returns-in_err-word-clause-answer
returns-in_err-word-clause-answer c =
    let p = err_from_is_err_and c.from_residual.result c.from_residual.ensures.1 in
    let on : ends_by (is_end c.args.scope) (left c.args.text.now c.gap_end-start.result) ≡ false = search rules in
    rw (p.1, p.2) (words_refused c.args.scope c.args.text.now c.args.base c.args.at c.gap_end-start.result c.in_err-word.field-0.0
    (λ missing rest all given.
    let before = c.words.invariant.needed rest all given in
    no_words c.args.scope c.args.text.now c.args.base c.words.end c.gap_end-start.result c.gap_end-start.ensures.rest on (search rules) (search rules) missing rest before.0 before.1.1)
    c.in_err-word.ensures.answer)

pub words-preserved : goal.words-preserved
words-preserved c =
    let on : ends_by (is_end c.args.scope) (left c.args.text.now c.gap_end-start.result) ≡ false = search rules in
    let turn = word_turn c.args.scope c.args.text.now c.args.base c.words.end c.gap_end-start.result c.in_ok-word.behind c.in_ok-word.word c.gap_end-start.ensures.rest on c.in_ok-word.ensures.answer (search rules) (search rules) (search rules) in
    let grown : c.push.new.self.items ≡ c.words.words.items ++ c.in_ok-word.word ∷ [] = search rules in
    rw grown (record {
      enough = λ rest more given.
          subst (λ (ws : List Word). StandAll c.args.scope (c.args.base + c.args.at) (left c.args.text.now c.args.at) rest ws) (sym (append_assoc c.words.words.items (c.in_ok-word.word ∷ []) more))
          (c.words.invariant.enough rest (c.in_ok-word.word ∷ more) (turn.enough rest more given));
      needed = λ rest all given.
          let before = c.words.invariant.needed rest all given in
          let after = turn.needed rest before.0 before.1.1 in
          (after.0, (before.1.0 ∙ ap (λ ws. c.words.words.items ++ ws) after.1.0 ∙ sym (append_assoc c.words.words.items (c.in_ok-word.word ∷ []) after.0), after.1.1));
      from = search rules;
      within = search rules;
    })
