use Rattle.std.proofs.Common.{◌≡◌, ◌++◌, List, sym, ◌∙◌, ap, subst, rules, append_assoc}
use Rattle.std.proofs.lemmas.Result.{err_from_is_err_and}
use Rattle.tcl_words.specs.Commands.{kept, Splits}
use Rattle.tcl_words.specs.Scanning.{left}
use Rattle.tcl_words.specs.declared.words.Word.{Word}
use Rattle.tcl_words.proofs.LineLemmas.{line_turn, line_last, no_commands, commands_refused, all_left}
use Rattle.tcl_words.proofs.splitting.split.Goals as goal

pub lines-init : goal.lines-init
lines-init c =
    let given = all_left c.args.text.now c.new-commands.result.items (search rules) in
    record { enough = given.enough; needed = given.needed; within = given.within }

pub returns-in_err-words : goal.returns-in_err-words
returns-in_err-words c =
    let p = err_from_is_err_and c.from_residual.result c.from_residual.ensures.1 in
    rw (p.1, p.2) (commands_refused c.args.text.now c.lines.at c.in_err-words.field-0.0
    (λ missing all given.
    let before = c.lines.invariant.needed all given in
    no_commands c.lines.at (left c.args.text.now c.lines.at) missing before.0 before.1.1)
    c.in_err-words.ensures.answer)

pub returns-in_default : goal.returns-in_default
returns-in_default c =
    let grown : c.keep.new.commands.items ≡ c.lines.commands.items ++ kept c.in_ok-words.words = search rules in
    record {
      answer =
          subst (λ (all : List (List Word)). Splits c.args.text.now all) (sym (c.from_vec.ensures ∙ grown))
          (c.lines.invariant.enough (kept c.in_ok-words.words) (line_last c.lines.at _ _ c.in_ok-words.words c.in_ok-words.ensures.answer c.in_default.ensures.first));
      within = tt;
    }

pub lines-preserved : goal.lines-preserved
lines-preserved c =
    let grown : c.keep.new.commands.items ≡ c.lines.commands.items ++ kept c.in_ok-words.words = search rules in
    let turn = line_turn c.args.text.now c.lines.at c.in_ok-words.end c.in-Some.behind c.in_ok-words.words c.in-Some.field-0-0 c.in_ok-words.ensures.answer c.in-Some.ensures.first (search rules) (search rules) in
    rw grown (record {
      enough = λ more given.
          subst (λ (all : List (List Word)). Splits c.args.text.now all) (sym (append_assoc c.lines.commands.items (kept c.in_ok-words.words) more))
          (c.lines.invariant.enough (kept c.in_ok-words.words ++ more) (turn.enough more given));
      needed = λ all given.
          let before = c.lines.invariant.needed all given in
          let after = turn.needed before.0 before.1.1 in
          (after.0, (before.1.0 ∙ ap (λ ws. c.lines.commands.items ++ ws) after.1.0 ∙ sym (append_assoc c.lines.commands.items (kept c.in_ok-words.words) after.0), after.1.1));
      within = search rules;
    })
