use Rattle.std.proofs.Common.{◌≡◌, ◌∷◌, [], ◌++◌, drop, sym, ◌∙◌, rules}
use Rattle.std.proofs.lemmas.List.{take_rest, nil_from_length}
use Rattle.verilog_lex.proofs.ProgressLaws.{known_on, skipped_on, found_on, refused_here, all_found}
use Rattle.verilog_lex.proofs.lexer.find_tokens.Goals as goal

pub loop-first-preserved-in-Skipped : goal.loop-first-preserved-in-Skipped
loop-first-preserved-in-Skipped c =
    let rest : drop c.loop-first.at c.args.text.now ≡ c.in-Some.first.now ∷ c.in-Some.behind.now = sym (take_rest c.args.text.now c.loop-first.at) ∙ c.in-Some.ensures.cases.0 in
    record {
      so_far = skipped_on _ _ _ _ _ _ rest c.in-Skipped.ensures.front c.in-Skipped.ensures.within c.loop-first.invariant.so_far;
      known = search (rules, known_on c.args.text.now c.loop-first.at c.in-Some.first.now c.in-Skipped.len c.printable_front-printable.result c.in-Some.behind.now rest c.printable_front-printable.ensures.known);
    }

pub loop-first-preserved : goal.loop-first-preserved
loop-first-preserved c =
    let rest : drop c.loop-first.at c.args.text.now ≡ c.in-Some.first.now ∷ c.in-Some.behind.now = sym (take_rest c.args.text.now c.loop-first.at) ∙ c.in-Some.ensures.cases.0 in
    let pushed : c.push.new.self.items ≡ c.loop-first.found.items ++ record { kind = c.in-Found.kind; at = c.loop-first.at; len = c.in-Found.len } ∷ [] = search rules in
    record {
      so_far = rw pushed (found_on _ _ _ _ _ _ _ rest c.in-Found.ensures.front c.in-Found.ensures.within c.loop-first.invariant.so_far);
      known = search (rules, known_on c.args.text.now c.loop-first.at c.in-Some.first.now c.in-Found.len c.printable_front-printable.result c.in-Some.behind.now rest c.printable_front-printable.ensures.known);
    }

pub returns-in-Refused-clause-answer : goal.returns-in-Refused-clause-answer
returns-in-Refused-clause-answer c =
    refused_here _ _ _ _ _ _ (sym (take_rest c.args.text.now c.loop-first.at) ∙ c.in-Some.ensures.cases.0) c.in-Refused.ensures.front c.loop-first.invariant.so_far

pub returns-clause-answer : goal.returns-clause-answer
returns-clause-answer c =
    rw c.from_vec.ensures (all_found _ _ _ (sym (take_rest c.args.text.now c.loop-first.at) ∙ nil_from_length _ c.in_default.ensures.cases) c.loop-first.invariant.so_far)
