use Rattle.std.proofs.Common.{◌+◌, arith, rules}
use Rattle.tcl_words.proofs.ReadLemmas.{word_bytes, word_made}
use Rattle.tcl_words.proofs.readers.next_word.Goals as goal

pub text_of-requires : goal.text_of-requires
text_of-requires c =
    word_bytes c.args.scope c.args.text.now (c.args.base + c.args.at) c.args.at c.in-Some.end c.in-Some.kind (c.in-Some.ensures.stands (c.args.base + c.args.at)).0 (c.in-Some.ensures.stands (c.args.base + c.args.at)).1.0 (c.in-Some.ensures.stands (c.args.base + c.args.at)).1.1 (omega arith) (search rules)

pub returns-in-Ok-clause-answer : goal.returns-in-Ok-clause-answer
returns-in-Ok-clause-answer c =
    word_made c.args.scope c.args.text.now (c.args.base + c.args.at) c.args.at c.in-Some.end c.in-Some.kind (c.in-Some.ensures.stands (c.args.base + c.args.at)).0 c.in-Ok.text (c.in-Some.ensures.stands (c.args.base + c.args.at)).1.0 (c.in-Some.ensures.stands (c.args.base + c.args.at)).1.1 (omega arith) (search rules) c.in-Ok.ensures

pub returns-in_default-clause-answer : goal.returns-in_default-clause-answer
returns-in_default-clause-answer c = (λ rest word given. c.in_default.ensures.stands (c.args.base + c.args.at) rest word given, omega arith)
