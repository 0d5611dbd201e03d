use Rattle.std.proofs.Common.{◌≡◌, true, false, ap, sym, ◌∙◌, rules}
use Rattle.tcl_words.specs.Commands.{begins_hash}
use Rattle.tcl_words.specs.Scanning.{left}
use Rattle.tcl_words.proofs.LineLemmas.{comment_line, line_is}
use Rattle.tcl_words.proofs.readers.line.Goals as goal

pub returns-then-begins_hash-clause-answer : goal.returns-then-begins_hash-clause-answer
returns-then-begins_hash-clause-answer c =
    let hash : begins_hash (left c.args.text.now c.gap_end-start.result) ≡ true = search rules in
    comment_line c.args.text.now c.args.at c.gap_end-start.result c.feed_place.result c.new.result c.gap_end-start.ensures.rest hash c.feed_place.ensures.rest c.new.ensures

pub returns-clause-answer : goal.returns-clause-answer
returns-clause-answer c =
    let bare : begins_hash (left c.args.text.now c.gap_end-start.result) ≡ false = search rules in
    line_is c.args.text.now c.args.at c.words.result (ap begins_hash (sym c.gap_end-start.ensures.rest) ∙ bare) c.words.ensures.answer
