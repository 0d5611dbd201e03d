use Rattle.std.proofs.Common.{sym, rules, w64}
use Rattle.std.proofs.lemmas.List.{take_rest}
use Rattle.std.proofs.lemmas.Int.{to_z-of_z}
use Rattle.text_scan.proofs.CursorLemmas.{refused_there, found_there}
use Rattle.text_scan.proofs.cursors.Cursor.decimal.Goals as goal

pub returns-in-Ok-clause-answer : goal.returns-in-Ok-clause-answer
returns-in-Ok-clause-answer c =
    let inside = c.self.inside in
    found_there c.args.self.now inside.text.now _ inside.at c.in-Ok.length c.args.unit c.args.round c.in-Ok.number _ (sym c.self.view_is) (take_rest inside.text.now inside.at)
    (to_z-of_z w64 c.in-Ok.number (search rules)) c.in-Ok.ensures.answer

pub returns-in-Err-clause-answer : goal.returns-in-Err-clause-answer
returns-in-Err-clause-answer c =
    let inside = c.self.inside in
    refused_there c.args.self.now inside.text.now _ inside.at c.args.unit c.args.round c.in-Err.fault (sym c.self.view_is) (take_rest inside.text.now inside.at) c.in-Err.ensures.answer
