use Rattle.std.proofs.Common.{◌≡◌, ◌∙◌, ap, Some, if◌then◌else◌}
use Rattle.std.specs.Str.{bytes_eq}
use Rattle.text_tables.specs.Standings.{known, behind}
use Rattle.text_tables.proofs.Steps.{one_more}
use Rattle.text_tables.proofs.standings.TextTable.enter.Goals as goal

pub returns : goal.returns
returns c = λ texts is all.
    let made : c.behind-standing.result ≡ behind (known c.args.self.now c.args.text.now) c.args.number = c.behind-standing.ensures ∙ ap (λ o. behind o c.args.number) c.find.ensures in
    one_more texts c.args.text.now c.args.number c.args.self.now c.put.new.self is all
    (λ q.
    c.in_ok-put.ensures q
    ∙ (ap (λ t. if bytes_eq t q then Some c.behind-standing.result else known c.args.self.now q) c.in_ok-copy.ensures.items
    ∙ ap (λ s. if bytes_eq c.args.text.now q then Some s else known c.args.self.now q) made))
