use Rattle.std.proofs.Common.{◌∙◌, ap, Some, None, if◌then◌else◌}
use Rattle.std.specs.Option.{option_or}
use Rattle.std.specs.Str.{bytes_eq}
use Rattle.module_nets.specs.Tables.{known}
use Rattle.module_nets.proofs.TableSteps.{numbered_more}
use Rattle.module_nets.proofs.tables.numbered.Goals as goal

pub loop-place-preserved : goal.loop-place-preserved
loop-place-preserved g c =
    numbered_more g.T.Declared.name_of c.args.items.now c.loop-place.place c.index-items-place.result (known c.loop-place.table) (known c.enter.new.table)
    c.loop-place-test.true c.index-items-place.is c.loop-place.invariant
    (λ q. c.in_ok-enter.ensures.entered q ∙ ap (λ n. option_or (known c.loop-place.table q) (if bytes_eq n q then Some c.loop-place.place else None)) c.name.ensures)
