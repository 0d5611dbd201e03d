use Rattle.std.proofs.Common.{◌≡◌, map, take, ◌∙◌, arith, rules}
use Rattle.timing_objects.specs.declared.port_names.PortName.{PortName}
use Rattle.timing_objects.proofs.TableSteps.{texts-more, texts-all, texts-length}
use Rattle.timing_objects.proofs.port_tables.plain_table.Goals as goal

pub loop-place-preserved : goal.loop-place-preserved
loop-place-preserved c =
    let number : c.loop-place.place ≡ c.in-Ok.number = search rules in
    texts-more (λ (n : PortName). n.plain) c.args.names.now c.loop-place.place c.index-names-place.result c.enter.new.self c.as_slice.result.now (omega arith) c.index-names-place.is c.as_slice.ensures
    (c.in_ok-enter.ensures (map (λ (n : PortName). n.plain) (take c.loop-place.place c.args.names.now)) c.loop-place.invariant
    (texts-length (λ (n : PortName). n.plain) c.args.names.now c.loop-place.place (omega arith) ∙ number))

pub returns : goal.returns
returns c = texts-all (λ (n : PortName). n.plain) c.args.names.now c.loop-place.place c.loop-place.table (omega arith) c.loop-place.invariant
