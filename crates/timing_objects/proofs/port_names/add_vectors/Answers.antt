use Rattle.std.proofs.Common.{sym, ◌∙◌, ap, subst, arith}
use Rattle.std.specs.Prelude.{All}
use Rattle.timing_objects.specs.PortNames.{numbers, HasPlain, vector_named, leads_among}
use Rattle.timing_objects.proofs.NameSteps.{names-more_if, names-skip_if, plain-push}
use Rattle.timing_objects.proofs.port_names.add_vectors.Goals as goal
use Rattle.timing_objects.proofs.port_names.add_vectors.Goals.{then-leads_vector+in_ok-name+in_ok-push, else-leads_vector}

pub loop-bit-preserved : goal.loop-bit-preserved
loop-bit-preserved c =
    let leads = leads_among c.args.pins.now (numbers c.args.bits.now) in
    let vector = vector_named c.args.pins.now (numbers c.args.bits.now) in
    elim c.if-leads_vector.branch [
      | then-leads_vector+in_ok-name+in_ok-push w ↦
          let pushed = ap (λ v. v.items) w.names-is ∙ w.in_ok-push.ensures.items in (
            names-more_if leads vector _ c.loop-bit.names.items _ w.in_ok-name.name c.args.bits.now c.loop-bit.bit-index (record { 0 = 0 }) (omega arith)
                (sym c.leads_vector.ensures ∙ w.if-leads_vector.true) pushed w.in_ok-name.ensures.named c.loop-bit.invariant.0,
            plain-push c.loop-bit.names.items _ w.in_ok-name.name pushed w.in_ok-name.ensures.plain c.loop-bit.invariant.1,
          )
      | else-leads_vector w ↦
          let same = ap (λ v. v.items) w.names-is in (
            names-skip_if leads vector _ c.loop-bit.names.items _ c.args.bits.now c.loop-bit.bit-index (record { 0 = 0 }) (omega arith)
                (sym c.leads_vector.ensures ∙ w.if-leads_vector.false) same c.loop-bit.invariant.0,
            subst (All HasPlain) (sym same) c.loop-bit.invariant.1,
          )
    ]
