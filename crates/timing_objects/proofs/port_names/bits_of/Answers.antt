use Rattle.std.proofs.Common.{◌-◌, ◌++◌, ◌∷◌, [], map, ◌≡◌, sym, ◌∙◌, ap, subst, arith}
use Rattle.std.specs.List.{range_with_len}
use Rattle.timing_objects.specs.PortNames.{numbers, AreBelow}
use Rattle.timing_objects.proofs.SpanSteps.{pin_of, numbers-of, below-of, last-of}
use Rattle.timing_objects.proofs.port_names.bits_of.Goals as goal

pub loop-number-init : goal.loop-number-init
loop-number-init c =
    let none : c.span_of-span.result.start - c.span_of-span.result.start ≡ 0 = omega arith in
    c.new-bits.ensures.items ∙ sym (ap (λ m. map pin_of (range_with_len c.span_of-span.result.start m)) none)

pub loop-number-preserved : goal.loop-number-preserved
loop-number-preserved c =
    c.in_ok-push.ensures.items
    ∙ (ap (λ vs. vs ++ pin_of c.loop-number.number ∷ []) c.loop-number.invariant
    ∙ last-of c.span_of-span.result.start c.loop-number.number (omega arith))

pub returns-clause-bits : goal.returns-clause-bits
returns-clause-bits c =
    let last : c.loop-number.number ≡ c.span_of-span.result.end = omega arith in
    ap numbers (c.from_vec.ensures ∙ c.loop-number.invariant)
    ∙ (numbers-of (range_with_len c.span_of-span.result.start (c.loop-number.number - c.span_of-span.result.start))
    ∙ (ap (λ n. range_with_len c.span_of-span.result.start (n - c.span_of-span.result.start)) last ∙ sym c.span_of-span.ensures.bits))

pub returns-clause-below : goal.returns-clause-below
returns-clause-below c =
    subst (AreBelow c.args.pins.now) (sym (c.from_vec.ensures ∙ c.loop-number.invariant))
    (below-of c.args.pins.now (c.loop-number.number - c.span_of-span.result.start) c.span_of-span.result.start (omega arith))
