use Rattle.std.proofs.Common.{◌++◌, ◌∷◌, [], sym, ◌∙◌, ap, arith}
use Rattle.std.proofs.lemmas.List.FromFn.{map-range_with_len_more}
use Rattle.timing_objects.specs.declared.things.Thing.TheVariants.{Clock}
use Rattle.timing_objects.proofs.objects.each_clock.Goals as goal

pub loop-number-preserved : goal.loop-number-preserved
loop-number-preserved c =
    c.in_ok-push.ensures.items
    ∙ (ap (λ ts. ts ++ Clock c.loop-number.number ∷ []) c.loop-number.invariant ∙ sym (map-range_with_len_more (λ n. Clock n) 0 c.loop-number.number c.loop-number.number (omega arith)))
