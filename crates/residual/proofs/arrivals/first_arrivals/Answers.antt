use Rattle.std.proofs.Common.{◌≡◌, ℤ, pos, ◌+◌, List, length, ap, subst, sym, ◌∙◌}
use Rattle.std.specs.Vec.{with_items}
use Rattle.std.proofs.lemmas.List.{with_items_is}
use Rattle.bud_base.specs.Paths.{least_of}
use Rattle.bud_flow.specs.Arrivals.{Suit}
use Rattle.bud_flow.specs.Sums.{number_at}
use Rattle.first_times.specs.FirstTimes.{AreFirstTimes}
use Rattle.residual.proofs.arrivals.first_arrivals.Goals as goal

pub first_times-requires : goal.first_times-requires
first_times-requires c =
    subst (AreFirstTimes c.args.problem.now) (sym (with_items_is c.in_ok-arrivals.arrivals c.settle.new.arrivals (c.settle.auto.arrivals ∙ c.deref_mut.ensures.len)))
    (record { size = c.settle.ensures.reached.size; root = c.settle.ensures.reached.root; suit = c.settle.ensures.suit })
