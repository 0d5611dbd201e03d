use Rattle.std.proofs.Common.{◌≡◌, List, ℕ, sym, subst, arith}
use Rattle.net_drivers.specs.Chains.{StayWithin, IsFollowed, IsDoubled}
use Rattle.net_drivers.proofs.ChainLemmas.{IsFollowed-one, IsFollowed-next, IsFollowed-rests, StayWithin-followed, IsDoubled-same}
use Rattle.net_drivers.proofs.chains.follow.Goals as goal

pub loop-round-init : goal.loop-round-init
loop-round-init c = IsFollowed-one _ _ c.in_ok-far.ensures.items

pub rests-requires : goal.rests-requires
rests-requires c = record { within = rw c.as_slice.ensures.value (StayWithin-followed c.requires.within c.loop-round.invariant) }

pub returns-then-rests : goal.returns-then-rests
returns-then-rests c = IsFollowed-rests 22 _ (omega arith) c.requires.within (IsDoubled-same c.as_slice.ensures.value (c.rests.ensures c.if-rests.true)) c.loop-round.invariant

pub double-requires : goal.double-requires
double-requires c = record { within = rw c.as_slice-in-loop-round.ensures.value (StayWithin-followed c.requires.within c.loop-round.invariant) }

pub loop-round-preserved : goal.loop-round-preserved
loop-round-preserved c =
    IsFollowed-next _ c.requires.within c.loop-round.invariant (rw c.as_slice-in-loop-round.ensures.value at c.in_ok-far-2.ensures)
