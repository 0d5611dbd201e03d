-- The parts of a check, put together.
use Rattle.std.proofs.Common.{◌≡◌, Option, Some, None, Result, Ok, Err, OnOk, refl, sym, ◌∙◌}
use Rattle.std.proofs.lemmas.Option.{none-some}
use Rattle.bud_base.specs.Checking.{IsRangeAnswer, IsOrderAnswer, IsLiveAnswer}
use Rattle.bud_base.specs.Orders.{HasOrder}
use Rattle.bud_base.specs.Soundness.{IsSound, IsInRange, HasNoCycle, IsCheckAnswer}
use Rattle.bud_base.proofs.OrderLemmas.{IsCycle-none}
use Rattle.bud_base.proofs.SoundLemmas.{IsInRange-from_sound, IsSound-from_range}
use Rattle.bud_base.specs.declared.problems.Problem.{Problem}
use Rattle.bud_base.specs.declared.checks.ProblemFault.{ProblemFault}
use Rattle.bud_base.specs.declared.checks.ProblemFault.TheVariants.{BadNode, BadBounds, BadTime, TooLarge, Cycle, Dead, NoMemory}

pub HasNoCycle-from_order : (p : Problem) → HasOrder p → HasNoCycle p
HasNoCycle-from_order p has = λ items cycle. IsCycle-none p.nodes p.items has.0 has.1 items cycle

not_both : {X : Type 0} (o : Option X) (x : X) → o ≡ None → o ≡ Some x → ⊥
not_both o x none some = none-some x (sym none ∙ some)

-- a sound problem isn't refused by a number
pub range_accepts_sound : (p : Problem) (e : ProblemFault) → IsRangeAnswer p (Err e) → IsSound p → ⊥
range_accepts_sound p (BadNode n) answer sound = not_both _ n (IsInRange-from_sound p sound).nodes answer
range_accepts_sound p (BadBounds i) answer sound = not_both _ i (IsInRange-from_sound p sound).bounds answer.1
range_accepts_sound p (BadTime n) answer sound = not_both _ n (IsInRange-from_sound p sound).times answer.2
range_accepts_sound p (TooLarge count) answer sound = not_both _ count (IsInRange-from_sound p sound).limits answer.3
range_accepts_sound p (Cycle items) answer sound = answer
range_accepts_sound p (Dead n) answer sound = answer
range_accepts_sound p NoMemory answer sound = answer

-- nor by a cycle
pub order_accepts_sound : (p : Problem) (e : ProblemFault) → IsOrderAnswer p (Err e) → IsSound p → e ≡ NoMemory
order_accepts_sound p (BadNode n) answer sound = absurd answer
order_accepts_sound p (BadBounds i) answer sound = absurd answer
order_accepts_sound p (BadTime n) answer sound = absurd answer
order_accepts_sound p (TooLarge count) answer sound = absurd answer
order_accepts_sound p (Cycle items) answer sound = absurd (HasNoCycle-from_order p sound.order items answer)
order_accepts_sound p (Dead n) answer sound = absurd answer
order_accepts_sound p NoMemory answer sound = refl

-- where the numbers are in range and there is an order, the look at paths decides
pub IsCheckAnswer-from_live : (p : Problem) (r : Result (Unit {0}) ProblemFault) → IsInRange p → HasOrder p → IsLiveAnswer p r → IsCheckAnswer p r
IsCheckAnswer-from_live p (Ok u) in_range has answer = (in_range, HasNoCycle-from_order p has, answer)
IsCheckAnswer-from_live p (Err (BadNode n)) in_range has answer = absurd answer
IsCheckAnswer-from_live p (Err (BadBounds i)) in_range has answer = absurd answer
IsCheckAnswer-from_live p (Err (BadTime n)) in_range has answer = absurd answer
IsCheckAnswer-from_live p (Err (TooLarge count)) in_range has answer = absurd answer
IsCheckAnswer-from_live p (Err (Cycle items)) in_range has answer = absurd answer
IsCheckAnswer-from_live p (Err (Dead n)) in_range has answer = (in_range, HasNoCycle-from_order p has, answer.0, answer.1, answer.2)
IsCheckAnswer-from_live p (Err NoMemory) in_range has answer = tt

pub IsSound-from_live : (p : Problem) (r : Result (Unit {0}) ProblemFault) → IsInRange p → HasOrder p → IsLiveAnswer p r → OnOk r (IsSound p)
IsSound-from_live p (Ok u) in_range has answer = IsSound-from_range p in_range has answer
IsSound-from_live p (Err e) in_range has answer = tt
