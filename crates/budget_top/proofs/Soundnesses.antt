-- A problem is sound, or has faults of one status.
use Rattle.std.proofs.Common.{◌≡◌, ℕ, Err, refl}
use Rattle.bud_base.specs.Soundness.{IsSound, IsCheckAnswer}
use Rattle.bud_base.specs.declared.problems.Problem.{Problem}
use Rattle.bud_base.specs.declared.checks.ProblemFault.{ProblemFault}
use Rattle.bud_base.specs.declared.checks.ProblemFault.TheVariants.{BadNode, BadBounds, BadTime, TooLarge, Cycle, Dead, NoMemory}
use Rattle.bud_base.proofs.SoundLemmas.{IsInRange-from_sound}
use Rattle.bud_base.proofs.CheckLemmas.{HasNoCycle-from_order}
use Rattle.budget_report.specs.Causes.{problem_status, HasItems}
use Rattle.budget_report.specs.declared.statuses.Status.TheVariants.{Words, Limit}
use Rattle.budget_report.specs.declared.causes.Cause.TheVariants.{Problem as Unsound}
use Rattle.budget_report.proofs.JoinsWithin.{IsCycle-within}
use Rattle.budget_steps.specs.Steps.{IsCause}
use Rattle.budget_top.specs.Problems.{IsSoundness}
use Rattle.budget_steps.proofs.Courses.{IsSure}

-- the items of a cycle are the problem's
pub fault_within : (p : Problem) (fault : ProblemFault) → IsCheckAnswer p (Err fault) → HasItems p fault
fault_within p (Cycle ring) answer = IsCycle-within p.items ring answer.1
fault_within p other answer = tt

-- a sound problem has no fault
sound_apart : (p : Problem) (fault : ProblemFault) → IsCause (problem_status fault) → IsSound p → IsCheckAnswer p (Err fault) → ⊥
sound_apart p (BadNode n) is sound answer = let range = IsInRange-from_sound p sound in cc
sound_apart p (BadBounds i) is sound answer = let range = IsInRange-from_sound p sound in cc
sound_apart p (BadTime n) is sound answer = let range = IsInRange-from_sound p sound in cc
sound_apart p (TooLarge count) is sound answer = let range = IsInRange-from_sound p sound in cc
sound_apart p (Cycle items) is sound answer = HasNoCycle-from_order p sound.order items answer.1
sound_apart p (Dead n) is sound answer = answer.3 (sound.live n.0 answer.2)
sound_apart p NoMemory is sound answer = absurd is

-- a problem past a limit has no other fault
large_status : (p : Problem) (count : ℕ) (fault : ProblemFault) → IsCause (problem_status fault) → IsCheckAnswer p (Err (TooLarge count)) → IsCheckAnswer p (Err fault)
    → problem_status fault ≡ Limit
large_status p count (BadNode n) is large answer = absurd (cc)
large_status p count (BadBounds i) is large answer = absurd (cc)
large_status p count (BadTime n) is large answer = absurd (cc)
large_status p count (TooLarge other) is large answer = refl
large_status p count (Cycle items) is large answer = let range = answer.0 in absurd (cc)
large_status p count (Dead n) is large answer = let range = answer.0 in absurd (cc)
large_status p count NoMemory is large answer = absurd is

one_status : (p : Problem) (fault other : ProblemFault) → IsCause (problem_status fault) → IsCause (problem_status other) → IsCheckAnswer p (Err fault) → IsCheckAnswer p (Err other)
    → problem_status fault ≡ problem_status other
one_status p (TooLarge count) other is is' x y = let e = large_status p count other is' x y in cc
one_status p fault (TooLarge count) is is' x y = large_status p count fault is y x
one_status p NoMemory other is is' x y = absurd is
one_status p fault NoMemory is is' x y = absurd is'
one_status p fault other is is' x y = refl

pub soundness_sure : (p : Problem) → IsSure ◌≡◌ (IsSoundness p) (λ fault. Unsound fault)
soundness_sure p = record {
  one = λ a b x y. refl;
  apart = λ a fault is x y. sound_apart p fault is x y;
  status = λ fault other is is' x y. one_status p fault other is is' x y;
}

pub soundness_fits : (fault : ProblemFault) → problem_status fault ≡ Words → ⊥
soundness_fits (BadNode n) e = cc
soundness_fits (BadBounds i) e = cc
soundness_fits (BadTime n) e = cc
soundness_fits (TooLarge count) e = cc
soundness_fits (Cycle items) e = cc
soundness_fits (Dead n) e = cc
soundness_fits NoMemory e = cc
