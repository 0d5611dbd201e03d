-- First failures of facts that say the same.
use Rattle.std.proofs.Common.{ℕ, ◌<◌, Option, Some, None, arith}
use Rattle.plan_cert.specs.Failures.{IsFailure}

pub IsFailure-same : (P Q : ℕ → Type 0) (count : ℕ) (r : Option ℕ) → ((k : ℕ) → k < count → (P k → Q k) × (Q k → P k)) → IsFailure P count r → IsFailure Q count r
IsFailure-same P Q count None same holds = λ k within. (same k within).0 (holds k within)
IsFailure-same P Q count (Some k) same first = record {
  within = first.within;
  fails = λ holds. first.fails ((same k first.within).1 holds);
  before = λ j below. let within : k < count = first.within in (same j (omega arith)).0 (first.before j below);
}
