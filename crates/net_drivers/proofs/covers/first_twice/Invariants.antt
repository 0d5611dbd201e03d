use Rattle.std.proofs.Common.{◌≡◌, ◌<◌, ℕ, nat_lt, false}
use Rattle.net_drivers.specs.Covers.{passing}
use Rattle.net_drivers.proofs.CoverLemmas.{IsSwept}
use Rattle.net_drivers.proofs.covers.first_twice.Given as goal

abbrev pub invariant-loop-bit : goal.invariant-loop-bit
invariant-loop-bit l = record {
  swept : IsSwept l.rows l.bit l.furthest;
  none : (b : ℕ) → b < l.bit → nat_lt 1 (passing l.rows b) ≡ false;
}
