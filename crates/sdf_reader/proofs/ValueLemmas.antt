-- Further values, one by one.
use Rattle.std.proofs.Common.{◌≡◌, ℕ, ℤ, zero, suc, ◌-◌, ◌<◌, ◌≤◌, true, false, Option, Some, None, sym, arith}
use Rattle.text_scan.specs.Left.{Left}
use Rattle.sdf_lex.specs.Tokens.{Token}
use Rattle.sdf_reader.specs.Marks.{opens, next_is}
use Rattle.sdf_reader.specs.Values.{another, up_to}

pub values_turn : (n less unit : ℕ) (s t : ℤ × Left Token) (total : Option (ℤ × Left Token)) → 0 < n → less ≡ n - 1 → next_is opens s.1 ≡ true → another unit s ≡ Some t → up_to n unit s ≡ total →
    up_to less unit t ≡ total
unfolding up_to
values_turn zero less unit s t total some is begun read same = absurd (omega arith)
values_turn (suc n) less unit s t total some is begun read same = (let less_is : less ≡ n = omega arith in rw less_is (rw (begun, read) at same))

pub values_fail : (n unit : ℕ) (s : ℤ × Left Token) (total : Option (ℤ × Left Token)) → 0 < n → next_is opens s.1 ≡ true → another unit s ≡ None → up_to n unit s ≡ total → total ≡ None
unfolding up_to
values_fail zero unit s total some begun read same = absurd (omega arith)
values_fail (suc n) unit s total some begun read same = sym (rw (begun, read) at same)

pub values_full : (n unit : ℕ) (s : ℤ × Left Token) (total : Option (ℤ × Left Token)) → n ≤ 0 → up_to n unit s ≡ total → total ≡ Some s
unfolding up_to
values_full zero unit s total full same = sym same
values_full (suc n) unit s total full same = absurd (omega arith)

pub values_end : (n unit : ℕ) (s : ℤ × Left Token) (total : Option (ℤ × Left Token)) → next_is opens s.1 ≡ false → up_to n unit s ≡ total → total ≡ Some s
unfolding up_to
values_end zero unit s total ended same = sym same
values_end (suc n) unit s total ended same = sym (rw ended at same)
