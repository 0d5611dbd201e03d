-- What stands at the front of a text.
use Rattle.std.proofs.Common.{◌≡◌, ℕ, ◌≤◌, ◌==◌, None, List, [], ◌∷◌, length, refl, arith}
use Rattle.verilog_lex.specs.Fronts.{before_pair}
use Rattle.verilog_lex.proofs.Bytes.{and_false}

-- no two stand in a text of one byte
pub pair_none : (x y : ℕ) (xs : List ℕ) → length xs ≤ 1 → before_pair x y xs ≡ None
pair_none x y [] short = refl
pair_none x y (b ∷ []) short = rw (and_false (b == x)) refl
pair_none x y (b ∷ (c ∷ xs)) short = absurd (omega arith)
