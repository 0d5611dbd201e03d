-- States behind draws.
use Rattle.std.proofs.Common.{◌≡◌, ◌∙◌, ◌+◌, ◌*◌, ℕ, zero, suc, arith, ap}
use Rattle.bud_gen.specs.Draws.{next, behind}
use Rattle.bud_gen.specs.Gates.{state}

-- draws behind draws
pub behind_more : (x m n : ℕ) → behind (behind x m) n ≡ behind x (m + n)
behind_more x m zero = let e : m ≡ m + 0 = omega arith in ap (behind x) e
behind_more x m (suc n) = let e : suc (m + n) ≡ m + suc n = omega arith in ap next (behind_more x m n) ∙ ap (behind x) e

-- a gate takes seven draws
pub state_next : (number g x : ℕ) → x ≡ state number g → behind x 7 ≡ state number (g + 1)
state_next number g x e =
    let seven : 7 * g + 7 ≡ 7 * (g + 1) = omega arith in
    ap (λ y. behind y 7) e ∙ behind_more number (7 * g) 7 ∙ ap (behind number) seven
