use Rattle.std.proofs.Common.{◌≡◌, ℕ, suc, ◌+◌, ◌<◌, ◌^◌, false, List, [], ◌∷◌, get_or, Fits, w64, refl, arith}
use Rattle.std.specs.Bool.{◌==◌}
use Rattle.std.specs.List.{list_any}
use Rattle.std.proofs.lemmas.Grind.{common_steps}
use Rattle.bud_shelf.proofs.calls.contains_next.Goals as goal

-- a number past those that fit is not among them
none_past : (xs : List ℕ) (n : ℕ) → ((i : ℕ) → Fits w64 (get_or xs i 0)) → (n < 2 ^ 64 → ⊥) → false ≡ list_any (λ x. x == n) xs
none_past [] n fits past = refl
none_past (x ∷ xs) n fits past =
    let fit : Fits w64 x = fits 0 in
    let first : x < 2 ^ 64 = omega arith in
    let rest : false ≡ list_any (λ x. x == n) xs = none_past xs n (λ i. fits (suc i)) past in
    grind (arith, common_steps)

pub returns-in-None : goal.returns-in-None
returns-in-None c = none_past c.args.failing.now (c.args.made + 1) c.type_inv.failing c.in-None.ensures
