-- Marks of exceptions, put from the last to the first.
use Rattle.std.proofs.Common.{◌≡◌, ℕ, ◌-◌, ◌+◌, ◌<◌, ◌≤◌, ◌==◌, Bool, true, false, List, [], ◌∷◌, length, get_or, drop, find, nat_lt, Option, Some, None, refl, sym, ◌∙◌, ap, arith, if◌then◌else◌}
use Rattle.std.specs.Map.{lookup}
use Rattle.std.specs.Option.{option_map}
use Rattle.std.proofs.lemmas.List.{drop_more, drop_all}
use Rattle.bud_design.specs.declared.clocks.Exception.{Exception}
use Rattle.bud_design.specs.Exceptions.{groups_in}
use Rattle.design_layers.specs.GroupMarks.{has_some, AreMarked}

pub marked-none : (es : List Exception) (i : ℕ) → length es ≤ i → AreMarked (drop i es) []
marked-none es i past q = sym (ap (λ xs. option_map has_some (find (λ e. e.number == q) xs)) (drop_all i es past))

by_number : (b : Bool) (e : Exception) (o : Option Exception) → (if b then Some (has_some e) else option_map has_some o) ≡ option_map has_some (if b then Some e else o)
by_number true e o = refl
by_number false e o = refl

pub marked-more : (es : List Exception) (i : ℕ) (e : Exception) (has : Bool) (old new : List (ℕ × Bool)) → 0 < i → i ≤ length es → e ≡ get_or es (i - 1) e → has ≡ has_some e
    → AreMarked (drop i es) old → ((q : ℕ) → lookup (λ k. q == k) new ≡ (if e.number == q then Some has else lookup (λ k. q == k) old)) → AreMarked (drop (i - 1) es) new
marked-more es i e has old new some within is mark so_far put q =
    let next : i - 1 + 1 ≡ i = omega (arith, some) in
    let rest : drop (i - 1) es ≡ e ∷ drop i es =
    drop_more es (i - 1) e (omega (arith, some, within)) ∙ (ap (λ x. x ∷ drop (i - 1 + 1) es) (sym is) ∙ ap (λ n. e ∷ drop n es) next)
    in
    put q
    ∙ (ap (λ b. if e.number == q then Some b else lookup (λ k. q == k) old) mark
    ∙ (ap (λ o. if e.number == q then Some (has_some e) else o) (so_far q)
    ∙ (by_number (e.number == q) e (find (λ x. x.number == q) (drop i es)) ∙ sym (ap (λ xs. option_map has_some (find (λ x. x.number == q) xs)) rest))))

-- what is looked up
abbrev pub or_false : Option Bool → Bool
or_false None = false
or_false (Some b) = b

pub looked-up : (o : Option Exception) → or_false (option_map has_some o) ≡ nat_lt 0 (length (groups_in o))
looked-up None = refl
looked-up (Some e) = refl
