use Rattle.std.proofs.Common.{◌∙◌, ◌++◌, ℕ, List, [], Option, ap, sym, refl, map}
use Rattle.std.specs.Borrow.{Bor}
use Rattle.std.specs.List.{list_any}
use Rattle.std.specs.Option.{option_map}
use Rattle.std.specs.Str.{bytes_eq}
use Rattle.bud_design.specs.Lists.{first_again}
use Rattle.module_nets.specs.Tables.{seen_behind}
use Rattle.module_nets.specs.declared.keys.Key.{Key}
use Rattle.module_nets.proofs.JudgeSteps.{found_first, found_later, names_are, is_some-map, map-none, if_ok}
use Rattle.module_nets.proofs.judging.name_again.Goals as goal

now_of : Option (Bor (List ℕ)) → Option (List ℕ)
now_of o = option_map (λ n. n.now) o

pub returns-then-is_some-clause-again : goal.returns-then-is_some-clause-again
returns-then-is_some-clause-again c =
    let m = c.args.«module».now in
    let ps = map (λ p. p.name) c.as_slice.result.now in
    let first = c.in_ok-again.ensures.again [] (λ q. ap (λ ks. list_any (λ (k : Key). bytes_eq q k.name.now) ks) c.in-Ok.ensures.empty) in
    found_first [] ps (map (λ n. n.name) m.nets ++ map (λ i. i.name) m.instances) (option_map (λ n. n.now) c.in_ok-again.again) first.first
    (is_some-map (λ (n : Bor (List ℕ)). n.now) c.in_ok-again.again ∙ (sym c.is_some.ensures ∙ c.if-is_some.true))
    ∙ ap (first_again []) (names_are m c.as_slice.result.now m.nets m.instances c.as_slice.ensures refl refl)

pub returns-then-is_some-2-clause-again : goal.returns-then-is_some-2-clause-again
returns-then-is_some-2-clause-again c =
    let m = c.args.«module».now in
    let ps = map (λ p. p.name) c.as_slice.result.now in
    let ns = map (λ n. n.name) c.as_slice-2.result.now in
    let first = c.in_ok-again.ensures.again [] (λ q. ap (λ ks. list_any (λ (k : Key). bytes_eq q k.name.now) ks) c.in-Ok.ensures.empty) in
    let none = map-none (λ (n : Bor (List ℕ)). n.now) c.in_ok-again.again (sym c.is_some.ensures ∙ c.if-is_some.false) in
    let second = c.in_ok-again-2.ensures.again (seen_behind [] ps) (first.noted none) in
    found_later [] ps (ns ++ map (λ i. i.name) m.instances) (option_map (λ n. n.now) c.in_ok-again-2.again) (sym none ∙ first.first)
    (found_first (seen_behind [] ps) ns (map (λ i. i.name) m.instances) (option_map (λ n. n.now) c.in_ok-again-2.again) second.first
    (is_some-map (λ (n : Bor (List ℕ)). n.now) c.in_ok-again-2.again ∙ (sym c.is_some-2.ensures ∙ c.if-is_some-2.true)))
    ∙ ap (first_again []) (names_are m c.as_slice.result.now c.as_slice-2.result.now m.instances c.as_slice.ensures c.as_slice-2.ensures refl)

pub returns-clause-again : goal.returns-clause-again
returns-clause-again c =
    let m = c.args.«module».now in
    let ps = map (λ p. p.name) c.as_slice.result.now in
    let ns = map (λ n. n.name) c.as_slice-2.result.now in
    let is = map (λ i. i.name) c.as_slice-3.result.now in
    let first = c.in_ok-again.ensures.again [] (λ q. ap (λ ks. list_any (λ (k : Key). bytes_eq q k.name.now) ks) c.in-Ok.ensures.empty) in
    let none = map-none (λ (n : Bor (List ℕ)). n.now) c.in_ok-again.again (sym c.is_some.ensures ∙ c.if-is_some.false) in
    let second = c.in_ok-again-2.ensures.again (seen_behind [] ps) (first.noted none) in
    let none-2 = map-none (λ (n : Bor (List ℕ)). n.now) c.in_ok-again-2.again (sym c.is_some-2.ensures ∙ c.if-is_some-2.false) in
    if_ok _ _ c.first_again-3.result
    (λ r third. found_later [] ps (ns ++ is) (option_map (λ n. n.now) r) (sym none ∙ first.first)
    (found_later (seen_behind [] ps) ns is (option_map (λ n. n.now) r) (sym none-2 ∙ second.first) third.first)
    ∙ ap (first_again []) (names_are m c.as_slice.result.now c.as_slice-2.result.now c.as_slice-3.result.now c.as_slice.ensures c.as_slice-2.ensures c.as_slice-3.ensures))
    (c.first_again-3.ensures.again (seen_behind (seen_behind [] ps) ns) (second.noted none-2))
