use Rattle.std.proofs.Common.{◌≡◌, ◌∙◌, ℕ, true, List, get_or, ap, sym}
use Rattle.std.specs.List.{list_any}
use Rattle.std.specs.Str.{bytes_eq}
use Rattle.std.proofs.lemmas.List.{drop_all, get_or_default}
use Rattle.std.proofs.lemmas.List.Folds.{list_any_at}
use Rattle.module_nets.specs.Tops.{module_at}
use Rattle.module_nets.proofs.JudgeSteps.{entered_reversed}
use Rattle.module_nets.proofs.judging.is_entered.Goals as goal

pub returns-then-eq : goal.returns-then-eq
returns-then-eq c =
    let f : ℕ → List ℕ = λ n. (module_at c.args.modules.now n).name in
    let n : ℕ = get_or c.args.entered.now c.loop-number.number-index 0 in
    let own : c.index-modules-number.result ≡ module_at c.args.modules.now n =
    c.index-modules-number.is ∙ get_or_default c.args.modules.now n c.index-modules-number.result _ (c.requires c.loop-number.number-index 0 c.loop-number-test.true) in
    let name : c.as_slice.result.now ≡ f n = c.as_slice.ensures ∙ (ap (λ m. m.name) (sym c.index-modules-number.is) ∙ ap (λ m. m.name) own) in
    let same : bytes_eq c.args.name.now (f n) ≡ true = ap (bytes_eq c.args.name.now) (sym name) ∙ (sym c.eq.ensures ∙ c.if-eq.true) in
    sym (entered_reversed f c.args.entered.now c.args.name.now
    ∙ list_any_at (λ k. bytes_eq c.args.name.now (f k)) c.args.entered.now c.loop-number.number-index 0 c.loop-number-test.true same)

pub returns : goal.returns
returns c =
    let f : ℕ → List ℕ = λ n. (module_at c.args.modules.now n).name in
    sym (entered_reversed f c.args.entered.now c.args.name.now
    ∙ (c.loop-number.invariant ∙ ap (list_any (λ k. bytes_eq c.args.name.now (f k))) (drop_all c.loop-number.number-index c.args.entered.now c.loop-number-test.false)))
