use Rattle.std.proofs.Common.{◌≡◌, ◌+◌, ◌-◌, ◌<◌, ◌≤◌, ℕ, List, false, drop, length, get_or, arith, sym, ◌∙◌, ap, subst}
use Rattle.std.proofs.lemmas.List.{take_rest, length-drop, get_or-drop, get_or_default}
use Rattle.std.specs.Str.{bytes_eq}
use Rattle.bud_syntax.specs.declared.modules.Port.{Port}
use Rattle.elaborations.proofs.Lists.{by_lt}
use Rattle.hierarchy.proofs.tests.assert_apart.Goals as goal

pub loop-k-preserved : goal.loop-k-preserved
loop-k-preserved g c i j d less before within =
    let ports = c.args.ports.now in
    let k = c.loop-k.k in
    let name = c.as_slice.result.now in
    let behind = subst (λ (ps : List Port). (n : ℕ) (p : Port) → n < length ps → bytes_eq name (get_or ps n p).name ≡ false) (take_rest ports (k + 1)) c.assert_other.ensures in
    by_lt i k (λ low. c.loop-k.invariant i j d low before within)
    (λ more.
    let same : i ≡ k = omega (arith, less, more) in
    let place : k + 1 + (j - (k + 1)) ≡ j = omega (arith, before, same) in
    let other : bytes_eq name (get_or ports j d).name ≡ false =
    sym (ap (λ n. bytes_eq name (get_or ports n d).name) place) ∙ (sym (ap (λ (p : Port). bytes_eq name p.name) (get_or-drop (k + 1) ports (j - (k + 1)) d))
    ∙ behind (j - (k + 1)) d (omega (arith, within, before, same, length-drop (k + 1) ports))) in
    let port = c.index-ports-k.result in
    let own : (get_or ports i d).name ≡ name =
    ap (λ (p : Port). p.name) (ap (λ n. get_or ports n d) same ∙ get_or_default ports k d port (omega (arith, within, before, same))) ∙ sym c.as_slice.ensures in
    ap (λ n. bytes_eq n (get_or ports j d).name) own ∙ other)
