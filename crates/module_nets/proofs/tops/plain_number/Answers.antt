use Rattle.std.proofs.Common.{sym, subst, get_or, Option, ℕ}
use Rattle.std.proofs.lemmas.List.{get_or_default}
use Rattle.module_nets.specs.Tops.{IsPlainNumber}
use Rattle.module_nets.proofs.TopSteps.{plain_none, plain_leaf, plain_some}
use Rattle.module_nets.proofs.tops.plain_number.Goals as goal

pub returns-in_err-number : goal.returns-in_err-number
returns-in_err-number c =
    let P : Option ℕ → Type 0 = IsPlainNumber c.args.library.now.modules.now c.args.name.now in
    subst P (sym c.from_residual.ensures) (plain_none c.args.library.now.modules.now c.args.name.now c.in_err-number.ensures.meaning)

pub returns-then-library-number : goal.returns-then-library-number
returns-then-library-number c =
    plain_leaf c.args.library.now.modules.now c.args.name.now c.in_ok-number.number (get_or c.args.library.now.modules.now c.in_ok-number.number c.index-library-number.result)
    (get_or_default c.args.library.now.modules.now c.in_ok-number.number c.index-library-number.result _ c.in_ok-number.ensures.within) c.in_ok-number.ensures.meaning c.if-library-number.true

pub returns : goal.returns
returns c = (
  c.in_ok-number.ensures.within,
  plain_some c.args.library.now.modules.now c.args.name.now c.in_ok-number.number (get_or c.args.library.now.modules.now c.in_ok-number.number c.index-library-number.result)
      (get_or_default c.args.library.now.modules.now c.in_ok-number.number c.index-library-number.result _ c.in_ok-number.ensures.within) c.in_ok-number.ensures.meaning c.if-library-number.false,
)
