use Rattle.std.proofs.Common.{◌∙◌, sym, get_or}
use Rattle.std.proofs.lemmas.List.{get_or_default}
use Rattle.module_nets.specs.Tables.{holds}
use Rattle.module_nets.proofs.TopSteps.{no_root, one_is, two_are}
use Rattle.module_nets.proofs.tops.one_root.Goals as goal

pub returns-in_default : goal.returns-in_default
returns-in_default c =
    no_root c.args.library.now.modules.now (holds c.in_ok-names.names) c.in_ok-names.ensures.names c.args.library.now.apart (sym c.root_from.ensures.place ∙ c.in_default.is)

pub returns-in_default-root_from : goal.returns-in_default-root_from
returns-in_default-root_from c = (
  c.in-Some.ensures.within,
  one_is c.args.library.now.modules.now (holds c.in_ok-names.names) c.in-Some.first c.in_ok-names.ensures.names c.args.library.now.apart (sym c.in-Some.ensures.place)
      (sym c.root_from-2.ensures.place ∙ c.in_default-root_from.is),
)

pub returns : goal.returns
returns c =
    let ms = c.args.library.now.modules.now in
    two_are ms (holds c.in_ok-names.names) c.in-Some.first c.in-Some-root_from.second (get_or ms c.in-Some.first c.index-modules-first.result) (get_or ms c.in-Some-root_from.second c.index-modules-second.result)
    c.in_ok-name.name c.in_ok-other.other c.as_slice.result.now c.as_slice-2.result.now c.in_ok-names.ensures.names c.args.library.now.apart (sym c.in-Some.ensures.place) (sym c.in-Some-root_from.ensures.place)
    (get_or_default ms c.in-Some.first c.index-modules-first.result _ c.in-Some.ensures.within) (get_or_default ms c.in-Some-root_from.second c.index-modules-second.result _ c.in-Some-root_from.ensures.within)
    c.as_slice.ensures c.as_slice-2.ensures c.in_ok-name.ensures.printed c.in_ok-other.ensures.printed
