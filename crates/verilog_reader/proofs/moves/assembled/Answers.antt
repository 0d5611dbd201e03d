use Rattle.std.proofs.Common.{◌≡◌, ◌∙◌, List, Some, ap, subst}
use Rattle.verilog_reader.specs.Surveys.{surveyed}
use Rattle.verilog_reader.specs.Modules.{item_assigns, item_instances}
use Rattle.std.specs.List.{flat_map}
use Rattle.verilog_reader.specs.declared.trees.HeaderPort.{HeaderPort}
use Rattle.verilog_reader.specs.declared.trees.Item.{Item}
use Rattle.verilog_reader.proofs.SurveySteps.{assembled_is}
use Rattle.verilog_reader.proofs.moves.assembled.Goals as goal

pub returns : goal.returns
returns c =
    let H : List HeaderPort → Type 0 = λ h. surveyed h c.as_slice-2.result.now ≡ Some c.in_ok-survey.survey in
    let I : List Item → Type 0 = λ i. surveyed c.args.tree.header i ≡ Some c.in_ok-survey.survey in
    assembled_is c.args.tree c.in_ok-survey.survey c.from_vec.result c.from_vec-2.result
    (subst I c.as_slice-2.ensures (subst H c.as_slice.ensures c.in_ok-survey.ensures))
    (c.from_vec.ensures ∙ c.in_ok-assigns.ensures.assigns ∙ ap (λ (i : List Item). flat_map item_assigns i) c.into_vec.ensures)
    (c.from_vec-2.ensures ∙ c.in_ok-assigns.ensures.instances ∙ ap (λ (i : List Item). flat_map item_instances i) c.into_vec.ensures)
