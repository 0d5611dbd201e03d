use Rattle.std.proofs.Common.{◌≢◌, ℕ, List, ◌++◌, Option, sym, ◌∙◌, ap, subst}
use Rattle.bud_design.specs.DesignRules.{IsPrintedForm}
use Rattle.bud_design.specs.Names.{bit_name}
use Rattle.flat_design.specs.declared.texts.Form.{Form}
use Rattle.flat_design.specs.Fronts.{formed, brackets, IsBefore, IsShort}
use Rattle.flat_design.proofs.FrontLaws.{formed-last}
use Rattle.flat_design.proofs.TextLaws.{before-more, none-more}
use Rattle.flat_design.proofs.texts.before_last.Goals as goal

no-bit : (text port : List ℕ) (bit : Option ℕ) (form : Form) → IsPrintedForm port → IsShort bit → ((before : List ℕ) → text ≢ before ++ brackets bit)
    → (before : List ℕ) → text ≢ before ++ formed form (bit_name port bit)
no-bit text port bit form is short none before same =
    none-more text (formed form port) (brackets bit) none before (same ∙ ap (λ s. before ++ s) (formed-last form port bit is short))

pub returns-in_default : goal.returns-in_default
returns-in_default c = no-bit c.args.text.now c.args.port.now c.args.bit c.args.form c.requires c.before_brackets.ensures.short c.in_default.ensures.before

pub returns : goal.returns
returns c =
    subst (λ (s : List ℕ). IsBefore c.args.text.now s c.before_name.result) (sym (formed-last c.args.form c.args.port.now c.args.bit c.requires c.before_brackets.ensures.short))
    (before-more c.args.text.now c.in-Some.text.now (formed c.args.form c.args.port.now) (brackets c.args.bit) c.before_name.result c.in-Some.ensures.before c.before_name.ensures)
