use Rattle.std.proofs.Common.{sym}
use Rattle.bud_design.proofs.ClassLaws.{class_at-more}
use Rattle.path_requirements.proofs.laws.class_goes_on.Goals as goal

pub returns : goal.returns
returns c = λ all l vs v rise. sym (class_at-more all l vs v rise)
