-- The text of a raw problem has one value, or is refused.
use Rattle.std.proofs.Common.{◌≡◌, ℕ, List, None, Ok, Err, sym, ◌∙◌, refl}
use Rattle.line_text.specs.Parts.{rows_of}
use Rattle.bud_base.specs.declared.problems.Problem.{Problem}
use Rattle.bud_base.specs.declared.texts.TextFault.{TextFault}
use Rattle.bud_base.specs.declared.texts.TextFault.TheVariants.{Syntax, Value as OutOfRange, NoMemory as TextMemory}
use Rattle.budget_report.specs.declared.statuses.Status.TheVariants.{Refused, Words}
use Rattle.budget_report.specs.Readings.{text_status}
use Rattle.problem_text.specs.Problems.{IsReadAnswer as IsProblemAnswer}
use Rattle.problem_text.proofs.ProblemLaws.{answer_reads as problem_reads, one_reading as one_problem}
use Rattle.budget_steps.specs.Steps.{IsCause}
use Rattle.budget_steps.proofs.FileLaws.{IsGrammar}
use Rattle.budget_top.specs.RawFiles.{problems}

refused_text : (fault : TextFault) → IsCause (text_status fault) → text_status fault ≡ Refused
refused_text (Syntax at) is = refl
refused_text (OutOfRange at) is = refl
refused_text TextMemory is = absurd is

fitting_text : (fault : TextFault) → text_status fault ≡ Words → ⊥
fitting_text (Syntax at) e = cc
fitting_text (OutOfRange at) e = cc
fitting_text TextMemory e = cc

problem_apart : (bytes : List ℕ) (p : Problem) (fault : TextFault) → IsCause (text_status fault) → IsProblemAnswer bytes (Ok p) → IsProblemAnswer bytes (Err fault) → ⊥
problem_apart bytes p (Syntax at) is reads refused = refused p None reads
problem_apart bytes p (OutOfRange at) is reads refused = let e = problem_reads bytes p (Err (OutOfRange at)) refused reads in cc
problem_apart bytes p TextMemory is reads refused = absurd is

pub problems_are : IsGrammar problems
problems_are = record {
  sure = λ name bytes. record {
    one = λ a b first second. (one_problem (rows_of bytes) a b None None first second).0;
    apart = problem_apart bytes;
    status = λ f g is is' x y. refused_text f is ∙ sym (refused_text g is');
  };
  fits = λ name fault e. fitting_text fault e;
}
