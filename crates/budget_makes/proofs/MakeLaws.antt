-- The job `make`: it has one status, fits its words and writes no file; and where its texts are laid out and meet, it is done.
use Rattle.std.proofs.Common.{◌≡◌, ℕ, [], Some, Ok, arith, inl, inr}
use Rattle.std.specs.Prelude.{codes}
use Rattle.bud_shelf.specs.Outside.{Rose}
use Rattle.bud_gen.specs.declared.designs.MadeDesign.{MadeDesign}
use Rattle.budget_steps.specs.declared.outcomes.Answer.{Answer}
use Rattle.budget_steps.specs.Inputs.{unfaulted}
use Rattle.budget_steps.specs.Steps.{◌>>=◌}
use Rattle.budget_steps.proofs.Courses.{Alike, alike_then, alike_unless}
use Rattle.budget_steps.proofs.JobLaws.{IsJob, last, then_job}
use Rattle.budget_steps.proofs.Sources.{IsSource}
use Rattle.budget_plans.specs.Plans.{met}
use Rattle.budget_plans.proofs.LaidOut.{IsLayout, layout_source}
use Rattle.budget_plans.proofs.Measures.{IsDone}
use Rattle.budget_makes.specs.OwnFiles.{made_design, own_files, own_layout}
use Rattle.budget_makes.specs.Makes.{made}
use Rattle.budget_makes.specs.Jobs.{make_job}
use Rattle.budget_makes.proofs.Mades.{made_alike, made_fits, made_met}

-- no count rises from 0 to 0
never : Rose 0 0 → ⊥
never rose = omega (arith, rose)

own_alike : (design : MadeDesign) → Alike ◌≡◌ ⊥ (own_layout design) (own_layout design)
own_alike design r s x y =
    elim ((layout_source (codes "verilog") (codes "sdf") (codes "sdc") (codes "policy")).alike (own_files design) (Some (own_files design)) 0 0 r s x y) [
      | inl same ↦ inl same
      | inr rose ↦ inr (never rose)
    ]

own_source : (design : MadeDesign) → IsSource IsLayout (λ shelf. own_layout design)
own_source design = record {
  known = λ shelf l came. (layout_source (codes "verilog") (codes "sdf") (codes "sdc") (codes "policy")).known (unfaulted (own_files design)) l came;
  during = λ inner outer during r came. came;
  alike = λ files new before now. alike_unless ◌≡◌ (Rose before now) (own_layout design) (own_layout design) (own_alike design);
  fits = λ shelf r came. (layout_source (codes "verilog") (codes "sdf") (codes "sdc") (codes "policy")).fits (unfaulted (own_files design)) r came;
}

pub make_is : (gates number : ℕ) → IsJob (λ shelf. make_job gates number)
make_is gates number =
    then_job IsLayout (λ shelf. own_layout (made_design gates number)) (λ l shelf. made l gates (made_design gates number).registers)
    (own_source (made_design gates number))
    (λ l _. last (made l gates (made_design gates number).registers) (made_alike l gates (made_design gates number).registers) (made_fits l gates (made_design gates number).registers))

-- it writes no file
pub make_quiet : (gates number : ℕ) (answer : Answer) → make_job gates number (Ok answer) → answer.writes ≡ []
make_quiet gates number answer came = came.1.1.1

-- where its texts are laid out and no constrained path is violated, it is done
pub make_met : (gates number : ℕ) (Unless : Type 0) → Alike IsDone Unless (make_job gates number) (own_layout (made_design gates number) >>= met)
make_met gates number Unless =
    alike_then IsDone Unless (own_layout (made_design gates number)) (own_layout (made_design gates number))
    (λ l. made l gates (made_design gates number).registers) met
    (alike_unless ◌≡◌ Unless (own_layout (made_design gates number)) (own_layout (made_design gates number)) (own_alike (made_design gates number)))
    (λ l _. made_met l gates (made_design gates number).registers Unless)
