-- Where `plan` or `check` is done, its last file holds a certificate of best budgets.
use Rattle.std.proofs.Common.{◌≡◌, ℕ, List, [], ◌∷◌, Option, Some, None, Bool, cond, Ok, Err, string_bytes, ap, sym, ◌∙◌, subst, refl, arith}
use Rattle.std.specs.FinMap.{get, insert}
use Rattle.std.proofs.lemmas.Grind.{common_steps}
use Rattle.std.proofs.lemmas.Slice.Eq.{bytes_eq-Decides}
use Rattle.bud_shelf.specs.Outside.{Files, IsFile, IsWritten}
use Rattle.bud_shelf.proofs.Names.{get-insert_name}
use Rattle.budget_report.specs.declared.causes.Cause.{Cause}
use Rattle.budget_report.specs.declared.causes.Cause.TheVariants as cause
use Rattle.budget_report.specs.declared.statuses.Status.{Status}
use Rattle.budget_report.specs.declared.statuses.Status.TheVariants.{Done}
use Rattle.budget_report.specs.Causes.{status_of}
use Rattle.budget_steps.specs.declared.outcomes.Write.{Write}
use Rattle.budget_steps.specs.Outcomes.{Outcome, said_of, writes_of}
use Rattle.budget_steps.specs.Inputs.{Seen}
use Rattle.budget_plans.specs.Plans.{IsPlanAnswer, IsPlanned}
use Rattle.budget_top.specs.Words.{Asked, raw, prove, least, plan, check, make}
use Rattle.budget_top.specs.Jobs.{course}
use Rattle.budget_top.specs.Writing.{AreWritten}
use Rattle.budget_top.specs.BestBudgets.{IsLeft, HasBest}

-- ---- one file, written
own_got : (files : Files) (name bytes : List ℕ) → get (insert files name bytes) name ≡ Some bytes
own_got files name bytes = get-insert_name files name bytes name ∙ ap (λ (b : Bool). cond b (Some bytes) (get files name)) ((bytes_eq-Decides name name).1 refl)

left : (old new : Option Files) (name bytes : List ℕ) → IsWritten old new name bytes → IsLeft old new name bytes
left (Some old) new name bytes written = subst (λ (files : Option Files). IsFile files name bytes) (sym written) (own_got old name bytes)
left None new name bytes written = tt

one_left : (old new : Option Files) (file : Write) (writes : List Write) (name : List ℕ) → writes ≡ file ∷ [] → string_bytes file.name ≡ name → AreWritten old new writes
    → IsLeft old new name file.bytes
one_left old new file writes name one named written =
    let done = subst (λ (ws : List Write). AreWritten old new ws) one written in
    let there = left old done.0 (string_bytes file.name) file.bytes done.1.0 in
    subst (λ (files : Option Files). IsLeft old files name file.bytes) (sym done.1.1)
    (subst (λ (n : List ℕ). IsLeft old done.0 n file.bytes) named there)

-- ---- no refusal has the status of a job that is done
never_done : (c : Cause) → status_of c ≡ Done → ⊥
never_done cause.Words e = cc
never_done (cause.Shelf name) e = cc
never_done cause.Sink e = cc
never_done (cause.Length name count) e = cc
never_done (cause.Text name fault) e = grind (arith, common_steps, e)
never_done (cause.Verilog name fault) e = grind (arith, common_steps, e)
never_done (cause.Sdf name fault) e = grind (arith, common_steps, e)
never_done (cause.Sdc name fault) e = grind (arith, common_steps, e)
never_done (cause.Elab fault) e = grind (arith, common_steps, e)
never_done (cause.Bind fault) e = grind (arith, common_steps, e)
never_done (cause.Graph fault) e = grind (arith, common_steps, e)
never_done (cause.Resolve fault) e = grind (arith, common_steps, e)
never_done (cause.Layer fault) e = grind (arith, common_steps, e)
never_done (cause.Problem fault) e = grind (arith, common_steps, e)
never_done (cause.Cert fault) e = cc

-- ---- the jobs
pub best_of : (asked : Option Asked) (shelf : Seen (Option Files)) (outcome : Outcome) → course shelf asked outcome → AreWritten shelf.old shelf.new (writes_of outcome)
    → (said_of outcome).status ≡ Done → HasBest asked shelf
best_of None shelf outcome came written e = tt
best_of (Some (raw problem)) shelf outcome came written e = tt
best_of (Some (prove problem cert)) shelf outcome came written e = tt
best_of (Some (least netlist delays constraints)) shelf outcome came written e = tt
best_of (Some (make gates number)) shelf outcome came written e = tt
best_of (Some (plan names)) shelf (Err r) came written e = absurd (never_done r.cause e)
best_of (Some (plan names)) shelf (Ok answer) came written e =
    let P : Status → Type 0 = λ s. IsPlanAnswer came.0 names.cert s answer.said.text answer.writes in
    let planned : IsPlanned came.0 names.cert answer.said.text answer.writes = subst P e came.1.1 in
    let file = planned.written in (
      file.file.bytes,
      (
        planned.cert,
        (
          one_left shelf.old shelf.new file.file answer.writes names.cert file.one file.named written,
          (file.reads, record { laid = came.0; laid_out = came.1.0; certifies = planned.certifies }),
        ),
      ),
    )
best_of (Some (check names)) shelf (Err r) came written e = absurd (never_done r.cause e)
best_of (Some (check names)) shelf (Ok answer) came written e =
    let policy = came.1.1 in
    let cert = policy.1.1 in
    let laid = cert.1.1 in (
      cert.0,
      (
        cert.1.0,
        record {
          laid = laid.0;
          laid_out = (came.0, (came.1.0, (policy.0, (policy.1.0, laid.1.0))));
          certifies = laid.1.1.0;
        },
      ),
    )
