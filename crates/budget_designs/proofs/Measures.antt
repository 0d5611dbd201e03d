-- The answer by the layering is the answer over the design's constrained paths; and a design has one status.
use Rattle.std.specs.Prelude.{ℤ, pos, ◌≤ℤ◌, ◌<ℤ◌, ◌-ℤ◌, nat_lt, true}
use Rattle.std.proofs.Common.{◌≡◌, ℕ, List, Result, Ok, Err, All, AllPairs, arith, ap, sym, ◌∙◌, subst, inl, inr, refl}
use Rattle.std.proofs.lemmas.Int.{ints}
use Rattle.bud_base.specs.Paths.{Path, IsPathOfSlack, IsLeastSlack, HasNoPath, room}
use Rattle.bud_design.specs.Designs.{Design}
use Rattle.bud_design.specs.declared.clocks.Constraints.{Constraints}
use Rattle.budget_report.specs.Violations.{meets_text, no_paths_text}
use Rattle.bud_design.specs.ConstraintRules.{AreSoundConstraints}
use Rattle.bud_design.specs.Correspondences.{Correspond, StandsFor}
use Rattle.bud_design.specs.Orders.{launch_before}
use Rattle.bud_design.specs.Layers.{IsLayering}
use Rattle.bud_design.specs.TimingPaths.{View, TimingPath, IsConstrained, HasSlack}
use Rattle.bud_design.specs.declared.layers.Layered.{Layered}
use Rattle.bud_design.specs.declared.policies.Policy.{Policy}
use Rattle.layer_theory.proofs.LayerPaths as paths
use Rattle.design_layers.specs.Views.{HasSlackOf, no_policy}
use Rattle.budget_report.specs.declared.statuses.Status.{Status}
use Rattle.budget_report.specs.declared.statuses.Status.TheVariants.{Done, Violated, Words}
use Rattle.budget_report.specs.DesignPaths.{path_classes, layered_text}
use Rattle.layer_theory.specs.LayerAnswers.{IsLayerAnswer}
use Rattle.layer_theory.specs.declared.refusals.LayerFault.{LayerFault}
use Rattle.layer_theory.specs.declared.refusals.LayerFault.TheVariants.{UnknownArc, UnknownInstance, NestedBlocks, UnknownClock, TooManyStates, TooManyItems, NoMemory}
use Rattle.budget_report.specs.declared.causes.Cause.TheVariants.{Layer}
use Rattle.budget_report.specs.Subjects.{bare}
use Rattle.budget_steps.specs.Outcomes.{Outcome, said_of, done}
use Rattle.budget_steps.specs.Steps.{Follows, IsRefused}
use Rattle.budget_steps.specs.declared.outcomes.Answer.{Answer}
use Rattle.budget_steps.specs.declared.outcomes.Stop.{Stop}
use Rattle.budget_steps.proofs.Courses.{Within, Alike, follows_next, follows_within, follows_first, step_refused}
use Rattle.budget_designs.specs.Designs.{IsWithinLimits, within_limits}
use Rattle.budget_steps.proofs.JobLaws.{SameStatus}
use Rattle.budget_designs.specs.Slacks.{IsPathText, IsMeasured, measured, least_of}
use Rattle.budget_designs.specs.Layerings.{IsLayeredMeasure, layer_measured}
use Rattle.budget_designs.proofs.LayerTexts as texts

-- ---- from the layering to the design
module _ (w : View) (policy : Policy) (layered : Layered) (layering : IsLayering w policy layered) (rise : AllPairs (λ e f. nat_lt e.number f.number ≡ true) w.all.exceptions)
    (apart : All (λ l. All (λ x. l.pin.0 ≡ x.pin.0 → ⊥) w.all.captures) w.all.launches) (one : AllPairs (λ l m. launch_before l m ≡ true) w.all.launches) (correspond : Correspond w layered) (same : HasSlackOf w layered.problem) where
  path-text : (s : ℤ) (p : Path) (text : List ℕ) → IsPathOfSlack layered.problem s p → text ≡ layered_text layered w.design w.all s p → IsPathText w s text
  path-text s p text of text_is =
      let back = paths.back w policy layered layering rise apart p of.is_path in
      let path = texts.path_of w policy layered layering rise apart p of.is_path in
      let this = texts.path-same w policy layered layering rise apart p of.is_path one back.0 back.1.0 in
      let stands = subst (StandsFor w layered p) this back.1.0 in
      let sums = correspond.sums p path of.is_path stands in
      record {
        path = path;
        room = room layered.problem p;
        constrained = subst (λ (x : TimingPath). IsConstrained w x (room layered.problem p)) this back.1.1;
        slack_is = sym of.has_slack ∙ ap (λ (z : ℤ). room layered.problem p -ℤ z) sums;
        classes = layered.classes;
        are_classes = layering.classes;
        numbers = path_classes layered p;
        are_numbers = texts.path_numbered w policy layered layering rise apart p of.is_path;
        text_is = text_is ∙ texts.text-same w policy layered layering rise apart p of.is_path s;
      }

  measure-within : (status : Status) (text : List ℕ) → IsLayeredMeasure layered w.design w.all status text → IsMeasured w status text
  measure-within Done text (inl none) = inl (same.none.0 none.0, none.1)
  measure-within Done text (inr least) = inr (least.0, ((same.least least.0).0 least.1.0, least.1.1, least.1.2))
  measure-within Violated text found =
      let s = found.0 in
      let p = found.1.0 in
      let is = found.1.1 in
      (s, ((same.least s).0 is.0, is.1, path-text s p text is.2 is.3))
  measure-within other text found = absurd found

  pub measured_within : Within (layer_measured layered w.design w.all) (measured w)
  measured_within (Ok answer) came = (measure-within answer.said.status answer.said.text came.0, came.1)
  measured_within (Err r) came = came

-- ---- the layering's answer
-- of a policy without lines only the limits are refused
limits_answer : (w : View) (fault : LayerFault) → IsLayerAnswer w no_policy (Err fault) → IsWithinLimits w (Err fault)
limits_answer w (UnknownArc from to) answer = absurd (cc)
limits_answer w (UnknownInstance name) answer = absurd (cc)
limits_answer w (NestedBlocks a b) answer = absurd (cc)
limits_answer w (UnknownClock name) answer = absurd (cc)
limits_answer w (TooManyStates count) answer = (answer.1, answer.2)
limits_answer w (TooManyItems count) answer = (answer.0.states, (answer.1, answer.2))
limits_answer w NoMemory answer = tt

pub least_follows : (w : View) (pins : ℕ) (layered : Layered) (r : Result Answer Stop) → AreSoundConstraints pins w.all → IsLayerAnswer w no_policy (Ok layered) → Correspond w layered
    → HasSlackOf w layered.problem → Follows (layer_measured layered w.design w.all) r → Follows (least_of w) r
least_follows w pins layered r sound answer correspond same came =
    follows_next (within_limits w) (λ _. measured w) tt r (answer.0.states, answer.1)
    (follows_within (layer_measured layered w.design w.all) (measured w) r (measured_within w no_policy layered answer.2 sound.numbers sound.apart sound.one_launch correspond same) came)

pub least_refused : (w : View) (fault : LayerFault) (stop : Stop) → IsLayerAnswer w no_policy (Err fault) → IsRefused (record { subject = bare; cause = Layer fault }) stop
    → Follows {A = Answer} (least_of w) (Err stop)
least_refused w fault stop answer refused =
    follows_first (within_limits w) (λ _. measured w) stop (step_refused (IsWithinLimits w) bare (λ f. Layer f) fault stop (limits_answer w fault answer) refused)

-- answers by the layering
pub layer_none : (layered : Layered) (d : Design) (all : Constraints) (a : Answer) → a ≡ done no_paths_text → HasNoPath layered.problem → layer_measured layered d all (Ok a)
layer_none layered d all a e none = subst (λ (x : Answer). layer_measured layered d all (Ok x)) (sym e) (inl (none, refl), refl)

pub layer_met : (layered : Layered) (d : Design) (all : Constraints) (a : Answer) (s : ℤ) → a ≡ done (meets_text s) → IsLeastSlack layered.problem s → pos 0 ≤ℤ s
    → layer_measured layered d all (Ok a)
layer_met layered d all a s e least meets = subst (λ (x : Answer). layer_measured layered d all (Ok x)) (sym e) (inr (s, (least, meets, refl)), refl)

-- ---- one status
-- what the constrained paths of a design say
pub data Measure (w : View) : Status → Type 0 where
  meets : ((path : TimingPath) (s : ℤ) → HasSlack w path s → pos 0 ≤ℤ s) → Measure w Done
  violated : (path : TimingPath) (s : ℤ) → HasSlack w path s → s <ℤ pos 0 → Measure w Violated

pub measure_of : (w : View) (status : Status) (text : List ℕ) → IsMeasured w status text → Measure w status
measure_of w Done text m = meets (elim m [
  | inl none ↦ λ path s has. absurd (none.0 path has.room has.constrained)
  | inr least ↦ λ path s has. (let more = least.1.0.least path s has in omega (arith, ints, more, least.1.1))
])
measure_of w Violated text m = violated m.1.0.attained.0 m.0 m.1.0.attained.1 m.1.1
measure_of w other text m = absurd m

pub one_measure : (w : View) (a b : Status) → Measure w a → Measure w b → a ≡ b
one_measure w _ _ (meets h) (meets h') = refl
one_measure w _ _ (meets h) (violated path s has below) = (let more = h path s has in absurd (omega (arith, ints, more, below)))
one_measure w _ _ (violated path s has below) (meets h) = (let more = h path s has in absurd (omega (arith, ints, more, below)))
one_measure w _ _ (violated path s has below) (violated path' s' has' below') = refl

pub measured_alike : (w : View) → Alike SameStatus ⊥ (measured w) (measured w)
measured_alike w (Ok a) (Ok b) x y = inl (one_measure w a.said.status b.said.status (measure_of w a.said.status a.said.text x.0) (measure_of w b.said.status b.said.text y.0))
measured_alike w (Ok a) (Err s) x y = absurd y
measured_alike w (Err r) y' x y = absurd x

pub measure_fits : (w : View) (status : Status) → Measure w status → status ≡ Words → ⊥
measure_fits w _ (meets h) e = cc
measure_fits w _ (violated path s has below) e = cc

pub measured_fits : (w : View) (outcome : Outcome) → measured w outcome → (said_of outcome).status ≡ Words → ⊥
measured_fits w (Ok answer) came e = measure_fits w answer.said.status (measure_of w answer.said.status answer.said.text came.0) e
measured_fits w (Err r) came e = absurd came
