-- The files of a design and what they come to have one value each, or are refused; and what is known of the value.
use Rattle.std.proofs.Common.{◌≡◌, ℕ, ◌<◌, List, length, All, slice_index_or, Option, Result, Ok, Err, sym, subst}
use Rattle.std.specs.Result.{IsErrAnd}
use Rattle.std.proofs.lemmas.List.Elements.{All-contains}
use Rattle.bud_base.specs.declared.ids.PinId.{PinId}
use Rattle.bud_syntax.specs.declared.modules.Module.{Module}
use Rattle.bud_design.specs.Designs.{Design}
use Rattle.bud_design.specs.declared.policies.NumberedCommand.{NumberedCommand}
use Rattle.bud_design.specs.declared.clocks.Constraints.{Constraints}
use Rattle.bud_design.specs.declared.timings.LaunchEdge.{LaunchEdge}
use Rattle.bud_design.specs.TimingRules.{IsSoundTiming}
use Rattle.timing_objects.specs.Objects.{Subject}
use Rattle.requirements.specs.Constraining.{AreConstraints}
use Rattle.budget_report.specs.Subjects.{bare, pins}
use Rattle.budget_report.specs.declared.causes.Cause.TheVariants as cause
use Rattle.budget_steps.specs.declared.outcomes.Stop.{Stop}
use Rattle.budget_steps.specs.Steps.{Course, ◌>>=◌, comes_to, Follows}
use Rattle.budget_steps.specs.Inputs.{IsRead, input}
use Rattle.budget_steps.proofs.Courses.{follows_next}
use Rattle.budget_steps.proofs.Sources.{IsSource, then_source, step_source, input_source, value_source}
use Rattle.budget_designs.specs.declared.design_files.DesignFiles.{DesignFiles}
use Rattle.budget_designs.specs.Files.{netlists, delay_files, constraint_files}
use Rattle.budget_designs.specs.DesignFiles.{design_files, files_with}
use Rattle.budget_designs.specs.Designs.{IsElaborated, IsElaboration, IsTimed, IsTiming, AreOrderedArcs, AreArcsOrCycle, AreConstrained, numbered, elaborated, timed, joined, constrained}
use Rattle.budget_designs.specs.TimedDesigns.{Timed, timed_with, timed_below, timed_design}
use Rattle.budget_designs.specs.Layerings.{FollowsAs}
use Rattle.budget_designs.proofs.ReadFiles.{netlists_are, delay_files_are, constraint_files_are}
use Rattle.budget_designs.proofs.DesignFaults.{elab_fits, bind_fits, graph_fits, resolve_fits}
use Rattle.budget_designs.proofs.DelayLaws.{timing_sure}
use Rattle.budget_designs.proofs.DesignSteps.{elaboration_sure, arcs_sure, constraints_sure}

-- ---- the files
-- each is what some bytes read as
pub record AreRead (files : DesignFiles) : Type 0 where
  pub netlist : IsRead netlists files.netlist
  pub delays : IsRead delay_files files.delays
  pub constraints : IsRead constraint_files files.constraints

pub files_source : (netlist delay_file constraint_file : List ℕ) → IsSource AreRead (λ shelf. design_files shelf netlist delay_file constraint_file)
files_source netlist delay_file constraint_file =
    then_source (λ m. IsRead netlists m) AreRead (λ shelf. input shelf netlists netlist)
    (λ m shelf. input shelf delay_files delay_file >>= λ v. input shelf constraint_files constraint_file >>= λ k. comes_to (files_with m v k))
    (input_source netlists netlist netlists_are)
    (λ m first.
    then_source (λ v. IsRead delay_files v) AreRead (λ shelf. input shelf delay_files delay_file)
    (λ v shelf. input shelf constraint_files constraint_file >>= λ k. comes_to (files_with m v k))
    (input_source delay_files delay_file delay_files_are)
    (λ v second.
    then_source (λ k. IsRead constraint_files k) AreRead (λ shelf. input shelf constraint_files constraint_file)
    (λ k shelf. comes_to (files_with m v k))
    (input_source constraint_files constraint_file constraint_files_are)
    (λ k third.
    value_source AreRead (files_with m v k) (record { netlist = first; delays = second; constraints = third }))))

-- ---- what they come to
-- each part comes of the files and the parts before it
pub record HasSteps (files : DesignFiles) (t : Timed) : Type 0 where
  pub flat : IsElaborated files.netlist files.constraints.design t.design
  pub timing : IsTimed t.design files.delays.rows t.timing
  pub arcs : AreOrderedArcs t.design t.timing t.arcs
  pub constraints : AreConstraints (record { design = t.design; root = 0; timing = t.timing }) (numbered files.constraints.commands) t.constraints

pub steps_of : (files : DesignFiles) (t : Timed) → timed_design files (Ok t) → HasSteps files t
steps_of files t came =
    let flat = came.1 in
    let timing = flat.1.1 in
    let arcs = timing.1.1 in
    let constraints = arcs.1.1 in
    subst (HasSteps files) (sym constraints.1) (record { flat = flat.0; timing = timing.0; arcs = arcs.0; constraints = constraints.0 })

pub timed_source : (files : DesignFiles) → IsSource (HasSteps files) (λ shelf. timed_design files)
timed_source files =
    then_source (IsElaborated files.netlist files.constraints.design) (HasSteps files) (λ shelf. elaborated files.netlist files.constraints.design)
    (λ d shelf. timed_below d files.delays.rows files.constraints.commands)
    (step_source (IsElaboration files.netlist files.constraints.design) bare (λ fault. cause.Elab fault) (elaboration_sure files.netlist files.constraints.design) elab_fits)
    (λ d flat.
    then_source (IsTimed d files.delays.rows) (HasSteps files) (λ shelf. timed d files.delays.rows)
    (λ t shelf. joined d t >>= λ arcs. constrained d t files.constraints.commands >>= λ all. comes_to (timed_with d t arcs all))
    (step_source (IsTiming d files.delays.rows) bare (λ fault. cause.Bind fault) (timing_sure d files.delays.rows flat.design) bind_fits)
    (λ t timing.
    then_source (AreOrderedArcs d t) (HasSteps files) (λ shelf. joined d t)
    (λ arcs shelf. constrained d t files.constraints.commands >>= λ all. comes_to (timed_with d t arcs all))
    (step_source (AreArcsOrCycle d t) (pins d) (λ fault. cause.Graph fault) (arcs_sure d t flat.design timing.sound timing.leaves) graph_fits)
    (λ arcs ordered.
    then_source (AreConstraints (record { design = d; root = 0; timing = t }) (numbered files.constraints.commands)) (HasSteps files)
    (λ shelf. constrained d t files.constraints.commands)
    (λ all shelf. comes_to (timed_with d t arcs all))
    (step_source (AreConstrained d t files.constraints.commands) bare (λ fault. cause.Resolve fault) (constraints_sure d t files.constraints.commands) resolve_fits)
    (λ all constraints.
    value_source (HasSteps files) (timed_with d t arcs all)
    (record { flat = flat; timing = timing; arcs = ordered; constraints = constraints })))))

-- the clock pins that no clock reaches are the design's
pub unclocked_within : (s : Subject) (commands : List NumberedCommand) (all : Constraints) → IsSoundTiming s.design s.timing → AreConstraints s commands all
    → All (λ (v : PinId). v.0 < length s.design.pins) all.unclocked
unclocked_within s commands all sound are = λ k default below.
    All-contains (λ (x : LaunchEdge). x.pin.0 < length s.design.pins) s.timing.edges (record { pin = slice_index_or all.unclocked k default; edge = (are.unclocked.sound k default below).edge })
    sound.edges (are.unclocked.sound k default below).clock_pin

-- ---- functions whose value is seen as that of a course
-- what the exit of a `?` returns
pub seen_exit : {A B : Type 0} (view : A → B) (w : Course B) (r : Result A Stop) (stop : Stop) → IsErrAnd r (λ e. e ≡ stop) → Follows {A = B} w (Err stop) → FollowsAs view w r
seen_exit view w (Ok a) stop exit came = absurd exit
seen_exit view w (Err e) stop exit came = subst (λ (s : Stop). FollowsAs view w (Err s)) (sym exit) came

-- the elaboration of the same modules below the same top
pub elaborated_as : (m n : List Module) (top other : Option (List ℕ)) (r : Result Design Stop) → m ≡ n → top ≡ other → Follows (elaborated m top) r → Follows (elaborated n other) r
elaborated_as m n top other r modules tops came =
    subst (λ (o : Option (List ℕ)). Follows (elaborated n o) r) tops (subst (λ (x : List Module). Follows (elaborated x top) r) modules came)

-- a first part comes to a value
pub seen_next : {A B C : Type 0} (view : A → B) (w : Course C) (f : C → Course B) (x : C) (r : Result A Stop) → w (Ok x) → FollowsAs view (f x) r → FollowsAs view (w >>= f) r
seen_next view w f x (Ok a) came next = (x, (came, next))
seen_next view w f x (Err stop) came next = follows_next w f x (Err stop) came next
