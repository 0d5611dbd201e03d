-- The names of pins and clocks of a design may stand in a certificate.
use Rattle.std.proofs.Common.{◌≡◌, ◌⊎◌, true, ℕ, suc, ◌<◌, List, [], ◌∷◌, length, All, slice_index_or, arith, ap, sym, subst}
use Rattle.std.proofs.lemmas.List.{get_or_default}
use Rattle.std.proofs.lemmas.List.Elements.{All-nil, All-cons, All-head, All-tail}
use Rattle.bud_syntax.specs.declared.constraints.SdcCommand.{SdcCommand}
use Rattle.bud_design.specs.declared.clocks.Clock.{Clock}
use Rattle.bud_design.specs.declared.layers.Class.{Class}
use Rattle.bud_design.specs.declared.layers.Layered.{Layered}
use Rattle.bud_design.specs.declared.policies.NumberedCommand.{NumberedCommand}
use Rattle.bud_design.specs.declared.policies.Policy.{Policy}
use Rattle.bud_design.specs.declared.designs.Pin.{Pin}
use Rattle.bud_design.specs.Designs.{pin_at, pin_name}
use Rattle.bud_design.proofs.NameLaws.{IsShort}
use Rattle.bud_design.specs.ConstraintRules.{AreSoundConstraints}
use Rattle.bud_design.specs.Layers.{IsNode, IsLayering}
use Rattle.bud_design.specs.TimingPaths.{View, launch_at}
use Rattle.budget_designs.specs.declared.design_files.DesignFiles.{DesignFiles}
use Rattle.budget_designs.specs.Designs.{numbered_from, numbered}
use Rattle.budget_designs.specs.TimedDesigns.{Timed, whole}
use Rattle.budget_designs.proofs.TimedLaws.{AreRead, HasSteps}
use Rattle.budget_plans.specs.FileNames.{HaveNames, HaveShortBits}
use Rattle.budget_plans.proofs.Fields.{clock_text, identifier_text, one_of_two}
use Rattle.clock_names.specs.ClockNames.{HasClockName}
use Rattle.clock_names.proofs.Readings.{clocks_named}
use Rattle.constraint_names.proofs.Clocks.{constraints_named}
use Rattle.design_certs.specs.DesignCerts.{HasTextNames}
use Rattle.design_names.proofs.Pins.{pin_graphic}
use Rattle.netlist_names.proofs.Readings.{reads_identifiers}
use Rattle.sdc_reader.specs.Words.{is_clock_name}

-- ---- the files
pub names_read : (files : DesignFiles) → AreRead files → HaveNames files
names_read files read = record {
  netlist = reads_identifiers read.netlist.0 files.netlist read.netlist.1.1;
  clocks = clocks_named read.constraints.0 files.constraints read.constraints.1.1;
}

-- ---- the design
numbered-names : (n : ℕ) (commands : List SdcCommand) → All HasClockName commands → All (λ (x : NumberedCommand). HasClockName x.command) (numbered_from n commands)
numbered-names n [] names = All-nil _
numbered-names n (c ∷ cs) names =
    All-cons (λ (x : NumberedCommand). HasClockName x.command) (record { number = n; command = c }) (numbered_from (suc n) cs) (All-head HasClockName c cs names)
    (numbered-names (suc n) cs (All-tail HasClockName c cs names))

node-clock : (w : View) (pins : ℕ) → AreSoundConstraints pins w.all → (v : ℕ) (k : Class) → IsNode w v k → k.clock < length w.all.clocks
node-clock w pins sound v k node =
    let below = sound.launch_clocks node.path.launch (launch_at [] 0) node.constrained.is_path.launch in
    omega (arith, below, ap (λ (j : Class). j.clock) node.class_is)

pub text_names : (files : DesignFiles) (t : Timed) (policy : Policy) (layered : Layered) → HasSteps files t → HaveNames files → HaveShortBits t.design.pins
    → AreSoundConstraints (length t.design.pins) t.constraints → IsLayering (whole t) policy layered → HasTextNames layered t.design t.constraints
text_names files t policy layered steps names short sound layering = record {
  version = subst (λ (n : ℕ). (n ≡ 1) ⊎ (n ≡ 2)) (sym layering.version) (one_of_two policy);
  pins = λ v below. identifier_text (pin_name t.design 0 v) (pin_graphic files.netlist files.constraints.design t.design v names.netlist all-short steps.flat.flat below);
  clocks = λ c default below. clock_text (slice_index_or t.constraints.clocks c default).name
      (constrained-names c default below);
  classes = λ c default below.
      let live = layering.classes.live c default below in
      node-clock (whole t) (length t.design.pins) sound live.0 (slice_index_or layered.classes c default) live.1;
}
  where
    all-short : All (λ (x : Pin). IsShort x.bit) t.design.pins
    all-short = λ k default below. subst (λ (x : Pin). IsShort x.bit) (get_or_default t.design.pins k (pin_at [] 0) default below) (short k below)

    constrained-names : All (λ (c : Clock). is_clock_name c.name ≡ true) t.constraints.clocks
    constrained-names = constraints_named (record { design = t.design; root = 0; timing = t.timing }) (numbered files.constraints.commands) t.constraints
        (numbered-names 1 files.constraints.commands names.clocks) steps.constraints
