-- Refusals of designs have statuses of their own.
use Rattle.std.proofs.Common.{◌≡◌, refl}
use Rattle.module_nets.specs.declared.faults.ElabFault.{ElabFault}
use Rattle.module_nets.specs.declared.faults.ElabFault.TheVariants as elab
use Rattle.delay_bind.specs.declared.faults.BindFault.{BindFault}
use Rattle.delay_bind.specs.declared.faults.BindFault.TheVariants as bind
use Rattle.timing_graph.specs.declared.faults.GraphFault.{GraphFault}
use Rattle.timing_graph.specs.declared.faults.GraphFault.TheVariants as graph
use Rattle.timing_objects.specs.declared.faults.ResolveFault.{ResolveFault}
use Rattle.timing_objects.specs.declared.faults.ResolveFault.TheVariants as resolve
use Rattle.layer_theory.specs.declared.refusals.LayerFault.{LayerFault}
use Rattle.layer_theory.specs.declared.refusals.LayerFault.TheVariants as layer
use Rattle.budget_report.specs.declared.statuses.Status.TheVariants.{Design as Unfit, Words}
use Rattle.budget_report.specs.DesignFaults.{elab_status, bind_status, graph_status, resolve_status, layer_status}
use Rattle.budget_steps.specs.Steps.{IsCause}

pub elab_fits : (fault : ElabFault) → elab_status fault ≡ Words → ⊥
elab_fits (elab.ModuleTwice name) e = cc
elab_fits (elab.NoTop name) e = cc
elab_fits (elab.ManyTops a b) e = cc
elab_fits (elab.TooDeep count) e = cc
elab_fits (elab.InoutPort name) e = cc
elab_fits (elab.NameTwice name) e = cc
elab_fits (elab.TooLarge count) e = cc
elab_fits (elab.UnknownModule name) e = cc
elab_fits (elab.Recursive name) e = cc
elab_fits (elab.UnknownPort name) e = cc
elab_fits (elab.Select name) e = cc
elab_fits (elab.Width name) e = cc
elab_fits (elab.TwoDrivers name) e = cc
elab_fits elab.NoMemory e = cc

pub bind_refused : (fault : BindFault) → IsCause (bind_status fault) → bind_status fault ≡ Unfit
bind_refused (bind.UnknownInstance name) is = refl
bind_refused (bind.WrongCell name) is = refl
bind_refused (bind.NotALeaf name) is = refl
bind_refused (bind.UnknownPin name) is = refl
bind_refused (bind.NotOneNet from to) is = refl
bind_refused (bind.MixedEdge name) is = refl
bind_refused (bind.Latch name) is = refl
bind_refused (bind.NegativeDelay from to) is = refl
bind_refused (bind.NegativeRest name) is = refl
bind_refused bind.NoMemory is = absurd is

pub bind_fits : (fault : BindFault) → bind_status fault ≡ Words → ⊥
bind_fits (bind.UnknownInstance name) e = cc
bind_fits (bind.WrongCell name) e = cc
bind_fits (bind.NotALeaf name) e = cc
bind_fits (bind.UnknownPin name) e = cc
bind_fits (bind.NotOneNet from to) e = cc
bind_fits (bind.MixedEdge name) e = cc
bind_fits (bind.Latch name) e = cc
bind_fits (bind.NegativeDelay from to) e = cc
bind_fits (bind.NegativeRest name) e = cc
bind_fits bind.NoMemory e = cc

pub graph_refused : (fault : GraphFault) → IsCause (graph_status fault) → graph_status fault ≡ Unfit
graph_refused (graph.Cycle pairs) is = refl
graph_refused graph.NoMemory is = absurd is

pub graph_fits : (fault : GraphFault) → graph_status fault ≡ Words → ⊥
graph_fits (graph.Cycle pairs) e = cc
graph_fits graph.NoMemory e = cc

pub resolve_refused : (fault : ResolveFault) → IsCause (resolve_status fault) → resolve_status fault ≡ Unfit
resolve_refused (resolve.UnknownObject name) is = refl
resolve_refused (resolve.UnknownClock name) is = refl
resolve_refused (resolve.NotASource name) is = refl
resolve_refused (resolve.NotAStart name) is = refl
resolve_refused (resolve.NotAnEnd name) is = refl
resolve_refused (resolve.NotAPin name) is = refl
resolve_refused (resolve.ClockTwice name) is = refl
resolve_refused (resolve.BadWaveform name) is = refl
resolve_refused resolve.NoMemory is = absurd is

pub resolve_fits : (fault : ResolveFault) → resolve_status fault ≡ Words → ⊥
resolve_fits (resolve.UnknownObject name) e = cc
resolve_fits (resolve.UnknownClock name) e = cc
resolve_fits (resolve.NotASource name) e = cc
resolve_fits (resolve.NotAStart name) e = cc
resolve_fits (resolve.NotAnEnd name) e = cc
resolve_fits (resolve.NotAPin name) e = cc
resolve_fits (resolve.ClockTwice name) e = cc
resolve_fits (resolve.BadWaveform name) e = cc
resolve_fits resolve.NoMemory e = cc

pub layer_fits : (fault : LayerFault) → layer_status fault ≡ Words → ⊥
layer_fits (layer.UnknownArc from to) e = cc
layer_fits (layer.UnknownInstance name) e = cc
layer_fits (layer.NestedBlocks a b) e = cc
layer_fits (layer.UnknownClock name) e = cc
layer_fits (layer.TooManyStates count) e = cc
layer_fits (layer.TooManyItems count) e = cc
layer_fits layer.NoMemory e = cc
