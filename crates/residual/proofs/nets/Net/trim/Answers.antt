use Rattle.std.proofs.Common.{◌≡◌, List, length, ap, sym, subst, ◌∙◌}
use Rattle.std.specs.Vec.{with_items}
use Rattle.std.proofs.lemmas.List.{with_items_is}
use Rattle.residual.specs.Arcs.{arc_at}
use Rattle.residual.specs.Networks.{Network}
use Rattle.residual.specs.Insides.{network_of}
use Rattle.residual.proofs.Surplus.{start-from_root}
use Rattle.residual.proofs.Trimming.{IsTrimmed, IsTrimmed-lent, AreExcesses-walks, kept-lent, loss-lent, weights-lent}
use Rattle.residual.specs.declared.arcs.Arc.{Arc}
use Rattle.residual.proofs.nets.Net.trim.Goals as goal

pub trim_flows-requires-clause-roots : goal.trim_flows-requires-clause-roots
trim_flows-requires-clause-roots c j above below =
    let net : Network = network_of c.self.inside in
    let P : List Arc → Type 0 = λ arcs. (arc_at arcs j).from.0 ≡ net.nodes in
    subst P (sym c.deref.ensures.value) (start-from_root net j c.self.invariant.lawful.sizes above below)

pub returns-clause-balanced : goal.returns-clause-balanced
returns-clause-balanced c =
    (IsTrimmed-lent (network_of c.self.inside) c.args.self.now c.deref.result.now c.deref_mut.result.now c.trim_flows.new.flows (with_items c.self.inside.flows c.trim_flows.new.flows).items c.trim_flows.new.ways
    c.self.view_is c.self.invariant.lawful c.requires.balanced c.requires.room c.deref.ensures.value c.deref_mut.ensures.value
    (with_items_is c.self.inside.flows c.trim_flows.new.flows (c.trim_flows.auto.flows ∙ c.deref_mut.ensures.len)) c.trim_flows.ensures.taken c.trim_flows.ensures.parted).balanced

pub returns-clause-starts : goal.returns-clause-starts
returns-clause-starts c =
    (IsTrimmed-lent (network_of c.self.inside) c.args.self.now c.deref.result.now c.deref_mut.result.now c.trim_flows.new.flows (with_items c.self.inside.flows c.trim_flows.new.flows).items c.trim_flows.new.ways
    c.self.view_is c.self.invariant.lawful c.requires.balanced c.requires.room c.deref.ensures.value c.deref_mut.ensures.value
    (with_items_is c.self.inside.flows c.trim_flows.new.flows (c.trim_flows.auto.flows ∙ c.deref_mut.ensures.len)) c.trim_flows.ensures.taken c.trim_flows.ensures.parted).starts

pub returns-clause-weights : goal.returns-clause-weights
returns-clause-weights c p fits =
    weights-lent (network_of c.self.inside) c.args.self.now _ p c.self.view_is
    (IsTrimmed-lent (network_of c.self.inside) c.args.self.now c.deref.result.now c.deref_mut.result.now c.trim_flows.new.flows (with_items c.self.inside.flows c.trim_flows.new.flows).items c.trim_flows.new.ways
    c.self.view_is c.self.invariant.lawful c.requires.balanced c.requires.room c.deref.ensures.value c.deref_mut.ensures.value
    (with_items_is c.self.inside.flows c.trim_flows.new.flows (c.trim_flows.auto.flows ∙ c.deref_mut.ensures.len)) c.trim_flows.ensures.taken c.trim_flows.ensures.parted) fits

pub returns-clause-none : goal.returns-clause-none
returns-clause-none c =
    (IsTrimmed-lent (network_of c.self.inside) c.args.self.now c.deref.result.now c.deref_mut.result.now c.trim_flows.new.flows (with_items c.self.inside.flows c.trim_flows.new.flows).items c.trim_flows.new.ways
    c.self.view_is c.self.invariant.lawful c.requires.balanced c.requires.room c.deref.ensures.value c.deref_mut.ensures.value
    (with_items_is c.self.inside.flows c.trim_flows.new.flows (c.trim_flows.auto.flows ∙ c.deref_mut.ensures.len)) c.trim_flows.ensures.taken c.trim_flows.ensures.parted).none

pub returns-clause-loss : goal.returns-clause-loss
returns-clause-loss c =
    loss-lent (network_of c.self.inside) c.args.self.now c.deref_mut.result.now c.trim_flows.new.flows (with_items c.self.inside.flows c.trim_flows.new.flows).items c.self.view_is c.deref_mut.ensures.value
    (with_items_is c.self.inside.flows c.trim_flows.new.flows (c.trim_flows.auto.flows ∙ c.deref_mut.ensures.len)) c.trim_flows.ensures.loss

pub returns-clause-kept : goal.returns-clause-kept
returns-clause-kept c =
    kept-lent (network_of c.self.inside) c.args.self.now c.deref.result.now c.deref_mut.result.now c.trim_flows.new.flows (with_items c.self.inside.flows c.trim_flows.new.flows).items c.self.view_is
    c.self.invariant.lawful c.deref.ensures.value c.deref_mut.ensures.value (with_items_is c.self.inside.flows c.trim_flows.new.flows (c.trim_flows.auto.flows ∙ c.deref_mut.ensures.len)) c.trim_flows.ensures.kept

pub returns-clause-lawful : goal.returns-clause-lawful
returns-clause-lawful c =
    (IsTrimmed-lent (network_of c.self.inside) c.args.self.now c.deref.result.now c.deref_mut.result.now c.trim_flows.new.flows (with_items c.self.inside.flows c.trim_flows.new.flows).items c.trim_flows.new.ways
    c.self.view_is c.self.invariant.lawful c.requires.balanced c.requires.room c.deref.ensures.value c.deref_mut.ensures.value
    (with_items_is c.self.inside.flows c.trim_flows.new.flows (c.trim_flows.auto.flows ∙ c.deref_mut.ensures.len)) c.trim_flows.ensures.taken c.trim_flows.ensures.parted).lawful

pub invariant_of-self : goal.invariant_of-self
invariant_of-self c =
    let trimmed : IsTrimmed (network_of c.self.inside) (with_items c.self.inside.flows c.trim_flows.new.flows).items =
    IsTrimmed-lent (network_of c.self.inside) c.args.self.now c.deref.result.now c.deref_mut.result.now c.trim_flows.new.flows (with_items c.self.inside.flows c.trim_flows.new.flows).items c.trim_flows.new.ways
    c.self.view_is c.self.invariant.lawful c.requires.balanced c.requires.room c.deref.ensures.value c.deref_mut.ensures.value
    (with_items_is c.self.inside.flows c.trim_flows.new.flows (c.trim_flows.auto.flows ∙ c.deref_mut.ensures.len)) c.trim_flows.ensures.taken c.trim_flows.ensures.parted in
    record {
      lawful = trimmed.lawful;
      excess_size = c.self.invariant.excess_size;
      listed = c.self.invariant.listed;
      excesses = AreExcesses-walks c.self.inside.arcs.items c.self.inside.items c.self.inside.flows.items _ c.self.inside.excess.items c.self.invariant.excesses trimmed.taken;
      ways = ap length (with_items_is c.self.inside.ways c.trim_flows.new.ways (c.trim_flows.auto.ways ∙ c.deref_mut-2.ensures.len)) ∙ c.trim_flows.ensures.size ∙ ap length c.deref_mut-2.ensures.value ∙ c.self.invariant.ways;
    }
