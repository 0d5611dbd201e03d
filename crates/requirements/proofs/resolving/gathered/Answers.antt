use Rattle.std.proofs.Common.{◌<◌, length, refl, sym, subst}
use Rattle.clock_reach.specs.Reached.{AreSources, AreReached}
use Rattle.std.specs.Prelude.{◌≡◌, filter_map}
use Rattle.requirements.specs.Gathering.{unclocked_pin, AreLaunches, AreCaptures}
use Rattle.requirements.proofs.LaunchLaws.{edges-below, checks-below}
use Rattle.requirements.proofs.SourceLaws.{sources-are}
use Rattle.requirements.proofs.resolving.gathered.Goals as goal

pub reaching_clocks-requires : goal.reaching_clocks-requires
reaching_clocks-requires c = record {
  few = subst (λ ks. length ks < 2147483648) (sym c.as_slice.ensures) c.requires.few;
  sources = subst (AreSources c.args.flat.now) (sym c.as_slice.ensures) (sources-are c.args.flat.now c.keep.ensures.is_design c.args.timing.now c.args.scope.clocks c.requires.clocks);
}

pub launches-requires : goal.launches-requires
launches-requires c = edges-below c.args.flat.now c.args.timing.now c.in_ok-reached.reached c.as_slice-edges.result.now c.as_slice-3.result.now c.requires.timing c.in_ok-reached.ensures.size c.as_slice-edges.ensures c.as_slice-3.ensures

pub captures-requires : goal.captures-requires
captures-requires c = checks-below c.args.flat.now c.args.timing.now c.in_ok-reached.reached c.as_slice-5.result.now c.as_slice-6.result.now c.requires.timing c.in_ok-reached.ensures.size c.as_slice-5.ensures c.as_slice-6.ensures

pub unclocked-requires : goal.unclocked-requires
unclocked-requires c = edges-below c.args.flat.now c.args.timing.now c.in_ok-reached.reached c.as_slice-edges.result.now c.as_slice-7.result.now c.requires.timing c.in_ok-reached.ensures.size c.as_slice-edges.ensures c.as_slice-7.ensures

pub returns : goal.returns
returns c =
    let t = c.args.timing.now in
    let reached = c.in_ok-reached.reached in
    record {
      reached = reached;
      are_reached = subst (λ ks. AreReached c.args.flat.now 0 ks reached) c.as_slice.ensures c.in_ok-reached.ensures;
      clocks = c.into_clocks.ensures;
      exceptions = refl;
      launches =
          subst (λ xs. AreLaunches xs t.edges reached c.in_ok-launches.launches) c.as_slice-2.ensures
          (subst (λ es. AreLaunches c.as_slice-2.result.now es reached c.in_ok-launches.launches) c.as_slice-edges.ensures
          (subst (λ ms. AreLaunches c.as_slice-2.result.now c.as_slice-edges.result.now ms c.in_ok-launches.launches) c.as_slice-3.ensures c.in_ok-launches.ensures));
      captures =
          subst (λ xs. AreCaptures xs t.checks reached c.in_ok-captures.captures) c.as_slice-4.ensures
          (subst (λ es. AreCaptures c.as_slice-4.result.now es reached c.in_ok-captures.captures) c.as_slice-5.ensures
          (subst (λ ms. AreCaptures c.as_slice-4.result.now c.as_slice-5.result.now ms c.in_ok-captures.captures) c.as_slice-6.ensures c.in_ok-captures.ensures));
      unclocked =
          subst (λ es. c.in_ok-unclocked.unclocked ≡ filter_map (unclocked_pin reached) es) c.as_slice-edges.ensures
          (subst (λ ms. c.in_ok-unclocked.unclocked ≡ filter_map (unclocked_pin ms) c.as_slice-edges.result.now) c.as_slice-7.ensures c.in_ok-unclocked.ensures);
    }
