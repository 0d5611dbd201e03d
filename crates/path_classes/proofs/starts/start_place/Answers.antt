use Rattle.std.proofs.Common.{◌≡◌, None, Some, sym, ◌∙◌, ap, subst, arith, rules}
use Rattle.path_classes.proofs.StartSteps.{IsStartPlace-unknown, IsStartPlace-dead, IsStartPlace-found}
use Rattle.path_classes.proofs.starts.start_place.Goals as goal

pub returns-in_default : goal.returns-in_default
returns-in_default c = IsStartPlace-unknown c.args.all.now c.args.kinds.now c.args.ranks.now c.args.nodes.now c.args.launch.now c.args.«class».now c.requires.first c.in_default.ensures

pub returns-in-None : goal.returns-in-None
returns-in-None c =
    IsStartPlace-dead c.args.all.now c.args.kinds.now c.args.ranks.now c.args.nodes.now c.args.launch.now c.args.«class».now c.in-Some.kind c.requires.kinds c.requires.first
    c.in-Some.ensures.0 c.in-Some.ensures.1 c.in-None.is

pub returns-in-Some-ranks : goal.returns-in-Some-ranks
returns-in-Some-ranks c =
    IsStartPlace-found c.args.all.now c.args.kinds.now c.args.ranks.now c.args.nodes.now c.args.launch.now c.args.«class».now c.in-Some.kind c.in-Some-ranks.rank c.find_placed.result
    c.requires.kinds c.requires.rising c.requires.first c.in-Some.ensures.0 c.in-Some.ensures.1 c.in-Some-ranks.is c.find_placed.ensures
