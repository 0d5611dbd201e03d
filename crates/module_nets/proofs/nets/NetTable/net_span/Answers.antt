use Rattle.module_nets.proofs.SpanLaws.{stands, not_found, scalar_span, vector_span}
use Rattle.module_nets.proofs.nets.NetTable.net_span.Goals as goal

pub returns-in_err-place : goal.returns-in_err-place
returns-in_err-place c =
    absurd (not_found c.args.self.now.«module».now c.args.name.now c.find.result c.requires.used c.find.ensures c.in_err-place.was)

pub returns-in-None : goal.returns-in-None
returns-in-None c =
    scalar_span c.args.self.now.«module».now c.args.name.now c.in_ok-place.place
    (stands c.args.self.now.«module».now c.args.name.now c.find.result c.in_ok-place.place c.args.self.now.bits c.args.self.now.apart c.requires.used
    c.find.ensures c.in_ok-place.was c.args.self.now.all c.requires.small) c.in-None.is

pub returns-in-Some : goal.returns-in-Some
returns-in-Some c =
    vector_span c.args.self.now.«module».now c.args.name.now c.in_ok-place.place c.in-Some.range c.number_in-last.result
    (stands c.args.self.now.«module».now c.args.name.now c.find.result c.in_ok-place.place c.args.self.now.bits c.args.self.now.apart c.requires.used
    c.find.ensures c.in_ok-place.was c.args.self.now.all c.requires.small) c.in-Some.is c.number_in-last.ensures
