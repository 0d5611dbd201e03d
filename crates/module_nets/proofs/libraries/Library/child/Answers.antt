use Rattle.std.proofs.Common.{◌∙◌, ap, sym, Some, rules}
use Rattle.std.specs.Option.{option_map}
use Rattle.module_nets.proofs.HeaderSteps.{number_below, called_at, called_none, header_within, header_is}
use Rattle.module_nets.proofs.libraries.Library.child.Goals as goal

pub returns-in_err-place : goal.returns-in_err-place
returns-in_err-place c =
    ap (λ o. option_map (λ h. h.now.«module».now) o) c.from_residual.ensures
    ∙ sym (called_none c.args.self.now.modules.now c.args.name.now (sym c.find.ensures.number ∙ c.in_err-place.was))

pub index-requires : goal.index-requires
index-requires c =
    let within = header_within (λ h. h.«module».now) c.args.self.now.headers.items c.args.self.now.modules.now c.in_ok-place.place c.args.self.now.headed
    (number_below c.args.self.now.modules.now c.args.name.now c.in_ok-place.place (sym c.find.ensures.number ∙ c.in_ok-place.was)) in
    search (rules, within)

pub returns : goal.returns
returns c =
    let number = sym c.find.ensures.number ∙ c.in_ok-place.was in
    ap (λ m. Some m) (header_is (λ h. h.«module».now) c.args.self.now.headers.items c.args.self.now.modules.now c.in_ok-place.place c.index.result.now c.args.self.now.headed
    (number_below c.args.self.now.modules.now c.args.name.now c.in_ok-place.place number) c.index.ensures)
    ∙ sym (called_at c.args.self.now.modules.now c.args.name.now c.in_ok-place.place number)
