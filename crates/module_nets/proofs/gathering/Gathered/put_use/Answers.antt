use Rattle.std.proofs.Common.{◌≡◌, ◌∙◌, ◌++◌, ℕ, ap, sym, subst, Bool, true, false, List, OnOk, map}
use Rattle.std.specs.Prelude.{is_some}
use Rattle.bud_design.specs.Lists.{has_name}
use Rattle.module_nets.specs.Gathering.{Gathers}
use Rattle.module_nets.specs.Numbers.{Net}
use Rattle.module_nets.specs.Tables.{known}
use Rattle.module_nets.specs.declared.gathering.Gathered.{Gathered}
use Rattle.module_nets.proofs.GatherSteps.{among_known, use_known, use_new}
use Rattle.module_nets.proofs.ListSteps.{none_of}
use Rattle.module_nets.proofs.gathering.Gathered.put_use.Goals as goal

-- whether a name was found says whether it is a net's
there_is : (ports nets : List Net) (g : Gathered) (name : List ℕ) (test answer : Bool) → Gathers ports nets g → test ≡ is_some (known g.places name)
    → test ≡ answer → has_name (map (λ n. n.name) (ports ++ nets)) name ≡ answer
there_is ports nets g name test answer so_far test_is is =
    sym (among_known 0 (ports ++ nets) name) ∙ ap is_some (sym (so_far.places name)) ∙ sym test_is ∙ is

pub returns-then-is_some-clause-nets : goal.returns-then-is_some-clause-nets
returns-then-is_some-clause-nets c = λ ports nets so_far.
    let P : List Net → Type 0 = λ ns. Gathers ports ns c.guess.new.self in
    subst P (sym (use_known ports nets c.args.name.now (there_is ports nets c.args.self.now c.args.name.now c.is_some.result true so_far (c.is_some.ensures ∙ c.number_of-number.ensures) c.if-is_some.true)))
    (c.in_ok-guess.ensures.same ports nets so_far)

pub returns-clause-nets : goal.returns-clause-nets
returns-clause-nets c = λ ports nets so_far.
    let P : List Net → Type 0 = λ ns. OnOk c.put_new.result (Gathers ports ns c.put_new.new.self) in
    subst P (sym (use_new ports nets c.args.name.now (there_is ports nets c.args.self.now c.args.name.now c.is_some.result false so_far (c.is_some.ensures ∙ c.number_of-number.ensures) c.if-is_some.false)))
    (c.put_new.ensures.nets ports nets (c.in_ok-guess.ensures.same ports nets so_far))

pub put_new-requires : goal.put_new-requires
put_new-requires c =
    ap (λ t. known t c.args.name.now) c.in_ok-guess.ensures.places
    ∙ none_of (known c.args.self.now.places c.args.name.now) (sym c.number_of-number.ensures ∙ (sym c.is_some.ensures ∙ c.if-is_some.false))
