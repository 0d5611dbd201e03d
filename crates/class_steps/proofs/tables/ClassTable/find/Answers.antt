use Rattle.std.proofs.Common.{◌≡◌, ◌==◌, ◌<◌, List, [], length, None, sym, ◌∙◌, ap, subst, arith, true≢false}
use Rattle.std.specs.Map.{lookup}
use Rattle.std.proofs.lemmas.List.{get_or_default}
use Rattle.bud_design.specs.declared.layers.Class.{Class}
use Rattle.bud_design.specs.Layers.{class_number}
use Rattle.class_steps.specs.Tables.{link_at, AreLinked}
use Rattle.class_steps.proofs.LinkLaws.{searching-first, searching-within, searching-next, searching-none, rest_of, rest-less}
use Rattle.class_steps.proofs.tables.ClassTable.find.Goals as goal

pub loop-next-init : goal.loop-next-init
loop-next-init c =
    let linked = subst (λ ks. AreLinked ks c.self.inside.last.entries c.self.inside.links.items) c.self.view_is c.self.invariant in
    searching-first c.args.self.now c.self.inside.last.entries c.self.inside.links.items c.args.«class».now c.last_of-next.result linked
    (c.last_of-next.ensures ∙ ap (λ q. lookup (λ v. q == v) c.self.inside.last.entries) c.class_key.ensures)

pub index-requires : goal.index-requires
index-requires c =
    let within = searching-within c.args.self.now c.args.«class».now c.loop-next.next c.in-Some.place c.in-Some.is c.loop-next.invariant in
    let size = ap (λ (ks : List Class). length ks) c.self.view_is in
    omega (arith, within, size)

pub returns-then-same_class : goal.returns-then-same_class
returns-then-same_class c =
    let within = searching-within c.args.self.now c.args.«class».now c.loop-next.next c.in-Some.place c.in-Some.is c.loop-next.invariant in
    let size = ap (λ (ks : List Class). length ks) c.self.view_is in
    let here : c.index.result.now ≡ class_number c.args.self.now c.in-Some.place =
    c.index.ensures
    ∙ (get_or_default c.self.inside.classes.items c.in-Some.place c.index.result.now (class_number [] 0) (omega (arith, within, size))
    ∙ ap (λ ks. class_number ks c.in-Some.place) c.self.view_is)
    in
    (within, sym here ∙ c.same_class.ensures.0 c.if-same_class.true)

pub index-next-requires : goal.index-next-requires
index-next-requires c =
    let within = searching-within c.args.self.now c.args.«class».now c.loop-next.next c.in-Some.place c.in-Some.is c.loop-next.invariant in
    let size = ap (λ (ks : List Class). length ks) c.self.view_is in
    omega (arith, within, size, c.self.invariant.size)

pub loop-next-smaller : goal.loop-next-smaller
loop-next-smaller c =
    let within = searching-within c.args.self.now c.args.«class».now c.loop-next.next c.in-Some.place c.in-Some.is c.loop-next.invariant in
    let size = ap (λ (ks : List Class). length ks) c.self.view_is in
    let linked = subst (λ ks. AreLinked ks c.self.inside.last.entries c.self.inside.links.items) c.self.view_is c.self.invariant in
    let link : c.index-next.result.now ≡ link_at c.self.inside.links.items c.in-Some.place =
    c.index-next.ensures ∙ get_or_default c.self.inside.links.items c.in-Some.place c.index-next.result.now None (omega (arith, within, size, c.self.invariant.size))
    in
    subst (λ o. rest_of c.index-next.result.now < rest_of o) (sym c.in-Some.is)
    (rest-less c.args.self.now c.self.inside.last.entries c.self.inside.links.items c.index-next.result.now c.in-Some.place linked within link)

pub loop-next-preserved : goal.loop-next-preserved
loop-next-preserved c =
    let within = searching-within c.args.self.now c.args.«class».now c.loop-next.next c.in-Some.place c.in-Some.is c.loop-next.invariant in
    let size = ap (λ (ks : List Class). length ks) c.self.view_is in
    let linked = subst (λ ks. AreLinked ks c.self.inside.last.entries c.self.inside.links.items) c.self.view_is c.self.invariant in
    let link : c.index-next.result.now ≡ link_at c.self.inside.links.items c.in-Some.place =
    c.index-next.ensures ∙ get_or_default c.self.inside.links.items c.in-Some.place c.index-next.result.now None (omega (arith, within, size, c.self.invariant.size))
    in
    let here : c.index.result.now ≡ class_number c.args.self.now c.in-Some.place =
    c.index.ensures
    ∙ (get_or_default c.self.inside.classes.items c.in-Some.place c.index.result.now (class_number [] 0) (omega (arith, within, size))
    ∙ ap (λ ks. class_number ks c.in-Some.place) c.self.view_is)
    in
    searching-next c.args.self.now c.self.inside.last.entries c.self.inside.links.items c.args.«class».now c.loop-next.next c.index-next.result.now c.in-Some.place linked c.in-Some.is
    (λ same. true≢false (sym (c.same_class.ensures.1 (here ∙ same)) ∙ c.if-same_class.false)) link c.loop-next.invariant

pub returns : goal.returns
returns c = searching-none c.args.self.now c.args.«class».now c.loop-next.next c.in_default.is c.loop-next.invariant
