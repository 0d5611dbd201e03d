use Rattle.std.proofs.Common.{◌≡◌, ◌∙◌, ◌+◌, Bool, List, ℕ, [], length, rules, ap, sym, subst, take, drop}
use Rattle.std.specs.Option.{option_or}
use Rattle.std.proofs.lemmas.Result.{err_from_is_err_and}
use Rattle.module_nets.specs.Entering.{link_faults}
use Rattle.module_nets.specs.Judging.{entry_at, link_fault, linked_behind, Flags}
use Rattle.module_nets.specs.Refusals.{IsRefusal}
use Rattle.module_nets.proofs.Refusing.{refusal_as, refusal_first}
use Rattle.module_nets.proofs.JudgeSteps.{links_on_slice, linked_more_slice, written}
use Rattle.module_nets.proofs.judging.refuse_links.Goals as goal

pub returns-in_err-refuse_link : goal.returns-in_err-refuse_link
returns-in_err-refuse_link c =
    let e = entry_at c.args.nets.now.«module».now c.args.path.now in
    let child = c.args.header.now.«module».now in
    let name = c.args.instance.now.name in
    let links = c.args.instance.now.links in
    let k = c.loop-k.k in
    let link = c.link-item.result in
    let linked = linked_behind [] (take k links) in
    let fault = c.in_err-refuse_link.field-0.0 in
    let P : List Bool → Type 0 = Flags child linked in
    let p = err_from_is_err_and c.from_residual.result c.from_residual.ensures.1 in
    rw (p.1, p.2)
    (refusal_as (link_faults e child.ports name [] 0 links)
    (option_or (link_fault e child.ports name linked k link) (link_faults e child.ports name (linked_behind [] (take (k + 1) links)) (k + 1) (drop (k + 1) links))) fault
    (c.loop-k.invariant.clean ∙ links_on_slice e child.ports name links c.as_slice-link-items.result.now k link c.as_slice-link-items.ensures c.loop-k-test.true c.link-item.is)
    (refusal_first (link_fault e child.ports name linked k link) (link_faults e child.ports name (linked_behind [] (take (k + 1) links)) (k + 1) (drop (k + 1) links)) fault
    (let N : List ℕ → Type 0 = λ n. IsRefusal (link_fault e child.ports n linked k link) fault in
    subst N c.as_slice.ensures (c.in_err-refuse_link.ensures.answer linked (subst P (sym c.as_mut_slice.ensures.value) c.loop-k.invariant.flagged)))))

pub loop-k-preserved : goal.loop-k-preserved
loop-k-preserved c =
    let e = entry_at c.args.nets.now.«module».now c.args.path.now in
    let child = c.args.header.now.«module».now in
    let name = c.args.instance.now.name in
    let links = c.args.instance.now.links in
    let k = c.loop-k.k in
    let link = c.link-item.result in
    let linked = linked_behind [] (take k links) in
    let P : List Bool → Type 0 = Flags child linked in
    let Q : List Bool → Type 0 = Flags child (linked_behind [] (take (k + 1) links)) in
    let R : List (List ℕ) → Type 0 = λ ls. Flags child ls c.refuse_link.new.flags in
    let before = subst P (sym c.as_mut_slice.ensures.value) c.loop-k.invariant.flagged in
    let behind = c.in_ok-refuse_link.ensures.flags linked before in
    let len : c.loop-k.flags.len ≡ length c.loop-k.flags.items = search rules in
    record {
      flagged = subst Q (sym (written c.loop-k.flags.items c.refuse_link.new.flags c.loop-k.flags.len len (behind.each ∙ sym c.loop-k.invariant.flagged.each)))
          (subst R (sym (linked_more_slice links c.as_slice-link-items.result.now k link c.as_slice-link-items.ensures c.loop-k-test.true c.link-item.is)) behind);
      clean = c.loop-k.invariant.clean ∙ links_on_slice e child.ports name links c.as_slice-link-items.result.now k link c.as_slice-link-items.ensures c.loop-k-test.true c.link-item.is
          ∙ ap (λ o. option_or o (link_faults e child.ports name (linked_behind [] (take (k + 1) links)) (k + 1) (drop (k + 1) links)))
          (ap (λ n. link_fault e child.ports n linked k link) (sym c.as_slice.ensures) ∙ c.in_ok-refuse_link.ensures.answer linked before);
    }
