use Rattle.std.proofs.Common.{◌≡◌, ◌++◌, OnOk, sym, ◌∙◌, subst}
use Rattle.sdc_writer.proofs.TextLaws.{together}
use Rattle.sdc_writer.proofs.objects.put_objects.Goals as goal

pub returns-then-are_mixed : goal.returns-then-are_mixed
returns-then-are_mixed c =
    subst (λ xs. OnOk c.put_list.result (c.put_list.new.out.items ≡ c.args.out.now.items ++ xs)) (sym (together c.args.objects.now (sym c.are_mixed.ensures ∙ c.if-are_mixed.true))) c.put_list.ensures
