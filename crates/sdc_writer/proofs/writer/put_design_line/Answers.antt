use Rattle.std.proofs.Common.{◌++◌, ◌∷◌, [], ap, ◌∙◌}
use Rattle.line_text.specs.Written.{spaced}
use Rattle.sdc_writer.specs.Texts.{braced}
use Rattle.sdc_writer.proofs.TextLaws.{design_line}
use Rattle.sdc_writer.proofs.writer.put_design_line.Goals as goal

pub returns : goal.returns
returns c =
    c.in_ok-push.ensures.items ∙ ap (λ xs. xs ++ 10 ∷ []) (c.in_ok-put_braced.ensures ∙ ap (λ xs. xs ++ spaced (braced c.args.name.now)) c.in_ok-extend_from_slice.ensures.items)
    ∙ design_line c.args.out.now.items c.args.name.now
