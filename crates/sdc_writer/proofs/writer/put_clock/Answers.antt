use Rattle.std.proofs.Common.{◌++◌, codes, ap, ◌∙◌}
use Rattle.std.specs.Fmt.{signed_decimal}
use Rattle.std.specs.List.{flat_map}
use Rattle.line_text.specs.Written.{spaced}
use Rattle.sdc_writer.specs.Texts.{braced, edge_words, object_word}
use Rattle.sdc_writer.proofs.TextLaws.{clock_line}
use Rattle.sdc_writer.proofs.writer.put_clock.Goals as goal

pub returns : goal.returns
returns c =
    let times = c.args.times in
    let named = c.in_ok-put_braced.ensures ∙ ap (λ xs. xs ++ spaced (braced c.args.name.now)) c.in_ok-extend_from_slice.ensures.items in
    let period = c.in_ok-put_period.ensures ∙ ap (λ xs. xs ++ (spaced (codes "-period") ++ spaced (signed_decimal times.period))) named in
    let edges = c.in_ok-put_edges.ensures ∙ ap (λ xs. xs ++ spaced (edge_words times.rise times.fall)) (c.in_ok-extend_from_slice-2.ensures.items ∙ ap (λ xs. xs ++ codes " -waveform") period) in
    c.in_ok-put_objects.ensures ∙ ap (λ xs. xs ++ flat_map spaced (object_word c.args.sources.now)) edges
    ∙ clock_line c.args.out.now.items c.args.name.now (signed_decimal times.period) (edge_words times.rise times.fall) (flat_map spaced (object_word c.args.sources.now))
