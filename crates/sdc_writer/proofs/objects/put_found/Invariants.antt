use Rattle.std.proofs.Common.{◌≡◌, ◌++◌, drop}
use Rattle.std.specs.List.{flat_map}
use Rattle.line_text.specs.Written.{spaced}
use Rattle.sdc_writer.specs.Texts.{found_by, names_as}
use Rattle.sdc_writer.specs.Listing.{names_left}
use Rattle.sdc_writer.proofs.objects.put_found.Given as goal

-- what is written so far and what is left are the whole
abbrev pub invariant-loop-object : goal.invariant-loop-object
invariant-loop-object l =
    l.out.items ++ names_left l.kind l.begun (names_as l.kind (drop l.object-index l.objects)) ≡ l.fn.out.items ++ flat_map spaced (found_by l.kind (names_as l.kind l.objects))
