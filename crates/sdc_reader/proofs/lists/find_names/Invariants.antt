use Rattle.std.proofs.Common.{◌≡◌, ◌++◌, length, map}
use Rattle.tcl_words.specs.Lists.{elements}
use Rattle.sdc_reader.specs.Brackets.{named_object}
use Rattle.sdc_reader.proofs.lists.find_names.Given as goal

-- what has been found, and what the names that are left find
abbrev pub invariant-loop-name : goal.invariant-loop-name
invariant-loop-name l =
    l.found.items ++ map (λ name. record { at = l.word.at; object = named_object l.kind name }) (elements l.word.kind l.rest)
    ≡ l.fn.found.items ++ map (λ name. record { at = l.word.at; object = named_object l.kind name }) (elements l.word.kind l.word.text)

abbrev pub decreases-loop-name : goal.decreases-loop-name
decreases-loop-name l = length l.rest
