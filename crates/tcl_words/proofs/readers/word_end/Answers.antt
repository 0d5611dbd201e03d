use Rattle.std.proofs.Common.{◌≡◌, true, false, rules}
use Rattle.tcl_words.specs.Scanning.{left, ends_by, is_behind}
use Rattle.tcl_words.proofs.ReadLemmas.{bracket_found, bracket_missing, bracket_joined, simple_found, simple_missing}
use Rattle.tcl_words.proofs.readers.word_end.Goals as goal

pub returns-in_err-end-in-Bracket-clause-stands : goal.returns-in_err-end-in-Bracket-clause-stands
returns-in_err-end-in-Bracket-clause-stands c =
    rw c.from_residual-in_err-end-in-Bracket.ensures
    (λ place. bracket_missing c.args.scope place _ _ _ _ c.in_ok-first.ensures.first c.kind_of.ensures c.in-Bracket.is c.in_err-end-in-Bracket.ensures.closed)

pub returns-in_err-end-in_default : goal.returns-in_err-end-in_default
returns-in_err-end-in_default c =
    rw c.from_residual-in_err-end-in_default.ensures
    (record { stands = λ place. simple_missing c.args.scope place _ _ _ _ c.in_ok-first.ensures.first c.kind_of.ensures (search rules) c.in_err-end-in_default.ensures.rest; order = tt })

pub returns-then-ends_word-clause-stands : goal.returns-then-ends_word-clause-stands
returns-then-ends_word-clause-stands c =
    let over : ends_by (is_behind c.args.scope) (left c.args.text.now c.in_ok-end-in-Bracket.end) ≡ true = search rules in
    λ place. bracket_found c.args.scope place _ _ _ _ _ c.in_ok-first.ensures.first c.kind_of.ensures c.in-Bracket.is c.in_ok-end-in-Bracket.ensures.closed over

pub returns-else-ends_word-clause-stands : goal.returns-else-ends_word-clause-stands
returns-else-ends_word-clause-stands c =
    let on : ends_by (is_behind c.args.scope) (left c.args.text.now c.in_ok-end-in-Bracket.end) ≡ false = search rules in
    λ place. bracket_joined c.args.scope place _ _ _ _ _ c.in_ok-first.ensures.first c.kind_of.ensures c.in-Bracket.is c.in_ok-end-in-Bracket.ensures.closed on

pub returns-in_ok-end-in_default : goal.returns-in_ok-end-in_default
returns-in_ok-end-in_default c =
    record { stands = λ place. simple_found c.args.scope place _ _ _ _ _ c.in_ok-first.ensures.first c.kind_of.ensures c.in_ok-end-in_default.ensures.rest; order = search rules }
