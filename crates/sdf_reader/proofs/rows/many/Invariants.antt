use Rattle.std.proofs.Common.{◌≡◌, ◌+◌, ◌≤◌, ℕ, length}
use Rattle.line_text.specs.Spans.{part_of}
use Rattle.sdf_lex.specs.Tokens.{tokens}
use Rattle.sdf_reader.specs.Lefts.{tokens_left, Follows}
use Rattle.sdf_reader.specs.Until.{until}
use Rattle.sdf_reader.specs.Nests.{no_list}
use Rattle.sdf_reader.specs.Cells.{many}
use Rattle.sdf_reader.specs.Contexts.{scope_of}
use Rattle.sdf_reader.proofs.rows.many.Given as goal

-- the rows so far with the entries that are left are those with all of them
abbrev pub invariant-loop-alloc : goal.invariant-loop-alloc
invariant-loop-alloc g l =
    let step = g.E.Entry.production (scope_of l.context) in
    record {
      same : (n : ℕ) × ((length (tokens (part_of l.rest.rest)) ≤ n) × (until (λ t. no_list t.1) step n (l.all, tokens_left l.rest) ≡ many step (l.fn.rows, tokens_left l.left)));
      follows : Follows l.left l.rest;
      size : length l.all + length (tokens (part_of l.rest.rest)) ≤ length l.fn.rows + length (tokens (part_of l.left.rest));
    }

abbrev pub decreases-loop-alloc : goal.decreases-loop-alloc
decreases-loop-alloc g l = length (tokens (part_of l.rest.rest))
