-- The turns of the loop that reads an expression.
use Rattle.std.proofs.Common.{◌≡◌, ℕ, ◌<◌, ◌==◌, not, Bool, true, false, Option, Some, None, List, [], ◌∷◌, ◌++◌, refl, sym, ap, ◌∙◌}
use Rattle.text_scan.specs.Repeat.{repeat}
use Rattle.verilog_reader.specs.Left.{Left, size}
use Rattle.verilog_reader.specs.Joining.{Joint, is_done, turn, somes, expr}
use Rattle.verilog_reader.specs.Repeats.{GoesOn}
use Rattle.verilog_reader.proofs.RepeatSteps.{begun, turned, turn_missed, ended}
use Rattle.verilog_reader.specs.Answers.{Fails}
use Rattle.verilog_reader.specs.declared.readings.Stop.{Stop}
use Rattle.verilog_reader.specs.declared.readings.Stop.TheVariants.{Syntax, NoMemory}
use Rattle.std.proofs.lemmas.Bool.{and_parts}
use Rattle.bud_syntax.specs.declared.modules.Piece.{Piece}

abbrev pub joint_size : Joint → ℕ
joint_size j = size j.rest

abbrev pub start : Left → Joint
start s = record { depth = 0; wanted = true; rest = s }

-- the pieces so far and those of what is left are all of the expression
pub record IsJoining (s : Left) (pieces : List Piece) (j : Joint) : Type 0 where
  pub found : List (Option Piece)
  pub are : pieces ≡ somes found
  pub goes_on : GoesOn is_done turn joint_size found j (repeat is_done turn (size s) (start s))

somes-append : (xs ys : List (Option Piece)) → somes (xs ++ ys) ≡ somes xs ++ somes ys
somes-append [] ys = refl
somes-append (None ∷ xs) ys = somes-append xs ys
somes-append (Some x ∷ xs) ys = ap (λ zs. x ∷ zs) (somes-append xs ys)

pub joining_begins : (s : Left) → IsJoining s [] (start s)
joining_begins s = record { found = []; are = refl; goes_on = begun is_done turn joint_size (start s) }

pub joining_turns : (s : Left) (pieces more : List Piece) (j k : Joint) (found : Option Piece) → IsJoining s pieces j → is_done j ≡ false → turn j ≡ Some (found, k) →
    size k.rest < size j.rest → more ≡ pieces ++ somes (found ∷ []) → IsJoining s more k
joining_turns s pieces more j k found given goes read less is = record {
  found = given.found ++ found ∷ [];
  are = is ∙ ap (λ xs. xs ++ somes (found ∷ [])) given.are ∙ sym (somes-append given.found (found ∷ []));
  goes_on = turned is_done turn joint_size given.found j k found _ given.goes_on goes read less;
}

joining_misses : (s : Left) (pieces : List Piece) (j : Joint) → IsJoining s pieces j → is_done j ≡ false → turn j ≡ None → expr s ≡ None
unfolding expr
joining_misses s pieces j given goes missed = rw (turn_missed is_done turn joint_size given.found j _ given.goes_on goes missed) refl

pub joining_stops : (s : Left) (pieces : List Piece) (j : Joint) (stop : Stop) → IsJoining s pieces j → is_done j ≡ false → Fails stop (turn j) → Fails stop (expr s)
joining_stops s pieces j (Syntax at) given goes missed = joining_misses s pieces j given goes missed
joining_stops s pieces j NoMemory given goes missed = tt

-- at the end no expression has to come
pub done_apart : (j : Joint) → is_done j ≡ true → j.wanted ≡ false
done_apart j done = not_true j.wanted (and_parts (j.depth == 0) (not j.wanted) done).1 where
  not_true : (b : Bool) → not b ≡ true → b ≡ false
  not_true true h = sym h
  not_true false h = refl

pub joining_ends : (s : Left) (pieces : List Piece) (j : Joint) → IsJoining s pieces j → is_done j ≡ true → expr s ≡ Some (pieces, j.rest)
unfolding expr
joining_ends s pieces j given ends = rw (ended is_done turn joint_size given.found j _ given.goes_on ends, given.are) refl
