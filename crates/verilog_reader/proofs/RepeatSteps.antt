-- The turns of a loop that repeats a production.
use Rattle.std.proofs.Common.{◌≡◌, ℕ, zero, suc, ◌<◌, ◌≤◌, Bool, true, false, Option, Some, None, List, [], ◌∷◌, ◌++◌, refl, sym, ap, ◌∙◌, arith, append_assoc}
use Rattle.std.proofs.lemmas.List.{append-nil}
use Rattle.text_scan.specs.Left.{◌>>=◌}
use Rattle.text_scan.specs.Repeat.{repeat}
use Rattle.verilog_reader.specs.Answers.{Fails}
use Rattle.verilog_reader.specs.declared.readings.Stop.{Stop}
use Rattle.verilog_reader.specs.declared.readings.Stop.TheVariants.{Syntax, NoMemory}
use Rattle.verilog_reader.specs.Repeats.{behind_values, GoesOn}

-- what is read with one value in front
one_more : {S X : Type 0} (found : List X) (x : X) (read : Option (List X × S)) →
    behind_values found (read >>= λ r. Some (x ∷ r.0, r.1)) ≡ behind_values (found ++ x ∷ []) read
one_more found x None = refl
one_more found x (Some r) = ap (λ xs. Some (xs, r.1)) (sym (append_assoc found (x ∷ []) r.0))

turn_read : {S X : Type 0} (stops : S → Bool) (step : S → Option (X × S)) (turns : ℕ) (found : List X) (s t : S) (x : X) →
    stops s ≡ false → step s ≡ Some (x, t) → behind_values found (repeat stops step (suc turns) s) ≡ behind_values (found ++ x ∷ []) (repeat stops step turns t)
unfolding repeat
turn_read stops step turns found s t x goes read = rw (goes, read) (one_more found x (repeat stops step turns t))

-- before the first turn
pub begun : {S X : Type 0} (stops : S → Bool) (step : S → Option (X × S)) (size : S → ℕ) (s : S) → GoesOn stops step size [] s (repeat stops step (size s) s)
begun stops step size s = record { turns = size s; room = omega arith; same = nothing_before (repeat stops step (size s) s) } where
  nothing_before : {S X : Type 0} (read : Option (List X × S)) → behind_values [] read ≡ read
  nothing_before None = refl
  nothing_before (Some r) = refl

-- a turn
pub turned : {S X : Type 0} (stops : S → Bool) (step : S → Option (X × S)) (size : S → ℕ) (found : List X) (s t : S) (x : X) (all : Option (List X × S)) →
    GoesOn stops step size found s all → stops s ≡ false → step s ≡ Some (x, t) → size t < size s → GoesOn stops step size (found ++ x ∷ []) t all
turned stops step size found s t x all given goes read less = with_turns given.turns given.room given.same where
  with_turns : (turns : ℕ) → size s ≤ turns → behind_values found (repeat stops step turns s) ≡ all → GoesOn stops step size (found ++ x ∷ []) t all
  with_turns zero room same = absurd (omega arith)
  with_turns (suc n) room same = record { turns = n; room = omega arith; same = sym (turn_read stops step n found s t x goes read) ∙ same }

missed : {S X : Type 0} (stops : S → Bool) (step : S → Option (X × S)) (turns : ℕ) (s : S) → stops s ≡ false → step s ≡ None → repeat stops step turns s ≡ None
unfolding repeat
missed stops step zero s goes none = rw goes refl
missed stops step (suc n) s goes none = rw (goes, none) refl

over : {S X : Type 0} (stops : S → Bool) (step : S → Option (X × S)) (turns : ℕ) (s : S) → stops s ≡ true → repeat stops step turns s ≡ Some ([], s)
unfolding repeat
over stops step zero s ends = rw ends refl
over stops step (suc n) s ends = rw ends refl

-- a turn that can't be read
pub turn_missed : {S X : Type 0} (stops : S → Bool) (step : S → Option (X × S)) (size : S → ℕ) (found : List X) (s : S) (all : Option (List X × S)) →
    GoesOn stops step size found s all → stops s ≡ false → step s ≡ None → all ≡ None
turn_missed stops step size found s all given goes none = sym given.same ∙ ap (behind_values found) (missed stops step given.turns s goes none)

pub turn_stops : {S X : Type 0} (stops : S → Bool) (step : S → Option (X × S)) (size : S → ℕ) (found : List X) (s : S) (all : Option (List X × S)) (stop : Stop) →
    GoesOn stops step size found s all → stops s ≡ false → Fails stop (step s) → Fails stop all
turn_stops stops step size found s all (Syntax at) given goes none = turn_missed stops step size found s all given goes none
turn_stops stops step size found s all NoMemory given goes none = tt

-- behind the last turn
pub ended : {S X : Type 0} (stops : S → Bool) (step : S → Option (X × S)) (size : S → ℕ) (found : List X) (s : S) (all : Option (List X × S)) →
    GoesOn stops step size found s all → stops s ≡ true → all ≡ Some (found, s)
ended stops step size found s all given ends =
    sym given.same ∙ ap (behind_values found) (over stops step given.turns s ends) ∙ ap (λ xs. Some (xs, s)) (append-nil found)
