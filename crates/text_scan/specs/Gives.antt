-- What a function of a reader answers.
use Rattle.std.specs.Prelude.{◌≡◌, Option, Some, None}

-- what a function returned, seen by view, is what the production gives
abbrev pub Gives : {X Y : Type 0} → (X → Y) → Option X → Option Y → Type 0
Gives view None read = read ≡ None
Gives view (Some x) read = read ≡ Some (view x)
