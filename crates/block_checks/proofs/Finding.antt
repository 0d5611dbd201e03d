-- What is found in two lists, one behind the other.
use Rattle.std.specs.Prelude.{◌≡◌, Bool, List, ◌++◌, find}
use Rattle.std.specs.Option.{option_or}
use Rattle.std.proofs.lemmas.List.Folds.{find-append}

pub find_both : {X : Type 0} (p : X → Bool) (xs ys : List X) → find p (xs ++ ys) ≡ option_or (find p xs) (find p ys)
find_both p xs ys = find-append p xs ys
