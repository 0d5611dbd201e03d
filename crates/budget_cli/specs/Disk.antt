-- What reading a real file comes to.
use Rattle.std.specs.Prelude.{ℕ, ◌<◌, ◌≤◌, List, length, Result, Ok, Err}
use Rattle.std.specs.declared.io.ErrorKind.{ErrorKind}
use Rattle.std.specs.declared.io.ErrorKind.TheVariants.{NotFound, OutOfMemory}
use Rattle.bud_shelf.specs.Outside.{longest_file}
use Rattle.bud_shelf.specs.declared.shelves.ShelfFault.{ShelfFault}
use Rattle.bud_shelf.specs.declared.shelves.ShelfFault.TheVariants.{Missing, Failed, TooLong, NoMemory}

-- the shelf's answer to an error of the system: only a lack of memory is told as such
abbrev pub fault_of_kind : ErrorKind → ShelfFault
fault_of_kind NotFound = Missing
fault_of_kind OutOfMemory = NoMemory
fault_of_kind _ = Failed

-- the bytes are few enough, or so many are too many
abbrev pub IsLoaded : List ℕ → Result (Unit {0}) ShelfFault → Type 0
IsLoaded bytes (Ok _) = length bytes ≤ longest_file
IsLoaded bytes (Err Missing) = Unit {0}
IsLoaded bytes (Err Failed) = Unit {0}
IsLoaded bytes (Err (TooLong n)) = longest_file < n
IsLoaded bytes (Err NoMemory) = Unit {0}
