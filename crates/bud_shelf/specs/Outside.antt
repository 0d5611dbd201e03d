-- What is outside the program: the files of a shelf, the bytes that a sink took, and counts of faults.
-- A shelf or a sink may tell its content, as `Some`; of one that does not, as `None`, less is said.
use Rattle.std.specs.Prelude.{◌≡◌, ◌≢◌, ℕ, ◌+◌, ◌-◌, ◌^◌, ◌<◌, ◌≤◌, min, List, [], ◌++◌, take, length, Option, Some, None, Result, Ok, Err}
use Rattle.std.specs.Option.{option_map}
use Rattle.std.specs.Ordering.{nat_cmp}
use Rattle.std.specs.Cmp.Lexicographic.{slice_cmp}
use Rattle.std.specs.FinMap.{FinMap, get, insert}
use Rattle.bud_shelf.specs.declared.shelves.ShelfFault.{ShelfFault}
use Rattle.bud_shelf.specs.declared.shelves.ShelfFault.TheVariants.{Missing, Failed, TooLong, NoMemory}
use Rattle.bud_shelf.specs.declared.sinks.SinkFault.{SinkFault}
use Rattle.bud_shelf.specs.declared.sinks.SinkFault.TheVariants.{Failed as SinkFailed, NoMemory as SinkNoMemory}

-- the bytes of each file, by the bytes of its name
abbrev pub Files : Type 0
Files = FinMap (slice_cmp nat_cmp) (List ℕ)

-- the most bytes of one file that a shelf reads
abbrev pub longest_file : ℕ
longest_file = 268435456

-- a count rose; one that stands at 2^64 - 1, its last value, may stay
abbrev pub Rose : ℕ → ℕ → Type 0
Rose before now = min (before + 1) (2 ^ 64 - 1) ≤ now

-- the file of this name holds exactly these bytes
abbrev pub IsFile : Option Files → List ℕ → List ℕ → Type 0
IsFile (Some files) name bytes = get files name ≡ Some bytes
IsFile None name bytes = Unit {0}

-- the file of this name has this many bytes
abbrev pub HasLength : Option Files → List ℕ → ℕ → Type 0
HasLength (Some files) name n = option_map length (get files name) ≡ Some n
HasLength None name n = Unit {0}

-- there is no file of this name; where no file is told, the count rose
abbrev pub IsMissing : Option Files → List ℕ → ℕ → ℕ → Type 0
IsMissing (Some files) name before now = get files name ≡ None
IsMissing None name before now = Rose before now

-- what `read` left in its buffer, and why it answered so, at a count before and now
abbrev pub IsReadAnswer : Option Files → ℕ → ℕ → List ℕ → List ℕ → Result (Unit {0}) ShelfFault → Type 0
IsReadAnswer files before now name into (Ok _) = IsFile files name into × (length into ≤ longest_file)
IsReadAnswer files before now name into (Err Missing) = (into ≡ []) × IsMissing files name before now
IsReadAnswer files before now name into (Err Failed) = (into ≡ []) × Rose before now
IsReadAnswer files before now name into (Err (TooLong n)) = (into ≡ []) × (longest_file < n) × HasLength files name n
IsReadAnswer files before now name into (Err NoMemory) = into ≡ []

-- the named file holds exactly these bytes and all others stay
abbrev pub IsWritten : Option Files → Option Files → List ℕ → List ℕ → Type 0
IsWritten (Some old) new name bytes = new ≡ Some (insert old name bytes)
IsWritten None new name bytes = Unit {0}

-- all files but the named one stay
abbrev pub OthersStay : Option Files → Option Files → List ℕ → Type 0
OthersStay (Some old) (Some new) name = (other : List ℕ) → other ≢ name → get new other ≡ get old other
OthersStay (Some old) None name = ⊥
OthersStay None new name = Unit {0}

-- what `write` did to the files, and why it answered so, at a count before and now
abbrev pub IsWriteAnswer : Option Files → Option Files → ℕ → ℕ → List ℕ → List ℕ → Result (Unit {0}) ShelfFault → Type 0
IsWriteAnswer old new before now name bytes (Ok _) = IsWritten old new name bytes
IsWriteAnswer old new before now name bytes (Err Missing) = ⊥
IsWriteAnswer old new before now name bytes (Err Failed) = OthersStay old new name × Rose before now
IsWriteAnswer old new before now name bytes (Err (TooLong n)) = ⊥
IsWriteAnswer old new before now name bytes (Err NoMemory) = OthersStay old new name

-- the whole piece was appended
abbrev pub IsAppended : Option (List ℕ) → Option (List ℕ) → List ℕ → Type 0
IsAppended (Some old) new piece = new ≡ Some (old ++ piece)
IsAppended None new piece = Unit {0}

-- a prefix of the piece was appended, which may be empty or the whole
abbrev pub IsPartlyAppended : Option (List ℕ) → Option (List ℕ) → List ℕ → Type 0
IsPartlyAppended (Some old) new piece = (n : ℕ) × (new ≡ Some (old ++ take n piece))
IsPartlyAppended None new piece = Unit {0}

-- what `put` appended, and why it answered so, at a count before and now
abbrev pub IsPutAnswer : Option (List ℕ) → Option (List ℕ) → ℕ → ℕ → List ℕ → Result (Unit {0}) SinkFault → Type 0
IsPutAnswer old new before now piece (Ok _) = IsAppended old new piece
IsPutAnswer old new before now piece (Err SinkFailed) = IsPartlyAppended old new piece × Rose before now
IsPutAnswer old new before now piece (Err SinkNoMemory) = IsPartlyAppended old new piece
