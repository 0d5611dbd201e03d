-- What judging commands answers: a value, or the first refusal.
use Rattle.std.specs.Prelude.{◌≡◌, List, [], ◌∷◌, ◌++◌, Result, Ok, Err}
use Rattle.timing_objects.specs.declared.faults.ResolveFault.{ResolveFault}
use Rattle.timing_objects.specs.declared.faults.ResolveFault.TheVariants.{UnknownObject, UnknownClock, NotASource, NotAStart, NotAnEnd, NotAPin, ClockTwice, BadWaveform, NoMemory}

abbrev pub Answer : Type 0 → Type 0
Answer X = Result X ResolveFault

-- one step after the other, up to the first refusal
infixl 10 ◌>>=◌
abbrev pub ◌>>=◌ : {A B : Type 0} → Result A ResolveFault → (A → Result B ResolveFault) → Result B ResolveFault
(Ok x) >>= f = f x
(Err fault) >>= f = Err fault

-- what each gives, one after the other, up to the first refusal
abbrev pub each : {A B : Type 0} → (A → Answer (List B)) → List A → Answer (List B)
each f [] = Ok []
each f (x ∷ xs) = do
  found ← f x
  others ← each f xs
  Ok (found ++ others)

-- the definition refuses so, unless memory ran out
abbrev pub Fails : {X : Type 0} → ResolveFault → Answer X → Type 0
Fails (UnknownObject name) answer = answer ≡ Err (UnknownObject name)
Fails (UnknownClock name) answer = answer ≡ Err (UnknownClock name)
Fails (NotASource name) answer = answer ≡ Err (NotASource name)
Fails (NotAStart name) answer = answer ≡ Err (NotAStart name)
Fails (NotAnEnd name) answer = answer ≡ Err (NotAnEnd name)
Fails (NotAPin name) answer = answer ≡ Err (NotAPin name)
Fails (ClockTwice name) answer = answer ≡ Err (ClockTwice name)
Fails (BadWaveform name) answer = answer ≡ Err (BadWaveform name)
Fails NoMemory answer = Unit {0}

-- what a function returned is what the definition answers, unless memory ran out
abbrev pub Gives : {X : Type 0} → Result X ResolveFault → Answer X → Type 0
Gives (Ok x) answer = answer ≡ Ok x
Gives (Err fault) answer = Fails fault answer

-- a fault is this one, unless memory ran out
abbrev pub IsFault : ResolveFault → ResolveFault → Type 0
IsFault (UnknownObject name) fault = fault ≡ UnknownObject name
IsFault (UnknownClock name) fault = fault ≡ UnknownClock name
IsFault (NotASource name) fault = fault ≡ NotASource name
IsFault (NotAStart name) fault = fault ≡ NotAStart name
IsFault (NotAnEnd name) fault = fault ≡ NotAnEnd name
IsFault (NotAPin name) fault = fault ≡ NotAPin name
IsFault (ClockTwice name) fault = fault ≡ ClockTwice name
IsFault (BadWaveform name) fault = fault ≡ BadWaveform name
IsFault NoMemory fault = Unit {0}
