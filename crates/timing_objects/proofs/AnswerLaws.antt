-- Refusals that go on through a definition.
use Rattle.std.proofs.Common.{◌≡◌, List, ◌++◌, drop, length, get_or, ℕ, ◌+◌, ◌<◌, Ok, Err, refl, sym, ◌∙◌, ap, subst, append_assoc}
use Rattle.std.proofs.lemmas.List.{at_drop_more}
use Rattle.timing_objects.specs.declared.faults.ResolveFault.{ResolveFault}
use Rattle.timing_objects.specs.declared.faults.ResolveFault.TheVariants.{UnknownObject, UnknownClock, NotASource, NotAStart, NotAnEnd, NotAPin, ClockTwice, BadWaveform, NoMemory}
use Rattle.timing_objects.specs.Answers.{Answer, ◌>>=◌, each, Fails, IsFault}

-- where the first is refused, the whole is
pub fails_behind : {A B : Type 0} (fault : ResolveFault) (answer : Answer A) (f : A → Answer B) → Fails fault answer → Fails fault (answer >>= f)
fails_behind (UnknownObject name) answer f is = rw is refl
fails_behind (UnknownClock name) answer f is = rw is refl
fails_behind (NotASource name) answer f is = rw is refl
fails_behind (NotAStart name) answer f is = rw is refl
fails_behind (NotAnEnd name) answer f is = rw is refl
fails_behind (NotAPin name) answer f is = rw is refl
fails_behind (ClockTwice name) answer f is = rw is refl
fails_behind (BadWaveform name) answer f is = rw is refl
fails_behind NoMemory answer f is = tt

pub fails_same : {A : Type 0} (fault : ResolveFault) (answer other : Answer A) → other ≡ answer → Fails fault answer → Fails fault other
fails_same fault answer other same is = subst (Fails fault) (sym same) is

-- a fault that is told refuses
pub fails_by : {A : Type 0} (fault expected : ResolveFault) (answer : Answer A) → IsFault fault expected → answer ≡ Err expected → Fails fault answer
fails_by (UnknownObject name) expected answer told is = is ∙ ap (λ (f : ResolveFault). Err f) told
fails_by (UnknownClock name) expected answer told is = is ∙ ap (λ (f : ResolveFault). Err f) told
fails_by (NotASource name) expected answer told is = is ∙ ap (λ (f : ResolveFault). Err f) told
fails_by (NotAStart name) expected answer told is = is ∙ ap (λ (f : ResolveFault). Err f) told
fails_by (NotAnEnd name) expected answer told is = is ∙ ap (λ (f : ResolveFault). Err f) told
fails_by (NotAPin name) expected answer told is = is ∙ ap (λ (f : ResolveFault). Err f) told
fails_by (ClockTwice name) expected answer told is = is ∙ ap (λ (f : ResolveFault). Err f) told
fails_by (BadWaveform name) expected answer told is = is ∙ ap (λ (f : ResolveFault). Err f) told
fails_by NoMemory expected answer told is = tt

-- ---- one after the other
-- these, and then what the rest gives
abbrev pub behind : {B : Type 0} → List B → Answer (List B) → Answer (List B)
behind found (Ok others) = Ok (found ++ others)
behind found (Err fault) = Err fault

behind-behind : {B : Type 0} (xs ys : List B) (rest : Answer (List B)) → behind xs (behind ys rest) ≡ behind (xs ++ ys) rest
behind-behind xs ys (Ok zs) = ap (λ (l : List _). Ok l) (sym (append_assoc xs ys zs))
behind-behind xs ys (Err fault) = refl

behind-is : {B : Type 0} (found : List B) (rest : Answer (List B)) → (rest >>= λ others. Ok (found ++ others)) ≡ behind found rest
behind-is found (Ok others) = refl
behind-is found (Err fault) = refl

each-step : {A B : Type 0} (f : A → Answer (List B)) (xs : List A) (i : ℕ) (d : A) → i < length xs
    → each f (drop i xs) ≡ (f (get_or xs i d) >>= λ found. each f (drop (i + 1) xs) >>= λ others. Ok (found ++ others))
each-step f xs i d below = at_drop_more (each f) xs i d below

-- the first of those that are left gives these
pub each_more : {A B : Type 0} (f : A → Answer (List B)) (xs : List A) (i : ℕ) (d : A) (so_far found so_far' : List B) (answer : Answer (List B)) → i < length xs
    → f (get_or xs i d) ≡ Ok found → so_far' ≡ so_far ++ found → answer ≡ behind so_far (each f (drop i xs)) → answer ≡ behind so_far' (each f (drop (i + 1) xs))
each_more f xs i d so_far found so_far' answer below gives longer is =
    is ∙ (ap (behind so_far) (each-step f xs i d below ∙ (rw gives (behind-is found (each f (drop (i + 1) xs)))))
    ∙ (behind-behind so_far found (each f (drop (i + 1) xs)) ∙ ap (λ (l : List _). behind l (each f (drop (i + 1) xs))) (sym longer)))

pub behind_fails : {B : Type 0} (fault : ResolveFault) (found : List B) (rest : Answer (List B)) → Fails fault rest → Fails fault (behind found rest)
behind_fails fault found rest is = fails_same fault (rest >>= λ others. Ok (found ++ others)) (behind found rest) (sym (behind-is found rest)) (fails_behind fault rest (λ others. Ok (found ++ others)) is)

pub each_fails : {A B : Type 0} (f : A → Answer (List B)) (xs : List A) (i : ℕ) (d : A) (so_far : List B) (answer : Answer (List B)) (fault : ResolveFault) → i < length xs
    → Fails fault (f (get_or xs i d)) → answer ≡ behind so_far (each f (drop i xs)) → Fails fault answer
each_fails f xs i d so_far answer fault below fails is =
    fails_same fault (behind so_far (each f (drop i xs))) answer is
    (behind_fails fault so_far (each f (drop i xs))
    (fails_same fault (f (get_or xs i d) >>= λ found. each f (drop (i + 1) xs) >>= λ others. Ok (found ++ others)) (each f (drop i xs)) (each-step f xs i d below)
    (fails_behind fault (f (get_or xs i d)) (λ found. each f (drop (i + 1) xs) >>= λ others. Ok (found ++ others)) fails)))
