-- Lists of times, element by element.
use Rattle.std.proofs.Common.{◌≡◌, ℕ, ℤ, List, [], ◌∷◌, ◌++◌, Ok, Err, refl, ap, ◌∙◌, append_assoc}
use Rattle.text_scan.specs.declared.decimals.Round.TheVariants.{Down}
use Rattle.sdc_reader.specs.declared.faults.SdcFault.{SdcFault}
use Rattle.sdc_reader.specs.Answers.{Answer, Fails, ◌>>=◌}
use Rattle.sdc_reader.specs.Numbers.{time}
use Rattle.sdc_reader.specs.Values.{times}
use Rattle.sdc_reader.proofs.AnswerLemmas.{fails_behind}

-- with these times before them
abbrev pub with_times : List ℤ → Answer (List ℤ) → Answer (List ℤ)
with_times found read = read >>= λ others. Ok (found ++ others)

with_one : (found : List ℤ) (x : ℤ) (read : Answer (List ℤ)) → with_times (found ++ x ∷ []) read ≡ with_times found (read >>= λ rest. Ok (x ∷ rest))
with_one found x (Ok others) = ap (λ ys. Ok ys) (append_assoc found (x ∷ []) others)
with_one found x (Err fault) = refl

pub times_turn : (unit at : ℕ) (found : List ℤ) (element : List ℕ) (all others : List (List ℕ)) (x : ℤ) → all ≡ element ∷ others → time unit Down at element ≡ Ok x →
    with_times (found ++ x ∷ []) (times unit at others) ≡ with_times found (times unit at all)
unfolding times
times_turn unit at found element all others x is read = with_one found x (times unit at others) ∙ rw (is, read) refl

pub times_fails : (unit at : ℕ) (found : List ℤ) (element : List ℕ) (all others : List (List ℕ)) (fault : SdcFault) → all ≡ element ∷ others → Fails fault (time unit Down at element) →
    Fails fault (with_times found (times unit at all))
unfolding times
times_fails unit at found element all others fault is fails =
    rw is
    (fails_behind fault (times unit at (element ∷ others)) (λ ys. Ok (found ++ ys))
    (fails_behind fault (time unit Down at element) (λ first. times unit at others >>= λ rest. Ok (first ∷ rest)) fails))

pub times_end : (unit at : ℕ) (found : List ℤ) (all : List (List ℕ)) → all ≡ [] → with_times found (times unit at all) ≡ Ok (found ++ [])
unfolding times
times_end unit at found all is = rw is refl
