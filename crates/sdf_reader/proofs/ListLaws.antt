-- Lists that are passed over, numbers, and repetitions: what their words mean.
use Rattle.std.proofs.Common.{◌≡◌, ℕ, zero, suc, ◌<◌, ◌≤◌, ◌*◌, nat_lt, Bool, true, if◌then◌else◌, Option, Some, None, List, [], ◌∷◌, ◌++◌, length, refl, sym, ap, ◌∙◌, subst, arith}
use Rattle.std.proofs.lemmas.List.{length-append, nil_from_length, append-nil}
use Rattle.std.proofs.lemmas.Bool.{and_parts, ltb-true, lt-ltb}
use Rattle.std.proofs.lemmas.Option.{same_Some}
use Rattle.text_scan.specs.Left.{Left, ◌>>=◌}
use Rattle.text_scan.specs.Nesting.{closed}
use Rattle.text_scan.specs.Digits.{behind}
use Rattle.text_scan.specs.Decimals.{Decimal, IsLongest, ComesTo, spelling, is_negative, digits_of, fraction_of, scale_of}
use Rattle.text_scan.specs.Scans.{scanned, behind_sign, behind_point}
use Rattle.text_scan.specs.Digits.{value_of}
use Rattle.text_scan.specs.declared.decimals.Round.TheVariants.{Up}
use Rattle.text_scan.proofs.Binds.{step, by_test}
use Rattle.text_scan.proofs.NestingLaws.{closed_sound, closed_complete}
use Rattle.text_scan.proofs.DecimalLaws.{longest_is}
use Rattle.text_scan.proofs.ScanLemmas.{scanned_spelled, scanned_longest, scanned_some}
use Rattle.sdf_lex.specs.Tokens.{Token}
use Rattle.sdf_reader.specs.Marks.{opens, closes, next_is, opening, is_stray}
use Rattle.sdf_reader.specs.Numbers.{is_nil, is_number, amount}
use Rattle.sdf_reader.specs.Nests.{are_tokens, balanced, nested, single, element}
use Rattle.sdf_reader.specs.Lists.{IsListEnd}
use Rattle.sdf_reader.specs.Until.{Until, until}
use Rattle.sdf_reader.specs.Until.Until.{over, turn}
use Rattle.sdf_reader.proofs.NumberLemmas.{rounded_up_is, ten_some}
use Rattle.sdf_reader.proofs.NestLemmas.{open_apart}

-- what is passed is a list
pub list_sound : (left rest : Left Token) → balanced left ≡ Some rest → IsListEnd left rest
unfolding balanced
list_sound left rest read =
    let P : Left Token → Type 0 = λ r. IsListEnd left r in
    step (closed opens closes 0 left.0 >>= λ r. if are_tokens r.0 then Some r.1 else None) (λ ts. Some (ts, left.1)) rest read (λ ts inner whole.
    step (closed opens closes 0 left.0) (λ r. if are_tokens r.0 then Some r.1 else None) ts inner (λ r found checked.
    by_test (are_tokens r.0)
    (λ fine.
    let given = closed_sound opens closes left.0 r.0 r.1 found in
    let same : r.1 ≡ ts = same_Some r.1 ts (rw fine at checked) in
    subst P (same_Some (ts, left.1) rest whole) (record {
      inside = r.0;
      by = given.by;
      whole = given.whole ∙ ap (λ behind. r.0 ++ given.by ∷ behind) same;
      close_is = given.close_is;
      balanced = given.balanced;
      tokens = fine;
      breach = refl;
    }))
    (λ stray. absurd (let none : None ≡ Some ts = rw stray at checked in cc))))

-- and each list is passed
pub list_complete : (left rest : Left Token) → IsListEnd left rest → balanced left ≡ Some rest
unfolding balanced
list_complete left rest given =
    let found : closed opens closes 0 left.0 ≡ Some (given.inside, rest.0) =
    ap (closed opens closes 0) given.whole ∙ closed_complete opens closes given.inside rest.0 given.by given.balanced (open_apart given.by.kind given.close_is) given.close_is in
    rw (found, given.tokens) (ap (λ breach. Some (rest.0, breach)) (sym given.breach))

-- a list leaves fewer tokens
list_less : (left rest : Left Token) → balanced left ≡ Some rest → length rest.0 < length left.0
list_less left rest read =
    let given = list_sound left rest read in
    let sum = length-append given.inside (given.by ∷ rest.0) in
    let same = ap length given.whole in
    omega arith

opening_less : (left rest : Left Token) → opening left ≡ Some rest → length rest.0 < length left.0
unfolding opening
opening_less ([], breach) rest read = absurd (cc)
opening_less (t ∷ ts, breach) rest read = by_test (opens t)
    (λ open_is. (let same : (ts, breach) ≡ rest = same_Some (ts, breach) rest (rw open_is at read) in let tokens = ap (λ r. length r.0) same in omega arith))
    (λ bare. absurd (let none : None ≡ Some rest = rw bare at read in cc))

pub nested_less : (left rest : Left Token) → nested left ≡ Some rest → length rest.0 < length left.0
unfolding nested
nested_less left rest read = step (opening left) balanced rest read (λ inside open_is behind.
    let more = opening_less left inside open_is in
    let less = list_less inside rest behind in
    omega arith)

single_less : (left rest : Left Token) → single left ≡ Some rest → length rest.0 < length left.0
unfolding single
single_less ([], breach) rest read = absurd (cc)
single_less (t ∷ ts, breach) rest read = by_test (is_stray t.kind)
    (λ stray. absurd (let none : None ≡ Some rest = rw stray at read in cc))
    (λ fine. by_test (closes t)
    (λ close_is. absurd (let none : None ≡ Some rest = rw (fine, close_is) at read in cc))
    (λ other. (let same : (ts, breach) ≡ rest = same_Some (ts, breach) rest (rw (fine, other) at read) in let tokens = ap (λ r. length r.0) same in omega arith)))

pub element_less : (left rest : Left Token) → element left ≡ Some rest → length rest.0 < length left.0
unfolding element
element_less left rest read = by_test (next_is opens left)
    (λ open_is. nested_less left rest (rw open_is at read))
    (λ bare. single_less left rest (rw bare at read))

nil_is : (xs : List ℕ) → is_nil xs ≡ true → xs ≡ []
nil_is [] is = refl
nil_is (x ∷ xs) is = absurd (cc)

-- a word that is a number spells one
pub number_sound : (unit : ℕ) (word : List ℕ) → is_number word ≡ true → (d : Decimal) × (IsLongest word d × (spelling d ≡ word) × ComesTo unit Up d (amount unit word))
number_sound unit word number =
    let s = scanned word in
    let parts = and_parts (is_nil (behind_point (behind (behind_sign word)))) (nat_lt 0 (length (digits_of s))) number in
    let nothing = nil_is (behind_point (behind (behind_sign word))) parts.0 in
    let spelled = scanned_spelled word in (
      s,
      (
        scanned_longest word (ltb-true 0 (length (digits_of s)) parts.1),
        sym (spelled ∙ ap (λ rest. spelling s ++ rest) nothing ∙ append-nil (spelling s)),
        rounded_up_is (is_negative s.sign) (unit * value_of (digits_of s)) (scale_of s) (ten_some (length (fraction_of s.point))),
      ),
    )

-- and each word that spells one is a number
pub number_complete : (word : List ℕ) (d : Decimal) → IsLongest word d → spelling d ≡ word → is_number word ≡ true
number_complete word d longest spelled =
    let s = scanned word in
    let same : spelling s ≡ word = ap spelling (sym (longest_is word d longest)) ∙ spelled in
    let sum = length-append (spelling s) (behind_point (behind (behind_sign word))) in
    let whole = ap length (scanned_spelled word) in
    let short = ap length same in
    let nothing = nil_from_length (behind_point (behind (behind_sign word))) (omega arith) in
    let some = lt-ltb 0 (length (digits_of s)) (scanned_some word d longest.begins) in
    rw (nothing, some) refl

-- what is read as a repetition is one
pub until_sound : {S : Type 0} (stops : S → Bool) (next : S → Option S) (n : ℕ) (s t : S) → until stops next n s ≡ Some t → Until stops next s t
unfolding until
until_sound {S} stops next zero s t read =
    let P : S → Type 0 = λ r. Until stops next s r in
    by_test (stops s) (λ ends. subst P (same_Some s t (rw ends at read)) (over s ends)) (λ goes_on. absurd (let none : None ≡ Some t = rw goes_on at read in cc))
until_sound {S} stops next (suc n) s t read =
    let P : S → Type 0 = λ r. Until stops next s r in
    by_test (stops s)
    (λ ends. subst P (same_Some s t (rw ends at read)) (over s ends))
    (λ goes_on. step (next s) (λ r. until stops next n r) t (rw goes_on at read) (λ r taken behind. turn s r t goes_on taken (until_sound stops next n r t behind)))

-- and all repetitions are read, where each step leaves less
pub until_complete : {S : Type 0} (stops : S → Bool) (next : S → Option S) (size : S → ℕ) → ((s t : S) → next s ≡ Some t → size t < size s) →
    (n : ℕ) (s t : S) → Until stops next s t → size s ≤ n → until stops next n s ≡ Some t
unfolding until
until_complete stops next size less zero _ _ (over s ends) room = rw ends refl
until_complete stops next size less (suc n) _ _ (over s ends) room = rw ends refl
until_complete stops next size less zero _ _ (turn s t u goes_on taken runs) room = absurd (let fewer = less s t taken in omega arith)
until_complete stops next size less (suc n) _ _ (turn s t u goes_on taken runs) room =
    let fewer = less s t taken in
    rw (goes_on, taken) (until_complete stops next size less n t u runs (omega arith))
