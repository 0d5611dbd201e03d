-- Numbered commands.
use Rattle.std.proofs.Common.{◌≡◌, ℕ, suc, ◌<◌, ◌+◌, List, [], ◌∷◌, ◌++◌, length, All, arith, ap, sym, ◌∙◌, subst, refl, slice_index_or, zero, Result, Ok, Err, IfOk, length-append}
use Rattle.std.specs.declared.alloc.AllocError.{AllocError}
use Rattle.std.proofs.lemmas.List.Elements.{All-nil, All-cons, All-head}
use Rattle.bud_syntax.specs.Ranges.{IsReadCommand}
use Rattle.bud_syntax.specs.declared.constraints.SdcCommand.{SdcCommand}
use Rattle.bud_design.specs.declared.policies.NumberedCommand.{NumberedCommand}
use Rattle.budget_designs.specs.Designs.{numbered_from, numbered}
use Rattle.budget_designs.specs.Layerings.{AreResolvable}

abbrev pub with_number : ℕ → SdcCommand → NumberedCommand
with_number n command = record { number = n; command = command }

numbered-length : (n : ℕ) (commands : List SdcCommand) → length (numbered_from n commands) ≡ length commands
numbered-length n [] = refl
numbered-length n (c ∷ cs) = ap (λ (k : ℕ). suc k) (numbered-length (suc n) cs)

-- one command more
numbered-more : (n : ℕ) (commands : List SdcCommand) (c : SdcCommand) → numbered_from n (commands ++ c ∷ []) ≡ numbered_from n commands ++ with_number (n + length commands) c ∷ []
numbered-more n [] c = ap (λ (k : ℕ). with_number k c ∷ []) (omega arith)
numbered-more n (x ∷ xs) c =
    ap (λ (ys : List NumberedCommand). with_number n x ∷ ys)
    (numbered-more (suc n) xs c ∙ ap (λ (k : ℕ). numbered_from (suc n) xs ++ with_number k c ∷ []) (omega arith))

pub numbers_on : (commands : List SdcCommand) (list : List NumberedCommand) (c : SdcCommand) (number : ℕ) → list ≡ numbered commands → number ≡ suc (length list)
    → list ++ with_number number c ∷ [] ≡ numbered (commands ++ c ∷ [])
numbers_on commands list c number is next =
    ap (λ (ys : List NumberedCommand). ys ++ with_number number c ∷ []) is
    ∙ (ap (λ (k : ℕ). numbered commands ++ with_number k c ∷ []) (let long = ap (λ (ys : List NumberedCommand). length ys) is in let same = numbered-length 1 commands in omega (arith, next, long, same))
    ∙ sym (numbered-more 1 commands c))

read-commands : (n : ℕ) (commands : List SdcCommand) → All IsReadCommand commands → All (λ (x : NumberedCommand). IsReadCommand x.command) (numbered_from n commands)
read-commands n [] read = All-nil _
read-commands n (c ∷ cs) read =
    All-cons (λ (x : NumberedCommand). IsReadCommand x.command) (with_number n c) (numbered_from (suc n) cs) (All-head IsReadCommand c cs read)
    (read-commands (suc n) cs (λ k e below. read (suc k) e (omega (arith, below))))

number-from : (n : ℕ) (commands : List SdcCommand) (k : ℕ) (e : NumberedCommand) → k < length (numbered_from n commands) → (slice_index_or (numbered_from n commands) k e).number ≡ n + k
number-from n [] k e below = absurd (omega (arith, below))
number-from n (c ∷ cs) zero e below = omega arith
number-from n (c ∷ cs) (suc k) e below = number-from (suc n) cs k e (omega (arith, below)) ∙ omega arith

pub resolvable : (commands : List SdcCommand) (list : List NumberedCommand) → list ≡ numbered commands → All IsReadCommand commands → length list < 2147483648 → AreResolvable list
resolvable commands list is read few =
    subst AreResolvable (sym is)
    (record {
      few = subst (λ (xs : List NumberedCommand). length xs < 2147483648) is few;
      read = read-commands 1 commands read;
      rising = λ i j e less below.
          (let first = number-from 1 commands i e (omega (arith, less, below)) in
          let second = number-from 1 commands j e below in
          omega (arith, first, second, less));
    })

pub resolvable_list : (commands : List SdcCommand) (r : Result (List NumberedCommand) AllocError) → All IsReadCommand commands → IfOk r (λ list. list ≡ numbered commands)
    → IfOk r (λ list. length list < 2147483648) → IfOk r AreResolvable
resolvable_list commands (Ok list) read is few = resolvable commands list is read few
resolvable_list commands (Err e) read is few = is

pub numbers_few : (list : List NumberedCommand) (c : SdcCommand) (number : ℕ) (more : List NumberedCommand) → more ≡ list ++ with_number number c ∷ [] → number ≡ suc (length list)
    → number < 2147483648 → length more < 2147483648
numbers_few list c number more is next few =
    let long = ap (λ (ys : List NumberedCommand). length ys) is in
    let added = length-append list (with_number number c ∷ []) in
    omega (arith, long, added, next, few)
