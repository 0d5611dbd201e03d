-- Words in brackets: their size, and their opening.
use Rattle.std.proofs.Common.{◌≡◌, ℕ, ◌+◌, ◌*◌, ◌^◌, ◌<◌, ◌≤◌, true, false, List, [], ◌∷◌, ◌++◌, length, refl, sym, ap, ◌∙◌, subst, arith}
use Rattle.std.specs.List.{AllByRecursion}
use Rattle.tcl_words.specs.Characters.{characters, spelled, spelling, size}
use Rattle.tcl_words.specs.Words.{IsWord, AreWords}
use Rattle.tcl_words.specs.Words.IsWord.{bare, quoted, braced, bracket}
use Rattle.tcl_words.specs.Words.AreWords.{none, more}
use Rattle.tcl_words.specs.Commands.{AreBracketWords, IsWordOf}
use Rattle.tcl_words.specs.declared.characters.Character.{Character}
use Rattle.tcl_words.specs.declared.characters.Character.TheVariants.{Plain, Escaped}
use Rattle.tcl_words.specs.declared.characters.Scope.{Scope}
use Rattle.tcl_words.specs.declared.characters.Scope.TheVariants.{Brackets}
use Rattle.tcl_words.specs.declared.words.Word.{Word}
use Rattle.tcl_words.proofs.CharacterLemmas.{size-append, spelling_characters}
use Rattle.tcl_words.proofs.PartLemmas.{brackets_of}
use Rattle.tcl_words.proofs.SplitLemmas.{brackets_once}
use Rattle.std.proofs.lemmas.List.{length-append}
use Rattle.sdc_reader.specs.Words.{is_bracket}
use Rattle.sdc_reader.specs.Brackets.{Forest, Opens}
use Rattle.sdc_reader.specs.Brackets.Forest.{nothing, plain_word, in_brackets}
use Rattle.sdc_reader.specs.Rooms.{HasRoom, HaveRoom, weight, weights}

spelled_some : (c : Character) → 1 ≤ length (spelled c)
spelled_some (Plain b) = omega arith
spelled_some (Escaped b) = omega arith

enclosed_size : (a b : ℕ) (cs : List Character) → size (Plain a ∷ (cs ++ Plain b ∷ [])) ≡ 1 + (size cs + 1)
enclosed_size a b cs = (let whole = size-append cs (Plain b ∷ []) in omega (arith, whole))

word_weight : (scope : Scope) (at : ℕ) (source : List Character) (w : Word) → IsWord scope at source w → weight w ≤ size source
word_weight _ _ _ _ (bare scope at c cs opens_is is) = (let first = spelled_some c in let whole = length-append (spelled c) (spelling cs) in omega arith)
word_weight _ _ _ _ (quoted scope at cs all) = (let whole = enclosed_size 34 34 cs in omega arith)
word_weight _ _ _ _ (braced scope at cs balanced ascii) = (let whole = enclosed_size 123 125 cs in omega arith)
word_weight _ _ _ _ (bracket scope at cs words are) = (let whole = enclosed_size 91 93 cs in omega arith)

words_weight : (scope : Scope) (at : ℕ) (source : List Character) (ws : List Word) → AreWords scope at source ws → weights ws ≤ size source
words_weight _ _ _ _ (none scope at gap blank) = omega arith
words_weight _ _ _ _ (more scope at gap source rest w ws blank is gap_is are) =
    let sizes : size (gap ++ (source ++ rest)) ≡ size gap + (size source + size rest) = size-append gap (source ++ rest) ∙ ap (λ n. size gap + n) (size-append source rest) in
    let first = word_weight scope (at + size gap) source w is in
    let others = words_weight scope (at + size gap + size source) rest ws are in
    omega arith

-- the words in brackets weigh no more than the text there
pub brackets_weight : (at : ℕ) (text : List ℕ) (ws : List Word) → AreBracketWords at text ws → weights ws ≤ length text
brackets_weight at text ws are =
    let whole : size (characters text) ≡ length text = ap length (spelling_characters text) in
    let weighed = words_weight Brackets at (characters text) ws are in
    omega arith

pub weight_more : (w : Word) → is_bracket w.kind ≡ true → weight w ≡ 1 + length w.text
weight_more w is = rw is refl

room_each : (at : ℕ) (text : List ℕ) (ws : List Word) → at + 2 * length text < 2 ^ 62 → AllByRecursion (IsWordOf (at + 1 + length text)) ws → weights ws ≤ length text → AllByRecursion HasRoom ws
room_each at text [] room parts weighed = tt
room_each at text (w ∷ ws) room parts weighed =
    let first = parts.0 in
    let within = first.within in
    (λ is. (let heavy = weight_more w is in omega arith), room_each at text ws room parts.1 (omega arith))

-- and there is room for them
pub brackets_room : (at : ℕ) (text : List ℕ) (ws : List Word) → at + 2 * length text < 2 ^ 62 → AreBracketWords (at + 1) text ws → HaveRoom ws
brackets_room at text ws room are =
    record { each = room_each at text ws room (brackets_of (at + 1) text ws are).each (brackets_weight (at + 1) text ws are) }

nothing_for : (f : Forest) → Opens [] f → f ≡ nothing
nothing_for _ Opens.none = refl

-- no words are opened to nothing
pub opens_nothing : (ws : List Word) (f : Forest) → ws ≡ [] → Opens ws f → f ≡ nothing
opens_nothing ws f is opens = nothing_for f (subst (λ (xs : List Word). Opens xs f) is opens)

-- a first word that isn't in brackets
pub record IsPlain (w : Word) (ws : List Word) (f : Forest) : Type 0 where
  pub rest : Forest
  pub is : f ≡ plain_word w rest
  pub opens : Opens ws rest

-- a first word in brackets
pub record IsNested (w : Word) (ws : List Word) (f : Forest) : Type 0 where
  pub inner : List Word
  pub inside : Forest
  pub rest : Forest
  pub is : f ≡ in_brackets w inside rest
  pub words : AreBracketWords (w.at + 1) w.text inner
  pub inner_opens : Opens inner inside
  pub opens : Opens ws rest

plain_for : (w : Word) (ws : List Word) (f : Forest) → is_bracket w.kind ≡ false → Opens (w ∷ ws) f → IsPlain w ws f
plain_for _ _ _ plain (Opens.plain w ws f other opens) = record { rest = f; is = refl; opens = opens }
plain_for _ _ _ plain (Opens.nested w ws inner inside f is words inner_opens opens) = cc

nested_for : (w : Word) (ws : List Word) (f : Forest) → is_bracket w.kind ≡ true → Opens (w ∷ ws) f → IsNested w ws f
nested_for _ _ _ within (Opens.plain w ws f other opens) = cc
nested_for _ _ _ within (Opens.nested w ws inner inside f is words inner_opens opens) = record { inner = inner; inside = inside; rest = f; is = refl; words = words; inner_opens = inner_opens; opens = opens }

pub plain_first : (all : List Word) (w : Word) (ws : List Word) (f : Forest) → all ≡ w ∷ ws → is_bracket w.kind ≡ false → Opens all f → IsPlain w ws f
plain_first all w ws f is plain opens = plain_for w ws f plain (subst (λ (xs : List Word). Opens xs f) is opens)

pub nested_first : (all : List Word) (w : Word) (ws : List Word) (f : Forest) → all ≡ w ∷ ws → is_bracket w.kind ≡ true → Opens all f → IsNested w ws f
nested_first all w ws f is within opens = nested_for w ws f within (subst (λ (xs : List Word). Opens xs f) is opens)

-- words are opened in one way
pub opens_once : (ws : List Word) (f g : Forest) → Opens ws f → Opens ws g → f ≡ g
opens_once _ _ g Opens.none second = sym (nothing_for g second)
opens_once _ _ g (Opens.plain w ws f plain opens) second =
    let other = plain_for w ws g plain second in
    ap (plain_word w) (opens_once ws f other.rest opens other.opens) ∙ sym other.is
opens_once _ _ g (Opens.nested w ws inner inside f is words inner_opens opens) second =
    let other = nested_for w ws g is second in
    let same = brackets_once (w.at + 1) w.text inner other.inner words other.words in
    let within = opens_once inner inside other.inside inner_opens (subst (λ (xs : List Word). Opens xs other.inside) (sym same) other.inner_opens) in
    let behind = opens_once ws f other.rest opens other.opens in
    rw (within, behind) (sym other.is)
