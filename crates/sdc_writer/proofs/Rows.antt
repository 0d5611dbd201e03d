-- Rows of words as they are written, and what they are read as.
use Rattle.std.proofs.Common.{◌≡◌, ℕ, ◌+◌, true, List, [], ◌∷◌, ◌++◌, length, refl, sym, ap, ◌∙◌, subst, arith}
use Rattle.std.specs.List.{list_all, flat_map, AllByRecursion}
use Rattle.line_text.specs.Written.{spaced}
use Rattle.tcl_words.specs.Characters.{characters, size, is_gap}
use Rattle.tcl_words.specs.Words.{IsWord, AreWords, begins_gap}
use Rattle.tcl_words.specs.Words.IsWord.{bracket}
use Rattle.tcl_words.specs.Words.AreWords.{none, more}
use Rattle.tcl_words.specs.declared.characters.Character.TheVariants.{Plain}
use Rattle.tcl_words.specs.declared.characters.Scope.{Scope}
use Rattle.tcl_words.specs.declared.characters.Scope.TheVariants.{Brackets}
use Rattle.tcl_words.specs.declared.words.Word.{Word}
use Rattle.tcl_words.specs.declared.words.WordKind.TheVariants.{Bare, Braced, Bracket}
use Rattle.tcl_words.proofs.CharacterLemmas.{spelling_characters}
use Rattle.sdc_reader.specs.Brackets.{Forest, Opens}
use Rattle.sdc_reader.specs.Brackets.Forest.{plain_word, in_brackets, nothing as no_words}
use Rattle.sdc_reader.specs.Brackets.Opens.{none as opens_none, plain as opens_plain, nested as opens_nested}
use Rattle.sdc_writer.specs.Texts.{words, braced, bracketed}
use Rattle.sdc_writer.proofs.ClosedTexts.{IsClosed, closed_braced, closed_bracketed, closed_words, characters_bracketed, size_characters, plain_on}
use Rattle.sdc_writer.proofs.PlainWords.{is_plain_word, closed_word, bare_word, IsKeptText, braced_word}

-- words one behind another: bare, in braces, or in brackets with words in them
pub data Row : Type 0 where
  nothing : Row
  bare : List ℕ → Row → Row
  braces : List ℕ → Row → Row
  brackets : Row → Row → Row

-- how they are written
abbrev pub texts : Row → List (List ℕ)
texts nothing = []
texts (bare text row) = text ∷ texts row
texts (braces text row) = braced text ∷ texts row
texts (brackets inside row) = bracketed (texts inside) ∷ texts row

-- the words that they are, from an offset on, with one space between two
abbrev pub words_at : ℕ → Row → List Word
words_at at nothing = []
words_at at (bare text row) = record { at = at; kind = Bare; text = text } ∷ words_at (at + length text + 1) row
words_at at (braces text row) = record { at = at; kind = Braced; text = text } ∷ words_at (at + length (braced text) + 1) row
words_at at (brackets inside row) = record { at = at; kind = Bracket; text = words (texts inside) } ∷ words_at (at + length (bracketed (texts inside)) + 1) row

-- the same, opened
abbrev pub forest_at : ℕ → Row → Forest
forest_at at nothing = no_words
forest_at at (bare text row) = plain_word (record { at = at; kind = Bare; text = text }) (forest_at (at + length text + 1) row)
forest_at at (braces text row) = plain_word (record { at = at; kind = Braced; text = text }) (forest_at (at + length (braced text) + 1) row)
forest_at at (brackets inside row) =
    in_brackets (record { at = at; kind = Bracket; text = words (texts inside) }) (forest_at (at + 1) inside) (forest_at (at + length (bracketed (texts inside)) + 1) row)

-- bare words are plain, and texts in braces stand for themselves
abbrev pub IsFine : Row → Type 0
IsFine nothing = Unit {0}
IsFine (bare text row) = (is_plain_word text ≡ true) × IsFine row
IsFine (braces text row) = IsKeptText text × IsFine row
IsFine (brackets inside row) = IsFine inside × IsFine row

-- the same, with a bare word first
abbrev pub IsLine : Row → Type 0
IsLine nothing = ⊥
IsLine (bare text row) = (is_plain_word text ≡ true) × IsFine row
IsLine (braces text row) = ⊥
IsLine (brackets inside row) = ⊥

pub all_closed : (row : Row) → IsFine row → AllByRecursion IsClosed (texts row)
all_closed nothing fine = tt
all_closed (bare text row) fine = (closed_word text fine.0, all_closed row fine.1)
all_closed (braces text row) fine = (closed_braced text fine.0.closed, all_closed row fine.1)
all_closed (brackets inside row) fine = (closed_bracketed (texts inside) (closed_words (texts inside) (all_closed inside fine.0)), all_closed row fine.1)

-- ---- words
gap_first : (scope : Scope) (ws : List (List ℕ)) → begins_gap scope (characters (flat_map spaced ws)) ≡ true
unfolding characters
gap_first scope [] = refl
gap_first scope (w ∷ ws) = rw (plain_on 32 (w ++ flat_map spaced ws) refl) refl

space_gap : (scope : Scope) → list_all (is_gap scope) (Plain 32 ∷ []) ≡ true
space_gap scope = refl

-- a first word, and others behind it
first_then : (scope : Scope) (at : ℕ) (w : List ℕ) (ws : List (List ℕ)) (here : Word) (others : List Word) → IsClosed w → IsWord scope at (characters w) here →
    AreWords scope (at + length w) (characters (flat_map spaced ws)) others → AreWords scope at (characters (words (w ∷ ws))) (here ∷ others)
first_then scope at w ws here others closed is are =
    subst (λ cs. AreWords scope at cs (here ∷ others)) (sym (closed.on (flat_map spaced ws)))
    (more scope at [] (characters w) (characters (flat_map spaced ws)) here others refl (subst (λ n. IsWord scope n (characters w) here) same is) (gap_first scope ws)
    (subst (λ n. AreWords scope n (characters (flat_map spaced ws)) others) behind are))
  where
    same : at ≡ at + size []
    same = omega arith

    behind : at + length w ≡ at + size [] + size (characters w)
    behind = rw (size_characters w) (omega arith)

-- a word behind a space, and others behind it
spaced_then : (scope : Scope) (at : ℕ) (w : List ℕ) (ws : List (List ℕ)) (here : Word) (others : List Word) → IsClosed w → IsWord scope (at + 1) (characters w) here →
    AreWords scope (at + 1 + length w) (characters (flat_map spaced ws)) others → AreWords scope at (characters (flat_map spaced (w ∷ ws))) (here ∷ others)
spaced_then scope at w ws here others closed is are =
    subst (λ cs. AreWords scope at cs (here ∷ others)) (sym (plain_on 32 (w ++ flat_map spaced ws) refl ∙ ap (λ cs. Plain 32 ∷ cs) (closed.on (flat_map spaced ws))))
    (more scope at (Plain 32 ∷ []) (characters w) (characters (flat_map spaced ws)) here others (space_gap scope) is (gap_first scope ws)
    (subst (λ n. AreWords scope (at + 1 + n) (characters (flat_map spaced ws)) others) (sym (size_characters w)) are))

no_more : (scope : Scope) (at : ℕ) → AreWords scope at (characters []) []
unfolding characters
no_more scope at = none scope at [] refl

bracket_word : (scope : Scope) (at : ℕ) (ws : List (List ℕ)) (inner : List Word) → IsClosed (words ws) → AreWords Brackets (at + 1) (characters (words ws)) inner →
    IsWord scope at (characters (bracketed ws)) (record { at = at; kind = Bracket; text = words ws })
bracket_word scope at ws inner closed are =
    let cs = characters (words ws) in
    subst (λ xs. IsWord scope at xs (record { at = at; kind = Bracket; text = words ws })) (sym (characters_bracketed ws closed))
    (subst (λ t. IsWord scope at (Plain 91 ∷ (cs ++ Plain 93 ∷ [])) (record { at = at; kind = Bracket; text = t })) (spelling_characters (words ws)) (bracket scope at cs inner are))

inside_closed : (inside : Row) → IsFine inside → IsClosed (words (texts inside))
inside_closed inside fine = closed_words (texts inside) (all_closed inside fine)

mutual
  pub row_words : (scope : Scope) (at : ℕ) (row : Row) → IsFine row → AreWords scope at (characters (words (texts row))) (words_at at row)
  row_words scope at nothing fine = no_more scope at
  row_words scope at (bare text row) fine =
      first_then scope at text (texts row) (record { at = at; kind = Bare; text = text }) (words_at (at + length text + 1) row) (closed_word text fine.0) (bare_word scope at text fine.0)
      (row_spaced scope (at + length text) row fine.1)
  row_words scope at (braces text row) fine =
      first_then scope at (braced text) (texts row) (record { at = at; kind = Braced; text = text }) (words_at (at + length (braced text) + 1) row) (closed_braced text fine.0.closed) (braced_word scope at text fine.0)
      (row_spaced scope (at + length (braced text)) row fine.1)
  row_words scope at (brackets inside row) fine =
      first_then scope at (bracketed (texts inside)) (texts row) (record { at = at; kind = Bracket; text = words (texts inside) }) (words_at (at + length (bracketed (texts inside)) + 1) row)
      (closed_bracketed (texts inside) (inside_closed inside fine.0)) (bracket_word scope at (texts inside) (words_at (at + 1) inside) (inside_closed inside fine.0) (row_words Brackets (at + 1) inside fine.0))
      (row_spaced scope (at + length (bracketed (texts inside))) row fine.1)

  row_spaced : (scope : Scope) (at : ℕ) (row : Row) → IsFine row → AreWords scope at (characters (flat_map spaced (texts row))) (words_at (at + 1) row)
  row_spaced scope at nothing fine = no_more scope at
  row_spaced scope at (bare text row) fine =
      spaced_then scope at text (texts row) (record { at = at + 1; kind = Bare; text = text }) (words_at (at + 1 + length text + 1) row) (closed_word text fine.0) (bare_word scope (at + 1) text fine.0)
      (row_spaced scope (at + 1 + length text) row fine.1)
  row_spaced scope at (braces text row) fine =
      spaced_then scope at (braced text) (texts row) (record { at = at + 1; kind = Braced; text = text }) (words_at (at + 1 + length (braced text) + 1) row) (closed_braced text fine.0.closed) (braced_word scope (at + 1) text fine.0)
      (row_spaced scope (at + 1 + length (braced text)) row fine.1)
  row_spaced scope at (brackets inside row) fine =
      spaced_then scope at (bracketed (texts inside)) (texts row) (record { at = at + 1; kind = Bracket; text = words (texts inside) }) (words_at (at + 1 + length (bracketed (texts inside)) + 1) row)
      (closed_bracketed (texts inside) (inside_closed inside fine.0)) (bracket_word scope (at + 1) (texts inside) (words_at (at + 1 + 1) inside) (inside_closed inside fine.0) (row_words Brackets (at + 1 + 1) inside fine.0))
      (row_spaced scope (at + 1 + length (bracketed (texts inside))) row fine.1)

pub row_opens : (at : ℕ) (row : Row) → IsFine row → Opens (words_at at row) (forest_at at row)
row_opens at nothing fine = opens_none
row_opens at (bare text row) fine =
    opens_plain (record { at = at; kind = Bare; text = text }) (words_at (at + length text + 1) row) (forest_at (at + length text + 1) row) refl (row_opens (at + length text + 1) row fine.1)
row_opens at (braces text row) fine =
    opens_plain (record { at = at; kind = Braced; text = text }) (words_at (at + length (braced text) + 1) row) (forest_at (at + length (braced text) + 1) row) refl (row_opens (at + length (braced text) + 1) row fine.1)
row_opens at (brackets inside row) fine =
    opens_nested (record { at = at; kind = Bracket; text = words (texts inside) }) (words_at (at + length (bracketed (texts inside)) + 1) row) (words_at (at + 1) inside) (forest_at (at + 1) inside)
    (forest_at (at + length (bracketed (texts inside)) + 1) row) refl (row_words Brackets (at + 1) inside fine.0) (row_opens (at + 1) inside fine.0) (row_opens (at + length (bracketed (texts inside)) + 1) row fine.1)
