-- Texts that end with a whole character, so that what follows them has its own characters.
use Rattle.std.proofs.Common.{◌≡◌, ℕ, ◌==◌, false, List, [], ◌∷◌, ◌++◌, length, refl, sym, ap, ◌∙◌, append_assoc}
use Rattle.std.specs.List.{flat_map, AllByRecursion}
use Rattle.line_text.specs.Written.{spaced}
use Rattle.tcl_words.specs.Characters.{characters, size}
use Rattle.tcl_words.specs.declared.characters.Character.TheVariants.{Plain, Escaped}
use Rattle.tcl_words.proofs.CharacterLemmas.{spelling_characters}
use Rattle.sdc_writer.specs.Texts.{words, braced, bracketed}

pub record IsClosed (text : List ℕ) : Type 0 where
  pub on : (rest : List ℕ) → characters (text ++ rest) ≡ characters text ++ characters rest

pub characters_on : (text rest : List ℕ) → IsClosed text → characters (text ++ rest) ≡ characters text ++ characters rest
characters_on text rest closed = closed.on rest

pub plain_on : (b : ℕ) (bs : List ℕ) → (b == 92) ≡ false → characters (b ∷ bs) ≡ Plain b ∷ characters bs
unfolding characters
plain_on b [] other = refl
plain_on b (c ∷ bs) other = rw other refl

pub escaped_on : (c : ℕ) (bs : List ℕ) → characters (92 ∷ (c ∷ bs)) ≡ Escaped c ∷ characters bs
unfolding characters
escaped_on c bs = refl

pub closed_none : IsClosed []
unfolding characters
closed_none = record { on = λ rest. refl }

pub closed_plain : (b : ℕ) (bs : List ℕ) → (b == 92) ≡ false → IsClosed bs → IsClosed (b ∷ bs)
closed_plain b bs other closed = record {
  on = λ rest. plain_on b (bs ++ rest) other ∙ ap (λ cs. Plain b ∷ cs) (closed.on rest) ∙ ap (λ cs. cs ++ characters rest) (sym (plain_on b bs other));
}

pub closed_escaped : (c : ℕ) (bs : List ℕ) → IsClosed bs → IsClosed (92 ∷ (c ∷ bs))
closed_escaped c bs closed = record {
  on = λ rest. escaped_on c (bs ++ rest) ∙ ap (λ cs. Escaped c ∷ cs) (closed.on rest) ∙ ap (λ cs. cs ++ characters rest) (sym (escaped_on c bs));
}

pub closed_both : (a b : List ℕ) → IsClosed a → IsClosed b → IsClosed (a ++ b)
closed_both a b first second = record {
  on = λ rest.
      ap characters (append_assoc a b rest) ∙ first.on (b ++ rest) ∙ ap (λ cs. characters a ++ cs) (second.on rest)
      ∙ sym (append_assoc (characters a) (characters b) (characters rest)) ∙ ap (λ cs. cs ++ characters rest) (sym (first.on b));
}

closed_one : (b : ℕ) → (b == 92) ≡ false → IsClosed (b ∷ [])
closed_one b other = closed_plain b [] other closed_none

-- a text between two bytes
closed_between : (a b : ℕ) (text : List ℕ) → (a == 92) ≡ false → (b == 92) ≡ false → IsClosed text → IsClosed (a ∷ (text ++ b ∷ []))
closed_between a b text first last closed = closed_plain a (text ++ b ∷ []) first (closed_both text (b ∷ []) closed (closed_one b last))

characters_one : (b : ℕ) → characters (b ∷ []) ≡ Plain b ∷ []
unfolding characters
characters_one b = refl

characters_between : (a b : ℕ) (text : List ℕ) → (a == 92) ≡ false → IsClosed text → characters (a ∷ (text ++ b ∷ [])) ≡ Plain a ∷ (characters text ++ Plain b ∷ [])
characters_between a b text first closed =
    plain_on a (text ++ b ∷ []) first ∙ ap (λ cs. Plain a ∷ cs) (closed.on (b ∷ []) ∙ ap (λ cs. characters text ++ cs) (characters_one b))

pub closed_braced : (text : List ℕ) → IsClosed text → IsClosed (braced text)
closed_braced text closed = closed_between 123 125 text refl refl closed

pub closed_bracketed : (ws : List (List ℕ)) → IsClosed (words ws) → IsClosed (bracketed ws)
closed_bracketed ws closed = closed_between 91 93 (words ws) refl refl closed

pub characters_braced : (text : List ℕ) → IsClosed text → characters (braced text) ≡ Plain 123 ∷ (characters text ++ Plain 125 ∷ [])
characters_braced text closed = characters_between 123 125 text refl closed

pub characters_bracketed : (ws : List (List ℕ)) → IsClosed (words ws) → characters (bracketed ws) ≡ Plain 91 ∷ (characters (words ws) ++ Plain 93 ∷ [])
characters_bracketed ws closed = characters_between 91 93 (words ws) refl closed

pub closed_spaced : (ws : List (List ℕ)) → AllByRecursion IsClosed ws → IsClosed (flat_map spaced ws)
closed_spaced [] all = closed_none
closed_spaced (w ∷ ws) all = closed_plain 32 (w ++ flat_map spaced ws) refl (closed_both w (flat_map spaced ws) all.0 (closed_spaced ws all.1))

pub closed_words : (ws : List (List ℕ)) → AllByRecursion IsClosed ws → IsClosed (words ws)
closed_words [] all = closed_none
closed_words (w ∷ ws) all = closed_both w (flat_map spaced ws) all.0 (closed_spaced ws all.1)

pub size_characters : (text : List ℕ) → size (characters text) ≡ length text
size_characters text = ap length (spelling_characters text)
