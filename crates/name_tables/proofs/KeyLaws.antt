-- Keys of texts that go on.
use Rattle.std.specs.Prelude.{◌≡◌, ℕ, ◌<◌, ◌+◌, Bool, true, false, List, [], ◌∷◌, ◌++◌, length, drop, slice_index_or}
use Rattle.std.proofs.Common.{true≢false, sym, ◌∙◌, refl, ap}
use Rattle.std.proofs.lemmas.List.{drop_more}
use Rattle.bud_design.specs.Names.{plain_from}
use Rattle.name_tables.specs.Keys.{escapes, key_step, key_from}

pub key_from-append : (key : ℕ) (s t : List ℕ) → key_from key (s ++ t) ≡ key_from (key_from key s) t
key_from-append key [] t = refl
key_from-append key (b ∷ s) t = key_from-append (key_step key b) s t

-- the rest of a plain name behind a backslash, or behind another byte
escape-more : (escaped : Bool) (b : ℕ) (bs : List ℕ) → escapes escaped b ≡ true → plain_from escaped (b ∷ bs) ≡ plain_from true bs
escape-more true b bs is = absurd (true≢false (sym is))
escape-more false b bs is = rw is refl

byte-more : (escaped : Bool) (b : ℕ) (bs : List ℕ) → escapes escaped b ≡ false → plain_from escaped (b ∷ bs) ≡ b ∷ plain_from false bs
byte-more true b bs is = refl
byte-more false b bs is = rw is refl

pub escape-drop : (escaped : Bool) (name : List ℕ) (i : ℕ) → i < length name → escapes escaped (slice_index_or name i 0) ≡ true → plain_from escaped (drop i name) ≡ plain_from true (drop (i + 1) name)
escape-drop escaped name i below is = ap (plain_from escaped) (drop_more name i 0 below) ∙ escape-more escaped (slice_index_or name i 0) (drop (i + 1) name) is

pub byte-drop : (escaped : Bool) (name : List ℕ) (i : ℕ) → i < length name → escapes escaped (slice_index_or name i 0) ≡ false → plain_from escaped (drop i name) ≡ slice_index_or name i 0 ∷ plain_from false (drop (i + 1) name)
byte-drop escaped name i below is = ap (plain_from escaped) (drop_more name i 0 below) ∙ byte-more escaped (slice_index_or name i 0) (drop (i + 1) name) is
