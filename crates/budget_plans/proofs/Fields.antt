-- Names that may stand as fields of a certificate.
use Rattle.std.specs.Prelude.{◌&&◌, ◌||◌, ◌==◌, nat_lt, nat_le, not, Bool, true, false}
use Rattle.std.proofs.Common.{◌≡◌, ◌⊎◌, ℕ, ◌<◌, ◌≤◌, List, [], ◌∷◌, length, if◌then◌else◌, arith, sym, ◌∙◌, inl, inr, refl, true≢false}
use Rattle.std.specs.List.{list_all, list_any}
use Rattle.std.proofs.lemmas.Bool.{cases_lt}
use Rattle.bud_design.specs.DesignRules.{is_identifier}
use Rattle.bud_design.specs.Policies.{has_line_clock, version_of}
use Rattle.bud_design.specs.declared.policies.Policy.{Policy}
use Rattle.cert_text.specs.Writing.{IsTextName}
use Rattle.line_text.specs.Parts.{is_empty, is_blank, is_feed}
use Rattle.sdc_reader.specs.Words.{is_name_byte, is_clock_name}

abbrev is_field_byte : ℕ → Bool
is_field_byte b = not (is_blank b || is_feed b)

abbrev is_graphic : ℕ → Bool
is_graphic b = nat_le 33 b && nat_le b 126

and-both : (a b : Bool) → a && b ≡ true → (a ≡ true) × (b ≡ true)
and-both true b is = (refl, is)
and-both false b is = absurd (true≢false (sym is))

field-byte : (b : ℕ) → 33 ≤ b → is_field_byte b ≡ true
field-byte b low = grind (arith, low)

name-byte : (b : ℕ) → b ≤ 126 → nat_lt b 128 ≡ true
name-byte b high = grind (arith, high)

some-byte : (b : ℕ) (bs : List ℕ) → not (is_empty (b ∷ bs)) ≡ true
some-byte b bs = grind (arith)

-- bytes of an alphabet of graphic characters
module _ (f : ℕ → Bool) (low : (b : ℕ) → b < 33 → f b ≡ false) (high : (b : ℕ) → 126 < b → f b ≡ false) where
  within : (b : ℕ) → f b ≡ true → (33 ≤ b) × (b ≤ 126)
  within b is = (
    elim (cases_lt b 33) [ inl less ↦ absurd (true≢false (sym is ∙ low b less)) | inr more ↦ more ],
    elim (cases_lt 126 b) [ inl more ↦ absurd (true≢false (sym is ∙ high b more)) | inr less ↦ less ],
  )

  field-bytes : (xs : List ℕ) → list_all f xs ≡ true → list_all is_field_byte xs ≡ true
  field-bytes [] all = refl
  field-bytes (b ∷ bs) all =
      let both = and-both (f b) (list_all f bs) all in
      rw (field-byte b (within b both.0).0, field-bytes bs both.1) refl

  name-bytes : (xs : List ℕ) → list_all f xs ≡ true → list_all (λ b. nat_lt b 128) xs ≡ true
  name-bytes [] all = refl
  name-bytes (b ∷ bs) all =
      let both = and-both (f b) (list_all f bs) all in
      rw (name-byte b (within b both.0).1, name-bytes bs both.1) refl

  text-name : (b : ℕ) (bs : List ℕ) → list_all f (b ∷ bs) ≡ true → IsTextName (b ∷ bs)
  text-name b bs all = rw (some-byte b bs, field-bytes (b ∷ bs) all, name-bytes (b ∷ bs) all) refl

-- ---- names of clocks
clock-low : (b : ℕ) → b < 33 → is_name_byte b ≡ false
clock-low b less = grind (arith, less)

clock-high : (b : ℕ) → 126 < b → is_name_byte b ≡ false
clock-high b more = grind (arith, more)

pub clock_text : (xs : List ℕ) → is_clock_name xs ≡ true → IsTextName xs
clock_text [] is = absurd (true≢false (sym is))
clock_text (b ∷ bs) is = text-name is_name_byte clock-low clock-high b bs is

-- ---- identifiers
graphic-low : (b : ℕ) → b < 33 → is_graphic b ≡ false
graphic-low b less = grind (arith, less)

graphic-high : (b : ℕ) → 126 < b → is_graphic b ≡ false
graphic-high b more = grind (arith, more)

pub identifier_text : (xs : List ℕ) → is_identifier xs ≡ true → IsTextName xs
identifier_text [] is = absurd (true≢false (sym is))
identifier_text (b ∷ bs) is = text-name is_graphic graphic-low graphic-high b bs (and-both (nat_lt 0 (length (b ∷ bs))) (list_all is_graphic (b ∷ bs)) is).1

-- ---- versions of policies
pub one_of_two : (p : Policy) → (version_of p ≡ 1) ⊎ (version_of p ≡ 2)
one_of_two p = by_test (p.version == 2 || list_any has_line_clock p.lines)
  where
    by_test : (test : Bool) → (◌≡◌ {A = ℕ} (if test then 2 else 1) 1) ⊎ (◌≡◌ {A = ℕ} (if test then 2 else 1) 2)
    by_test true = inr refl
    by_test false = inl refl
