-- Objects by kind that may be written, and names of clocks.
use Rattle.std.proofs.Common.{◌≡◌, ℕ, ◌<◌, ◌^◌, ◌==◌, not, nat_le, true, false, List, [], ◌∷◌, ◌++◌, map, decimal, refl, arith}
use Rattle.std.proofs.lemmas.Bool.{and_parts}
use Rattle.std.proofs.lemmas.Bool.Decides.{nat_tests}
use Rattle.std.specs.List.{list_all}
use Rattle.bud_syntax.specs.declared.constraints.Object.TheVariants.{Ports, Pins, Clocks}
use Rattle.sdc_reader.specs.Words.{is_name_byte, is_clock_name}
use Rattle.sdc_writer.specs.Printable.{has_some, is_visible, is_brace, is_kept_name, are_in_order, are_written}
use Rattle.sdc_writer.proofs.PlainWords.{is_plain}
use Rattle.sdc_writer.proofs.Numbers.{natural_word}
use Rattle.kept_names.proofs.Names.{Kept}

-- ---- objects by kind
clocks_written : (least : ℕ) (clocks : List (List ℕ)) → nat_le least 2 ≡ true → list_all is_kept_name clocks ≡ true → are_in_order least (map (λ name. Clocks name) clocks) ≡ true
clocks_written least [] low all = refl
clocks_written least (name ∷ names) low all =
    let parts = and_parts (is_kept_name name) (list_all is_kept_name names) all in
    rw (low, parts.0, clocks_written 2 names refl parts.1) refl

low_on : (least : ℕ) → nat_le least 1 ≡ true → nat_le least 2 ≡ true
low_on least low = grind (arith, nat_tests)

pins_written : (least : ℕ) (pins clocks : List (List ℕ)) → nat_le least 1 ≡ true → list_all is_kept_name pins ≡ true → list_all is_kept_name clocks ≡ true →
    are_in_order least (map (λ name. Pins name) pins ++ map (λ name. Clocks name) clocks) ≡ true
pins_written least [] clocks low all others = clocks_written least clocks (low_on least low) others
pins_written least (name ∷ names) clocks low all others =
    let parts = and_parts (is_kept_name name) (list_all is_kept_name names) all in
    rw (low, parts.0, pins_written 1 names clocks refl parts.1 others) refl

pub objects_written : (ports pins clocks : List (List ℕ)) → list_all is_kept_name ports ≡ true → list_all is_kept_name pins ≡ true → list_all is_kept_name clocks ≡ true →
    are_written (map (λ name. Ports name) ports ++ (map (λ name. Pins name) pins ++ map (λ name. Clocks name) clocks)) ≡ true
objects_written [] pins clocks first second third = pins_written 0 pins clocks refl second third
objects_written (name ∷ names) pins clocks first second third =
    let parts = and_parts (is_kept_name name) (list_all is_kept_name names) first in
    rw (parts.0, objects_written names pins clocks parts.1 second third) refl

-- ---- names of clocks
byte_visible : (b : ℕ) → is_name_byte b ≡ true → is_visible b ≡ true
byte_visible b is = grind (arith, nat_tests)

byte_no_brace : (b : ℕ) → is_name_byte b ≡ true → not (is_brace b) ≡ true
byte_no_brace b is = grind (arith, nat_tests)

byte_no_slash : (b : ℕ) → is_name_byte b ≡ true → (b == 92) ≡ false
byte_no_slash b is = grind (arith, nat_tests)

bytes_kept : (xs : List ℕ) → list_all is_name_byte xs ≡ true → Kept xs
bytes_kept [] all = refl
bytes_kept (b ∷ bs) all =
    let parts = and_parts (is_name_byte b) (list_all is_name_byte bs) all in
    rw (byte_visible b parts.0, byte_no_brace b parts.0, byte_no_slash b parts.0, bytes_kept bs parts.1) refl

pub clock_kept : (name : List ℕ) → is_clock_name name ≡ true → is_kept_name name ≡ true
clock_kept [] is = absurd (cc)
clock_kept (b ∷ bs) is = bytes_kept (b ∷ bs) is

plain_byte : (b : ℕ) → is_plain b ≡ true → is_name_byte b ≡ true
plain_byte b is = grind (arith, nat_tests)

plain_bytes : (xs : List ℕ) → list_all is_plain xs ≡ true → list_all is_name_byte xs ≡ true
plain_bytes [] all = refl
plain_bytes (b ∷ bs) all =
    let parts = and_parts (is_plain b) (list_all is_plain bs) all in
    rw (plain_byte b parts.0, plain_bytes bs parts.1) refl

both_bytes : (xs ys : List ℕ) → list_all is_name_byte xs ≡ true → list_all is_name_byte ys ≡ true → list_all is_name_byte (xs ++ ys) ≡ true
both_bytes [] ys first second = second
both_bytes (b ∷ bs) ys first second =
    let parts = and_parts (is_name_byte b) (list_all is_name_byte bs) first in
    rw (parts.0, both_bytes bs ys parts.1 second) refl

pub clock_numbered : (name : List ℕ) (n : ℕ) → is_clock_name name ≡ true → n < 2 ^ 64 → is_clock_name (name ++ decimal n) ≡ true
clock_numbered [] n is low = absurd (cc)
clock_numbered (b ∷ bs) n is low =
    both_bytes (b ∷ bs) (decimal n) is (plain_bytes (decimal n) (and_parts (has_some (decimal n)) (list_all is_plain (decimal n)) (natural_word n low).plain).1)
