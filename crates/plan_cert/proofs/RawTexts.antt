-- The names of a raw problem may be written.
use Rattle.std.proofs.Common.{◌≡◌, ℕ, ◌^◌, ◌<◌, true, List, [], ◌∷◌, inl, refl, arith, decimal}
use Rattle.std.proofs.lemmas.Bool.Decides.{nat_tests}
use Rattle.std.proofs.lemmas.Fmt.{IsAscii-decimal}
use Rattle.std.proofs.lemmas.List.Elements.{recursion_from_All}
use Rattle.std.proofs.lemmas.Str.Ascii.{All-from_ascii}
use Rattle.std.specs.Prelude.{nat_lt}
use Rattle.std.specs.List.{AllByRecursion}
use Rattle.bud_base.specs.Soundness.{IsSound}
use Rattle.bud_base.specs.declared.problems.Problem.{Problem}
use Rattle.line_text.specs.Names.{is_name}
use Rattle.line_text.proofs.PrintedLaws.{field_decimal}
use Rattle.cert_text.specs.Writing.{IsTextName}
use Rattle.plan_cert.specs.Names.{AreTextNames}
use Rattle.plan_cert.specs.Raw.{raw_names}

low_byte : (b : ℕ) → b < 128 → nat_lt b 128 ≡ true
low_byte b low = grind (arith, nat_tests)

is_name-from_all : (bytes : List ℕ) → AllByRecursion (λ b. b < 128) bytes → is_name bytes ≡ true
is_name-from_all [] all = refl
is_name-from_all (b ∷ bs) all = rw (low_byte b all.0, is_name-from_all bs all.1) refl

-- a number's digits may stand as a name
name_decimal : (n : ℕ) → n < 2 ^ 64 → IsTextName (decimal n)
name_decimal n low =
    rw (field_decimal n low, is_name-from_all (decimal n) (recursion_from_All (λ b. b < 128) (decimal n) (All-from_ascii (decimal n) (IsAscii-decimal n low)))) refl

pub AreTextNames-raw : (p : Problem) → IsSound p → AreTextNames raw_names p
AreTextNames-raw p sound = record {
  version = inl refl;
  clocks = tt;
  node_names = λ n low. name_decimal n (omega (arith, sound.limits.nodes));
  node_classes = λ n low. omega arith;
}
