use Rattle.std.proofs.Common.{◌≡◌, ◌<◌, ◌≢◌, ◌-◌, ℕ, List, ◌++◌, length, drop, false, true≢false, sym, ◌∙◌, ap, arith}
use Rattle.std.specs.Str.{bytes_eq}
use Rattle.std.proofs.lemmas.List.{length-append}
use Rattle.std.proofs.lemmas.Slice.Eq.{bytes_eq-Decides}
use Rattle.bud_design.specs.Names.{plain}
use Rattle.flat_design.proofs.TextLaws.{end-of}
use Rattle.flat_design.proofs.texts.before_plain.Goals as goal

none-ends : (text name : List ℕ) (n : ℕ) (back : List ℕ) → n ≡ length (plain name) → back ≡ drop (length text - n) text → false ≡ bytes_eq (plain name) back
    → (before : List ℕ) → text ≢ before ++ plain name
none-ends text name n back count is test before same =
    let end : back ≡ plain name = is ∙ (ap (λ n. drop (length text - n) text) count ∙ end-of text before (plain name) same) in
    true≢false (sym ((bytes_eq-Decides (plain name) back).1 (sym end)) ∙ sym test)

too-short : (text name before : List ℕ) → length text < length (plain name) → text ≢ before ++ plain name
too-short text name before short same = absurd (omega (arith, short, ap length same ∙ length-append before (plain name)))

pub returns-else-is_plain : goal.returns-else-is_plain
returns-else-is_plain c =
    none-ends c.args.text.now c.args.name.now c.plain_length-length.result c.split_at.result.1.now c.plain_length-length.ensures c.split_at.ensures.back c.if-is_plain.ensures
