-- The numbers of a policy that is read are in their ranges.
use Rattle.std.proofs.Common.{◌≡◌, ℕ, ◌≤◌, ℤ, pos, ◌≤ℤ◌, Option, Some, Result, Ok, Err, List, [], ◌∷◌, arith, ap, subst, codes}
use Rattle.std.specs.Prelude.{All, int_le, IfOk}
use Rattle.std.proofs.lemmas.Int.{ints}
use Rattle.std.proofs.lemmas.Bool.{and_parts}
use Rattle.std.proofs.lemmas.Option.{same_Some}
use Rattle.std.proofs.lemmas.List.Elements.{All-nil, All-cons}
use Rattle.text_scan.specs.Left.{Left, next, end_of}
use Rattle.text_scan.proofs.Binds.{step, by_test}
use Rattle.bud_base.specs.declared.texts.TextFault.{TextFault}
use Rattle.bud_design.specs.declared.policies.Policy.{Policy}
use Rattle.bud_design.specs.declared.policies.PolicyLine.{PolicyLine}
use Rattle.line_text.specs.Parts.{Part, Row}
use Rattle.line_text.specs.Numbers.{whole, count, whole_of, is_within, unsigned, word}
use Rattle.line_text.specs.Names.{name}
use Rattle.line_text.specs.Lines.{Each}
use Rattle.line_text.specs.Lines.Each.{none, more}
use Rattle.policy_reader.specs.declared.lines.Amounts.{Amounts}
use Rattle.policy_reader.specs.declared.lines.Kind.{Kind}
use Rattle.policy_reader.specs.declared.lines.Kind.TheVariants.{Block, Default, Inst, Arc}
use Rattle.policy_reader.specs.Lines as lines
use Rattle.policy_reader.specs.Policies.{IsReadAnswer, HasRanges, IsInRange}

-- a number that is read is in its range
whole_range : (least most n : ℤ) (line rest : Left Part) → least ≤ℤ most → whole least most line ≡ Some (n, rest) → (least ≤ℤ n) × (n ≤ℤ most)
unfolding whole
whole_range least most n ([], breach) rest between read = absurd (cc)
whole_range least most n (field ∷ fields, breach) rest between read =
    step (whole_of field.bytes) _ _ read (λ m is_m found.
    by_test (is_within least most m)
    (λ inside.
    let parts = and_parts (int_le least m) (int_le m most) inside in
    let same : m ≡ n = ap (λ r. r.0) (same_Some _ _ (rw inside at found)) in
    (omega (arith, ints, parts.0, same), omega (arith, ints, parts.1, same)))
    (λ outside.
    let same : least ≡ n = ap (λ r. r.0) (same_Some _ _ (rw outside at found)) in
    (omega (arith, ints, same, between), omega (arith, ints, same, between))))

unsigned_most : (most : ℕ) (z : ℤ) → pos 0 ≤ℤ z → z ≤ℤ pos most → unsigned z ≤ most
unsigned_most most z low high = grind (arith, ints)

count_most : (most n : ℕ) (line rest : Left Part) → count 0 most line ≡ Some (n, rest) → n ≤ most
unfolding count
count_most most n line rest read =
    step (whole (pos 0) (pos most) line) _ _ read (λ z is_z found.
    let both = whole_range (pos 0) (pos most) z.0 line z.1 (omega (arith, ints)) is_z in
    let same : unsigned z.0 ≡ n = ap (λ r. r.0) (same_Some _ _ found) in
    let most_is = unsigned_most most z.0 both.0 both.1 in
    omega (arith, same, most_is))

-- what a line gives
given_range : (version : ℕ) (line : Left Part) (x : Amounts) (b : Option ℕ) → lines.given version line ≡ Some (x, b) → IsInRange x.extra x.weight
unfolding lines.given
given_range version line x b read =
    let P : Amounts × Option ℕ → Type 0 = λ r. IsInRange r.0.extra r.0.weight in
    step (word (codes "extra") line) _ _ read (λ first _ behind1.
    step (whole (pos 0) (pos 1000000000) first) _ _ behind1 (λ extra is_extra behind2.
    step (word (codes "weight") extra.1) _ _ behind2 (λ second _ behind3.
    step (count 0 1048576 second) _ _ behind3 (λ weight is_weight behind4.
    step (lines.clock version weight.1) _ _ behind4 (λ clock _ whole.
    let both = whole_range (pos 0) (pos 1000000000) extra.0 first extra.1 (omega (arith, ints)) is_extra in
    subst P (same_Some _ _ whole) (record { low = both.0; high = both.1; most = count_most 1048576 weight.0 second weight.1 is_weight }))))))

block_range : (line : Left Part) (x : PolicyLine) (b : Option ℕ) → lines.block line ≡ Some (x, b) → HasRanges x
unfolding lines.block
block_range line x b read =
    let P : PolicyLine × Option ℕ → Type 0 = λ r. HasRanges r.0 in
    step (name line) _ _ read (λ path _ behind.
    step (end_of path.1) _ _ behind (λ breach _ whole. subst P (same_Some _ _ whole) tt))

default_range : (version : ℕ) (line : Left Part) (x : PolicyLine) (b : Option ℕ) → lines.default version line ≡ Some (x, b) → HasRanges x
unfolding lines.default
default_range version line x b read =
    let P : PolicyLine × Option ℕ → Type 0 = λ r. HasRanges r.0 in
    step (lines.given version line) _ _ read (λ given is_given whole.
    subst P (same_Some _ _ whole) (given_range version line given.0 given.1 is_given))

inst_range : (version : ℕ) (line : Left Part) (x : PolicyLine) (b : Option ℕ) → lines.inst version line ≡ Some (x, b) → HasRanges x
unfolding lines.inst
inst_range version line x b read =
    let P : PolicyLine × Option ℕ → Type 0 = λ r. HasRanges r.0 in
    step (name line) _ _ read (λ path _ behind.
    step (lines.given version path.1) _ _ behind (λ given is_given whole.
    subst P (same_Some _ _ whole) (given_range version path.1 given.0 given.1 is_given)))

arc_range : (version : ℕ) (line : Left Part) (x : PolicyLine) (b : Option ℕ) → lines.arc version line ≡ Some (x, b) → HasRanges x
unfolding lines.arc
arc_range version line x b read =
    let P : PolicyLine × Option ℕ → Type 0 = λ r. HasRanges r.0 in
    step (name line) _ _ read (λ from _ behind1.
    step (name from.1) _ _ behind1 (λ to _ behind2.
    step (lines.given version to.1) _ _ behind2 (λ given is_given whole.
    subst P (same_Some _ _ whole) (given_range version to.1 given.0 given.1 is_given))))

kind_range : (version : ℕ) (k : Kind) (line : Left Part) (x : PolicyLine) (b : Option ℕ) → lines.line_of version k line ≡ Some (x, b) → HasRanges x
kind_range version Block line x b read = block_range line x b read
kind_range version Default line x b read = default_range version line x b read
kind_range version Inst line x b read = inst_range version line x b read
kind_range version Arc line x b read = arc_range version line x b read

line_range : (version : ℕ) (row : Left Part) (x : PolicyLine) (b : Option ℕ) → lines.policy_line version row ≡ Some (x, b) → HasRanges x
unfolding lines.policy_line
line_range version row x b read =
    step (next row) _ _ read (λ field _ behind1.
    step (lines.kind_of field.0.bytes) _ _ behind1 (λ kind _ behind2.
    kind_range version kind field.1 x b behind2))

each_range : (version : ℕ) (rows : List Row) (a b : Option ℕ) (xs : List PolicyLine) → Each (lines.policy_line version) rows a xs b → All HasRanges xs
each_range version _ _ _ _ (none breach) = All-nil HasRanges
each_range version _ _ _ _ (more row rows x xs a b c read each) =
    All-cons HasRanges x xs (line_range version (row, a) x b read) (each_range version rows b c xs each)

pub ranges_read : (text : List ℕ) (r : Result Policy TextFault) → IsReadAnswer text r → IfOk r (λ p. All HasRanges p.lines)
ranges_read text (Ok p) reads = each_range p.version reads.others reads.before_lines _ p.lines reads.are_lines
ranges_read text (Err fault) given = tt
