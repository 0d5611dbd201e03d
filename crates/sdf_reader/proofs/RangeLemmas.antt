-- The values of entries lie in their range.
use Rattle.std.proofs.Common.{◌≡◌, ℕ, zero, suc, ℤ, pos, negsuc, ◌≤ℤ◌, nat_lt, int_lt, codes, Bool, true, false, List, [], ◌∷◌, ◌++◌, length, Option, Some, None, Result, Ok, Err, All, IfOk, arith, refl, subst, if◌then◌else◌}
use Rattle.std.proofs.lemmas.Int.{ints}
use Rattle.std.proofs.lemmas.List.Elements.{All-nil, All-cons, All-append}
use Rattle.text_scan.specs.Left.{Left, ◌>>=◌, breached, end_of}
use Rattle.sdf_lex.specs.Tokens.{Token, tokens_of}
use Rattle.bud_syntax.specs.Ranges.{IsReadTime, IsReadKind}
use Rattle.bud_syntax.specs.declared.delays.SdfFile.{SdfFile}
use Rattle.bud_syntax.specs.declared.delays.SdfKind.{SdfKind}
use Rattle.bud_syntax.specs.declared.delays.SdfKind.TheVariants.{Cell, Delay, Wire, Setup}
use Rattle.bud_syntax.specs.declared.delays.SdfRow.{SdfRow}
use Rattle.bud_syntax.specs.declared.edges.Edge.{Edge}
use Rattle.sdf_reader.specs.declared.faults.SdfFault.{SdfFault}
use Rattle.sdf_reader.specs.declared.faults.SdfFault.TheVariants.{Value, Unsupported, Syntax, NoMemory}
use Rattle.sdf_reader.specs.Answers.{IsReadAnswer}
use Rattle.sdf_reader.specs.Cells.{Scope, Rows, row, many, listed, delay_row, with_check, check_row, absolute, timing, cell_head, inside, cell}
use Rattle.sdf_reader.specs.Checks.{check_port, setup, setup_hold, other_check, effect, no_effect, check}
use Rattle.sdf_reader.specs.Entries.{port, iopath, conditional, otherwise, interconnect, delay}
use Rattle.sdf_reader.specs.Files.{scope_in, front, file}
use Rattle.sdf_reader.specs.Marks.{word, is_word, is_mark, opens, next_is, opening, closing, colon, opened, starts}
use Rattle.sdf_reader.specs.Names.{name}
use Rattle.sdf_reader.specs.Nests.{no_list, before_last, lists}
use Rattle.sdf_reader.specs.Numbers.{is_number, amount, size, in_range, counted, number}
use Rattle.sdf_reader.specs.Until.{until}
use Rattle.sdf_reader.specs.Values.{greater, triple_value, maybe_number, triple, others, value, another, up_to, values}

-- one step after the other: what holds behind both
behind : {A B : Type 0} (P : B → Type 0) (read : Option A) (f : A → Option B) (y : B) → ((x : A) → read ≡ Some x → (z : B) → f x ≡ Some z → P z) → (read >>= f) ≡ Some y → P y
behind P (Some x) f y holds is = holds x refl y is
behind P None f y holds is = (let no : ⊥ = cc in absurd no)

-- what is read
gives : {B : Type 0} (P : B → Type 0) (x y : B) → P x → ◌≡◌ {A = Option B} (Some x) (Some y) → P y
gives P x y holds is = (let same : x ≡ y = cc in subst P same holds)

-- a step that gives this
gave : {A B : Type 0} (P : B → Type 0) (read : Option A) (f : A → B) (y : B) → ((x : A) → read ≡ Some x → P (f x)) → (read >>= λ x. Some (f x)) ≡ Some y → P y
gave P read f y holds is = behind P read (λ x. Some (f x)) y (λ x read_is z is. gives P (f x) z (holds x read_is) is) is

abbrev IfThere : Option ℤ → Type 0
IfThere None = Unit {0}
IfThere (Some z) = IsReadTime z

abbrev IsReadFirst : ℤ × Left Token → Type 0
IsReadFirst p = IsReadTime p.0

abbrev IsMaybeRead : Option ℤ × Left Token → Type 0
IsMaybeRead p = IfThere p.0

nothing_read : IsReadTime (pos 0)
nothing_read = record { low = grind (arith, ints); high = grind (arith, ints) }

size_read : (z : ℤ) → nat_lt 1000000000 (size z) ≡ false → IsReadTime z
size_read (pos n) small = record { low = grind (arith, ints); high = grind (arith, ints) }
size_read (negsuc n) small = record { low = grind (arith, ints); high = grind (arith, ints) }

range_for : (passed : Bool) (z : ℤ) → (passed ≡ false → IsReadTime z) → IfThere (if passed then None else Some z)
range_for true z holds = tt
range_for false z holds = holds refl

range_read : (z : ℤ) → IfThere (in_range z)
range_read z = range_for (nat_lt 1000000000 (size z)) z (size_read z)

counted_read : (at : ℕ) (z : Option ℤ) (left : Left Token) → IfThere z → IsReadFirst (counted at z left)
counted_read at None left r = nothing_read
counted_read at (Some z) left r = r

number_for : (is : Bool) (p q : ℤ × Left Token) → IsReadFirst p → (if is then Some p else None) ≡ Some q → IsReadFirst q
number_for true p q r is = gives IsReadFirst p q r is
number_for false p q r is = (let no : ⊥ = cc in absurd no)

number_read : (unit : ℕ) (left : Left Token) (p : ℤ × Left Token) → number unit left ≡ Some p → IsReadFirst p
unfolding number
number_read unit left p is =
    behind IsReadFirst (word left) (λ w. if is_number w.0.bytes then Some (counted w.0.at (in_range (amount unit w.0.bytes)) w.1) else None) p
    (λ w read p is. number_for (is_number w.0.bytes) (counted w.0.at (in_range (amount unit w.0.bytes)) w.1) p (counted_read w.0.at (in_range (amount unit w.0.bytes)) w.1 (range_read (amount unit w.0.bytes))) is) is

maybe_for : (stands : Bool) (unit : ℕ) (left : Left Token) (p : Option ℤ × Left Token) → (if stands then (number unit left >>= λ n. Some (Some n.0, n.1)) else Some (None, left)) ≡ Some p → IsMaybeRead p
maybe_for true unit left p is = gave IsMaybeRead (number unit left) (λ n. (Some n.0, n.1)) p (λ n read. number_read unit left n read) is
maybe_for false unit left p is = gives IsMaybeRead (None, left) p tt is

maybe_read : (unit : ℕ) (left : Left Token) (p : Option ℤ × Left Token) → maybe_number unit left ≡ Some p → IsMaybeRead p
unfolding maybe_number
maybe_read unit left p is = maybe_for (next_is (λ token. is_word token.kind) left) unit left p is

greater_for : (less : Bool) (a b : ℤ) → IsReadTime a → IsReadTime b → IsReadTime (if less then b else a)
greater_for true a b first second = second
greater_for false a b first second = first

greater_read : (a b : ℤ) → IsReadTime a → IsReadTime b → IsReadTime (greater a b)
greater_read a b first second = greater_for (int_lt a b) a b first second

triple_value_read : (a b c : Option ℤ) → IfThere a → IfThere b → IfThere c → IsReadTime (triple_value a b c)
triple_value_read None None None r s t = nothing_read
triple_value_read None (Some b) None r s t = s
triple_value_read (Some a) None None r s t = r
triple_value_read (Some a) (Some b) None r s t = greater_read a b r s
triple_value_read None None (Some c) r s t = t
triple_value_read None (Some b) (Some c) r s t = t
triple_value_read (Some a) None (Some c) r s t = t
triple_value_read (Some a) (Some b) (Some c) r s t = t

triple_read : (unit : ℕ) (first : Option ℤ) (left : Left Token) (p : ℤ × Left Token) → IfThere first → triple unit first left ≡ Some p → IsReadFirst p
unfolding triple
triple_read unit first left p r is =
    behind IsReadFirst (colon left) (λ left. maybe_number unit left >>= λ s. (colon s.1 >>= λ left. (maybe_number unit left >>= λ t. Some (triple_value first s.0 t.0, t.1)))) p
    (λ one read_one p is. behind IsReadFirst (maybe_number unit one) (λ s. colon s.1 >>= λ left. (maybe_number unit left >>= λ t. Some (triple_value first s.0 t.0, t.1))) p
    (λ s read_s p is. behind IsReadFirst (colon s.1) (λ left. maybe_number unit left >>= λ t. Some (triple_value first s.0 t.0, t.1)) p
    (λ two read_two p is. gave IsReadFirst (maybe_number unit two) (λ t. (triple_value first s.0 t.0, t.1)) p
    (λ t read_t. triple_value_read first s.0 t.0 r (maybe_read unit one s read_s) (maybe_read unit two t read_t)) is) is) is) is

others_for : (stands : Bool) (unit : ℕ) (first : Option ℤ) (left : Left Token) (p : ℤ × Left Token) → IfThere first → (if stands then triple unit first left else Some (triple_value None None first, left)) ≡ Some p → IsReadFirst p
others_for true unit first left p r is = triple_read unit first left p r is
others_for false unit first left p r is = gives IsReadFirst (triple_value None None first, left) p (triple_value_read None None first tt tt r) is

value_read : (unit : ℕ) (left : Left Token) (p : ℤ × Left Token) → value unit left ≡ Some p → IsReadFirst p
unfolding value
value_read unit left p is =
    behind IsReadFirst (opening left) (λ left. maybe_number unit left >>= λ s. (others unit s.0 s.1 >>= λ v. (closing v.1 >>= λ left. Some (v.0, left)))) p
    (λ one read_one p is. behind IsReadFirst (maybe_number unit one) (λ s. others unit s.0 s.1 >>= λ v. (closing v.1 >>= λ left. Some (v.0, left))) p
    (λ s read_s p is. behind IsReadFirst (others unit s.0 s.1) (λ v. closing v.1 >>= λ left. Some (v.0, left)) p
    (λ v read_v p is. gave IsReadFirst (closing v.1) (λ left. (v.0, left)) p
    (λ end read_end. others_for (next_is (is_mark (codes ":")) s.1) unit s.0 s.1 v (maybe_read unit one s read_s) read_v) is) is) is) is

another_read : (unit : ℕ) (s p : ℤ × Left Token) → IsReadFirst s → another unit s ≡ Some p → IsReadFirst p
unfolding another
another_read unit s p r is = gave IsReadFirst (value unit s.1) (λ w. (greater s.0 w.0, w.1)) p (λ w read. greater_read s.0 w.0 r (value_read unit s.1 w read)) is

up_to_for : (stands : Bool) (n unit : ℕ) (s p : ℤ × Left Token) → ((t p : ℤ × Left Token) → IsReadFirst t → up_to n unit t ≡ Some p → IsReadFirst p) → IsReadFirst s →
    (if stands then (another unit s >>= λ more. up_to n unit more) else Some s) ≡ Some p → IsReadFirst p
up_to_for true n unit s p on r is = behind IsReadFirst (another unit s) (λ more. up_to n unit more) p (λ more read p is. on more p (another_read unit s more r read) is) is
up_to_for false n unit s p on r is = gives IsReadFirst s p r is

up_to_read : (n unit : ℕ) (s p : ℤ × Left Token) → IsReadFirst s → up_to n unit s ≡ Some p → IsReadFirst p
unfolding up_to
up_to_read zero unit s p r is = gives IsReadFirst s p r is
up_to_read (suc n) unit s p r is = up_to_for (next_is opens s.1) n unit s p (λ t p r is. up_to_read n unit t p r is) r is

values_read : (unit : ℕ) (left : Left Token) (p : ℤ × Left Token) → values unit left ≡ Some p → IsReadFirst p
unfolding values
values_read unit left p is = behind IsReadFirst (value unit left) (λ found. up_to 11 unit found) p (λ found read p is. up_to_read 11 unit found p (value_read unit left found read) is) is

abbrev IsReadEntry : SdfKind × Left Token → Type 0
IsReadEntry p = IsReadKind p.0

iopath_read : (divider unit : ℕ) (left : Left Token) (p : SdfKind × Left Token) → iopath divider unit left ≡ Some p → IsReadEntry p
unfolding iopath
iopath_read divider unit left p is =
    behind IsReadEntry (opened (codes "IOPATH") left) (λ left. port divider left >>= λ a. (name divider a.1 >>= λ b. (values unit b.1 >>= λ v. (closing v.1 >>= λ left. Some (Delay a.0.1 a.0.0 b.0 v.0, left))))) p
    (λ one read_one p is. behind IsReadEntry (port divider one) (λ a. name divider a.1 >>= λ b. (values unit b.1 >>= λ v. (closing v.1 >>= λ left. Some (Delay a.0.1 a.0.0 b.0 v.0, left)))) p
    (λ a read_a p is. behind IsReadEntry (name divider a.1) (λ b. values unit b.1 >>= λ v. (closing v.1 >>= λ left. Some (Delay a.0.1 a.0.0 b.0 v.0, left))) p
    (λ b read_b p is. behind IsReadEntry (values unit b.1) (λ v. closing v.1 >>= λ left. Some (Delay a.0.1 a.0.0 b.0 v.0, left)) p
    (λ v read_v p is. gave IsReadEntry (closing v.1) (λ left. (Delay a.0.1 a.0.0 b.0 v.0, left)) p (λ end read_end. values_read unit b.1 v read_v) is) is) is) is) is

conditional_read : (divider unit : ℕ) (left : Left Token) (p : SdfKind × Left Token) → conditional divider unit left ≡ Some p → IsReadEntry p
unfolding conditional
conditional_read divider unit left p is =
    behind IsReadEntry (opened (codes "COND") left) (λ left. before_last left >>= λ left. (iopath divider unit left >>= λ k. (closing k.1 >>= λ left. Some (k.0, left)))) p
    (λ one read_one p is. behind IsReadEntry (before_last one) (λ left. iopath divider unit left >>= λ k. (closing k.1 >>= λ left. Some (k.0, left))) p
    (λ two read_two p is. behind IsReadEntry (iopath divider unit two) (λ k. closing k.1 >>= λ left. Some (k.0, left)) p
    (λ k read_k p is. gave IsReadEntry (closing k.1) (λ left. (k.0, left)) p (λ end read_end. iopath_read divider unit two k read_k) is) is) is) is

otherwise_read : (divider unit : ℕ) (left : Left Token) (p : SdfKind × Left Token) → otherwise divider unit left ≡ Some p → IsReadEntry p
unfolding otherwise
otherwise_read divider unit left p is =
    behind IsReadEntry (opened (codes "CONDELSE") left) (λ left. iopath divider unit left >>= λ k. (closing k.1 >>= λ left. Some (k.0, left))) p
    (λ two read_two p is. behind IsReadEntry (iopath divider unit two) (λ k. closing k.1 >>= λ left. Some (k.0, left)) p
    (λ k read_k p is. gave IsReadEntry (closing k.1) (λ left. (k.0, left)) p (λ end read_end. iopath_read divider unit two k read_k) is) is) is

interconnect_read : (divider unit : ℕ) (left : Left Token) (p : SdfKind × Left Token) → interconnect divider unit left ≡ Some p → IsReadEntry p
unfolding interconnect
interconnect_read divider unit left p is =
    behind IsReadEntry (opened (codes "INTERCONNECT") left) (λ left. name divider left >>= λ a. (name divider a.1 >>= λ b. (values unit b.1 >>= λ v. (closing v.1 >>= λ left. Some (Wire a.0 b.0 v.0, left))))) p
    (λ one read_one p is. behind IsReadEntry (name divider one) (λ a. name divider a.1 >>= λ b. (values unit b.1 >>= λ v. (closing v.1 >>= λ left. Some (Wire a.0 b.0 v.0, left)))) p
    (λ a read_a p is. behind IsReadEntry (name divider a.1) (λ b. values unit b.1 >>= λ v. (closing v.1 >>= λ left. Some (Wire a.0 b.0 v.0, left))) p
    (λ b read_b p is. behind IsReadEntry (values unit b.1) (λ v. closing v.1 >>= λ left. Some (Wire a.0 b.0 v.0, left)) p
    (λ v read_v p is. gave IsReadEntry (closing v.1) (λ left. (Wire a.0 b.0 v.0, left)) p (λ end read_end. values_read unit b.1 v read_v) is) is) is) is) is

delay_for : (path condition other : Bool) (divider unit : ℕ) (left : Left Token) (p : SdfKind × Left Token) → (if path then iopath divider unit left else (if condition then conditional divider unit left else (if other then otherwise divider unit left else interconnect divider unit left))) ≡ Some p → IsReadEntry p
delay_for true condition other divider unit left p is = iopath_read divider unit left p is
delay_for false true other divider unit left p is = conditional_read divider unit left p is
delay_for false false true divider unit left p is = otherwise_read divider unit left p is
delay_for false false false divider unit left p is = interconnect_read divider unit left p is

delay_read : (divider unit : ℕ) (left : Left Token) (p : SdfKind × Left Token) → delay divider unit left ≡ Some p → IsReadEntry p
unfolding delay
delay_read divider unit left p is = delay_for (starts (codes "IOPATH") left) (starts (codes "COND") left) (starts (codes "CONDELSE") left) divider unit left p is

setup_read : (divider unit : ℕ) (left : Left Token) (p : SdfKind × Left Token) → setup divider unit left ≡ Some p → IsReadEntry p
unfolding setup
setup_read divider unit left p is =
    behind IsReadEntry (opened (codes "SETUP") left) (λ left. check_port divider left >>= λ a. (check_port divider a.1 >>= λ b. (value unit b.1 >>= λ v. (closing v.1 >>= λ left. Some (Setup a.0.1 b.0.1 b.0.0 v.0, left))))) p
    (λ one read_one p is. behind IsReadEntry (check_port divider one) (λ a. check_port divider a.1 >>= λ b. (value unit b.1 >>= λ v. (closing v.1 >>= λ left. Some (Setup a.0.1 b.0.1 b.0.0 v.0, left)))) p
    (λ a read_a p is. behind IsReadEntry (check_port divider a.1) (λ b. value unit b.1 >>= λ v. (closing v.1 >>= λ left. Some (Setup a.0.1 b.0.1 b.0.0 v.0, left))) p
    (λ b read_b p is. behind IsReadEntry (value unit b.1) (λ v. closing v.1 >>= λ left. Some (Setup a.0.1 b.0.1 b.0.0 v.0, left)) p
    (λ v read_v p is. gave IsReadEntry (closing v.1) (λ left. (Setup a.0.1 b.0.1 b.0.0 v.0, left)) p (λ end read_end. value_read unit b.1 v read_v) is) is) is) is) is

hold_read : (divider unit : ℕ) (left : Left Token) (p : SdfKind × Left Token) → setup_hold divider unit left ≡ Some p → IsReadEntry p
unfolding setup_hold
hold_read divider unit left p is =
    behind IsReadEntry (opened (codes "SETUPHOLD") left) (λ left. check_port divider left >>= λ a. (check_port divider a.1 >>= λ b. (value unit b.1 >>= λ v. (value unit v.1 >>= λ w. (lists w.1 >>= λ left. (closing left >>= λ left. Some (Setup a.0.1 b.0.1 b.0.0 v.0, left))))))) p
    (λ one read_one p is. behind IsReadEntry (check_port divider one) (λ a. check_port divider a.1 >>= λ b. (value unit b.1 >>= λ v. (value unit v.1 >>= λ w. (lists w.1 >>= λ left. (closing left >>= λ left. Some (Setup a.0.1 b.0.1 b.0.0 v.0, left)))))) p
    (λ a read_a p is. behind IsReadEntry (check_port divider a.1) (λ b. value unit b.1 >>= λ v. (value unit v.1 >>= λ w. (lists w.1 >>= λ left. (closing left >>= λ left. Some (Setup a.0.1 b.0.1 b.0.0 v.0, left))))) p
    (λ b read_b p is. behind IsReadEntry (value unit b.1) (λ v. value unit v.1 >>= λ w. (lists w.1 >>= λ left. (closing left >>= λ left. Some (Setup a.0.1 b.0.1 b.0.0 v.0, left)))) p
    (λ v read_v p is. behind IsReadEntry (value unit v.1) (λ w. lists w.1 >>= λ left. (closing left >>= λ left. Some (Setup a.0.1 b.0.1 b.0.0 v.0, left))) p
    (λ w read_w p is. behind IsReadEntry (lists w.1) (λ left. closing left >>= λ left. Some (Setup a.0.1 b.0.1 b.0.0 v.0, left)) p
    (λ two read_two p is. gave IsReadEntry (closing two) (λ left. (Setup a.0.1 b.0.1 b.0.0 v.0, left)) p (λ end read_end. value_read unit b.1 v read_v) is) is) is) is) is) is) is

abbrev IfKind : Option SdfKind → Type 0
IfKind None = Unit {0}
IfKind (Some kind) = IsReadKind kind

abbrev IsReadCheck : Option SdfKind × Left Token → Type 0
IsReadCheck p = IfKind p.0

check_for : (setups holds : Bool) (divider unit : ℕ) (left : Left Token) (p : Option SdfKind × Left Token) → (if setups then effect (setup divider unit left) else (if holds then effect (setup_hold divider unit left) else no_effect (other_check left))) ≡ Some p → IsReadCheck p
check_for true holds divider unit left p is = gave IsReadCheck (setup divider unit left) (λ k. (Some k.0, k.1)) p (λ k read. setup_read divider unit left k read) is
check_for false true divider unit left p is = gave IsReadCheck (setup_hold divider unit left) (λ k. (Some k.0, k.1)) p (λ k read. hold_read divider unit left k read) is
check_for false false divider unit left p is = gave IsReadCheck (other_check left) (λ left. (None, left)) p (λ left read. tt) is

check_read : (divider unit : ℕ) (left : Left Token) (p : Option SdfKind × Left Token) → check divider unit left ≡ Some p → IsReadCheck p
unfolding check
check_read divider unit left p is = check_for (starts (codes "SETUP") left) (starts (codes "SETUPHOLD") left) divider unit left p is

-- the rows so far
abbrev AreReadRows : Rows → Type 0
AreReadRows s = All (λ r. IsReadKind r.kind) s.0

one_more : (rows : List SdfRow) (r : SdfRow) → All (λ r. IsReadKind r.kind) rows → IsReadKind r.kind → All (λ r. IsReadKind r.kind) (rows ++ r ∷ [])
one_more rows r before last = All-append (λ r. IsReadKind r.kind) rows (r ∷ []) before (All-cons (λ r. IsReadKind r.kind) r [] last (All-nil (λ r. IsReadKind r.kind)))

last_for : (stop : Bool) (s p : Rows) → AreReadRows s → (if stop then Some s else None) ≡ Some p → AreReadRows p
last_for true s p r is = gives AreReadRows s p r is
last_for false s p r is = (let no : ⊥ = cc in absurd no)

turn_for : (stop : Bool) (step : Rows → Option Rows) (on : Rows → Option Rows) (s p : Rows) → ((s p : Rows) → AreReadRows s → step s ≡ Some p → AreReadRows p) → ((s p : Rows) → AreReadRows s → on s ≡ Some p → AreReadRows p) → AreReadRows s →
    (if stop then Some s else (step s >>= λ t. on t)) ≡ Some p → AreReadRows p
turn_for true step on s p keeps goes r is = gives AreReadRows s p r is
turn_for false step on s p keeps goes r is = behind AreReadRows (step s) (λ t. on t) p (λ t read p is. goes t p (keeps s t r read) is) is

until_read : (stops : Rows → Bool) (step : Rows → Option Rows) (n : ℕ) (s p : Rows) → ((s p : Rows) → AreReadRows s → step s ≡ Some p → AreReadRows p) → AreReadRows s → until stops step n s ≡ Some p → AreReadRows p
unfolding until
until_read stops step zero s p keeps r is = last_for (stops s) s p r is
until_read stops step (suc n) s p keeps r is = turn_for (stops s) step (λ t. until stops step n t) s p keeps (λ t p r is. until_read stops step n t p keeps r is) r is

abbrev Keeps : (Rows → Option Rows) → Type 0
Keeps step = (s p : Rows) → AreReadRows s → step s ≡ Some p → AreReadRows p

many_read : (step : Rows → Option Rows) → Keeps step → Keeps (many step)
unfolding many
many_read step keeps s p r is = until_read (λ t. no_list t.1) step (length s.1.0) s p keeps r is

listed_read : (keyword : List ℕ) (step : Rows → Option Rows) → Keeps step → Keeps (listed keyword step)
unfolding listed
listed_read keyword step keeps s p r is =
    behind AreReadRows (opened keyword s.1) (λ left. many step (s.0, left) >>= λ t. (closing t.1 >>= λ left. Some (t.0, left))) p
    (λ one read_one p is. behind AreReadRows (many step (s.0, one)) (λ t. closing t.1 >>= λ left. Some (t.0, left)) p
    (λ t read_t p is. gave AreReadRows (closing t.1) (λ left. (t.0, left)) p (λ end read_end. many_read step keeps (s.0, one) t r read_t) is) is) is

delay_row_read : (scope : Scope) → Keeps (delay_row scope)
unfolding delay_row
delay_row_read scope s p r is = gave AreReadRows (delay scope.divider scope.unit s.1) (λ k. (s.0 ++ row scope k.0 ∷ [], k.1)) p (λ k read. one_more s.0 (row scope k.0) r (delay_read scope.divider scope.unit s.1 k read)) is

with_check_read : (scope : Scope) (rows : List SdfRow) (kind : Option SdfKind) → All (λ r. IsReadKind r.kind) rows → IfKind kind → All (λ r. IsReadKind r.kind) (with_check scope rows kind)
with_check_read scope rows None before r = before
with_check_read scope rows (Some kind) before r = one_more rows (row scope kind) before r

check_row_read : (scope : Scope) → Keeps (check_row scope)
unfolding check_row
check_row_read scope s p r is = gave AreReadRows (check scope.divider scope.unit s.1) (λ k. (with_check scope s.0 k.0, k.1)) p (λ k read. with_check_read scope s.0 k.0 r (check_read scope.divider scope.unit s.1 k read)) is

timing_for : (checks : Bool) (scope : Scope) (s p : Rows) → AreReadRows s → (if checks then listed (codes "TIMINGCHECK") (check_row scope) s else listed (codes "DELAY") (absolute scope) s) ≡ Some p → AreReadRows p
timing_for true scope s p r is = listed_read (codes "TIMINGCHECK") (check_row scope) (check_row_read scope) s p r is
timing_for false scope s p r is = listed_read (codes "DELAY") (absolute scope) (λ s p r is. listed_read (codes "ABSOLUTE") (delay_row scope) (delay_row_read scope) s p r is) s p r is

timing_read : (scope : Scope) → Keeps (timing scope)
timing_read scope s p r is = timing_for (starts (codes "TIMINGCHECK") s.1) scope s p r is

cell_read : (outer : Scope) → Keeps (cell outer)
unfolding cell
cell_read outer s p r is =
    behind AreReadRows (cell_head outer.divider s.1) (λ h. many (timing (inside outer h.0)) (s.0 ++ row (inside outer h.0) Cell ∷ [], h.1) >>= λ t. (closing t.1 >>= λ left. Some (t.0, left))) p
    (λ h read_h p is. behind AreReadRows (many (timing (inside outer h.0)) (s.0 ++ row (inside outer h.0) Cell ∷ [], h.1)) (λ t. closing t.1 >>= λ left. Some (t.0, left)) p
    (λ t read_t p is. gave AreReadRows (closing t.1) (λ left. (t.0, left)) p
    (λ end read_end. many_read (timing (inside outer h.0)) (timing_read (inside outer h.0)) (s.0 ++ row (inside outer h.0) Cell ∷ [], h.1) t (one_more s.0 (row (inside outer h.0) Cell) r tt) read_t) is) is) is

abbrev IsReadFile : SdfFile × Option ℕ → Type 0
IsReadFile f = All (λ r. IsReadKind r.kind) f.0.rows

file_read : (left : Left Token) (f : SdfFile × Option ℕ) → file left ≡ Some f → IsReadFile f
unfolding file
file_read left f is =
    behind IsReadFile (front left) (λ h. many (cell (scope_in h.0)) ([], h.1) >>= λ t. (closing t.1 >>= λ left. (end_of left >>= λ breach. Some (record { rows = t.0 }, breach)))) f
    (λ h read_h f is. behind IsReadFile (many (cell (scope_in h.0)) ([], h.1)) (λ t. closing t.1 >>= λ left. (end_of left >>= λ breach. Some (record { rows = t.0 }, breach))) f
    (λ t read_t f is. behind IsReadFile (closing t.1) (λ left. end_of left >>= λ breach. Some (record { rows = t.0 }, breach)) f
    (λ end read_end f is. gave IsReadFile (end_of end) (λ breach. (record { rows = t.0 }, breach)) f
    (λ breach none. many_read (cell (scope_in h.0)) (cell_read (scope_in h.0)) ([], h.1) t (All-nil (λ r. IsReadKind r.kind)) read_t) is) is) is) is

-- the rows of a text that reads
pub ranges_of : (text : List ℕ) (result : Result SdfFile SdfFault) → IsReadAnswer text result → IfOk result (λ value. All (λ r. IsReadKind r.kind) value.rows)
ranges_of text (Ok value) is = file_read (tokens_of text, None) (value, None) is
ranges_of text (Err fault) is = tt
