-- What a table of ports comes to know, and the earliest of some faults.
use Rattle.std.proofs.Common.{◌≡◌, ℕ, ◌==◌, ◌<◌, ◌≤◌, ◌&&◌, ◌||◌, not, nat_lt, Bool, true, false, Option, Some, None, List, [], ◌∷◌, ◌++◌, map, take, drop, get_or, length, ◌+◌, refl, sym, ap, ◌∙◌, subst, arith, append_assoc, Ok, Err, Result, if◌then◌else◌}
use Rattle.std.specs.Prelude.{is_some, filter}
use Rattle.std.specs.Borrow.{Bor}
use Rattle.std.specs.List.{list_all, flat_map}
use Rattle.std.specs.Map.{lookup}
use Rattle.std.specs.Str.{bytes_eq}
use Rattle.indexmap.specs.IndexMap.{insert_entry}
use Rattle.std.proofs.lemmas.Bool.{and_parts, eq-eqb, eqb-true, ltb-true, ltb-false, lt-ltb}
use Rattle.std.proofs.lemmas.List.{append-nil, take_more, drop_more, take-append-drop, map-append}
use Rattle.std.proofs.lemmas.List.Concat.{flat_map-append}
use Rattle.text_scan.proofs.Binds.{by_test}
use Rattle.verilog_reader.specs.Modules.{Declaration, or_before, declaration_of, header_declarations, is_listed, first_declared, one_if, listed_again, declared_again, undirected, earlier, earliest, declarations_in, nets_in, port_of, repeats_port, agrees}
use Rattle.verilog_reader.specs.Tables.{with_first, listed_by, joined, declared_by, IsTable, are_listed, IsDeclaring, AddsNets, seen}
use Rattle.bud_syntax.specs.declared.modules.NetDecl.{NetDecl}
use Rattle.bud_syntax.specs.declared.modules.Range.{Range}
use Rattle.verilog_reader.specs.declared.readings.Stop.{Stop}
use Rattle.verilog_reader.specs.declared.readings.Stop.TheVariants.{Syntax, NoMemory}
use Rattle.verilog_reader.specs.declared.trees.Named.{Named}
use Rattle.verilog_reader.specs.declared.trees.Declared.{Declared}
use Rattle.verilog_reader.specs.declared.trees.HeaderPort.{HeaderPort}

-- ---- bytes
pub bytes_same : (a b : List ℕ) → bytes_eq a b ≡ true → a ≡ b
bytes_same [] [] same = refl
bytes_same [] (b ∷ bs) same = absurd (cc)
bytes_same (x ∷ xs) [] same = absurd (cc)
bytes_same (x ∷ xs) (b ∷ bs) same =
    let parts = and_parts (x == b) (bytes_eq xs bs) same in
    rw (eqb-true x b parts.0, bytes_same xs bs parts.1) refl

bytes_itself : (b : List ℕ) → bytes_eq b b ≡ true
bytes_itself [] = refl
bytes_itself (b ∷ bs) = rw (eq-eqb b b refl) (bytes_itself bs)

bytes_turned : (a b : List ℕ) → bytes_eq a b ≡ bytes_eq b a
bytes_turned a b =
    by_test (bytes_eq a b)
    (λ same. same ∙ sym (rw (bytes_same a b same) (bytes_itself b)))
    (λ other. other ∙ sym (by_test (bytes_eq b a) (λ same. absurd (let e = rw (bytes_same b a same) at other in let itself = bytes_itself a in cc)) (λ o. o)))

-- what is found behind an entry
pub found_behind : (es : List (Bor (List ℕ) × Option Declared)) (key : Bor (List ℕ)) (v : Option Declared) (q : List ℕ) →
    lookup (λ (k : Bor (List ℕ)). bytes_eq q k.now) (insert_entry (λ (x y : Bor (List ℕ)). bytes_eq x.now y.now) es key v)
    ≡ (if bytes_eq key.now q then Some v else lookup (λ (k : Bor (List ℕ)). bytes_eq q k.now) es)
found_behind [] key v q = rw (bytes_turned q key.now) refl
found_behind (e ∷ es) key v q =
    by_test (bytes_eq key.now e.0.now)
    (λ same.
    let is : key.now ≡ e.0.now = bytes_same key.now e.0.now same in
    let turned : bytes_eq q e.0.now ≡ bytes_eq key.now q = ap (bytes_eq q) (sym is) ∙ bytes_turned q key.now in
    by_test (bytes_eq key.now q) (λ h. rw (same, turned, h) refl) (λ h. rw (same, turned, h) refl))
    (λ other.
    by_test (bytes_eq q e.0.now)
    (λ same.
    let is : q ≡ e.0.now = bytes_same q e.0.now same in
    let apart : bytes_eq key.now q ≡ false = ap (bytes_eq key.now) is ∙ other in
    rw (other, same, apart) refl)
    (λ h. rw (other, h) (found_behind es key v q)))

-- ---- the earliest of faults
pub earlier_assoc : (x y z : Option Named) → earlier (earlier x y) z ≡ earlier x (earlier y z)
earlier_assoc None y z = refl
earlier_assoc (Some a) None z = refl
earlier_assoc (Some a) (Some b) None = by_test (nat_lt b.at a.at) (λ h. rw h refl) (λ h. rw h refl)
earlier_assoc (Some a) (Some b) (Some c) =
    by_test (nat_lt b.at a.at)
    (λ ba. by_test (nat_lt c.at b.at)
    (λ cb.
    let below : b.at < a.at = ltb-true b.at a.at ba in
    let lower : c.at < b.at = ltb-true c.at b.at cb in
    let ca : nat_lt c.at a.at ≡ true = lt-ltb c.at a.at (omega arith) in
    rw (ba, cb, ca) refl)
    (λ cb. rw (ba, cb, ba) refl))
    (λ ba. by_test (nat_lt c.at a.at)
    (λ ca.
    let above : a.at ≤ b.at = ltb-false b.at a.at ba in
    let lower : c.at < a.at = ltb-true c.at a.at ca in
    let cb : nat_lt c.at b.at ≡ true = lt-ltb c.at b.at (omega arith) in
    rw (ba, ca, cb, ca) refl)
    (λ ca. by_test (nat_lt c.at b.at) (λ cb. rw (ba, ca, cb, ca) refl) (λ cb. rw (ba, ca, cb, ba) refl)))

pub earlier_none : (x : Option Named) → earlier x None ≡ x
earlier_none None = refl
earlier_none (Some a) = refl

pub earliest-append : (xs ys : List Named) → earliest (xs ++ ys) ≡ earlier (earliest xs) (earliest ys)
earliest-append [] ys = refl
earliest-append (x ∷ xs) ys = ap (earlier (Some x)) (earliest-append xs ys) ∙ sym (earlier_assoc (Some x) (earliest xs) (earliest ys))

-- ---- lists
pub or_true : (b : Bool) → (b || true) ≡ true
or_true true = refl
or_true false = refl

pub or_false : (b : Bool) → (b || false) ≡ b
or_false true = refl
or_false false = refl

pub list_all-append : {X : Type 0} (f : X → Bool) (xs ys : List X) → list_all f (xs ++ ys) ≡ (list_all f xs && list_all f ys)
list_all-append f [] ys = refl
list_all-append f (x ∷ xs) ys = by_test (f x) (λ h. rw h (list_all-append f xs ys)) (λ h. rw h refl)

pub all_both : {X : Type 0} (f : X → Bool) (xs ys : List X) → list_all f xs ≡ true → list_all f ys ≡ true → list_all f (xs ++ ys) ≡ true
all_both f xs ys first second = list_all-append f xs ys ∙ rw (first, second) refl

pub none_second : {X : Type 0} (f : X → Bool) (xs ys : List X) → list_all f ys ≡ false → list_all f (xs ++ ys) ≡ false
none_second f [] ys fails = fails
none_second f (x ∷ xs) ys fails = by_test (f x) (λ h. rw h (none_second f xs ys fails)) (λ h. rw h refl)

pub none_first : {X : Type 0} (f : X → Bool) (xs ys : List X) → list_all f xs ≡ false → list_all f (xs ++ ys) ≡ false
none_first f xs ys fails = list_all-append f xs ys ∙ rw fails refl

pub filter-append : {X : Type 0} (f : X → Bool) (xs ys : List X) → filter f (xs ++ ys) ≡ filter f xs ++ filter f ys
filter-append f [] ys = refl
filter-append f (x ∷ xs) ys = by_test (f x) (λ h. rw h (ap (λ zs. x ∷ zs) (filter-append f xs ys))) (λ h. rw h (filter-append f xs ys))

-- what a test picked
picked_first : {X : Type 0} (test : Bool) (x y z : X) → z ≡ (if test then x else y) → test ≡ true → z ≡ x
picked_first true x y z is holds = is
picked_first false x y z is holds = absurd (cc)

picked_second : {X : Type 0} (test : Bool) (x y z : X) → z ≡ (if test then x else y) → test ≡ false → z ≡ y
picked_second true x y z is fails = absurd (cc)
picked_second false x y z is fails = is

-- ---- tables
is_listed-append : (xs : List HeaderPort) (p : HeaderPort) (q : List ℕ) → is_listed (xs ++ p ∷ []) q ≡ (is_listed xs q || bytes_eq p.named.name q)
is_listed-append [] p q = or_false (bytes_eq p.named.name q)
is_listed-append (x ∷ xs) p q = by_test (bytes_eq x.named.name q) (λ h. rw h refl) (λ h. rw h (is_listed-append xs p q))

first_declared-more : (ds : List Declaration) (named : Named) (b : Option Declared) (q : List ℕ) → bytes_eq named.name q ≡ true →
    first_declared (ds ++ declaration_of named b) q ≡ or_before b (first_declared ds q)
first_declared-more [] named None q same = refl
first_declared-more [] named (Some d) q same = rw same refl
first_declared-more (x ∷ ds) named b q same =
    by_test (bytes_eq x.named.name q) (λ h. rw h refl) (λ h. rw h (first_declared-more ds named b q same))

first_declared-other : (ds : List Declaration) (named : Named) (b : Option Declared) (q : List ℕ) → bytes_eq named.name q ≡ false →
    first_declared (ds ++ declaration_of named b) q ≡ first_declared ds q
first_declared-other [] named None q other = refl
first_declared-other [] named (Some d) q other = rw other refl
first_declared-other (x ∷ ds) named b q other =
    by_test (bytes_eq x.named.name q) (λ h. rw h refl) (λ h. rw h (first_declared-other ds named b q other))

with_first_is : (k : Option (Option Declared)) (b : Option Declared) → with_first k b ≡ or_before b (joined k)
with_first_is None b = refl
with_first_is (Some d) b = refl

-- what is entered of a name, at each name
abbrev pub Entered : (List ℕ → Option (Option Declared)) → (List ℕ → Option (Option Declared)) → List ℕ → Option Declared → Type 0
Entered before after name b = (q : List ℕ) → after q ≡ (if bytes_eq name q then Some (with_first (before name) b) else before q)

-- what is declared behind an entry
declared_more : (listed : List HeaderPort) (ds : List Declaration) (named : Named) (b : Option Declared) (K M : List ℕ → Option (Option Declared)) →
    IsTable listed ds K → Entered K M named.name b → (q : List ℕ) → declared_by M q ≡ first_declared (ds ++ declaration_of named b) q
declared_more listed ds named b K M table entered q =
    by_test (bytes_eq named.name q)
    (λ same.
    let e : named.name ≡ q = bytes_same named.name q same in
    ap joined (picked_first _ _ _ _ (entered q) same) ∙ with_first_is (K named.name) b ∙ ap (or_before b) (table.declared_is named.name ∙ ap (first_declared ds) e) ∙ sym (first_declared-more ds named b q same))
    (λ other. ap joined (picked_second _ _ _ _ (entered q) other) ∙ table.declared_is q ∙ sym (first_declared-other ds named b q other))

-- a port is listed
pub table_lists : (listed : List HeaderPort) (ds : List Declaration) (p : HeaderPort) (b : Option Declared) (K M : List ℕ → Option (Option Declared)) →
    IsTable listed ds K → Entered K M p.named.name b → IsTable (listed ++ p ∷ []) (ds ++ declaration_of p.named b) M
table_lists listed ds p b K M table entered = record {
  listed_is = λ q.
      by_test (bytes_eq p.named.name q)
      (λ same. ap is_some (picked_first _ _ _ _ (entered q) same) ∙ sym (is_listed-append listed p q ∙ rw same (or_true (is_listed listed q))))
      (λ other. ap is_some (picked_second _ _ _ _ (entered q) other) ∙ table.listed_is q ∙ sym (is_listed-append listed p q ∙ rw other (or_false (is_listed listed q))));
  declared_is = declared_more listed ds p.named b K M table entered;
}

-- a listed port is declared
pub table_declares : (listed : List HeaderPort) (ds : List Declaration) (named : Named) (d : Declared) (known : Option Declared) (K M : List ℕ → Option (Option Declared)) →
    IsTable listed ds K → K named.name ≡ Some known → Entered K M named.name (Some d) → IsTable listed (ds ++ record { named = named; declared = d } ∷ []) M
table_declares listed ds named d known K M table is entered = record {
  listed_is = λ q.
      by_test (bytes_eq named.name q)
      (λ same.
      let e : named.name ≡ q = bytes_same named.name q same in
      ap is_some (picked_first _ _ _ _ (entered q) same) ∙ sym (ap is_some is) ∙ table.listed_is named.name ∙ ap (is_listed listed) e)
      (λ other. ap is_some (picked_second _ _ _ _ (entered q) other) ∙ table.listed_is q);
  declared_is = declared_more listed ds named (Some d) K M table entered;
}

-- ---- the ports of a header
-- the declaration that the next port takes over
abbrev pub taken_over : Option Declared → List HeaderPort → Option Declared
taken_over before [] = before
taken_over before (p ∷ ps) = taken_over (or_before before p.declared) ps

header_declarations-more : (before : Option Declared) (xs : List HeaderPort) (p : HeaderPort) →
    header_declarations before (xs ++ p ∷ []) ≡ header_declarations before xs ++ declaration_of p.named (or_before (taken_over before xs) p.declared)
header_declarations-more before [] p = append-nil (declaration_of p.named (or_before before p.declared))
header_declarations-more before (x ∷ xs) p =
    ap (λ ds. declaration_of x.named (or_before before x.declared) ++ ds) (header_declarations-more (or_before before x.declared) xs p)
    ∙ sym (append_assoc (declaration_of x.named (or_before before x.declared)) (header_declarations (or_before before x.declared) xs) (declaration_of p.named (or_before (taken_over (or_before before x.declared) xs) p.declared)))

taken_over-more : (before : Option Declared) (xs : List HeaderPort) (p : HeaderPort) → taken_over before (xs ++ p ∷ []) ≡ or_before (taken_over before xs) p.declared
taken_over-more before [] p = refl
taken_over-more before (x ∷ xs) p = taken_over-more (or_before before x.declared) xs p

listed_again-more : (before xs : List HeaderPort) (p : HeaderPort) → listed_again before (xs ++ p ∷ []) ≡ listed_again before xs ++ one_if (is_listed (before ++ xs) p.named.name) p.named
listed_again-more before [] p = append-nil (one_if (is_listed before p.named.name) p.named) ∙ ap (λ hs. one_if (is_listed hs p.named.name) p.named) (sym (append-nil before))
listed_again-more before (x ∷ xs) p =
    let first = one_if (is_listed before x.named.name) x.named in
    ap (λ ns. first ++ ns) (listed_again-more (before ++ x ∷ []) xs p)
    ∙ sym (append_assoc first (listed_again (before ++ x ∷ []) xs) (one_if (is_listed ((before ++ x ∷ []) ++ xs) p.named.name) p.named))
    ∙ ap (λ hs. (first ++ listed_again (before ++ x ∷ []) xs) ++ one_if (is_listed hs p.named.name) p.named) (append_assoc before (x ∷ []) xs)

-- what a loop over a header keeps: the table of the ports so far, the declaration that the next one takes over, and the fault so far
pub record ListsPorts (listed : List HeaderPort) (knows : List ℕ → Option (Option Declared)) (before : Option Declared) (fault : Option Named) : Type 0 where
  pub table : IsTable listed (header_declarations None listed) knows
  pub before_is : before ≡ taken_over None listed
  pub fault_is : fault ≡ earliest (listed_again [] listed)

pub lists_none : (knows : List ℕ → Option (Option Declared)) → ((q : List ℕ) → knows q ≡ None) → ListsPorts [] knows None None
lists_none knows none = record {
  table = record { listed_is = λ q. ap is_some (none q); declared_is = λ q. ap joined (none q) };
  before_is = refl;
  fault_is = refl;
}

pub lists_more : (listed : List HeaderPort) (p : HeaderPort) (K M : List ℕ → Option (Option Declared)) (before next : Option Declared) (fault found : Option Named) →
    ListsPorts listed K before fault → next ≡ or_before before p.declared → Entered K M p.named.name next →
    found ≡ earlier fault (earliest (one_if (is_some (K p.named.name)) p.named)) → ListsPorts (listed ++ p ∷ []) M next found
lists_more listed p K M before next fault found given next_is entered found_is =
    let is : next ≡ or_before (taken_over None listed) p.declared = next_is ∙ ap (λ b. or_before b p.declared) given.before_is in
    let P : List Declaration → Type 0 = λ ds. IsTable (listed ++ p ∷ []) ds M in
    record {
      table = subst P (ap (λ b. header_declarations None listed ++ declaration_of p.named b) is ∙ sym (header_declarations-more None listed p))
          (table_lists listed (header_declarations None listed) p next K M given.table entered);
      before_is = is ∙ sym (taken_over-more None listed p);
      fault_is =
          found_is
          ∙ ap (λ f. earlier f (earliest (one_if (is_some (K p.named.name)) p.named))) given.fault_is
          ∙ ap (λ b. earlier (earliest (listed_again [] listed)) (earliest (one_if b p.named))) (given.table.listed_is p.named.name)
          ∙ sym (ap earliest (listed_again-more [] listed p) ∙ earliest-append (listed_again [] listed) (one_if (is_listed listed p.named.name) p.named));
    }

-- ---- declarations of a body
declared_again-append : (before xs ys : List Declaration) → declared_again before (xs ++ ys) ≡ declared_again before xs ++ declared_again (before ++ xs) ys
declared_again-append before [] ys = ap (λ ds. declared_again ds ys) (sym (append-nil before))
declared_again-append before (x ∷ xs) ys =
    let first = one_if (is_some (first_declared before x.named.name)) x.named in
    ap (λ ns. first ++ ns) (declared_again-append (before ++ x ∷ []) xs ys)
    ∙ sym (append_assoc first (declared_again (before ++ x ∷ []) xs) (declared_again ((before ++ x ∷ []) ++ xs) ys))
    ∙ ap (λ ds. (first ++ declared_again (before ++ x ∷ []) xs) ++ declared_again ds ys) (append_assoc before (x ∷ []) xs)

pub declares_none : (listed : List HeaderPort) (before : List Declaration) (K : List ℕ → Option (Option Declared)) (fault : Option (Bor Named)) →
    IsTable listed before K → IsDeclaring listed before [] K (seen fault) (Ok fault)
declares_none listed before K fault table =
    let P : List Declaration → Type 0 = λ ds. IsTable listed ds K in
    (subst P (sym (append-nil before)) table, refl, sym (earlier_none (seen fault)))

pub declares_one : (listed : List HeaderPort) (before : List Declaration) (named : Named) (d : Declared) (known : Option Declared) (K M : List ℕ → Option (Option Declared)) (fault : Option Named) (found : Option (Bor Named)) →
    IsTable listed before K → K named.name ≡ Some known → Entered K M named.name (Some d) → seen found ≡ earlier fault (earliest (one_if (is_some known) named)) →
    IsDeclaring listed before (record { named = named; declared = d } ∷ []) M fault (Ok found)
declares_one listed before named d known K M fault found table is entered found_is =
    let known_is : known ≡ first_declared before named.name = sym (ap joined is) ∙ table.declared_is named.name in
    let listed_is : is_listed listed named.name ≡ true = sym (table.listed_is named.name) ∙ ap is_some is in (
      table_declares listed before named d known K M table is entered,
      rw listed_is refl,
      found_is ∙ ap (λ k. earlier fault (earliest (one_if (is_some k) named))) known_is
          ∙ ap (λ ns. earlier fault (earliest ns)) (sym (append-nil (one_if (is_some (first_declared before named.name)) named))),
    )

pub unlisted : (listed : List HeaderPort) (before : List Declaration) (name : List ℕ) (K : List ℕ → Option (Option Declared)) → IsTable listed before K → K name ≡ None → is_listed listed name ≡ false
unlisted listed before name K table none = sym (table.listed_is name) ∙ ap is_some none

pub declares_both : (listed : List HeaderPort) (before xs ys : List Declaration) (K M : List ℕ → Option (Option Declared)) (fault : Option Named) (found : Option (Bor Named)) (r : Result (Option (Bor Named)) Stop) →
    IsDeclaring listed before xs K fault (Ok found) → (IsTable listed (before ++ xs) K → IsDeclaring listed (before ++ xs) ys M (seen found) r) → IsDeclaring listed before (xs ++ ys) M fault r
declares_both listed before xs ys K M fault found (Ok last) first second =
    let last_one = second first.0 in
    let P : List Declaration → Type 0 = λ ds. IsTable listed ds M in (
      subst P (append_assoc before xs ys) last_one.0,
      all_both (λ d. is_listed listed d.named.name) xs ys first.1 last_one.1,
      last_one.2 ∙ ap (λ f. earlier f (earliest (declared_again (before ++ xs) ys))) first.2
          ∙ earlier_assoc fault (earliest (declared_again before xs)) (earliest (declared_again (before ++ xs) ys))
          ∙ ap (earlier fault) (sym (ap earliest (declared_again-append before xs ys) ∙ earliest-append (declared_again before xs) (declared_again (before ++ xs) ys))),
    )
declares_both listed before xs ys K M fault found (Err (Syntax at)) first second = none_second (λ d. is_listed listed d.named.name) xs ys (second first.0)
declares_both listed before xs ys K M fault found (Err NoMemory) first second = tt

-- what stops in the middle stops the whole
pub declares_stops : (listed : List HeaderPort) (before xs ys : List Declaration) (K M : List ℕ → Option (Option Declared)) (fault : Option Named) (stop : Stop) →
    IsDeclaring listed before xs K fault (Err stop) → IsDeclaring listed before (xs ++ ys) M fault (Err stop)
declares_stops listed before xs ys K M fault (Syntax at) first = none_first (λ d. is_listed listed d.named.name) xs ys first
declares_stops listed before xs ys K M fault NoMemory first = tt

-- ---- nets
pub adds_none : (K : List ℕ → Option (Option Declared)) (old : List NetDecl) (u : Unit {0}) → AddsNets K [] old old (Ok u)
adds_none K old u = (sym (append-nil old), refl)

pub adds_both : (K : List ℕ → Option (Option Declared)) (xs ys old mid new : List NetDecl) (u : Unit {0}) (r : Result (Unit {0}) Stop) →
    AddsNets K xs old mid (Ok u) → AddsNets K ys mid new r → AddsNets K (xs ++ ys) old new r
adds_both K xs ys old mid new u (Ok v) first second =
    let f : NetDecl → Bool = λ n. not (repeats_port (listed_by K) n) in (
      second.0 ∙ ap (λ ns. ns ++ filter f ys) first.0 ∙ append_assoc old (filter f xs) (filter f ys) ∙ ap (λ ns. old ++ ns) (sym (filter-append f xs ys)),
      all_both (agrees (listed_by K) (declared_by K)) xs ys first.1 second.1,
    )
adds_both K xs ys old mid new u (Err (Syntax at)) first second = none_second (agrees (listed_by K) (declared_by K)) xs ys second
adds_both K xs ys old mid new u (Err NoMemory) first second = tt

pub adds_stops : (K : List ℕ → Option (Option Declared)) (xs ys old mid new : List NetDecl) (stop : Stop) → AddsNets K xs old mid (Err stop) → AddsNets K (xs ++ ys) old new (Err stop)
adds_stops K xs ys old mid new (Syntax at) first = none_first (agrees (listed_by K) (declared_by K)) xs ys first
adds_stops K xs ys old mid new NoMemory first = tt

-- ---- lists taken one by one
pub take_one : {X : Type 0} (xs : List X) (i : ℕ) (x : X) → i < length xs → x ≡ get_or xs i x → take (i + 1) xs ≡ take i xs ++ x ∷ []
take_one xs i x within is = take_more xs i x within ∙ ap (λ y. take i xs ++ y ∷ []) (sym is)

pub split_one : {X : Type 0} (xs : List X) (i : ℕ) (x : X) → i < length xs → x ≡ get_or xs i x → xs ≡ take i xs ++ x ∷ drop (i + 1) xs
split_one xs i x within is = sym (take-append-drop i xs) ∙ ap (λ ys. take i xs ++ ys) (drop_more xs i x within ∙ ap (λ y. y ∷ drop (i + 1) xs) (sym is))

undirected-more : (declared : List ℕ → Option Declared) (xs : List HeaderPort) (p : HeaderPort) → undirected declared (xs ++ p ∷ []) ≡ undirected declared xs ++ one_if (not (is_some (declared p.named.name))) p.named
undirected-more declared [] p = append-nil (one_if (not (is_some (declared p.named.name))) p.named)
undirected-more declared (x ∷ xs) p =
    let first = one_if (not (is_some (declared x.named.name))) x.named in
    ap (λ ns. first ++ ns) (undirected-more declared xs p) ∙ sym (append_assoc first (undirected declared xs) (one_if (not (is_some (declared p.named.name))) p.named))

-- one port more is made
pub made_one : (declared : List ℕ → Option Declared) (xs : List HeaderPort) (p : HeaderPort) → map (port_of declared) (xs ++ p ∷ []) ≡ map (port_of declared) xs ++ port_of declared p ∷ []
made_one declared xs p = map-append (port_of declared) xs (p ∷ [])

pub fault_one : (declared : List ℕ → Option Declared) (xs : List HeaderPort) (p : HeaderPort) (first so_far found : Option Named) →
    so_far ≡ earlier first (earliest (undirected declared xs)) → found ≡ earlier so_far (earliest (one_if (not (is_some (declared p.named.name))) p.named)) →
    found ≡ earlier first (earliest (undirected declared (xs ++ p ∷ [])))
fault_one declared xs p first so_far found given is =
    let last = one_if (not (is_some (declared p.named.name))) p.named in
    is ∙ ap (λ f. earlier f (earliest last)) given ∙ earlier_assoc first (earliest (undirected declared xs)) (earliest last)
    ∙ ap (earlier first) (sym (ap earliest (undirected-more declared xs p) ∙ earliest-append (undirected declared xs) last))

-- ---- turns of the loops
module _ (listed : List HeaderPort) (before : List Declaration) where
  pub name_refused : (d : Declared) (names : List Named) (i : ℕ) (x : Named) (K : List ℕ → Option (Option Declared)) (fault : Option Named) (found : Option (Bor Named)) →
      i < length names → x ≡ get_or names i x → IsDeclaring listed before (declarations_in d (take i names)) K fault (Ok found) → K x.name ≡ None →
      are_listed listed (declarations_in d names) ≡ false
  name_refused d names i x K fault found within is given none =
      let f : Named → Declaration = λ n. record { named = n; declared = d } in
      let head : is_listed listed x.name ≡ false = unlisted listed (before ++ declarations_in d (take i names)) x.name K given.0 none in
      ap (λ ns. are_listed listed (map f ns)) (split_one names i x within is)
      ∙ ap (are_listed listed) (map-append f (take i names) (x ∷ drop (i + 1) names))
      ∙ none_second (λ e. is_listed listed e.named.name) (map f (take i names)) (map f (x ∷ drop (i + 1) names)) (rw head refl)

  pub name_declared : (d : Declared) (names : List Named) (i : ℕ) (x : Named) (known : Option Declared) (K M : List ℕ → Option (Option Declared)) (fault : Option Named) (first found : Option (Bor Named)) →
      i < length names → x ≡ get_or names i x → IsDeclaring listed before (declarations_in d (take i names)) K fault (Ok first) → K x.name ≡ Some known →
      Entered K M x.name (Some d) → seen found ≡ earlier (seen first) (earliest (one_if (is_some known) x)) → IsDeclaring listed before (declarations_in d (take (i + 1) names)) M fault (Ok found)
  name_declared d names i x known K M fault first found within is given known_is entered found_is =
      let f : Named → Declaration = λ n. record { named = n; declared = d } in
      let P : List Declaration → Type 0 = λ ds. IsDeclaring listed before ds M fault (Ok found) in
      subst P (sym (ap (map f) (take_one names i x within is) ∙ map-append f (take i names) (x ∷ [])))
      (declares_both listed before (map f (take i names)) (map f (x ∷ [])) K M fault first (Ok found) given
      (λ table. declares_one listed (before ++ map f (take i names)) x d known K M (seen first) found table known_is entered found_is))

  module _ {X : Type 0} (f : X → List Declaration) where
    pub items_stopped : (xs : List X) (i : ℕ) (x : X) (K M : List ℕ → Option (Option Declared)) (fault : Option Named) (first : Option (Bor Named)) (stop : Stop) →
        i < length xs → x ≡ get_or xs i x → IsDeclaring listed before (flat_map f (take i xs)) K fault (Ok first) →
        (IsTable listed (before ++ flat_map f (take i xs)) K → IsDeclaring listed (before ++ flat_map f (take i xs)) (f x) M (seen first) (Err stop)) →
        IsDeclaring listed before (flat_map f xs) M fault (Err stop)
    items_stopped xs i x K M fault first stop within is given stops =
        let P : List Declaration → Type 0 = λ ds. IsDeclaring listed before ds M fault (Err stop) in
        subst P (sym (ap (flat_map f) (split_one xs i x within is) ∙ flat_map-append f (take i xs) (x ∷ drop (i + 1) xs)))
        (declares_both listed before (flat_map f (take i xs)) (flat_map f (x ∷ drop (i + 1) xs)) K M fault first (Err stop) given
        (λ table. declares_stops listed (before ++ flat_map f (take i xs)) (f x) (flat_map f (drop (i + 1) xs)) M M (seen first) stop (stops table)))

    pub items_declared : (xs : List X) (i : ℕ) (x : X) (K M : List ℕ → Option (Option Declared)) (fault : Option Named) (first found : Option (Bor Named)) →
        i < length xs → x ≡ get_or xs i x → IsDeclaring listed before (flat_map f (take i xs)) K fault (Ok first) →
        (IsTable listed (before ++ flat_map f (take i xs)) K → IsDeclaring listed (before ++ flat_map f (take i xs)) (f x) M (seen first) (Ok found)) →
        IsDeclaring listed before (flat_map f (take (i + 1) xs)) M fault (Ok found)
    items_declared xs i x K M fault first found within is given goes =
        let P : List Declaration → Type 0 = λ ds. IsDeclaring listed before ds M fault (Ok found) in
        subst P (sym (ap (flat_map f) (take_one xs i x within is) ∙ flat_map-append f (take i xs) (x ∷ []) ∙ ap (λ ds. flat_map f (take i xs) ++ ds) (append-nil (f x))))
        (declares_both listed before (flat_map f (take i xs)) (f x) K M fault first (Ok found) given goes)

module _ {X : Type 0} (f : X → List NetDecl) (K : List ℕ → Option (Option Declared)) where
  pub nets_stopped : (xs : List X) (i : ℕ) (x : X) (old mid new : List NetDecl) (stop : Stop) → i < length xs → x ≡ get_or xs i x →
      AddsNets K (flat_map f (take i xs)) old mid (Ok tt) → AddsNets K (f x) mid new (Err stop) → AddsNets K (flat_map f xs) old new (Err stop)
  nets_stopped xs i x old mid new stop within is given stops =
      let P : List NetDecl → Type 0 = λ ns. AddsNets K ns old new (Err stop) in
      subst P (sym (ap (flat_map f) (split_one xs i x within is) ∙ flat_map-append f (take i xs) (x ∷ drop (i + 1) xs)))
      (adds_both K (flat_map f (take i xs)) (flat_map f (x ∷ drop (i + 1) xs)) old mid new tt (Err stop) given
      (adds_stops K (f x) (flat_map f (drop (i + 1) xs)) mid new new stop stops))

  pub nets_added : (xs : List X) (i : ℕ) (x : X) (old mid new : List NetDecl) → i < length xs → x ≡ get_or xs i x →
      AddsNets K (flat_map f (take i xs)) old mid (Ok tt) → AddsNets K (f x) mid new (Ok tt) → AddsNets K (flat_map f (take (i + 1) xs)) old new (Ok tt)
  nets_added xs i x old mid new within is given goes =
      let P : List NetDecl → Type 0 = λ ns. AddsNets K ns old new (Ok tt) in
      subst P (sym (ap (flat_map f) (take_one xs i x within is) ∙ flat_map-append f (take i xs) (x ∷ []) ∙ ap (λ ns. flat_map f (take i xs) ++ ns) (append-nil (f x))))
      (adds_both K (flat_map f (take i xs)) (f x) old mid new tt (Ok tt) given goes)

-- names as a list of lists of one net each
pub nets_flat : (constant : Bool) (range : Option Range) (names : List Named) → flat_map (λ n. nets_in constant range (n ∷ [])) names ≡ nets_in constant range names
nets_flat constant range [] = refl
nets_flat constant range (n ∷ ns) = ap (λ xs. record { name = n.name; range = range; constant = constant } ∷ xs) (nets_flat constant range ns)
