-- In a netlist that is read the names of a module's ports differ.
use Rattle.std.specs.Prelude.{◌≡◌, ℕ, ◌<◌, ◌+◌, ◌&&◌, ◌||◌, nat_lt, Bool, true, false, List, [], ◌∷◌, ◌++◌, map, flat_map, codes, length, Option, Some, None, All, AllPairs, slice_index_or, if◌then◌else◌}
use Rattle.std.specs.List.{list_any}
use Rattle.std.specs.Str.{byte, bytes_eq}
use Rattle.std.proofs.Common.{true≢false, arith, sym, ◌∙◌, refl, ap, subst}
use Rattle.std.proofs.lemmas.List.Elements.{All-nil, All-cons, All-head, All-tail, All-map, All-weaker}
use Rattle.std.proofs.lemmas.List.Kept.{AllPairs-cons}
use Rattle.bud_syntax.specs.declared.modules.Port.{Port}
use Rattle.bud_syntax.specs.declared.modules.Module.{Module}
use Rattle.bud_design.proofs.ClassLaws.{pairs-head, pairs-tail}
use Rattle.elaborations.specs.Ports.{HasPortsOnce}
use Rattle.text_scan.specs.Left.{◌>>=◌}
use Rattle.text_scan.specs.Repeat.{Runs, repeat}
use Rattle.text_scan.specs.Repeat.Runs.{over, turn}
use Rattle.text_scan.proofs.Binds.{step}
use Rattle.text_scan.proofs.RepeatLaws.{repeat_sound}
use Rattle.verilog_reader.specs.Breaches.{Breach}
use Rattle.verilog_reader.specs.Breaches.Breach.{of_port, of_number}
use Rattle.verilog_reader.specs.Left.{Left, Production, begins, size}
use Rattle.verilog_reader.specs.Modules.{is_listed, one_if, listed_again, declared_again, undirected, earlier, earliest, header_declarations, item_declarations, declarations, first_declared, port_of, is_formed, breaches, module_of, assembled}
use Rattle.verilog_reader.specs.Netlists.{marks, passed, made, part, is_at_end, parts, modules_of, fault_of, least_breach, whole, netlist, Reads}
use Rattle.verilog_reader.specs.Words.{is_sign, is_word}
use Rattle.verilog_reader.specs.Sources.{tree, directive, primitive}
use Rattle.verilog_reader.specs.declared.trees.Assembled.{Assembled}
use Rattle.verilog_reader.specs.declared.trees.HeaderPort.{HeaderPort}
use Rattle.verilog_reader.specs.declared.trees.Named.{Named}
use Rattle.verilog_reader.specs.declared.trees.Tree.{Tree}

abbrev is_some : {X : Type 0} → Option X → Bool
is_some None = false
is_some (Some x) = true

never : {X P : Type 0} (x : X) → Some x ≡ None → P
never x same = absurd (true≢false (ap is_some same))

-- ---- a module without a breach lists each port once
earlier-none : (a b : Option Named) → earlier a b ≡ None → (a ≡ None) × (b ≡ None)
earlier-none None b none = (refl, none)
earlier-none (Some a) None none = never a none
earlier-none (Some a) (Some b) none = by_test (nat_lt b.at a.at) none
  where
    by_test : (t : Bool) → (if t then Some b else Some a) ≡ None → (Some a ≡ None) × (Some b ≡ None)
    by_test true none = never b none
    by_test false none = never a none

earliest-none : (ns : List Named) → earliest ns ≡ None → ns ≡ []
earliest-none [] none = refl
earliest-none (n ∷ ns) none = never n (earlier-none (Some n) (earliest ns) none).0

append-none : {X : Type 0} (xs ys : List X) → xs ++ ys ≡ [] → (xs ≡ []) × (ys ≡ [])
append-none [] ys none = (refl, none)
append-none (x ∷ xs) ys none = absurd (omega (arith, ap length none))

one_if-none : {X : Type 0} (b : Bool) (x : X) → one_if b x ≡ [] → b ≡ false
one_if-none true x none = absurd (omega (arith, ap length none))
one_if-none false x none = refl

abbrev Others : HeaderPort → HeaderPort → Type 0
Others p q = bytes_eq p.named.name q.named.name ≡ false

listed-append : (before : List HeaderPort) (p : HeaderPort) (name : List ℕ) → is_listed (before ++ p ∷ []) name ≡ false → (is_listed before name ≡ false) × (bytes_eq p.named.name name ≡ false)
listed-append [] p name none = (refl, last (bytes_eq p.named.name name) none)
  where
    last : (b : Bool) → b || false ≡ false → b ≡ false
    last true none = none
    last false none = none
listed-append (q ∷ qs) p name none = by_test (listed-append qs p name) (bytes_eq q.named.name name) refl none
  where
    by_test : (is_listed (qs ++ p ∷ []) name ≡ false → (is_listed qs name ≡ false) × (bytes_eq p.named.name name ≡ false)) → (b : Bool) → bytes_eq q.named.name name ≡ b → b || is_listed (qs ++ p ∷ []) name ≡ false
        → (is_listed (q ∷ qs) name ≡ false) × (bytes_eq p.named.name name ≡ false)
    by_test rest true is none = absurd (true≢false none)
    by_test rest false is none = (rw is (rest none).0, (rest none).1)

-- the names of these ports differ, and none is that of one before them
once-listed : (before ps : List HeaderPort) → listed_again before ps ≡ [] → AllPairs Others ps × All (λ p. is_listed before p.named.name ≡ false) ps
once-listed before [] none = (λ i j d less below. absurd (omega (arith, less, below)), All-nil (λ p. is_listed before p.named.name ≡ false))
once-listed before (p ∷ ps) none =
    let both = append-none (one_if (is_listed before p.named.name) p.named) (listed_again (before ++ p ∷ []) ps) none in
    let rest = once-listed (before ++ p ∷ []) ps both.1 in (
      AllPairs-cons Others p ps
          (All-weaker (λ q. is_listed (before ++ p ∷ []) q.named.name ≡ false) (Others p) (λ q not_listed. (listed-append before p q.named.name not_listed).1) ps rest.1) rest.0,
      All-cons (λ q. is_listed before q.named.name ≡ false) p ps (one_if-none (is_listed before p.named.name) p.named both.0)
          (All-weaker (λ q. is_listed (before ++ p ∷ []) q.named.name ≡ false) (λ q. is_listed before q.named.name ≡ false) (λ q not_listed. (listed-append before p q.named.name not_listed).0) ps rest.1),
    )

pairs-map : {X Y : Type 0} (R : Y → Y → Type 0) (f : X → Y) (xs : List X) → AllPairs (λ x y. R (f x) (f y)) xs → AllPairs R (map f xs)
pairs-map R f [] pairs = λ i j d less below. absurd (omega (arith, less, below))
pairs-map R f (x ∷ xs) pairs =
    AllPairs-cons R (f x) (map f xs) (All-map (R (f x)) f xs (pairs-head (λ x y. R (f x) (f y)) x xs pairs)) (pairs-map R f xs (pairs-tail (λ x y. R (f x) (f y)) x xs pairs))

abbrev Fine : Assembled → Type 0
Fine a = a.fault ≡ None → HasPortsOnce a.«module»

assembled-fine : (t : Tree) (a : Assembled) → assembled t ≡ Some a → Fine a
unfolding assembled
assembled-fine t a made = by_test (is_formed t) made
  where
    fine : Fine (record { «module» = module_of t; fault = earliest (breaches t) })
    fine none =
        let listed = append-none (listed_again [] t.header)
        (declared_again (header_declarations None t.header) (flat_map item_declarations t.items) ++ undirected (first_declared (declarations t)) t.header)
        (earliest-none (breaches t) none) in
        pairs-map (λ p q. bytes_eq p.name q.name ≡ false) (port_of (first_declared (declarations t))) t.header (once-listed [] t.header listed.0).0

    by_test : (b : Bool) → (if b then Some (record { «module» = module_of t; fault = earliest (breaches t) }) else None) ≡ Some a → Fine a
    by_test true made = subst Fine (some-same (record { «module» = module_of t; fault = earliest (breaches t) }) made) fine
      where
        some-same : (b : Assembled) → Some b ≡ Some a → b ≡ a
        some-same b same = ap (λ o. or_first o) same
          where
            or_first : Option Assembled → Assembled
            or_first None = b
            or_first (Some x) = x
    by_test false made = never a (sym made)

-- ---- and so do all modules of a netlist
abbrev FinePart : Option Assembled → Type 0
FinePart None = Unit {0}
FinePart (Some a) = Fine a

abbrev first_of : Option (Option Assembled × Left) → Option Assembled
first_of None = None
first_of (Some (a, s)) = a

marks-fine : (s : Left) (x : Option Assembled) (t : Left) → marks s ≡ Some (x, t) → FinePart x
unfolding marks
marks-fine s x t read = step (directive s) _ (x, t) read (λ u here rest. subst FinePart (ap (λ o. first_of o) rest) tt)

passed-fine : (s : Left) (x : Option Assembled) (t : Left) → passed s ≡ Some (x, t) → FinePart x
unfolding passed
passed-fine s x t read = step (primitive s) _ (x, t) read (λ u here rest. subst FinePart (ap (λ o. first_of o) rest) tt)

made-fine : (s : Left) (x : Option Assembled) (t : Left) → made s ≡ Some (x, t) → FinePart x
unfolding made
made-fine s x t read =
    step (tree s) _ (x, t) read (λ u here rest.
    step (assembled u.0) _ (x, t) rest (λ a is last. subst FinePart (ap (λ o. first_of o) last) (assembled-fine u.0 a is)))

part-fine : (s : Left) (x : Option Assembled) (t : Left) → part s ≡ Some (x, t) → FinePart x
unfolding part
part-fine s x t read = by_both (begins (is_sign (byte "`")) s) (begins (is_word (codes "primitive")) s) read
  where
    by_both : (a b : Bool) → (if a then marks s else (if b then passed s else made s)) ≡ Some (x, t) → FinePart x
    by_both true b read = marks-fine s x t read
    by_both false true read = passed-fine s x t read
    by_both false false read = made-fine s x t read

runs-fine : (s : Left) (xs : List (Option Assembled)) (u : Left) → Runs is_at_end part s xs u → All FinePart xs
runs-fine _ _ _ (over s ends) = All-nil FinePart
runs-fine _ _ _ (turn s t u x xs goes_on one rest) = All-cons FinePart x xs (part-fine s x t one) (runs-fine t xs u rest)

modules-once : (ps : List (Option Assembled)) → All FinePart ps → fault_of ps ≡ None → All HasPortsOnce (modules_of ps)
modules-once [] fine none = All-nil HasPortsOnce
modules-once (None ∷ ps) fine none = modules-once ps (All-tail FinePart None ps fine) none
modules-once (Some a ∷ ps) fine none =
    let both = earlier-none a.fault (fault_of ps) none in
    All-cons HasPortsOnce a.«module» (modules_of ps) (All-head FinePart (Some a) ps fine both.0) (modules-once ps (All-tail FinePart (Some a) ps fine) both.1)

no-fault : (f : Option Named) (at : Option ℕ) → least_breach f at ≡ None → f ≡ None
no-fault None at none = refl
no-fault (Some n) None none = never _ none
no-fault (Some n) (Some at) none = by_test (nat_lt at n.at) none
  where
    by_test : (b : Bool) → (if b then Some (of_number at) else Some (of_port n.name n.at)) ≡ None → Some n ≡ None
    by_test true none = never _ none
    by_test false none = never _ none

-- a netlist that is read has modules whose ports' names differ
pub reads_ports_once : (text : List ℕ) (modules : List Module) → Reads text modules → All HasPortsOnce modules
unfolding netlist
reads_ports_once text modules (tokens, (are, read)) =
    step (parts (whole text tokens)) _ (modules, None) read
    (λ u here rest.
    let runs = repeat_sound is_at_end part (size (whole text tokens)) (whole text tokens) u.0 u.1 here in
    let same : modules_of u.0 ≡ modules = ap (λ o. value_or [] o) rest in
    let none : least_breach (fault_of u.0) u.1.breach ≡ None = ap (λ o. breach_or o) rest in
    subst (All HasPortsOnce) same (modules-once u.0 (runs-fine (whole text tokens) u.0 u.1 runs) (no-fault (fault_of u.0) u.1.breach none)))
  where
    value_or : List Module → Option (List Module × Option Breach) → List Module
    value_or d None = d
    value_or d (Some x) = x.0

    breach_or : Option (List Module × Option Breach) → Option Breach
    breach_or None = None
    breach_or (Some x) = x.1
