-- The nets gathered behind one more net.
use Rattle.std.proofs.Common.{◌≡◌, ℕ, ◌+◌, ◌<◌, min, true, false, Option, Some, None, List, [], ◌∷◌, ◌++◌, take, get_or, length, map, refl, sym, ap, ◌∙◌, arith, append_assoc, if◌then◌else◌}
use Rattle.std.specs.Prelude.{is_some}
use Rattle.std.specs.List.{flat_map}
use Rattle.std.specs.Option.{option_or}
use Rattle.std.specs.Borrow.{Bor}
use Rattle.std.specs.Str.{bytes_eq}
use Rattle.std.proofs.lemmas.List.{append-nil, map-append}
use Rattle.std.proofs.lemmas.List.Concat.{flat_map-append}
use Rattle.std.proofs.lemmas.List.Sums.{sum_by-cons, sum_by_push}
use Rattle.bud_design.specs.Lists.{has_name}
use Rattle.module_nets.specs.Gathering.{place_among, Gathers, with_use, with_uses}
use Rattle.module_nets.specs.Numbers.{Net, net_of, range_width, bits_in, capped}
use Rattle.module_nets.specs.Tables.{known}
use Rattle.module_nets.specs.declared.gathering.NetPlace.{NetPlace}
use Rattle.module_nets.specs.declared.gathering.Gathered.{Gathered}
use Rattle.module_nets.proofs.Bytes.{by_test, bytes_turned}
use Rattle.module_nets.proofs.ListSteps.{take_one}

abbrev place_of : Net → ℕ → NetPlace
place_of n first = record { range = n.range; first = first }

place_among-last : (before : ℕ) (ns : List Net) (n : Net) (q : List ℕ) →
    place_among before (ns ++ n ∷ []) q ≡ option_or (place_among before ns q) (if bytes_eq n.name q then Some (place_of n (capped (before + bits_in ns))) else None)
place_among-last before [] n q =
    let same : before ≡ before + 0 = omega arith in
    by_test (bytes_eq n.name q) (λ h. rw h (ap (λ b. Some (place_of n (capped b))) same)) (λ h. rw h refl)
place_among-last before (x ∷ ns) n q =
    by_test (bytes_eq x.name q)
    (λ h. rw h refl)
    (λ h. rw h
    (place_among-last (before + range_width x.range) ns n q
    ∙ ap (λ b. option_or (place_among (before + range_width x.range) ns q) (if bytes_eq n.name q then Some (place_of n (capped b)) else None))
    (omega (arith, sum_by-cons (λ y. range_width y.range) x ns))))

-- one more net has its place
pub places_more : (ns all : List Net) (n : Net) (first : ℕ) (old new : List ℕ → Option NetPlace) → ns ++ n ∷ [] ≡ all → first ≡ capped (bits_in ns)
    → ((q : List ℕ) → old q ≡ place_among 0 ns q) → ((q : List ℕ) → new q ≡ option_or (old q) (if bytes_eq n.name q then Some (place_of n first) else None))
    → (q : List ℕ) → new q ≡ place_among 0 all q
places_more ns all n first old new on first_is places entered q =
    let zero_on : bits_in ns ≡ 0 + bits_in ns = omega arith in
    entered q ∙ ap (λ o. option_or o (if bytes_eq n.name q then Some (place_of n first) else None)) (places q)
    ∙ ap (λ f. option_or (place_among 0 ns q) (if bytes_eq n.name q then Some (place_of n f) else None)) (first_is ∙ ap capped zero_on)
    ∙ sym (place_among-last 0 ns n q) ∙ ap (λ a. place_among 0 a q) on

-- and its bits are counted
pub bits_more : (ns all : List Net) (n : Net) (old new : ℕ) → ns ++ n ∷ [] ≡ all → old ≡ capped (bits_in ns) → new ≡ min (old + range_width n.range) 18446744073709551615 → new ≡ capped (bits_in all)
bits_more ns all n old new on old_is new_is =
    let sum : bits_in all ≡ bits_in ns + range_width n.range = sym (ap bits_in on) ∙ sum_by_push (λ y. range_width y.range) ns n in
    omega (arith, old_is, new_is, sum)

-- and its name comes last
pub names_more : (ns all : List Net) (n : Net) (old new : List (List ℕ)) → ns ++ n ∷ [] ≡ all → old ≡ map (λ x. x.name) ns → new ≡ old ++ n.name ∷ [] → new ≡ map (λ x. x.name) all
names_more ns all n old new on old_is new_is =
    new_is ∙ (ap (λ xs. xs ++ n.name ∷ []) old_is ∙ (sym (map-append (λ x. x.name) ns (n ∷ [])) ∙ ap (map (λ x. x.name)) on))

port_on : (ports : List Net) (n : Net) → (ports ++ []) ++ n ∷ [] ≡ (ports ++ n ∷ []) ++ []
port_on ports n = rw (append-nil ports, append-nil (ports ++ n ∷ [])) refl

-- a port is gathered
pub gathers_port : (ports : List Net) (n : Net) (old new : Gathered) → Gathers ports [] old
    → ((q : List ℕ) → known new.places q ≡ option_or (known old.places q) (if bytes_eq n.name q then Some (place_of n old.bits) else None))
    → new.bits ≡ min (old.bits + range_width n.range) 18446744073709551615 → new.local ≡ old.local
    → map (λ x. x.now) new.names.items ≡ map (λ x. x.now) old.names.items ++ n.name ∷ [] → Gathers (ports ++ n ∷ []) [] new
gathers_port ports n old new so_far entered bits local names = record {
  names = names_more (ports ++ []) ((ports ++ n ∷ []) ++ []) n (map (λ x. x.now) old.names.items) (map (λ x. x.now) new.names.items) (port_on ports n) so_far.names names;
  places = places_more (ports ++ []) ((ports ++ n ∷ []) ++ []) n old.bits (known old.places) (known new.places) (port_on ports n) so_far.bits so_far.places entered;
  bits = bits_more (ports ++ []) ((ports ++ n ∷ []) ++ []) n old.bits new.bits (port_on ports n) so_far.bits bits;
  local = local ∙ so_far.local;
}

-- a net that is no port is gathered
pub gathers_net : (ports nets : List Net) (n : Net) (old new : Gathered) → Gathers ports nets old
    → ((q : List ℕ) → known new.places q ≡ option_or (known old.places q) (if bytes_eq n.name q then Some (place_of n old.bits) else None))
    → new.bits ≡ min (old.bits + range_width n.range) 18446744073709551615 → new.local ≡ min (old.local + range_width n.range) 18446744073709551615
    → map (λ x. x.now) new.names.items ≡ map (λ x. x.now) old.names.items ++ n.name ∷ [] → Gathers ports (nets ++ n ∷ []) new
gathers_net ports nets n old new so_far entered bits local names =
    let on = append_assoc ports nets (n ∷ []) in
    record {
      names = names_more (ports ++ nets) (ports ++ (nets ++ n ∷ [])) n (map (λ x. x.now) old.names.items) (map (λ x. x.now) new.names.items) on so_far.names names;
      places = places_more (ports ++ nets) (ports ++ (nets ++ n ∷ [])) n old.bits (known old.places) (known new.places) on so_far.bits so_far.places entered;
      bits = bits_more (ports ++ nets) (ports ++ (nets ++ n ∷ [])) n old.bits new.bits on so_far.bits bits;
      local = bits_more nets (nets ++ n ∷ []) n old.local new.local refl so_far.local local;
    }

-- the table knows the names of its nets
pub among_known : (before : ℕ) (ns : List Net) (q : List ℕ) → is_some (place_among before ns q) ≡ has_name (map (λ n. n.name) ns) q
among_known before [] q = refl
among_known before (n ∷ ns) q =
    by_test (bytes_eq n.name q)
    (λ h. rw (h, bytes_turned q n.name, h) refl)
    (λ h. rw (h, bytes_turned q n.name, h) (among_known (before + range_width n.range) ns q))

-- a net that is there stays as it is, and another comes last
pub use_known : (ports nets : List Net) (name : List ℕ) → has_name (map (λ n. n.name) (ports ++ nets)) name ≡ true → with_uses ports nets (name ∷ []) ≡ nets
use_known ports nets name there = rw there refl

pub use_new : (ports nets : List Net) (name : List ℕ) → has_name (map (λ n. n.name) (ports ++ nets)) name ≡ false → with_uses ports nets (name ∷ []) ≡ nets ++ net_of name None ∷ []
use_new ports nets name there = rw there refl

pub with_uses-append : (ports nets : List Net) (xs ys : List (List ℕ)) → with_uses ports nets (xs ++ ys) ≡ with_uses ports (with_uses ports nets xs) ys
with_uses-append ports nets [] ys = refl
with_uses-append ports nets (x ∷ xs) ys = with_uses-append ports (with_use ports nets x) xs ys

-- what one more item uses
pub uses_more : {X : Type 0} (f : X → List (List ℕ)) (xs : List X) (i : ℕ) (x : X) (ports nets : List Net) → i < length xs → x ≡ get_or xs i x
    → with_uses ports (with_uses ports nets (flat_map f (take i xs))) (f x) ≡ with_uses ports nets (flat_map f (take (i + 1) xs))
uses_more f xs i x ports nets within is =
    sym (with_uses-append ports nets (flat_map f (take i xs)) (f x))
    ∙ ap (with_uses ports nets) (sym (ap (flat_map f) (take_one xs i x within is) ∙ flat_map-append f (take i xs) (x ∷ []) ∙ ap (λ ys. flat_map f (take i xs) ++ ys) (append-nil (f x))))

pub names_pushed : (old new : List (Bor (List ℕ))) (name : Bor (List ℕ)) → new ≡ old ++ name ∷ [] → map (λ x. x.now) new ≡ map (λ x. x.now) old ++ name.now ∷ []
names_pushed old new name is = ap (map (λ x. x.now)) is ∙ map-append (λ x. x.now) old (name ∷ [])
