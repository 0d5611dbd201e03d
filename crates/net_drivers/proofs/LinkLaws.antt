-- Which link joins a port.
use Rattle.std.proofs.Common.{◌≡◌, ℕ, zero, suc, ◌+◌, ◌-◌, ◌<◌, ◌≤◌, ◌==◌, nat_le, Bool, true, false, cond, List, [], ◌∷◌, ◌++◌, length, get_or, drop, Option, Some, None, refl, sym, ◌∙◌, ap, subst, arith, ⊎_elim, add-one}
use Rattle.std.proofs.lemmas.Bool.{cases_eq, le-leb, leb-true}
use Rattle.std.proofs.lemmas.Bool.Decides.{nat_tests, Decides-eqb}
use Rattle.std.proofs.lemmas.List.{get_or-set_other, at_drop_more, get_or_default}
use Rattle.std.proofs.lemmas.Grind.{get_or-set_at}
use Rattle.std.proofs.Math.ListN.{set, length-set}
use Rattle.std.specs.List.{position_from}
use Rattle.std.specs.Option.{option_or}
use Rattle.std.specs.Str.{bytes_eq}
use Rattle.bud_syntax.specs.declared.modules.Link.{Link}
use Rattle.bud_syntax.specs.declared.modules.Link.TheVariants.{Named, Placed}
use Rattle.bud_syntax.specs.declared.modules.Module.{Module}
use Rattle.module_nets.specs.Headers.{port_called}
use Rattle.net_drivers.specs.Slots.{IsBelow}
use Rattle.net_drivers.specs.Links.{is_at, place_named, names_port, names, noted_if, noted, placed_from, nth, earlier, link_from, linked_pieces, AreNamedLinks}
use Rattle.bud_syntax.specs.declared.modules.Dir.TheVariants.{Input}
use Rattle.bud_syntax.specs.declared.modules.Port.{Port}
use Rattle.bud_syntax.specs.declared.modules.Piece.{Piece}
use Rattle.module_nets.specs.Nets.{joined_to, pieces_of_link}
use Rattle.module_nets.proofs.Bytes.{by_test, bytes_same, bytes_itself}
use Rattle.module_nets.proofs.ListSteps.{at_place}
use Rattle.std.proofs.lemmas.Option.{none-some}

length-noted_if : (held : Option ℕ) (place number : ℕ) (places : List (Option ℕ)) → length (noted_if held place number places) ≡ length places
length-noted_if None place number places = length-set places place (Some number)
length-noted_if (Some held) place number places = refl

pub length-noted : (place : Option ℕ) (number : ℕ) (places : List (Option ℕ)) → length (noted place number places) ≡ length places
length-noted None number places = refl
length-noted (Some place) number places = length-noted_if (get_or places place None) place number places

noted_if-here : (held : Option ℕ) (place number : ℕ) (places : List (Option ℕ)) (rest : Option ℕ) → place < length places → held ≡ get_or places place None
    → option_or (get_or (noted_if held place number places) place None) rest ≡ option_or held (Some number)
noted_if-here None place number places rest within is = ap (λ x. option_or x rest) (get_or-set_at places place place (Some number) None refl within)
noted_if-here (Some held) place number places rest within is = ap (λ x. option_or x rest) (sym is)

noted_if-other : (held : Option ℕ) (place other number : ℕ) (places : List (Option ℕ)) → (other ≡ place → ⊥) → get_or (noted_if held place number places) other None ≡ get_or places other None
noted_if-other None place other number places apart = get_or-set_other places place other (Some number) None apart
noted_if-other (Some held) place other number places apart = refl

same-place : (i j : ℕ) → i ≡ j → (i == j) ≡ true
same-place i j e = grind (arith, nat_tests)

other-place : (i j : ℕ) → (i ≡ j → ⊥) → (i == j) ≡ false
other-place i j other = grind (arith, nat_tests)

-- what is noted and what is found behind are found together
noted-found : (noted_at : Option ℕ) (number : ℕ) (places : List (Option ℕ)) (place : ℕ) (rest : Option ℕ) → IsBelow (length places) noted_at
    → option_or (get_or (noted noted_at number places) place None) rest ≡ option_or (get_or places place None) (cond (is_at place noted_at) (Some number) rest)
noted-found None number places place rest below = refl
noted-found (Some at') number places place rest below =
    ⊎_elim
    (λ same.
    let test = ap (λ b. option_or (get_or places place None) (cond b (Some number) rest)) (same-place at' place same) in
    subst (λ p. option_or (get_or (noted (Some at') number places) p None) rest ≡ option_or (get_or places p None) (Some number)) same
    (noted_if-here (get_or places at' None) at' number places rest below refl)
    ∙ sym test)
    (λ other.
    ap (λ x. option_or x rest) (noted_if-other (get_or places at' None) at' place number places (λ e. other (sym e)))
    ∙ sym (ap (λ b. option_or (get_or places place None) (cond b (Some number) rest)) (other-place at' place other)))
    (cases_eq at' place)

pub noted-next : (child : Module) (links : List Link) (number : ℕ) (link : Link) (places after : List (Option ℕ)) (place : ℕ)
    → number < length links → link ≡ get_or links number link → IsBelow (length places) (place_named child link) → after ≡ noted (place_named child link) number places
    → option_or (get_or after place None) (position_from (names_port child place) (number + 1) (drop (number + 1) links)) ≡ option_or (get_or places place None) (position_from (names_port child place) number (drop number links))
noted-next child links number link places after place within is below put' =
    let rest = position_from (names_port child place) (number + 1) (drop (number + 1) links) in
    let here : position_from (names_port child place) number (drop number links) ≡ cond (names_port child place link) (Some number) rest
    = at_drop_more (position_from (names_port child place) number) links number link within ∙ (ap (λ l. position_from (names_port child place) number (l ∷ drop (number + 1) links)) (sym is) ∙ refl) in
    ap (λ ps. option_or (get_or ps place None) rest) put' ∙ (noted-found (place_named child link) number places place rest below ∙ ap (option_or (get_or places place None)) (sym here))

called_below : (child : Module) (name : List ℕ) (o : Option ℕ) → port_called child name ≡ o → IsBelow (length child.ports) o
called_below child name None is = tt
called_below child name (Some k) is = (at_place (λ p. bytes_eq p.name name) child.ports k is).within

pub place_named-below : (child : Module) (link : Link) → IsBelow (length child.ports) (place_named child link)
place_named-below child (Named port pieces) = called_below child port (port_called child port) refl
place_named-below child (Placed pieces) = tt

-- a number that isn't below another, where there is one
abbrev pub IsFrom : ℕ → Option ℕ → Type 0
IsFrom j None = Unit {0}
IsFrom j (Some p) = j ≤ p

from_before : (j : ℕ) (o : Option ℕ) → IsFrom (j + 1) o → IsFrom j o
from_before j None from' = tt
from_before j (Some p) from' = omega (arith, from')

position_beyond : {X : Type 0} (test : X → Bool) (j : ℕ) (xs : List X) → IsFrom j (position_from test j xs)
position_beyond test j [] = tt
position_beyond test j (x ∷ xs) = by_test (test x) (λ h. rw h (omega arith)) (λ h. rw h (from_before j (position_from test (j + 1) xs) (position_beyond test (j + 1) xs)))

placed_beyond : (j : ℕ) (links : List Link) (k : ℕ) → IsFrom j (nth (placed_from j links) k)
placed_beyond j [] k = tt
placed_beyond j (Named port pieces ∷ links) k = from_before j (nth (placed_from (j + 1) links) k) (placed_beyond (j + 1) links k)
placed_beyond j (Placed pieces ∷ links) k =
    by_test (k == 0) (λ h. rw h (omega arith)) (λ h. rw h (from_before j (nth (placed_from (j + 1) links) (k - 1)) (placed_beyond (j + 1) links (k - 1))))

earlier_left : (j : ℕ) (o : Option ℕ) → IsFrom (j + 1) o → earlier (Some j) o ≡ Some j
earlier_left j None from' = refl
earlier_left j (Some p) from' = let test : nat_le j p ≡ true = le-leb j p (omega (arith, from')) in rw test refl

earlier_right : (j : ℕ) (o : Option ℕ) → IsFrom (j + 1) o → earlier o (Some j) ≡ Some j
earlier_right j None from' = refl
earlier_right j (Some p) from' =
    by_test (nat_le p j) (λ h. let wrong : p ≤ j = leb-true p j h in absurd (omega (arith, wrong, from'))) (λ h. rw h refl)

earlier_none : (o : Option ℕ) → earlier o None ≡ o
earlier_none None = refl
earlier_none (Some p) = refl

-- the first link that joins is the earlier of those by name and by place
pub earlier-is : (j : ℕ) (name : List ℕ) (k : ℕ) (links : List Link) → earlier (position_from (names name) j links) (nth (placed_from j links) k) ≡ link_from j name k links
earlier-is j name k [] = refl
earlier-is j name k (Named port pieces ∷ links) =
    by_test (bytes_eq port name)
    (λ h. rw h (earlier_left j (nth (placed_from (j + 1) links) k) (placed_beyond (j + 1) links k)))
    (λ h. rw h (earlier-is (j + 1) name k links))
earlier-is j name k (Placed pieces ∷ links) =
    by_test (k == 0)
    (λ h. rw h (earlier_right j (position_from (names name) (j + 1) links) (position_beyond (names name) (j + 1) links)))
    (λ h. rw h (earlier-is (j + 1) name (k - 1) links))

-- the pieces of a link of a number, the first link having a number
abbrev pub pieces_behind : ℕ → List Link → Option ℕ → List Piece
pieces_behind j links None = []
pieces_behind j links (Some p) = pieces_of_link (get_or links (p - j) (Placed []))

behind_one : (j : ℕ) (link : Link) (links : List Link) (o : Option ℕ) → IsFrom (j + 1) o → pieces_behind (j + 1) links o ≡ pieces_behind j (link ∷ links) o
behind_one j link links None from' = refl
behind_one j link links (Some p) from' = let e : p - j ≡ suc (p - (j + 1)) = omega (arith, from') in rw e refl

behind_here : (j : ℕ) (link : Link) (links : List Link) → pieces_behind j (link ∷ links) (Some j) ≡ pieces_of_link link
behind_here j link links = let e : j - j ≡ 0 = omega arith in rw e refl

link_beyond : (j : ℕ) (name : List ℕ) (k : ℕ) (links : List Link) → IsFrom j (link_from j name k links)
link_beyond j name k [] = tt
link_beyond j name k (Named port pieces ∷ links) = by_test (bytes_eq port name) (λ h. rw h (omega arith)) (λ h. rw h (from_before j (link_from (j + 1) name k links) (link_beyond (j + 1) name k links)))
link_beyond j name k (Placed pieces ∷ links) = by_test (k == 0) (λ h. rw h (omega arith)) (λ h. rw h (from_before j (link_from (j + 1) name (k - 1) links) (link_beyond (j + 1) name (k - 1) links)))

pub joined_behind : (j : ℕ) (name : List ℕ) (k : ℕ) (links : List Link) → joined_to name k links ≡ pieces_behind j links (link_from j name k links)
joined_behind j name k [] = refl
joined_behind j name k (Named port pieces ∷ links) =
    by_test (bytes_eq port name)
    (λ h. rw h (sym (behind_here j (Named port pieces) links)))
    (λ h. rw h (joined_behind (j + 1) name k links ∙ behind_one j (Named port pieces) links (link_from (j + 1) name k links) (link_beyond (j + 1) name k links)))
joined_behind j name k (Placed pieces ∷ links) =
    by_test (k == 0)
    (λ h. rw h (sym (behind_here j (Placed pieces) links)))
    (λ h. rw h (joined_behind (j + 1) name (k - 1) links ∙ behind_one j (Placed pieces) links (link_from (j + 1) name (k - 1) links) (link_beyond (j + 1) name (k - 1) links)))

pub joined_to-is : (name : List ℕ) (k : ℕ) (links : List Link) → joined_to name k links ≡ linked_pieces links (link_from 0 name k links)
joined_to-is name k links = joined_behind 0 name k links ∙ same (link_from 0 name k links)
  where
    same : (o : Option ℕ) → pieces_behind 0 links o ≡ linked_pieces links o
    same None = refl
    same (Some p) = let e : p - 0 ≡ p = omega arith in rw e refl

up_to : (j n : ℕ) (o : Option ℕ) → IsBelow ((j + 1) + n) o → IsBelow (j + suc n) o
up_to j n None below = tt
up_to j n (Some p) below = omega (arith, below)

pub link_below : (j : ℕ) (name : List ℕ) (k : ℕ) (links : List Link) → IsBelow (j + length links) (link_from j name k links)
link_below j name k [] = tt
link_below j name k (Named port pieces ∷ links) = by_test (bytes_eq port name) (λ h. rw h (omega arith)) (λ h. rw h (up_to j (length links) (link_from (j + 1) name k links) (link_below (j + 1) name k links)))
link_below j name k (Placed pieces ∷ links) = by_test (k == 0) (λ h. rw h (omega arith)) (λ h. rw h (up_to j (length links) (link_from (j + 1) name (k - 1) links) (link_below (j + 1) name (k - 1) links)))

position-tests : {X : Type 0} (p q : X → Bool) (j : ℕ) (xs : List X) → ((x : X) → p x ≡ q x) → position_from p j xs ≡ position_from q j xs
position-tests p q j [] same = refl
position-tests p q j (x ∷ xs) same = ap (λ b. cond b (Some j) (position_from p (j + 1) xs)) (same x) ∙ ap (λ o. cond (q x) (Some j) o) (position-tests p q (j + 1) xs same)

no_port : Port
no_port = record { name = []; dir = Input; range = None }

port_at-named : (child : Module) (name : List ℕ) (k : ℕ) → port_called child name ≡ Some k → (get_or child.ports k no_port).name ≡ name
port_at-named child name k is = bytes_same (get_or child.ports k no_port).name name ((at_place (λ p. bytes_eq p.name name) child.ports k is).passes no_port)

named-test : (child : Module) (name port : List ℕ) (first : ℕ) (o : Option ℕ) → port_called child name ≡ Some first → port_called child port ≡ o → bytes_eq port name ≡ false → is_at first o ≡ false
named-test child name port first None is found other = refl
named-test child name port first (Some g) is found other =
    ⊎_elim
    (λ same.
    let one : port ≡ name = sym (port_at-named child port g found) ∙ (ap (λ i. (get_or child.ports i no_port).name) same ∙ port_at-named child name first is) in
    let itself : bytes_eq port name ≡ true = subst (λ q. bytes_eq q name ≡ true) (sym one) (bytes_itself name) in
    absurd (let e : true ≡ false = sym itself ∙ other in cc))
    (λ differ. other-place g first differ)
    (cases_eq g first)

names-same : (child : Module) (name : List ℕ) (first : ℕ) → port_called child name ≡ Some first → (link : Link) → names_port child first link ≡ names name link
names-same child name first is (Named port pieces) =
    by_test (bytes_eq port name)
    (λ h.
    let one : port_called child port ≡ Some first = ap (port_called child) (bytes_same port name h) ∙ is in
    ap (is_at first) one ∙ (same-place first first refl ∙ sym h))
    (λ h. named-test child name port first (port_called child port) is refl h ∙ sym h)
names-same child name first is (Placed pieces) = refl

-- the links that name a port by the place of the first of its name
pub named_link-is : (child : Module) (links : List Link) (named : List (Option ℕ)) (name : List ℕ) (first : ℕ) → AreNamedLinks child links named → port_called child name ≡ Some first
    → get_or named first None ≡ position_from (names name) 0 links
named_link-is child links named name first are is =
    are.each first (at_place (λ p. bytes_eq p.name name) child.ports first is).within ∙ position-tests (names_port child first) (names name) 0 links (names-same child name first is)

is-there : (place : ℕ) (o : Option ℕ) → is_at place o ≡ true → o ≡ Some place
is-there place None is = absurd (cc)
is-there place (Some n) is = ap (λ k. Some k) ((Decides-eqb n place).0 is)

-- the port at the place that a link names has that name first
link-names : (child : Module) (place : ℕ) (link : Link) → names_port child place link ≡ true → port_called child (get_or child.ports place no_port).name ≡ Some place
link-names child place (Named port pieces) is =
    let found : port_called child port ≡ Some place = is-there place (port_called child port) is in
    ap (port_called child) (port_at-named child port place found) ∙ found
link-names child place (Placed pieces) is = absurd (cc)

-- the link that is noted at a port is the first that names it
pub noted-is : (child : Module) (links : List Link) (named : List (Option ℕ)) (place : ℕ) (port : Port) (n : ℕ) → AreNamedLinks child links named → place < length child.ports
    → port ≡ get_or child.ports place port → get_or named place None ≡ Some n → position_from (names port.name) 0 links ≡ Some n
noted-is child links named place port n are within read held =
    let found : position_from (names_port child place) 0 links ≡ Some n = sym (are.each place within) ∙ held in
    let first = link-names child place (get_or links n (Placed [])) ((at_place (names_port child place) links n found).passes (Placed [])) in
    let same : get_or child.ports place no_port ≡ port = get_or_default child.ports place no_port port within ∙ sym read in
    sym (named_link-is child links named port.name place are (ap (λ (p : Port). port_called child p.name) (sym same) ∙ first)) ∙ held

nowhere : {X : Type 0} (test : X → Bool) (j : ℕ) (xs : List X) → position_from test j xs ≡ None → (k : ℕ) (d : X) → k < length xs → test (get_or xs k d) ≡ false
nowhere test j [] none k d within = absurd (omega (arith, within))
nowhere test j (x ∷ xs) none zero d within = by_test (test x) (λ h. let wrong : Some j ≡ None = rw h at none in absurd (none-some j (sym wrong))) (λ h. h)
nowhere test j (x ∷ xs) none (suc k) d within =
    by_test (test x)
    (λ h. let wrong : Some j ≡ None = rw h at none in absurd (none-some j (sym wrong)))
    (λ h. nowhere test (j + 1) xs (rw h at none) k d (omega (arith, within)))

-- a port of a module is found by its name
pub port_found : (child : Module) (place : ℕ) (port : Port) → place < length child.ports → port ≡ get_or child.ports place port → port_called child port.name ≡ None → ⊥
port_found child place port within is none =
    let other = nowhere (λ p. bytes_eq p.name port.name) 0 child.ports none place port within in
    let other' : bytes_eq port.name port.name ≡ false = subst (λ p. bytes_eq p.name port.name ≡ false) (sym is) other in
    let e : true ≡ false = sym (bytes_itself port.name) ∙ other' in cc

pub nth-is : (ns : List ℕ) (k : ℕ) → k < length ns → nth ns k ≡ Some (get_or ns k 0)
nth-is [] k within = absurd (omega (arith, within))
nth-is (n ∷ ns) zero within = refl
nth-is (n ∷ ns) (suc k) within = let e : suc k - 1 ≡ k = omega arith in let test : (suc k == 0) ≡ false = grind (arith, nat_tests) in rw (test, e) (nth-is ns k (omega arith))

pub nth-none : (ns : List ℕ) (k : ℕ) → length ns ≤ k → nth ns k ≡ None
nth-none [] k past = refl
nth-none (n ∷ ns) zero past = absurd (omega arith)
nth-none (n ∷ ns) (suc k) past = let e : suc k - 1 ≡ k = omega arith in let test : (suc k == 0) ≡ false = grind (arith, nat_tests) in rw (test, e) (nth-none ns k (omega arith))
