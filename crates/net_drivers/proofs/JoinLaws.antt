-- What links join to the ports of an instance, port by port.
use Rattle.std.proofs.Common.{◌≡◌, ℕ, suc, ◌+◌, ◌<◌, ◌≤◌, List, [], ◌∷◌, ◌++◌, get_or, length, map, take, drop, min, replicate, Option, Some, None, All, refl, sym, ap, ◌∙◌, subst, arith, append_assoc, add-one, drop-cons}
use Rattle.std.proofs.lemmas.List.{append-nil, length-take, drop_all, length-append, get_or_append_left, get_or-append-add, get_or_default}
use Rattle.std.specs.Prelude.{slice_index_or}
use Rattle.std.proofs.Common.{inl, inr}
use Rattle.std.proofs.lemmas.Bool.{cases_lt}
use Rattle.std.proofs.Common.{⊎_elim}
use Rattle.bud_syntax.specs.declared.modules.Dir.{Dir}
use Rattle.bud_syntax.specs.declared.modules.Dir.TheVariants.{Input}
use Rattle.bud_syntax.specs.declared.modules.Instance.{Instance}
use Rattle.bud_syntax.specs.declared.modules.Link.{Link}
use Rattle.bud_syntax.specs.declared.modules.Port.{Port}
use Rattle.bud_syntax.specs.declared.modules.Module.{Module}
use Rattle.module_nets.specs.Nets.{NetBit, module_called, joined_from, joined_to, expression_bits, or_open}
use Rattle.module_nets.specs.Numbers.{range_width}
use Rattle.module_nets.proofs.ListSteps.{take_one, drop_one}
use Rattle.net_drivers.specs.Appending.{Appends, AreNumbers}
use Rattle.net_drivers.specs.Joints.{directions, own_joints, joints}
use Rattle.net_drivers.specs.Joins.{IsJoined, AreJoined, instance_at, joined_ports}
use Rattle.net_drivers.specs.Links.{link_from, linked_pieces}
use Rattle.net_drivers.specs.declared.slots.Joint.{Joint}
use Rattle.net_drivers.proofs.AppendLaws.{Appends-both, Appends-same}
use Rattle.net_drivers.proofs.LinkLaws.{joined_to-is}

pub joined_from-ports : (k : ℕ) (m : Module) (i : Instance) (ports : List Port) → joined_ports k m i.links ports ≡ joined_from k m i ports
joined_from-ports k m i [] = refl
joined_from-ports k m i (p ∷ ps) = ap (λ bs. or_open p.range (expression_bits m (joined_to p.name k i.links)) ++ bs) (joined_from-ports (suc k) m i ps)

joined_ports-append : (k : ℕ) (m : Module) (links : List Link) (ps qs : List Port) → joined_ports k m links (ps ++ qs) ≡ joined_ports k m links ps ++ joined_ports (k + length ps) m links qs
joined_ports-append k m links [] qs = let e : k + 0 ≡ k = omega arith in rw e refl
joined_ports-append k m links (p ∷ ps) qs =
    let here = or_open p.range (expression_bits m (joined_to p.name k links)) in
    let e : k + suc (length ps) ≡ suc k + length ps = omega arith in
    ap (λ bs. here ++ bs) (joined_ports-append (suc k) m links ps qs)
    ∙ (sym (append_assoc here (joined_ports (suc k) m links ps) (joined_ports (suc k + length ps) m links qs))
    ∙ ap (λ n. (here ++ joined_ports (suc k) m links ps) ++ joined_ports n m links qs) (sym e))

ports-next : (m : Module) (links : List Link) (ports : List Port) (place : ℕ) (port : Port) → place < length ports → port ≡ get_or ports place port
    → joined_ports 0 m links (take place ports) ++ or_open port.range (expression_bits m (joined_to port.name place links)) ≡ joined_ports 0 m links (take (place + 1) ports)
ports-next m links ports place port within is =
    let size : 0 + length (take place ports) ≡ place = omega (arith, length-take place ports) in
    sym (ap (joined_ports 0 m links) (take_one ports place port within is)
    ∙ (joined_ports-append 0 m links (take place ports) (port ∷ [])
    ∙ (ap (λ n. joined_ports 0 m links (take place ports) ++ joined_ports n m links (port ∷ [])) size
    ∙ ap (λ bs. joined_ports 0 m links (take place ports) ++ bs) (append-nil (or_open port.range (expression_bits m (joined_to port.name place links)))))))

pub joined-next : (m : Module) (links : List Link) (ports : List Port) (place : ℕ) (port : Port) (number : Option ℕ) {old middle new : List (Option ℕ)} → place < length ports → port ≡ get_or ports place port
    → number ≡ link_from 0 port.name place links
    → Appends m (joined_ports 0 m links (take place ports)) old middle → Appends m (or_open port.range (expression_bits m (linked_pieces links number))) middle new
    → Appends m (joined_ports 0 m links (take (place + 1) ports)) old new
joined-next m links ports place port number {old} {middle} {new} within is found before here =
    let pieces : linked_pieces links number ≡ joined_to port.name place links = ap (linked_pieces links) found ∙ sym (joined_to-is port.name place links) in
    Appends-same (ports-next m links ports place port within is) (Appends-both before (Appends-same (ap (λ ps. or_open port.range (expression_bits m ps)) pieces) here))

-- numbers that are appended to no list
pub numbers-alone : {m : Module} {bs : List (Option NetBit)} {new : List (Option ℕ)} → Appends m bs [] new → AreNumbers m bs new
numbers-alone {m} {bs} {new} appends = subst (AreNumbers m bs) (sym appends.is) appends.numbers

pub directions-next : (ports : List Port) (i : ℕ) (port : Port) (into after : List Dir) → i < length ports → port ≡ get_or ports i port → after ≡ into ++ replicate (range_width port.range) port.dir
    → after ++ directions (drop (i + 1) ports) ≡ into ++ directions (drop i ports)
directions-next ports i port into after within is put' =
    ap (λ xs. xs ++ directions (drop (i + 1) ports)) put'
    ∙ (append_assoc into (replicate (range_width port.range) port.dir) (directions (drop (i + 1) ports))
    ∙ ap (λ ps. into ++ directions ps) (sym (drop_one ports i port within is)))

joints-none : (dirs : List Dir) → joints dirs [] ≡ []
joints-none [] = refl
joints-none (d ∷ ds) = refl

pub joints-end : (k : ℕ) (dirs : List Dir) (numbers : List (Option ℕ)) → min (length dirs) (length numbers) ≤ k → joints (drop k dirs) (drop k numbers) ≡ []
joints-end k dirs numbers past =
    ⊎_elim
    (λ less. let r : drop k numbers ≡ [] = drop_all k numbers (omega arith) in rw r (joints-none (drop k dirs)))
    (λ more. let l : drop k dirs ≡ [] = drop_all k dirs more in rw l refl)
    (cases_lt k (length dirs))

pub joints-next : (k : ℕ) (dirs : List Dir) (numbers : List (Option ℕ)) (into after : List Joint) → k < length dirs → k < length numbers
    → after ≡ into ++ record { dir = get_or dirs k Input; bit = get_or numbers k None } ∷ []
    → after ++ joints (drop (k + 1) dirs) (drop (k + 1) numbers) ≡ into ++ joints (drop k dirs) (drop k numbers)
joints-next k dirs numbers into after d n put' =
    let here : Joint = record { dir = get_or dirs k Input; bit = get_or numbers k None } in
    let rest = joints (drop (k + 1) dirs) (drop (k + 1) numbers) in
    let split : joints (drop k dirs) (drop k numbers) ≡ here ∷ rest = rw (drop-cons dirs k Input d, drop-cons numbers k None n, add-one) refl in
    ap (λ xs. xs ++ rest) put' ∙ (append_assoc into (here ∷ []) rest ∙ ap (λ xs. into ++ xs) (sym split))

pub numbers-put : {m : Module} {bs cs : List (Option NetBit)} {old new : List (Option ℕ)} → bs ≡ cs → old ≡ [] → Appends m bs old new → AreNumbers m cs new
numbers-put {m} {bs} {cs} {old} {new} same none appends = numbers-alone (Appends-same same (subst (λ xs. Appends m bs xs new) none appends))

-- one instance more is joined
pub AreJoined-more : (modules : List Module) (m : Module) (is : List Instance) (n : ℕ) (i : Instance) (old new : List (List Joint)) (pairs : List Joint) → n < length is → i ≡ slice_index_or is n i
    → AreJoined modules m is n old → IsJoined m i (module_called modules i.«module») pairs → new ≡ old ++ pairs ∷ [] → AreJoined modules m is (n + 1) new
AreJoined-more modules m is n i old new pairs within read so_far here pushed = record {
  size = ap length pushed ∙ (length-append old (pairs ∷ []) ∙ omega (arith, so_far.size));
  each = λ k below. elim (cases_lt k n) [
    | inl before ↦
        subst (IsJoined m (instance_at is k) (module_called modules (instance_at is k).«module»)) (sym (ap (λ xs. slice_index_or xs k []) pushed ∙ get_or_append_left old (pairs ∷ []) [] k (omega (arith, before, so_far.size)))) (so_far.each k before)
    | inr past ↦
        let last : k ≡ n = omega (arith, below, past) in
        let end : length old + 0 ≡ k = omega (arith, last, so_far.size) in
        let item : instance_at is k ≡ i = ap (instance_at is) last ∙ (get_or_default is n (instance_at [] 0) i within ∙ sym read) in
        let got : slice_index_or new k [] ≡ pairs = ap (λ xs. slice_index_or xs k []) pushed ∙ (ap (λ j. slice_index_or (old ++ pairs ∷ []) j []) (sym end) ∙ get_or-append-add old (pairs ∷ []) 0 []) in
        subst (λ x. IsJoined m x (module_called modules x.«module») (slice_index_or new k [])) (sym item) (subst (IsJoined m i (module_called modules i.«module»)) (sym got) here)
  ];
}

-- the instance of a number, as it is read
pub instance-read : (is : List Instance) (k : ℕ) → k < length is → instance_at is k ≡ slice_index_or is k (instance_at is k)
instance-read is k within = get_or_default is k (instance_at [] 0) (instance_at is k) within
