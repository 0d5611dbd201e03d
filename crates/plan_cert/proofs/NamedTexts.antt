-- The certificate of a plan in range may be written.
use Rattle.std.proofs.Common.{◌≡◌, ℕ, pos, ◌^◌, ◌<◌, List, [], ◌∷◌, length, sym, subst, arith}
use Rattle.std.proofs.lemmas.List.{length-map}
use Rattle.std.proofs.lemmas.List.Elements.{All-from_get_or, recursion_from_All}
use Rattle.std.proofs.Math.ListN.{get_or-map}
use Rattle.std.specs.Prelude.{Result, Ok, Err, IfOk}
use Rattle.std.specs.List.{AllByRecursion}
use Rattle.bud_base.specs.Paths.{item_at, start_at, end_at}
use Rattle.bud_base.specs.Soundness.{IsSound}
use Rattle.bud_base.specs.declared.problems.Problem.{Problem}
use Rattle.bud_plans.specs.Plans.{IsPlanNumber, HasPlanNumbers, IsHolding}
use Rattle.bud_plans.specs.declared.plans.Plan.{Plan}
use Rattle.cert_text.specs.Certs.{plan_in}
use Rattle.cert_text.specs.declared.certs.CertClass.{CertClass}
use Rattle.cert_text.specs.Writing.{IsTextName, IsTextClass, IsTextNode, IsTextItem, IsTextFlow, IsInTextRanges}
use Rattle.cert_text.specs.declared.certs.Cert.{Cert}
use Rattle.plan_cert.specs.Lines.{no_node, no_item, no_flow, node_line, item_line, flow_line}
use Rattle.plan_cert.specs.Names.{Names, HasClassNumbers, AreTextNames}
use Rattle.plan_cert.specs.Certificates.{HasLines, IsCertOf}

-- the lines of classes whose clocks' names and whose numbers can be written
text_classes : (lines : List CertClass) → AllByRecursion HasClassNumbers lines → AllByRecursion (λ line. IsTextName line.clock) lines → AllByRecursion IsTextClass lines
text_classes [] numbers clocks = tt
text_classes (x ∷ xs) numbers clocks = (
  record { number = numbers.0.number; clock = clocks.0; exceptions = numbers.0.exceptions },
  text_classes xs numbers.1 clocks.1,
)

module _ (names : Names) (p : Problem) (cert : Cert) (sound : IsSound p) (text : AreTextNames names p) (version : cert.policy ≡ names.version)
    (classes : cert.classes ≡ names.classes) (ranges : AllByRecursion HasClassNumbers cert.classes) (lines : HasLines names p cert) (numbers : HasPlanNumbers (plan_in cert)) where
  named : (name : List ℕ) (n : ℕ) → n < p.nodes → name ≡ names.node_name n → IsTextName name
  named name n low is = subst IsTextName (sym is) (text.node_names n low)

  classed : (c n : ℕ) → n < p.nodes → c ≡ names.node_class n → c < 2 ^ 32
  classed c n low is = omega (arith, text.node_classes n low)

  text_node : (k : ℕ) → k < length cert.nodes → IsTextNode (node_line cert.nodes k)
  text_node k within =
      let line = lines.nodes k (omega (arith, lines.counts.others.nodes)) in
      record {
        name = named (node_line cert.nodes k).name k (omega (arith, lines.counts.others.nodes)) line.name;
        class = classed (node_line cert.nodes k).class.0 k (omega (arith, lines.counts.others.nodes)) line.class;
        arrival = subst IsPlanNumber (get_or-map (λ line. line.arrival) cert.nodes k no_node) (numbers.arrivals k (pos 0) (simp length-map within));
      }

  text_item : (i : ℕ) → i < length cert.items → IsTextItem (item_line cert.items i)
  text_item i within =
      let inside : i < length p.items = omega (arith, lines.counts.others.items) in
      let line = lines.items i (omega arith) in
      let item = sound.items i (item_at [] 0) inside in
      record {
        from = named (item_line cert.items i).from (item_at p.items i).from.0 (omega (arith, item.from)) line.from;
        to = named (item_line cert.items i).to (item_at p.items i).to.0 (omega (arith, item.to)) line.to;
        class = classed (item_line cert.items i).class.0 (item_at p.items i).from.0 (omega (arith, item.from)) line.class;
        budget = subst IsPlanNumber (get_or-map (λ line. line.budget) cert.items i no_item) (numbers.budgets i (pos 0) (simp length-map within));
        flow = subst IsPlanNumber (get_or-map (λ line. line.flow) cert.items i no_item) (numbers.flow i (pos 0) (simp length-map within));
      }

  text_start : (s : ℕ) → s < length cert.starts → IsTextFlow (flow_line cert.starts s)
  text_start s within =
      let inside : s < length p.starts = omega (arith, lines.counts.others.starts) in
      let line = lines.starts s (omega arith) in
      let start = sound.starts s (start_at [] 0) inside in
      record {
        name = named (flow_line cert.starts s).name (start_at p.starts s).node.0 (omega (arith, start.node)) line.name;
        class = classed (flow_line cert.starts s).class.0 (start_at p.starts s).node.0 (omega (arith, start.node)) line.class;
        flow = subst IsPlanNumber (get_or-map (λ line. line.flow) cert.starts s no_flow) (numbers.start_flow s (pos 0) (simp length-map within));
      }

  text_end : (e : ℕ) → e < length cert.ends → IsTextFlow (flow_line cert.ends e)
  text_end e within =
      let inside : e < length p.ends = omega (arith, lines.counts.others.ends) in
      let line = lines.ends e (omega arith) in
      let end = sound.ends e (end_at [] 0) inside in
      record {
        name = named (flow_line cert.ends e).name (end_at p.ends e).node.0 (omega (arith, end.node)) line.name;
        class = classed (flow_line cert.ends e).class.0 (end_at p.ends e).node.0 (omega (arith, end.node)) line.class;
        flow = subst IsPlanNumber (get_or-map (λ line. line.flow) cert.ends e no_flow) (numbers.end_flow e (pos 0) (simp length-map within));
      }

  pub IsInTextRanges-named : IsInTextRanges cert
  IsInTextRanges-named = record {
    policy = rw version text.version;
    classes = text_classes cert.classes ranges (rw classes text.clocks);
    nodes = recursion_from_All IsTextNode cert.nodes (All-from_get_or IsTextNode cert.nodes no_node text_node);
    items = recursion_from_All IsTextItem cert.items (All-from_get_or IsTextItem cert.items no_item text_item);
    starts = recursion_from_All IsTextFlow cert.starts (All-from_get_or IsTextFlow cert.starts no_flow text_start);
    ends = recursion_from_All IsTextFlow cert.ends (All-from_get_or IsTextFlow cert.ends no_flow text_end);
    weight = numbers.weight;
  }

-- where it could be made
pub IsInTextRanges-on_ok : {E : Type 0} (names : Names) (p : Problem) (plan : Plan) (r : Result Cert E) → IsSound p → AreTextNames names p → HasPlanNumbers plan
    → IfOk r (λ cert. cert.policy ≡ names.version) → IfOk r (λ cert. cert.classes ≡ names.classes)
    → IfOk r (λ cert. AllByRecursion HasClassNumbers cert.classes) → IfOk r (HasLines names p) → IfOk r (λ cert. plan_in cert ≡ plan) → IfOk r IsInTextRanges
IsInTextRanges-on_ok names p plan (Ok cert) sound text numbers version classes ranges lines same =
    IsInTextRanges-named names p cert sound text version classes ranges lines (subst HasPlanNumbers (sym same) numbers)
IsInTextRanges-on_ok names p plan (Err _) sound text numbers version classes ranges lines same = tt

-- the certificate of a plan that holds
pub IsCertOf-on_ok : {E : Type 0} (names : Names) (p : Problem) (plan : Plan) (r : Result Cert E) → IsHolding p plan
    → IfOk r (λ cert. cert.policy ≡ names.version) → IfOk r (HasLines names p) → IfOk r (λ cert. plan_in cert ≡ plan) → IfOk r (IsCertOf names p)
IsCertOf-on_ok names p plan (Ok cert) holds version lines same = record { version = version; lines = lines; plan = subst (IsHolding p) (sym same) holds }
IsCertOf-on_ok names p plan (Err _) holds version lines same = tt
