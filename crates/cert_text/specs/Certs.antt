-- The numbers of a certificate.
use Rattle.std.specs.Prelude.{map}
use Rattle.bud_plans.specs.declared.plans.Plan.{Plan}
use Rattle.cert_text.specs.declared.certs.Cert.{Cert}

-- the plan that the lines write
abbrev pub plan_in : Cert → Plan
plan_in cert = record {
  budgets = map (λ line. line.budget) cert.items;
  arrivals = map (λ line. line.arrival) cert.nodes;
  flow = map (λ line. line.flow) cert.items;
  start_flow = map (λ line. line.flow) cert.starts;
  end_flow = map (λ line. line.flow) cert.ends;
  weight = cert.weight;
}
