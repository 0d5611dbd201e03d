-- The words of the command line.
use Rattle.std.specs.Prelude.{ℕ, ◌<◌, ◌≤◌, List, [], ◌∷◌, Option, Some, None, codes, if◌then◌else◌}
use Rattle.std.specs.Option.{option_map}
use Rattle.std.specs.Str.{bytes_eq}
use Rattle.budget_makes.specs.Words.{gates_of, number_of}
use Rattle.budget_top.specs.declared.words.Job.{Job}
use Rattle.budget_top.specs.declared.words.Job.TheVariants.{Raw, Prove, Least, Plan, Check, Make}
use Rattle.budget_top.specs.declared.words.PlanFiles.{PlanFiles}

-- the names of the files of `plan` and of `check`
pub record PlanNames : Type 0 where
  pub netlist : List ℕ
  pub delays : List ℕ
  pub constraints : List ℕ
  pub policy : List ℕ
  pub cert : List ℕ

-- a job, with the names of its files, or the numbers of a made design
pub data Asked : Type 0 where
  raw : (problem : List ℕ) → Asked
  prove : (problem cert : List ℕ) → Asked
  least : (netlist delays constraints : List ℕ) → Asked
  plan : (names : PlanNames) → Asked
  check : (names : PlanNames) → Asked
  make : (gates number : ℕ) → Asked

abbrev pub raw_of : List (List ℕ) → Option Asked
raw_of (problem ∷ []) = Some (raw problem)
raw_of [] = None
raw_of (problem ∷ other ∷ others) = None

abbrev pub prove_of : List (List ℕ) → Option Asked
prove_of (problem ∷ cert ∷ []) = Some (prove problem cert)
prove_of [] = None
prove_of (problem ∷ []) = None
prove_of (problem ∷ cert ∷ other ∷ others) = None

abbrev pub least_of : List (List ℕ) → Option Asked
least_of (netlist ∷ delays ∷ constraints ∷ []) = Some (least netlist delays constraints)
least_of [] = None
least_of (netlist ∷ []) = None
least_of (netlist ∷ delays ∷ []) = None
least_of (netlist ∷ delays ∷ constraints ∷ other ∷ others) = None

abbrev pub plan_names : List (List ℕ) → Option PlanNames
plan_names (netlist ∷ delays ∷ constraints ∷ policy ∷ cert ∷ []) =
    Some (record { netlist = netlist; delays = delays; constraints = constraints; policy = policy; cert = cert })
plan_names [] = None
plan_names (netlist ∷ []) = None
plan_names (netlist ∷ delays ∷ []) = None
plan_names (netlist ∷ delays ∷ constraints ∷ []) = None
plan_names (netlist ∷ delays ∷ constraints ∷ policy ∷ []) = None
plan_names (netlist ∷ delays ∷ constraints ∷ policy ∷ cert ∷ other ∷ others) = None

abbrev pub make_from : Option ℕ → Option ℕ → Option Asked
make_from (Some gates) (Some number) = Some (make gates number)
make_from (Some gates) None = None
make_from None number = None

abbrev pub make_of : List (List ℕ) → Option Asked
make_of (gates ∷ number ∷ []) = make_from (gates_of gates) (number_of number)
make_of [] = None
make_of (gates ∷ []) = None
make_of (gates ∷ number ∷ other ∷ others) = None

-- the first word picks the job, and the job says what the others are
abbrev pub job_of : List (List ℕ) → Option Asked
job_of [] = None
job_of (word ∷ names) =
    if bytes_eq word (codes "raw") then raw_of names
    else (if bytes_eq word (codes "prove") then prove_of names
    else (if bytes_eq word (codes "least") then least_of names
    else (if bytes_eq word (codes "plan") then option_map (λ files. plan files) (plan_names names)
    else (if bytes_eq word (codes "check") then option_map (λ files. check files) (plan_names names)
    else (if bytes_eq word (codes "make") then make_of names else None)))))

abbrev pub names_in : PlanFiles → PlanNames
names_in files = record {
  netlist = files.netlist.now;
  delays = files.delays.now;
  constraints = files.constraints.now;
  policy = files.policy.now;
  cert = files.cert.now;
}

abbrev pub asked : Job → Asked
asked (Raw problem) = raw problem.now
asked (Prove problem cert) = prove problem.now cert.now
asked (Least netlist delays constraints) = least netlist.now delays.now constraints.now
asked (Plan files) = plan (names_in files)
asked (Check files) = check (names_in files)
asked (Make gates number) = make gates number

-- the numbers of a made design are in their ranges
abbrev pub IsAskable : Job → Type 0
IsAskable (Raw problem) = Unit {0}
IsAskable (Prove problem cert) = Unit {0}
IsAskable (Least netlist delays constraints) = Unit {0}
IsAskable (Plan files) = Unit {0}
IsAskable (Check files) = Unit {0}
IsAskable (Make gates number) = (1 ≤ gates) × (gates ≤ 20000) × (number < 2147483648)
