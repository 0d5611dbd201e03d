-- Why a job is refused: the status of each cause, and its line.
use Rattle.std.specs.Prelude.{ℕ, ◌<◌, List, [], ◌∷◌, ◌++◌, codes, decimal, length, All}
use Rattle.bud_base.specs.Paths.{item_at}
use Rattle.bud_base.specs.declared.ids.ItemId.{ItemId}
use Rattle.bud_base.specs.declared.problems.Item.{Item}
use Rattle.bud_base.specs.declared.problems.Problem.{Problem}
use Rattle.bud_base.specs.declared.checks.ProblemFault.{ProblemFault}
use Rattle.bud_base.specs.declared.checks.ProblemFault.TheVariants.{BadNode, BadBounds, BadTime, TooLarge, Cycle, Dead, NoMemory as ProblemMemory}
use Rattle.budget_report.specs.declared.statuses.Status.{Status}
use Rattle.budget_report.specs.declared.statuses.Status.TheVariants.{Words as Misfit, Fault, Design as Unfit, Limit, Certificate, Memory}
use Rattle.budget_report.specs.declared.causes.Cause.{Cause}
use Rattle.budget_report.specs.declared.causes.Cause.TheVariants.{Words, Shelf, Sink, Length, Text as LineText, Verilog, Sdf, Sdc, Elab, Bind, Graph, Resolve, Layer, Problem as Unsound, Cert}
use Rattle.budget_report.specs.Lines.{line, nodes_of}
use Rattle.budget_report.specs.Readings.{memory_fields, text_status, verilog_status, sdf_status, sdc_status, text_fields, verilog_fields, sdf_fields, sdc_fields}
use Rattle.bud_design.specs.Designs.{Design}
use Rattle.budget_report.specs.Certificates.{IsOf, cert_fields}
use Rattle.budget_report.specs.DesignFaults.{elab_status, bind_status, graph_status, resolve_status, layer_status, elab_fields, bind_fields, graph_fields, resolve_fields, layer_fields, graph_rest, HasPins}
use Rattle.budget_report.specs.Subjects.{Subject, problem_of, design_of, HasDesign}

abbrev pub problem_status : ProblemFault → Status
problem_status (BadNode n) = Unfit
problem_status (BadBounds i) = Unfit
problem_status (BadTime n) = Unfit
problem_status (TooLarge count) = Limit
problem_status (Cycle items) = Unfit
problem_status (Dead n) = Unfit
problem_status ProblemMemory = Memory

-- how a run ends that is refused for the cause
abbrev pub status_of : Cause → Status
status_of Words = Misfit
status_of (Shelf name) = Fault
status_of Sink = Fault
status_of (Length name count) = Limit
status_of (LineText name fault) = text_status fault
status_of (Verilog name fault) = verilog_status fault
status_of (Sdf name fault) = sdf_status fault
status_of (Sdc name fault) = sdc_status fault
status_of (Elab fault) = elab_status fault
status_of (Bind fault) = bind_status fault
status_of (Graph fault) = graph_status fault
status_of (Resolve fault) = resolve_status fault
status_of (Layer fault) = layer_status fault
status_of (Unsound fault) = problem_status fault
status_of (Cert fault) = Certificate

-- the design, or a limit that it passes: a word and a number
abbrev pub numbered_fields : List ℕ → List ℕ → ℕ → List (List ℕ)
numbered_fields title word number = title ∷ word ∷ decimal number ∷ []

abbrev pub problem_fields : ProblemFault → List (List ℕ)
problem_fields (BadNode n) = numbered_fields (codes "design") (codes "bad-node") n
problem_fields (BadBounds i) = numbered_fields (codes "design") (codes "bad-bounds") i.0
problem_fields (BadTime n) = numbered_fields (codes "design") (codes "bad-time") n.0
problem_fields (TooLarge count) = numbered_fields (codes "limit") (codes "size") count
problem_fields (Cycle ring) = numbered_fields (codes "design") (codes "cycle") (length ring)
problem_fields (Dead n) = numbered_fields (codes "design") (codes "dead") n.0
problem_fields ProblemMemory = memory_fields

abbrev pub shelf_fields : List ℕ → List (List ℕ)
shelf_fields name = codes "fault" ∷ name ∷ []

abbrev pub length_fields : List ℕ → ℕ → List (List ℕ)
length_fields name count = codes "limit" ∷ name ∷ decimal count ∷ []

-- the fields of the line that names the cause; a refusal of the sink has none
abbrev pub fields_of : Subject → Cause → List (List ℕ)
fields_of subject Words = codes "words" ∷ []
fields_of subject (Shelf name) = shelf_fields name
fields_of subject Sink = []
fields_of subject (Length name count) = length_fields name count
fields_of subject (LineText name fault) = text_fields name fault
fields_of subject (Verilog name fault) = verilog_fields name fault
fields_of subject (Sdf name fault) = sdf_fields name fault
fields_of subject (Sdc name fault) = sdc_fields name fault
fields_of subject (Elab fault) = elab_fields fault
fields_of subject (Bind fault) = bind_fields fault
fields_of subject (Graph fault) = graph_fields fault
fields_of subject (Resolve fault) = resolve_fields fault
fields_of subject (Layer fault) = layer_fields fault
fields_of subject (Unsound fault) = problem_fields fault
fields_of subject (Cert fault) = cert_fields subject fault

-- a line for each item of a cycle, with its nodes
abbrev pub ring_lines : List Item → List ItemId → List ℕ
ring_lines items [] = []
ring_lines items (i ∷ is) = line (codes "arc" ∷ nodes_of (item_at items i.0)) ++ ring_lines items is

abbrev pub problem_rest : List Item → ProblemFault → List ℕ
problem_rest items (Cycle ring) = ring_lines items ring
problem_rest items other = []

-- what stands below the line
abbrev pub rest_of : Subject → Cause → List ℕ
rest_of subject (Unsound fault) = problem_rest (problem_of subject).items fault
rest_of subject (Graph fault) = graph_rest (design_of subject) fault
rest_of subject other = []

-- what is printed of a cause
abbrev pub text_of : Subject → Cause → List ℕ
text_of subject cause = line (fields_of subject cause) ++ rest_of subject cause

-- the items of the cycle are the problem's
abbrev pub HasItems : Problem → ProblemFault → Type 0
HasItems p (Cycle ring) = All (λ i. i.0 < length p.items) ring
HasItems p other = Unit {0}

-- what the cause names is the subject's
abbrev pub Concerns : Subject → Cause → Type 0
Concerns subject (Unsound fault) = HasItems (problem_of subject) fault
Concerns subject (Cert fault) = IsOf subject fault
Concerns subject (Graph fault) = HasDesign subject × HasPins (design_of subject) fault
Concerns subject other = Unit {0}

-- the line of want of memory, which is no cause
abbrev pub memory_text : List ℕ
memory_text = line memory_fields
