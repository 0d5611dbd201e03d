-- The least slack of a design over all its constrained paths, and what is printed of it.
use Rattle.std.specs.Prelude.{◌≡◌, ◌⊎◌, ℕ, suc, ◌<◌, ℤ, pos, ◌+ℤ◌, ◌-ℤ◌, ◌≤ℤ◌, ◌<ℤ◌, List, [], ◌∷◌, ◌++◌, codes, length, slice_index_or, Ok, Err}
use Rattle.bud_base.specs.declared.ids.ArcId.{ArcId}
use Rattle.bud_design.specs.declared.layers.Class.{Class}
use Rattle.bud_design.specs.Arcs.{arc_at}
use Rattle.bud_design.specs.Layers.{AreClasses, class_behind, class_number}
use Rattle.bud_design.specs.TimingPaths.{View, TimingPath, IsConstrained, IsLeastPathSlack, path_start, last_pin, sum_over, least_delay}
use Rattle.budget_report.specs.declared.statuses.Status.{Status}
use Rattle.budget_report.specs.declared.statuses.Status.TheVariants.{Done, Violated}
use Rattle.budget_report.specs.DesignPaths.{slack_line, class_lines, pin_line, arc_line}
use Rattle.budget_report.specs.Violations.{meets_text, no_paths_text}
use Rattle.budget_steps.specs.declared.outcomes.Answer.{Answer}
use Rattle.budget_steps.specs.Steps.{Course, ◌>>◌}
use Rattle.budget_designs.specs.Designs.{within_limits}

abbrev pub HasNoConstrainedPath : View → Type 0
HasNoConstrainedPath w = (path : TimingPath) (room : ℤ) → IsConstrained w path room → ⊥

abbrev pub number_at : List ℕ → ℕ → ℕ
number_at numbers i = slice_index_or numbers i 0

-- the class has this number
pub record IsNumbered (classes : List Class) (number : ℕ) (k : Class) : Type 0 where
  pub within : number < length classes
  pub class_is : class_number classes number ≡ k

-- the numbers of the classes of a path, pin by pin: behind its first arcs it has the class that they have
pub record AreNumbered (w : View) (classes : List Class) (path : TimingPath) (numbers : List ℕ) : Type 0 where
  pub count : length numbers ≡ suc (length path.arcs)
  pub each : (front rest : List ArcId) → path.arcs ≡ front ++ rest → IsNumbered classes (number_at numbers (length front)) (class_behind w path front)

abbrev pub arc_lines : View → List ArcId → List ℕ
arc_lines w [] = []
arc_lines w (a ∷ xs) = arc_line w.design (arc_at w.arcs a.0).from (arc_at w.arcs a.0).to (arc_at w.arcs a.0).least ++ arc_lines w xs

-- the slack, the path's classes, the launch with its offset, the arcs, and the last pin with its required time
abbrev pub violated_text : View → List Class → List ℕ → ℤ → TimingPath → ℤ → List ℕ
violated_text w classes numbers slack path room =
    slack_line slack
    ++ class_lines w.all numbers 0 classes
    ++ pin_line (codes "start") w.design (path_start w path).pin.0 (number_at numbers 0) (path_start w path).offset
    ++ arc_lines w path.arcs
    ++ pin_line (codes "end") w.design (last_pin w.arcs (path_start w path).pin.0 path.arcs) (number_at numbers (length path.arcs)) (room +ℤ (path_start w path).offset)

-- the text is that of a constrained path of this slack at least delays; its classes have their numbers among those of all constrained paths
pub record IsPathText (w : View) (slack : ℤ) (text : List ℕ) : Type 0 where
  pub path : TimingPath
  pub room : ℤ
  pub constrained : IsConstrained w path room
  pub slack_is : slack ≡ room -ℤ sum_over (least_delay w.arcs) path.arcs
  pub classes : List Class
  pub are_classes : AreClasses w classes
  pub numbers : List ℕ
  pub are_numbers : AreNumbered w classes path numbers
  pub text_is : text ≡ violated_text w classes numbers slack path room

-- no constrained path, or the least slack where it is at least 0; or a worst path where it is negative
abbrev pub IsMeasured : View → Status → List ℕ → Type 0
IsMeasured w Done text =
    (HasNoConstrainedPath w × (text ≡ no_paths_text)) ⊎ ((s : ℤ) × (IsLeastPathSlack w s × (pos 0 ≤ℤ s) × (text ≡ meets_text s)))
IsMeasured w Violated text = (s : ℤ) × (IsLeastPathSlack w s × (s <ℤ pos 0) × IsPathText w s text)
IsMeasured w _ text = ⊥

abbrev pub measured : View → Course Answer
measured w (Ok answer) = IsMeasured w answer.said.status answer.said.text × (answer.writes ≡ [])
measured w (Err r) = ⊥

-- the least slack of a design over its constrained paths, where no limit is passed
abbrev pub least_of : View → Course Answer
least_of w = do
  within_limits w
  measured w
