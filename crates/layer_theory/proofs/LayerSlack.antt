-- The least slack of a layered problem is that of the design.
use Rattle.std.specs.Prelude.{ℤ, ◌-ℤ◌, ◌≤ℤ◌}
use Rattle.std.proofs.Common.{sym, ◌∙◌, ap, subst}
use Rattle.bud_base.specs.Paths.{Path, IsPath, room, slack, sum_along, least_of, IsPathOfSlack, IsLeastSlack}
use Rattle.bud_design.specs.Correspondences.{Correspond}
use Rattle.bud_design.specs.TimingPaths.{View, TimingPath, HasSlack, IsLeastPathSlack}
use Rattle.bud_design.specs.declared.layers.Layered.{Layered}

module _ (w : View) (layered : Layered) (correspond : Correspond w layered) where
  -- a problem path's slack is that of a constrained path
  pub HasSlack-from_path : (p : Path) → IsPath layered.problem p → (path : TimingPath) × HasSlack w path (slack layered.problem (least_of layered.problem) p)
  HasSlack-from_path p is_path =
      let back = correspond.back p is_path in (
        back.0,
        record {
          room = room layered.problem p;
          constrained = back.1.1;
          slack_is = ap (λ z. room layered.problem p -ℤ z) (correspond.sums p back.0 is_path back.1.0);
        },
      )

  -- and a constrained path's is that of a problem path
  pub path-from_HasSlack : (path : TimingPath) (s : ℤ) → HasSlack w path s → (p : Path) × IsPathOfSlack layered.problem s p
  path-from_HasSlack path s has =
      let onto = correspond.onto path has.room has.constrained in (
        onto.0,
        record {
          is_path = onto.1.0;
          has_slack =
              ap (λ z. z -ℤ sum_along (least_of layered.problem) onto.0.items) onto.1.2
              ∙ (ap (λ z. has.room -ℤ z) (correspond.sums onto.0 path onto.1.0 onto.1.1) ∙ sym has.slack_is);
        },
      )

  pub IsLeastPathSlack-from_problem : (s : ℤ) → IsLeastSlack layered.problem s → IsLeastPathSlack w s
  IsLeastPathSlack-from_problem s is =
      let worst = HasSlack-from_path is.attained.0 is.attained.1.is_path in
      record {
        attained = (worst.0, subst (HasSlack w worst.0) is.attained.1.has_slack worst.1);
        least = λ path other has.
            let p = path-from_HasSlack path other has in
            subst (λ z. s ≤ℤ z) p.1.has_slack (is.least p.0 p.1.is_path);
      }

  pub IsLeastSlack-from_design : (s : ℤ) → IsLeastPathSlack w s → IsLeastSlack layered.problem s
  IsLeastSlack-from_design s is = record {
    attained = path-from_HasSlack is.attained.0 s is.attained.1;
    least = λ p is_path.
        let has = HasSlack-from_path p is_path in
        is.least has.0 (slack layered.problem (least_of layered.problem) p) has.1;
  }
