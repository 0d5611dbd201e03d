-- Sweeps over the pins in their order: forwards the marks become what is reached, backwards it is told what leads on.
use Rattle.std.specs.Prelude.{◌≡◌, ◌⊎◌, ℕ, ◌≤◌, Bool, true}
use Rattle.std.proofs.Common.{sym, subst, inl, inr}
use Rattle.bud_base.specs.declared.ids.ArcId.{ArcId}
use Rattle.bud_design.specs.Arcs.{arc_at}
use Rattle.bud_design.specs.Reaching.{Walk, pin_behind, IsReached, LeadsOn, AreMarks, IsMarkedBy, MarksOn}
use Rattle.bud_design.proofs.ReachingLaws.{LeadsOn-cases, LeadsOn-ends, LeadsOn-arc, LeadsByArc, IsReached-closed, IsReached-arc}

module _ (w : Walk) (Begins : ℕ → w.Class → Type 0) where
  -- when all pins are done, each state that is reached is marked
  pub marked-reached : (Done : ℕ → Type 0) (Marked : ℕ → w.Class → Type 0) → AreMarks w Begins Done Marked → ((x : ArcId) → w.Uses x → Done (arc_at w.arcs x.0).from)
      → (v : ℕ) (k : w.Class) → IsReached w Begins v k → Marked v k
  marked-reached Done Marked marks done =
      IsReached-closed w Begins Marked marks.begins (λ x k uses marked. marks.closed x k uses (done x uses) marked)

  -- one pin more, whose arcs lead to no pin that is done and not back to it
  pub AreMarks-more : (Done : ℕ → Type 0) (Marked More : ℕ → w.Class → Type 0) (u : ℕ) → AreMarks w Begins Done Marked → MarksOn w u Marked More
      → ((x : ArcId) → w.Uses x → (arc_at w.arcs x.0).from ≡ u → (Done (pin_behind w x) ⊎ (pin_behind w x ≡ u)) → ⊥)
      → AreMarks w Begins (λ v. Done v ⊎ (v ≡ u)) More
  AreMarks-more Done Marked More u marks more forward = record {
    reached = λ v k marked. reached v k (more.only v k marked);
    begins = λ v k begins. more.kept v k (marks.begins v k begins);
    closed = λ x k uses done marked. closed x k uses done (more.only (arc_at w.arcs x.0).from k marked);
  }
    where
      reached : (v : ℕ) (k : w.Class) → Marked v k ⊎ IsMarkedBy w u Marked v k → IsReached w Begins v k
      reached v k (inl marked) = marks.reached v k marked
      reached v k (inr by) = IsReached-arc w Begins v k (record {
        arc = by.arc;
        before = by.before;
        uses = by.uses;
        to = by.to;
        reached = subst (λ z. IsReached w Begins z by.before) (sym by.from) (marks.reached u by.before by.marked);
        goes = by.goes;
      })

      on : (x : ArcId) (k : w.Class) → w.Uses x → Done (arc_at w.arcs x.0).from ⊎ ((arc_at w.arcs x.0).from ≡ u) → Marked (arc_at w.arcs x.0).from k
          → More (pin_behind w x) (w.go k (pin_behind w x))
      on x k uses (inl done) marked = more.kept (pin_behind w x) (w.go k (pin_behind w x)) (marks.closed x k uses done marked)
      on x k uses (inr same) marked = more.adds x k uses same (subst (λ z. Marked z k) same marked)

      closed : (x : ArcId) (k : w.Class) → w.Uses x → Done (arc_at w.arcs x.0).from ⊎ ((arc_at w.arcs x.0).from ≡ u)
          → Marked (arc_at w.arcs x.0).from k ⊎ IsMarkedBy w u Marked (arc_at w.arcs x.0).from k → More (pin_behind w x) (w.go k (pin_behind w x))
      closed x k uses done (inl marked) = on x k uses done marked
      closed x k uses done (inr by) = absurd (forward by.arc by.uses by.from (subst (λ z. Done z ⊎ (z ≡ u)) (sym by.to) done))

  -- a number kept with each state that no arc raises is at most that of each beginning from which the state is reached
  pub kept-least : (kept : ℕ → w.Class → ℕ) (bound : ℕ) → ((v : ℕ) (k : w.Class) → Begins v k → kept v k ≤ bound)
      → ((x : ArcId) (k : w.Class) → w.Uses x → kept (arc_at w.arcs x.0).from k ≤ bound → kept (pin_behind w x) (w.go k (pin_behind w x)) ≤ bound)
      → (v : ℕ) (k : w.Class) → IsReached w Begins v k → kept v k ≤ bound
  kept-least kept bound begins falls = IsReached-closed w Begins (λ v k. kept v k ≤ bound) begins falls

module _ (w : Walk) (Ends : ℕ → w.Class → Type 0) where
  -- an answer tells whether a state leads on
  pub record Tells (b : Bool) (v : ℕ) (k : w.Class) : Type 0 where
    pub sound : b ≡ true → LeadsOn w Ends v k
    pub complete : LeadsOn w Ends v k → b ≡ true

  -- an arc from the pin of which it is told that its second state leads on
  pub record ToldArc (told : ArcId → Bool) (u : ℕ) : Type 0 where
    pub arc : ArcId
    pub uses : w.Uses arc
    pub from : (arc_at w.arcs arc.0).from ≡ u
    pub sound : told arc ≡ true

  -- it does where it says whether the class ends there or such an arc is there
  pub Tells-pin : (u : ℕ) (k : w.Class) (b : Bool) (told : ArcId → Bool)
      → ((x : ArcId) → w.Uses x → (arc_at w.arcs x.0).from ≡ u → Tells (told x) (pin_behind w x) (w.go k (pin_behind w x)))
      → (b ≡ true → Ends u k ⊎ ToldArc told u) → (Ends u k ⊎ ToldArc told u → b ≡ true) → Tells b u k
  Tells-pin u k b told each sound complete = record {
    sound = λ is. leads (sound is);
    complete = λ on. need (LeadsOn-cases w Ends u k on);
  }
    where
      leads : Ends u k ⊎ ToldArc told u → LeadsOn w Ends u k
      leads (inl ends) = LeadsOn-ends w Ends u k ends
      leads (inr by) = LeadsOn-arc w Ends u k (record { arc = by.arc; uses = by.uses; from = by.from; leads = (each by.arc by.uses by.from).sound by.sound })

      need : Ends u k ⊎ LeadsByArc w Ends u k → b ≡ true
      need (inl ends) = complete (inl ends)
      need (inr by) = complete (inr (record { arc = by.arc; uses = by.uses; from = by.from; sound = (each by.arc by.uses by.from).complete by.leads }))
