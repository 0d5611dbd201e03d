-- The lines of classes by their numbers, and the nodes that a layering names.
use Rattle.std.specs.Prelude.{◌≡◌, ℕ, zero, suc, ◌+◌, ◌^◌, ◌<◌, List, [], ◌∷◌, length, All, slice_index_or}
use Rattle.std.proofs.Common.{refl, ◌∙◌, ap, arith}
use Rattle.std.specs.List.{AllByRecursion}
use Rattle.std.proofs.lemmas.List.Elements.{All-head, All-tail}
use Rattle.bud_base.specs.Paths.{item_at, start_at, end_at}
use Rattle.bud_design.specs.Clocks.{clock_at}
use Rattle.bud_design.specs.Designs.{Design}
use Rattle.bud_design.specs.declared.clocks.Constraints.{Constraints}
use Rattle.bud_design.specs.declared.layers.Class.{Class}
use Rattle.bud_design.specs.declared.layers.Layered.{Layered}
use Rattle.cert_text.specs.Writing.{IsTextName}
use Rattle.plan_cert.specs.Names.{AreTextNames}
use Rattle.plan_cert.specs.Certificates.{AreNamed}
use Rattle.plan_cert.specs.Lines.{class_line}
use Rattle.design_certs.specs.DesignCerts.{class_lines, class_line_of, design_names, node_at, HasPin, HasTextNames, IsOfDesign}

-- there is a line for each class
pub class_lines_length : (all : Constraints) (number : ℕ) (ks : List Class) → length (class_lines all number ks) ≡ length ks
class_lines_length all number [] = refl
class_lines_length all number (k ∷ ks) = ap (λ n. suc n) (class_lines_length all (suc number) ks)

-- the line of a class is that of its number
pub class_lines-at : (all : Constraints) (number : ℕ) (ks : List Class) (c : ℕ) (d : Class) → c < length ks
    → class_line (class_lines all number ks) c ≡ class_line_of all (number + c) (slice_index_or ks c d)
class_lines-at all number [] c d below = absurd (omega (arith, below))
class_lines-at all number (k ∷ ks) zero d below = let same : number ≡ number + 0 = omega arith in ap (λ n. class_line_of all n k) same
class_lines-at all number (k ∷ ks) (suc c) d below =
    let same : suc number + c ≡ number + suc c = omega arith in
    class_lines-at all (suc number) ks c d (omega (arith, below)) ∙ ap (λ n. class_line_of all n (slice_index_or ks c d)) same

-- among the lines of all classes
pub class_line_is : (all : Constraints) (ks : List Class) (c : ℕ) (d : Class) → c < length (class_lines all 0 ks)
    → class_line (class_lines all 0 ks) c ≡ class_line_of all c (slice_index_or ks c d)
class_line_is all ks c d below =
    let same : 0 + c ≡ c = omega arith in
    class_lines-at all 0 ks c d (omega (arith, below, class_lines_length all 0 ks)) ∙ ap (λ n. class_line_of all n (slice_index_or ks c d)) same

module _ (layered : Layered) (d : Design) (sound : IsOfDesign layered d) where
  has-pin : (n : ℕ) → n < layered.problem.nodes → HasPin layered d n
  has-pin n below =
      let node : n < length layered.nodes = omega (arith, below, sound.1.node_count) in
      record { node = node; pin = sound.1.nodes n (node_at [] 0) node }

  -- a layering names the nodes of its problem
  pub named : AreNamed (HasPin layered d) layered.problem
  named = record {
    nodes = has-pin;
    items = λ i below.
        let item = sound.1.problem.items i (item_at [] 0) below in
        (has-pin _ item.from, has-pin _ item.to);
    starts = λ s below. has-pin _ (sound.1.problem.starts s (start_at [] 0) below).node;
    ends = λ e below. has-pin _ (sound.1.problem.ends e (end_at [] 0) below).node;
  }

  -- its names can be written where those of pins and clocks can
  pub text_names : (all : Constraints) → length layered.classes < 2 ^ 32 → HasTextNames layered d all → AreTextNames (design_names layered d all) layered.problem
  text_names all few text = record {
    version = text.version;
    clocks = class_clocks 0 layered.classes text.classes;
    node_names = λ n below. text.pins _ (has-pin n below).pin;
    node_classes = λ n below. let within : (node_at layered.nodes n).«class».0 < length layered.classes = sound.1.node_classes n (node_at [] 0) (has-pin n below).node in omega (arith, few);
  }
    where
      class_clocks : (number : ℕ) (ks : List Class) → All (λ k. k.clock < length all.clocks) ks → AllByRecursion (λ line. IsTextName line.clock) (class_lines all number ks)
      class_clocks number [] within = tt
      class_clocks number (k ∷ ks) within = (
        text.clocks k.clock (clock_at [] 0) (All-head (λ (x : Class). x.clock < length all.clocks) k ks within),
        class_clocks (suc number) ks (All-tail (λ (x : Class). x.clock < length all.clocks) k ks within),
      )
