-- The walk from the top.
use Rattle.std.specs.Prelude.{◌≡◌, ℕ, ◌<◌, ◌≤◌, ◌+◌, nat_lt, Bool, true, false, List, [], ◌∷◌, map, reverse, length, Option, Some, None, Err, if◌then◌else◌}
use Rattle.std.specs.Option.{option_or}
use Rattle.std.proofs.Common.{true≢false, arith, sym, ◌∙◌, refl, ap}
use Rattle.bud_base.proofs.FindLemmas.{option_or-none}
use Rattle.bud_syntax.specs.declared.modules.Module.{Module}
use Rattle.bud_design.specs.Lists.{first_some}
use Rattle.module_nets.specs.declared.faults.ElabFault.{ElabFault}
use Rattle.module_nets.specs.declared.faults.ElabFault.TheVariants.{TooLarge}
use Rattle.module_nets.specs.Entering.{Entry, entered_count, top_inout, name_twice, too_large, instance_fault, assign_fault, body_fault}
use Rattle.module_nets.specs.Nets.{port_bits}
use Rattle.module_nets.specs.Numbers.{capped}
use Rattle.module_nets.specs.Tops.{module_at}
use Rattle.elaborations.specs.Elaborations.{Built, ◌>>=◌, counted, entering_fault, two_drivers, enter, all_placed, top_entry, top_built}
use Rattle.elaborations.proofs.Lists.{by_lt}
use Rattle.hierarchy.specs.declared.walks.Trail.{Trail}
use Rattle.hierarchy.specs.Walking.{entry_at, steps}
use Rattle.hierarchy.proofs.WalkLaws.{same-entry}

-- ---- a count that stands still at the end of its type
less-true : (m n : ℕ) → m < n → nat_lt m n ≡ true
less-true m n less = grind (arith, less)

large-capped : (n k : ℕ) → too_large (capped n + k) ≡ too_large (n + k)
large-capped n k = by_lt n 18446744073709551615
    (λ less. let same : capped n ≡ n = omega (arith, less) in ap (λ m. too_large (m + k)) same)
    (λ more.
    let first : nat_lt 4194304 (capped n + k) ≡ true = less-true 4194304 (capped n + k) (omega (arith, more)) in
    let second : nat_lt 4194304 (n + k) ≡ true = less-true 4194304 (n + k) (omega (arith, more)) in
    ap (λ b. if b then Some (TooLarge 4194305) else None) first ∙ sym (ap (λ b. if b then Some (TooLarge 4194305) else None) second))

pub entering-capped : (modules : List Module) (e : Entry) (n k : ℕ) → entering_fault modules e (capped n + k) ≡ entering_fault modules e (n + k)
entering-capped modules e n k =
    ap (λ large. option_or (option_or (top_inout e) (option_or (name_twice e) (option_or large
    (option_or (first_some (instance_fault modules e) e.«module».instances) (first_some (assign_fault e) e.«module».assigns))))) (two_drivers modules e)) (large-capped n k)

not-large : (n : ℕ) → too_large n ≡ None → n ≤ 4194304
not-large n none = by_test (nat_lt 4194304 n) refl none
  where
    is_none : Option ElabFault → Bool
    is_none None = true
    is_none (Some f) = false

    by_test : (b : Bool) → nat_lt 4194304 n ≡ b → (if b then Some (TooLarge 4194305) else None) ≡ None → n ≤ 4194304
    by_test true is none = absurd (true≢false (sym (ap is_none none)))
    by_test false is none = grind (arith, is)

pub uncapped : (modules : List Module) (e : Entry) (n k : ℕ) → entering_fault modules e (capped n + k) ≡ None → capped n ≡ n
uncapped modules e n k none =
    let body = option_or-none (body_fault modules e (capped n + k)) (two_drivers modules e) none in
    let a = option_or-none (top_inout e) _ body.0 in
    let b = option_or-none (name_twice e) _ a.1 in
    let c = option_or-none (too_large (capped n + k)) _ b.1 in
    let small = not-large (capped n + k) c.0 in
    omega (arith, small)

module _ (modules : List Module) (kind : ℕ) (trail : Trail) (path : trail.path.items ≡ []) (line : trail.line.items ≡ kind ∷ []) where
  pub top-entry : entry_at modules kind trail ≡ top_entry (module_at modules kind)
  top-entry = same-entry modules (entry_at modules kind trail) (top_entry (module_at modules kind)) refl path (ap (λ l. map (λ n. (module_at modules n).name) (reverse l)) line)

  refusal-of : (bits : ℕ) → bits ≡ capped (length (port_bits (module_at modules kind)))
      → entering_fault modules (entry_at modules kind trail) (bits + entered_count modules (module_at modules kind))
      ≡ entering_fault modules (top_entry (module_at modules kind)) (length (port_bits (module_at modules kind)) + entered_count modules (module_at modules kind))
  refusal-of bits is =
      ap (λ n. entering_fault modules (entry_at modules kind trail) (n + entered_count modules (module_at modules kind))) is
      ∙ (entering-capped modules (entry_at modules kind trail) (length (port_bits (module_at modules kind))) (entered_count modules (module_at modules kind))
      ∙ ap (λ e. entering_fault modules e (length (port_bits (module_at modules kind)) + entered_count modules (module_at modules kind))) top-entry)

  pub top-refused : (bits : ℕ) (fault : ElabFault) → bits ≡ capped (length (port_bits (module_at modules kind)))
      → entering_fault modules (entry_at modules kind trail) (bits + entered_count modules (module_at modules kind)) ≡ Some fault
      → enter 257 modules (top_entry (module_at modules kind)) 0 (top_built (module_at modules kind)) ≡ Err fault
  top-refused bits fault is refused =
      ap (λ o. counted modules (top_entry (module_at modules kind)) (top_built (module_at modules kind)) o >>= (λ b. all_placed (enter 256 modules) modules (top_entry (module_at modules kind)) 0 (module_at modules kind).instances b)) (sym (refusal-of bits is) ∙ refused)

  pub top-entered : (bits : ℕ) (next : Built) → bits ≡ capped (length (port_bits (module_at modules kind)))
      → entering_fault modules (entry_at modules kind trail) (bits + entered_count modules (module_at modules kind)) ≡ None
      → next ≡ record (top_built (module_at modules kind)) { count = length (port_bits (module_at modules kind)) + entered_count modules (module_at modules kind) }
      → enter 257 modules (top_entry (module_at modules kind)) 0 (top_built (module_at modules kind)) ≡ steps modules 256 kind trail 0 (module_at modules kind).instances next
  top-entered bits next is clean made =
      ap (λ o. counted modules (top_entry (module_at modules kind)) (top_built (module_at modules kind)) o >>= (λ b. all_placed (enter 256 modules) modules (top_entry (module_at modules kind)) 0 (module_at modules kind).instances b)) (sym (refusal-of bits is) ∙ clean)
      ∙ (ap (all_placed (enter 256 modules) modules (top_entry (module_at modules kind)) 0 (module_at modules kind).instances) (sym made)
      ∙ ap (λ e. all_placed (enter 256 modules) modules e 0 (module_at modules kind).instances next) (sym top-entry))
