-- The turns of the loop that reads a file.
use Rattle.std.proofs.Common.{◌≡◌, ℕ, ◌<◌, true, false, Option, Some, None, List, [], ◌∷◌, ◌++◌, refl, sym, ap, ◌∙◌}
use Rattle.bud_syntax.specs.declared.modules.Module.{Module}
use Rattle.verilog_lex.specs.declared.kinds.Token.{Token}
use Rattle.verilog_reader.specs.Left.{Left, size}
use Rattle.verilog_reader.specs.Modules.{earlier}
use Rattle.verilog_reader.specs.Netlists.{part, parts, is_at_end, modules_of, fault_of, least_breach, whole, netlist}
use Rattle.verilog_reader.specs.Repeats.{GoesOn}
use Rattle.verilog_reader.specs.Answers.{Fails}
use Rattle.verilog_reader.specs.declared.readings.Stop.{Stop}
use Rattle.verilog_reader.specs.declared.readings.Stop.TheVariants.{Syntax, NoMemory}
use Rattle.verilog_reader.specs.declared.trees.Assembled.{Assembled}
use Rattle.verilog_reader.specs.declared.trees.Named.{Named}
use Rattle.verilog_reader.proofs.RepeatSteps.{begun, turned, turn_missed, ended}
use Rattle.verilog_reader.proofs.TableSteps.{earlier_assoc}

-- the modules and the fault so far, with those of what is left, are those of the whole
pub record IsReading (text : List ℕ) (tokens : List Token) (modules : List Module) (fault : Option Named) (s : Left) : Type 0 where
  pub found : List (Option Assembled)
  pub modules_are : modules ≡ modules_of found
  pub fault_is : fault ≡ fault_of found
  pub goes_on : GoesOn is_at_end part size found s (parts (whole text tokens))

modules_of-more : (xs : List (Option Assembled)) (p : Option Assembled) → modules_of (xs ++ p ∷ []) ≡ modules_of xs ++ modules_of (p ∷ [])
modules_of-more [] p = refl
modules_of-more (None ∷ xs) p = modules_of-more xs p
modules_of-more (Some m ∷ xs) p = ap (λ ms. m.«module» ∷ ms) (modules_of-more xs p)

fault_of-more : (xs : List (Option Assembled)) (p : Option Assembled) → fault_of (xs ++ p ∷ []) ≡ earlier (fault_of xs) (fault_of (p ∷ []))
fault_of-more [] p = refl
fault_of-more (None ∷ xs) p = fault_of-more xs p
fault_of-more (Some m ∷ xs) p = ap (earlier m.fault) (fault_of-more xs p) ∙ sym (earlier_assoc m.fault (fault_of xs) (fault_of (p ∷ [])))

pub reading_begins : (text : List ℕ) (tokens : List Token) → IsReading text tokens [] None (whole text tokens)
reading_begins text tokens = record { found = []; modules_are = refl; fault_is = refl; goes_on = begun is_at_end part size (whole text tokens) }

pub reading_turns : (text : List ℕ) (tokens : List Token) (modules more : List Module) (fault next : Option Named) (s t : Left) (p : Option Assembled) →
    IsReading text tokens modules fault s → is_at_end s ≡ false → part s ≡ Some (p, t) → size t < size s →
    more ≡ modules ++ modules_of (p ∷ []) → next ≡ earlier fault (fault_of (p ∷ [])) → IsReading text tokens more next t
reading_turns text tokens modules more fault next s t p given goes read less more_is next_is = record {
  found = given.found ++ p ∷ [];
  modules_are = more_is ∙ ap (λ ms. ms ++ modules_of (p ∷ [])) given.modules_are ∙ sym (modules_of-more given.found p);
  fault_is = next_is ∙ ap (λ f. earlier f (fault_of (p ∷ []))) given.fault_is ∙ sym (fault_of-more given.found p);
  goes_on = turned is_at_end part size given.found s t p _ given.goes_on goes read less;
}

reading_misses : (text : List ℕ) (tokens : List Token) (modules : List Module) (fault : Option Named) (s : Left) →
    IsReading text tokens modules fault s → is_at_end s ≡ false → part s ≡ None → netlist text tokens ≡ None
unfolding netlist
reading_misses text tokens modules fault s given goes missed = rw (turn_missed is_at_end part size given.found s _ given.goes_on goes missed) refl

pub reading_stops : (text : List ℕ) (tokens : List Token) (modules : List Module) (fault : Option Named) (s : Left) (stop : Stop) →
    IsReading text tokens modules fault s → is_at_end s ≡ false → Fails stop (part s) → Fails stop (netlist text tokens)
reading_stops text tokens modules fault s (Syntax at) given goes missed = reading_misses text tokens modules fault s given goes missed
reading_stops text tokens modules fault s NoMemory given goes missed = tt

pub reading_ends : (text : List ℕ) (tokens : List Token) (modules : List Module) (fault : Option Named) (s : Left) →
    IsReading text tokens modules fault s → is_at_end s ≡ true → netlist text tokens ≡ Some (modules, least_breach fault s.breach)
unfolding netlist
reading_ends text tokens modules fault s given ends =
    rw (ended is_at_end part size given.found s _ given.goes_on ends) (sym (ap (λ ms. Some (ms, least_breach fault s.breach)) given.modules_are ∙ ap (λ f. Some (modules_of given.found, least_breach f s.breach)) given.fault_is))
