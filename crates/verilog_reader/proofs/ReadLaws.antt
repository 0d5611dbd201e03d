-- What the reader answers is what its text is.
use Rattle.std.proofs.Common.{◌≡◌, ℕ, Option, Some, None, List, Result, Ok, Err, sym, ap, ◌∙◌, subst}
use Rattle.std.specs.Prelude.{slice_range, ◌+◌}
use Rattle.std.proofs.lemmas.Option.{same_Some}
use Rattle.bud_syntax.specs.declared.modules.Module.{Module}
use Rattle.verilog_lex.specs.Tokens.{AreTokens, IsRefused}
use Rattle.verilog_lex.specs.declared.kinds.Token.{Token}
use Rattle.verilog_lex.proofs.TokenLaws.{one_list, not_both}
use Rattle.verilog_words.specs.LeftOut.{IsFirstLeftOut}
use Rattle.verilog_words.specs.declared.words.Word.{Word}
use Rattle.verilog_words.proofs.FinderLaws.{one_first}
use Rattle.verilog_reader.specs.Breaches.{Breach}
use Rattle.verilog_reader.specs.Breaches.Breach.{of_port, of_number}
use Rattle.verilog_reader.specs.Netlists.{netlist, Reads, IsBreached, IsMalformed, IsUnsupported, LeavesOut, IsReadAnswer, UnlessMemory, IsSyntax}
use Rattle.verilog_reader.specs.Readers.{breach_of, Judges, Refuses}
use Rattle.verilog_reader.specs.declared.readers.Found.{Found}
use Rattle.verilog_reader.specs.declared.faults.VerilogFault.{VerilogFault}
use Rattle.verilog_reader.specs.declared.faults.VerilogFault.TheVariants.{Syntax, Unsupported, Port, Number, NoMemory}

abbrev unsupported_answer : List ℕ → ℕ → Result (List Module) VerilogFault
unsupported_answer word at = Err (Unsupported word at)

-- ---- a text has one reading
module _ (text : List ℕ) where
  -- two readings of a text are one
  pub one_reading : (ts us : List Token) (a b : List Module × Option Breach) → AreTokens 0 text ts → AreTokens 0 text us → netlist text ts ≡ Some a → netlist text us ≡ Some b → a ≡ b
  one_reading ts us a b first second read other =
      same_Some a b (sym read ∙ ap (netlist text) (one_list 0 text ts us first second) ∙ other)

  pub one_value : (m n : List Module) → Reads text m → Reads text n → m ≡ n
  one_value m n first second = ap (λ r. r.0) (one_reading first.0 second.0 (m, None) (n, None) first.1.0 second.1.0 first.1.1 second.1.1)

  pub one_breach : (b c : Breach) → IsBreached text b → IsBreached text c → b ≡ c
  one_breach b c first second =
      same_Some b c (ap (λ r. r.1) (one_reading first.0 second.0 (first.1.0, Some b) (second.1.0, Some c) first.1.1.0 second.1.1.0 first.1.1.1 second.1.1.1))

  pub read_or_breached : (m : List Module) (b : Breach) → Reads text m → IsBreached text b → ⊥
  read_or_breached m b first second =
      let e : None ≡ Some b = ap (λ r. r.1) (one_reading first.0 second.0 (m, None) (second.1.0, Some b) first.1.0 second.1.1.0 first.1.1 second.1.1.1) in cc

  -- what is read isn't malformed
  pub read_not_malformed : (ts : List Token) (r : List Module × Option Breach) → AreTokens 0 text ts → netlist text ts ≡ Some r → IsMalformed text → ⊥
  read_not_malformed ts r are read malformed = (let none = malformed ts are in cc)

  -- tokens that can't be read are the only ones
  pub malformed_by : (ts : List Token) → AreTokens 0 text ts → netlist text ts ≡ None → IsMalformed text
  malformed_by ts are none = λ us others. ap (netlist text) (sym (one_list 0 text ts us are others)) ∙ none

  -- a text has at most one first word left out
  pub one_left_out : (a b : Option Word) → LeavesOut text a → LeavesOut text b → a ≡ b
  one_left_out a b first second =
      let P : List Token → Type 0 = λ ts. IsFirstLeftOut text ts b in
      one_first text first.0 a b first.1.1 (subst P (one_list 0 text second.0 first.0 second.1.0 first.1.0) second.1.1)

  -- ---- the answers
  -- a netlist that is judged
  pub judged_answer : (ts : List Token) (found : Found) (r : Result (List Module) VerilogFault) → AreTokens 0 text ts →
      netlist text ts ≡ Some (found.modules, breach_of found) → Judges found r → IsReadAnswer text r
  judged_answer ts found (Ok modules) are read judges = (ts, (are, read ∙ sym (ap (λ ms. Some (ms, breach_of found)) judges.0) ∙ ap (λ b. Some (modules, b)) judges.1))
  judged_answer ts found (Err (Port name at)) are read judges = (ts, (found.modules, (are, read ∙ ap (λ b. Some (found.modules, b)) judges)))
  judged_answer ts found (Err (Number at)) are read judges = (ts, (found.modules, (are, read ∙ ap (λ b. Some (found.modules, b)) judges)))
  judged_answer ts found (Err (Unsupported _ _)) are read judges = absurd judges
  judged_answer ts found (Err (Syntax _)) are read judges = absurd judges
  judged_answer ts found (Err NoMemory) are read judges = tt

  -- tokens that aren't a netlist
  pub refused_answer : (ts : List Token) (fault : VerilogFault) → AreTokens 0 text ts → netlist text ts ≡ None → Refuses text ts fault → IsReadAnswer text (Err fault)
  refused_answer ts (Syntax at) are none refuses = (malformed_by ts are none, λ word leaves. (let e = one_left_out None (Some word) (ts, (are, refuses.0)) leaves in cc))
  refused_answer ts (Unsupported word at) are none refuses = (malformed_by ts are none, (refuses.0, ((ts, (are, refuses.1.0)), refuses.1.1, refuses.1.2)))
  refused_answer ts (Port _ _) are none refuses = absurd refuses
  refused_answer ts (Number _) are none refuses = absurd refuses
  refused_answer ts NoMemory are none refuses = tt

  -- a text without tokens
  pub untokened_answer : (place at : ℕ) → IsRefused 0 text place → IsReadAnswer text (Err (Syntax at))
  untokened_answer place at refused = (λ ts are. absurd (not_both 0 text ts place refused are), λ word leaves. not_both 0 text leaves.0 place refused leaves.1.0)

  same_unsupported : (other word : List ℕ) (place at : ℕ) (a b : Word) → a ≡ b → a.at ≡ place → other ≡ slice_range text a.at (a.at + a.len) → b.at ≡ at → word ≡ slice_range text b.at (b.at + b.len) →
      unsupported_answer other place ≡ unsupported_answer word at
  same_unsupported other word place at a b same first one second two =
      let places : place ≡ at = sym first ∙ ap (λ (w : Word). w.at) same ∙ second in
      let words : other ≡ word = one ∙ ap (λ (w : Word). slice_range text w.at (w.at + w.len)) same ∙ sym two in
      ap (λ (w : List ℕ). unsupported_answer w place) words ∙ ap (λ (n : ℕ). unsupported_answer word n) places

  -- ---- and the other way round
  pub answer_reads : (m : List Module) (r : Result (List Module) VerilogFault) → IsReadAnswer text r → Reads text m → UnlessMemory r (r ≡ Ok m)
  answer_reads m (Ok n) given reads = ap (λ x. Ok x) (one_value n m given reads)
  answer_reads m (Err (Port name at)) given reads = absurd (read_or_breached m (of_port name at) reads given)
  answer_reads m (Err (Number at)) given reads = absurd (read_or_breached m (of_number at) reads given)
  answer_reads m (Err (Unsupported word at)) given reads = absurd (read_not_malformed reads.0 (m, None) reads.1.0 reads.1.1 given.0)
  answer_reads m (Err (Syntax at)) given reads = absurd (read_not_malformed reads.0 (m, None) reads.1.0 reads.1.1 given.0)
  answer_reads m (Err NoMemory) given reads = tt

  pub answer_port : (name : List ℕ) (at : ℕ) (r : Result (List Module) VerilogFault) → IsReadAnswer text r → IsBreached text (of_port name at) → UnlessMemory r (r ≡ Err (Port name at))
  answer_port name at (Ok n) given breached = absurd (read_or_breached n (of_port name at) given breached)
  answer_port name at (Err (Port other place)) given breached = (let e = one_breach (of_port other place) (of_port name at) given breached in cc)
  answer_port name at (Err (Number place)) given breached = (let e = one_breach (of_number place) (of_port name at) given breached in cc)
  answer_port name at (Err (Unsupported word place)) given breached = absurd (read_not_malformed breached.0 (breached.1.0, Some (of_port name at)) breached.1.1.0 breached.1.1.1 given.0)
  answer_port name at (Err (Syntax place)) given breached = absurd (read_not_malformed breached.0 (breached.1.0, Some (of_port name at)) breached.1.1.0 breached.1.1.1 given.0)
  answer_port name at (Err NoMemory) given breached = tt

  pub answer_number : (at : ℕ) (r : Result (List Module) VerilogFault) → IsReadAnswer text r → IsBreached text (of_number at) → UnlessMemory r (r ≡ Err (Number at))
  answer_number at (Ok n) given breached = absurd (read_or_breached n (of_number at) given breached)
  answer_number at (Err (Port other place)) given breached = (let e = one_breach (of_port other place) (of_number at) given breached in cc)
  answer_number at (Err (Number place)) given breached = (let e = one_breach (of_number place) (of_number at) given breached in cc)
  answer_number at (Err (Unsupported word place)) given breached = absurd (read_not_malformed breached.0 (breached.1.0, Some (of_number at)) breached.1.1.0 breached.1.1.1 given.0)
  answer_number at (Err (Syntax place)) given breached = absurd (read_not_malformed breached.0 (breached.1.0, Some (of_number at)) breached.1.1.0 breached.1.1.1 given.0)
  answer_number at (Err NoMemory) given breached = tt

  pub answer_malformed : (r : Result (List Module) VerilogFault) → IsReadAnswer text r → IsMalformed text → ((word : Word) → LeavesOut text (Some word) → ⊥) → UnlessMemory r (IsSyntax r)
  answer_malformed (Ok n) given malformed none = absurd (read_not_malformed given.0 (n, None) given.1.0 given.1.1 malformed)
  answer_malformed (Err (Port name at)) given malformed none = absurd (read_not_malformed given.0 (given.1.0, Some (of_port name at)) given.1.1.0 given.1.1.1 malformed)
  answer_malformed (Err (Number at)) given malformed none = absurd (read_not_malformed given.0 (given.1.0, Some (of_number at)) given.1.1.0 given.1.1.1 malformed)
  answer_malformed (Err (Unsupported word at)) given malformed none = absurd (none given.1.0 given.1.1.0)
  answer_malformed (Err (Syntax at)) given malformed none = tt
  answer_malformed (Err NoMemory) given malformed none = tt

  pub answer_unsupported : (word : List ℕ) (at : ℕ) (r : Result (List Module) VerilogFault) → IsReadAnswer text r → IsUnsupported text word at → UnlessMemory r (r ≡ Err (Unsupported word at))
  answer_unsupported word at (Ok n) given unsupported = absurd (read_not_malformed given.0 (n, None) given.1.0 given.1.1 unsupported.0)
  answer_unsupported word at (Err (Port name place)) given unsupported = absurd (read_not_malformed given.0 (given.1.0, Some (of_port name place)) given.1.1.0 given.1.1.1 unsupported.0)
  answer_unsupported word at (Err (Number place)) given unsupported = absurd (read_not_malformed given.0 (given.1.0, Some (of_number place)) given.1.1.0 given.1.1.1 unsupported.0)
  answer_unsupported word at (Err (Unsupported other place)) given unsupported =
      let e : given.1.0 ≡ unsupported.1.0 = same_Some given.1.0 unsupported.1.0 (one_left_out (Some given.1.0) (Some unsupported.1.0) given.1.1.0 unsupported.1.1.0) in
      same_unsupported other word place at given.1.0 unsupported.1.0 e given.1.1.1 given.1.1.2 unsupported.1.1.1 unsupported.1.1.2
  answer_unsupported word at (Err (Syntax place)) given unsupported = absurd (given.1 unsupported.1.0 unsupported.1.1.0)
  answer_unsupported word at (Err NoMemory) given unsupported = tt
