-- Policies and certificates have one value each, or are refused; and what is known of the lines of a policy that is read.
use Rattle.std.proofs.Common.{◌≡◌, ℕ, List, All, slice_index_or, None, Ok, Err, Result, IfOk, sym, ◌∙◌, refl}
use Rattle.bud_base.specs.declared.texts.TextFault.{TextFault}
use Rattle.bud_base.specs.declared.texts.TextFault.TheVariants.{Syntax, Value as OutOfRange, NoMemory as TextMemory}
use Rattle.bud_design.specs.declared.policies.Policy.{Policy}
use Rattle.bud_design.specs.declared.policies.PolicyLine.{PolicyLine}
use Rattle.bud_design.specs.declared.policies.PolicyLine.TheVariants as line
use Rattle.budget_report.specs.declared.statuses.Status.TheVariants.{Refused, Words}
use Rattle.budget_report.specs.Readings.{text_status}
use Rattle.budget_steps.specs.Steps.{IsCause}
use Rattle.budget_steps.proofs.FileLaws.{IsGrammar}
use Rattle.budget_plans.specs.Files.{policies, certificates}
use Rattle.cert_text.specs.Texts.{IsReadAnswer as IsCertAnswer}
use Rattle.cert_text.specs.declared.certs.Cert.{Cert}
use Rattle.cert_text.proofs.CertificateLaws.{answer_reads as cert_reads, one_reading as one_cert}
use Rattle.line_text.specs.Parts.{rows_of}
use Rattle.policy_lines.specs.Shares.{IsSoundLine}
use Rattle.policy_reader.specs.Policies.{HasRanges, IsReadAnswer as IsPolicyAnswer}
use Rattle.policy_reader.proofs.PolicyLaws.{answer_reads as policy_reads, one_reading as one_policy}

-- ---- texts
refused_text : (fault : TextFault) → IsCause (text_status fault) → text_status fault ≡ Refused
refused_text (Syntax at) is = refl
refused_text (OutOfRange at) is = refl
refused_text TextMemory is = absurd is

fitting_text : (fault : TextFault) → text_status fault ≡ Words → ⊥
fitting_text (Syntax at) e = cc
fitting_text (OutOfRange at) e = cc
fitting_text TextMemory e = cc

policy_apart : (bytes : List ℕ) (p : Policy) (fault : TextFault) → IsCause (text_status fault) → IsPolicyAnswer bytes (Ok p) → IsPolicyAnswer bytes (Err fault) → ⊥
policy_apart bytes p (Syntax at) is reads refused = refused p None reads
policy_apart bytes p (OutOfRange at) is reads refused = let e = policy_reads bytes p (Err (OutOfRange at)) refused reads in cc
policy_apart bytes p TextMemory is reads refused = absurd is

pub policies_are : IsGrammar policies
policies_are = record {
  sure = λ name bytes. record {
    one = λ a b first second. (one_policy (rows_of bytes) a b None None first second).0;
    apart = policy_apart bytes;
    status = λ f g is is' x y. refused_text f is ∙ sym (refused_text g is');
  };
  fits = λ name fault e. fitting_text fault e;
}

cert_apart : (bytes : List ℕ) (c : Cert) (fault : TextFault) → IsCause (text_status fault) → IsCertAnswer bytes (Ok c) → IsCertAnswer bytes (Err fault) → ⊥
cert_apart bytes c (Syntax at) is reads refused = refused c None reads
cert_apart bytes c (OutOfRange at) is reads refused = let e = cert_reads bytes c (Err (OutOfRange at)) refused reads in cc
cert_apart bytes c TextMemory is reads refused = absurd is

pub certificates_are : IsGrammar certificates
certificates_are = record {
  sure = λ name bytes. record {
    one = λ a b first second. (one_cert (rows_of bytes) a b None None first second).0;
    apart = cert_apart bytes;
    status = λ f g is is' x y. refused_text f is ∙ sym (refused_text g is');
  };
  fits = λ name fault e. fitting_text fault e;
}

-- ---- the lines of a policy
line_sound : (x : PolicyLine) → HasRanges x → IsSoundLine x
line_sound (line.Block path) ranges = tt
line_sound (line.Default extra weight clock) ranges = record { low = ranges.low; high = ranges.high; most = ranges.most }
line_sound (line.Inst path extra weight clock) ranges = record { low = ranges.low; high = ranges.high; most = ranges.most }
line_sound (line.Arc from to extra weight clock) ranges = record { low = ranges.low; high = ranges.high; most = ranges.most }

pub lines_sound : (r : Result Policy TextFault) → IfOk r (λ p. All HasRanges p.lines) → IfOk r (λ p. All IsSoundLine p.lines)
lines_sound (Ok p) ranges = λ k default below. line_sound (slice_index_or p.lines k default) (ranges k default below)
lines_sound (Err fault) ranges = ranges
