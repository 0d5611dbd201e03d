-- A flat design and the rows of a delay file have one timing.
use Rattle.std.proofs.Common.{◌≡◌, List, length, sym, ap, ◌∙◌}
use Rattle.bud_syntax.specs.declared.delays.SdfRow.{SdfRow}
use Rattle.bud_design.specs.declared.timings.Timing.{Timing}
use Rattle.bud_design.specs.Designs.{Design}
use Rattle.bud_design.specs.DesignRules.{IsDesign}
use Rattle.timing_laws.proofs.OneTables.{pairs-same, checks-same, edges-same, pin_pairs-same, Timing-same}
use Rattle.delay_bind.specs.Bindings.{IsBound}
use Rattle.delay_bind.specs.Entries.{entries_of}
use Rattle.delay_bind.proofs.EntryLaws.{nets-accepted}
use Rattle.bind_laws.proofs.WireLists.{one-list_of_delays}

pub one-timing : (d : Design) (rows : List SdfRow) (t u : Timing) → IsDesign d → IsBound d rows t → IsBound d rows u → t ≡ u
one-timing d rows t u design first second =
    Timing-same t u
    (one-list_of_delays d design (entries_of d rows).alongs (nets-accepted d rows first.accepted.rows_are) t.wires u.wires first.timing.wires second.timing.wires)
    (pairs-same _ t.pairs u.pairs first.timing.pairs second.timing.pairs)
    (checks-same _ t.checks u.checks first.timing.checks second.timing.checks)
    (edges-same _ t.edges u.edges first.timing.edges second.timing.edges)
    (first.timing.left_out.count_is ∙ (ap length (pin_pairs-same _ _ _ first.timing.left_out.all second.timing.left_out.all) ∙ sym second.timing.left_out.count_is))
