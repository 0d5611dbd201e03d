use Rattle.std.proofs.Common.{◌≡◌, ◌<◌, ℕ, None, length, drop, slice_index_or}
use Rattle.std.specs.List.{position_from}
use Rattle.std.specs.Option.{option_or}
use Rattle.net_drivers.specs.Links.{names_port}
use Rattle.net_drivers.proofs.links.name_links.Given as goal

abbrev pub invariant-loop-number : goal.invariant-loop-number
invariant-loop-number l = record {
  size : length l.named.items ≡ length l.header.module.now.ports;
  each : (place : ℕ) → place < length l.header.module.now.ports
      → option_or (slice_index_or l.named.items place None) (position_from (names_port l.header.module.now place) l.number (drop l.number l.links)) ≡ position_from (names_port l.header.module.now place) 0 l.links;
}
