use Rattle.std.proofs.Common.{◌≡◌, [], take, drop}
use Rattle.module_nets.specs.Entering.{link_faults}
use Rattle.module_nets.specs.Judging.{entry_at, linked_behind, Flags}
use Rattle.module_nets.proofs.judging.refuse_links.Given as goal

-- the links so far are clean, and their ports are flagged
abbrev pub invariant-loop-k : goal.invariant-loop-k
invariant-loop-k l = record {
  flagged : Flags l.header.«module».now (linked_behind [] (take l.k l.instance.links)) l.flags.items;
  clean : link_faults (entry_at l.nets.«module».now l.path) l.header.«module».now.ports l.instance.name [] 0 l.instance.links
      ≡ link_faults (entry_at l.nets.«module».now l.path) l.header.«module».now.ports l.instance.name (linked_behind [] (take l.k l.instance.links)) l.k (drop l.k l.instance.links);
}
