use Rattle.std.proofs.Common.{◌≡◌, ◌∙◌, ap, sym}
use Rattle.std.specs.Map.{lookup}
use Rattle.std.specs.Str.{bytes_eq}
use Rattle.module_nets.specs.declared.keys.Key.{Key}
use Rattle.module_nets.proofs.Bytes.{bytes_same}
use Rattle.module_nets.proofs.tables.known_near.Goals as goal

-- the entry that is tried has this name
pub returns-then-are_same : goal.returns-then-are_same
returns-then-are_same g c =
    let key : Key = c.in-Some.key.now in
    let same : c.args.name.now ≡ key.name.now = bytes_same c.args.name.now key.name.now (sym c.are_same.ensures ∙ c.if-are_same.true) in
    sym (ap (λ n. lookup (λ (k : Key). bytes_eq n k.name.now) c.args.table.now.entries) same ∙ c.in-Some.ensures.value)
