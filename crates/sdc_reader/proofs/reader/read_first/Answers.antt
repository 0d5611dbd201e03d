use Rattle.std.proofs.Common.{◌≡◌, ◌∷◌, [], length, rules}
use Rattle.std.proofs.lemmas.List.{nil_from_length}
use Rattle.sdc_reader.specs.Files.{HasNone, IsCommandSyntax}
use Rattle.sdc_reader.proofs.ListedLemmas.{removed_first}
use Rattle.sdc_reader.proofs.FileLemmas.{command_is, first_room}
use Rattle.sdc_reader.proofs.reader.read_first.Goals as goal

pub returns-then-is_empty : goal.returns-then-is_empty
returns-then-is_empty c =
    let empty : length c.into_vec-all.result.items ≡ 0 = search rules in
    let none : c.in-Ok.list ≡ [] = (rw c.into_vec-all.ensures at (nil_from_length c.into_vec-all.result.items empty)) in
    record { answer = IsCommandSyntax.none (HasNone.empty (rw none at c.in-Ok.ensures.answer)) }

pub read_only-requires : goal.read_only-requires
read_only-requires c =
    let split : c.into_vec-all.result.items ≡ c.remove-first.result ∷ c.remove-first.new.self.items = removed_first _ _ c.remove-first.result (search rules) c.remove-first.ensures.value c.remove-first.ensures.items in
    first_room c.args.text.now c.in-Ok.list _ _ c.requires (rw c.into_vec-all.ensures at split) c.in-Ok.ensures.parts

pub returns-else-is_empty : goal.returns-else-is_empty
returns-else-is_empty c =
    let split : c.into_vec-all.result.items ≡ c.remove-first.result ∷ c.remove-first.new.self.items = removed_first _ _ c.remove-first.result (search rules) c.remove-first.ensures.value c.remove-first.ensures.items in
    record { answer = command_is c.args.text.now c.in-Ok.list _ _ c.read_only.result (rw c.into_vec-all.ensures at split) c.in-Ok.ensures.answer (rw c.as_slice.ensures.value at c.read_only.ensures) }
