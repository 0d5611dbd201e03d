use Rattle.sdc_reader.proofs.OpenLemmas.{brackets_weight, brackets_room}
use Rattle.sdc_reader.proofs.brackets.inner_words.Goals as goal

pub returns-in-Ok-clause-room : goal.returns-in-Ok-clause-room
returns-in-Ok-clause-room c =
    let are = rw c.as_slice.ensures at c.in-Ok.ensures.answer in
    rw c.into_vec.ensures (brackets_room c.args.word.now.at c.args.word.now.text _ c.requires are)

pub returns-in-Ok-clause-weight : goal.returns-in-Ok-clause-weight
returns-in-Ok-clause-weight c =
    let are = rw c.as_slice.ensures at c.in-Ok.ensures.answer in
    rw c.into_vec.ensures (brackets_weight _ c.args.word.now.text _ are)
