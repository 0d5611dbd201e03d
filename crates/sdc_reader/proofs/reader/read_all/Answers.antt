use Rattle.std.proofs.Common.{◌≡◌, [], refl, rules}
use Rattle.std.proofs.lemmas.Result.{err_from_is_err_and}
use Rattle.sdc_reader.specs.Rooms.{HaveRoom}
use Rattle.sdc_reader.proofs.FileLemmas.{file_begun, file_turn, file_fails, file_end, each_reversed, each_last}
use Rattle.sdc_reader.proofs.reader.read_all.Goals as goal

pub loop-words-init : goal.loop-words-init
loop-words-init c = record {
  goes_on = λ fs open_all. file_begun _ c.args.commands.items _ fs c.reverse.ensures.items refl refl c.new.ensures open_all;
  room = each_reversed HaveRoom c.args.commands.items _ c.reverse.ensures.items c.requires;
}

pub line-requires : goal.line-requires
line-requires c = (each_last HaveRoom c.loop-words.left.items c.pop.new.self.items c.in-Some.words c.in-Some.ensures.items c.loop-words.invariant.room).0

pub returns-in_err-line : goal.returns-in_err-line
returns-in_err-line c = λ fs open_all.
    let p = err_from_is_err_and c.from_residual.result c.from_residual.ensures.1 in
    rw (p.1, p.2) (file_fails c.loop-words.progress c.loop-words.left.items c.in-Some.words c.pop.new.self.items c.in_err-line.field-0.0 _ c.in-Some.ensures.items c.in_err-line.ensures (c.loop-words.invariant.goes_on fs open_all))

pub loop-words-preserved : goal.loop-words-preserved
loop-words-preserved c = record {
  goes_on = λ fs open_all. file_turn c.loop-words.progress c.in_ok-progress.progress c.loop-words.left.items c.in-Some.words c.pop.new.self.items c.in_ok-line.line _ c.in-Some.ensures.items c.in_ok-line.ensures c.in_ok-progress.ensures (c.loop-words.invariant.goes_on fs open_all);
  room = (each_last HaveRoom c.loop-words.left.items c.pop.new.self.items c.in-Some.words c.in-Some.ensures.items c.loop-words.invariant.room).1;
}

pub returns : goal.returns
returns c = λ fs open_all.
    let none : c.loop-words.left.items ≡ [] = search rules in
    file_end c.loop-words.progress c.loop-words.left.items _ none (c.loop-words.invariant.goes_on fs open_all)
