use Rattle.std.proofs.Common.{◌≡◌, ◌∷◌, ◌++◌, [], Ok, ap, rules}
use Rattle.sdc_reader.proofs.ListedLemmas.{all_unopened, all_room, last_room, open_turn, all_opened}
use Rattle.sdc_reader.proofs.brackets.open_all.Goals as goal

pub loop-word-init : goal.loop-word-init
loop-word-init c =
    let is = rw c.into_vec-pending.ensures at c.reverse.ensures.items in
    record {
      goes_on = λ f opens. all_unopened c.args.words _ _ f is c.new-done.ensures.items opens;
      room = all_room c.args.words _ is c.requires.each;
    }

pub open-requires : goal.open-requires
open-requires c = (last_room c.loop-word.pending.items c.pop.new.self.items c.in-Some.word c.in-Some.ensures.items c.loop-word.invariant.room).0

pub loop-word-preserved : goal.loop-word-preserved
loop-word-preserved c =
    let pushed : c.push.new.self.items ≡ c.loop-word.done.items ++ c.in_ok-opened.opened ∷ [] = search rules in
    record {
      goes_on = λ f opens. open_turn c.loop-word.done.items _ c.loop-word.pending.items c.pop.new.self.items c.in-Some.word c.in_ok-opened.opened _ c.in-Some.ensures.items pushed c.in_ok-opened.ensures (c.loop-word.invariant.goes_on f opens);
      room = (last_room c.loop-word.pending.items c.pop.new.self.items c.in-Some.word c.in-Some.ensures.items c.loop-word.invariant.room).1;
    }

pub returns : goal.returns
returns c = λ f opens.
    let none : c.loop-word.pending.items ≡ [] = search rules in
    ap (λ done. Ok done) (all_opened c.loop-word.done.items c.loop-word.pending.items _ none (c.loop-word.invariant.goes_on f opens))
