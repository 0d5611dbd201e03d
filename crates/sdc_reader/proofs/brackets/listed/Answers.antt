use Rattle.std.proofs.Common.{◌≡◌, [], Ok, ap, rules, arith}
use Rattle.sdc_reader.proofs.ListedLemmas.{all_left, all_room, last_room, last_weighs, none_left}
use Rattle.sdc_reader.proofs.brackets.listed.Goals as goal

pub loop-word-init : goal.loop-word-init
loop-word-init c = record {
  goes_on = λ f opens. all_left c.args.words.items _ _ f c.reverse.ensures.items c.new-found.ensures.items opens;
  room = all_room c.args.words.items _ c.reverse.ensures.items c.requires.each;
}

pub list_word-requires : goal.list_word-requires
list_word-requires c = (last_room c.loop-word.pending.items c.pop.new.self.items c.in-Some.word c.in-Some.ensures.items c.loop-word.invariant.room).0

pub loop-word-smaller : goal.loop-word-smaller
loop-word-smaller c =
    let whole = last_weighs c.loop-word.pending.items c.pop.new.self.items c.in-Some.word c.in-Some.ensures.items in
    let less = c.in_ok-refusal.ensures.left.1 in
    omega arith

pub loop-word-smaller-else-is_some : goal.loop-word-smaller-else-is_some
loop-word-smaller-else-is_some c =
    let whole = last_weighs c.loop-word.pending.items c.pop.new.self.items c.in-Some.word c.in-Some.ensures.items in
    let less = c.in_ok-refusal.ensures.left.1 in
    omega arith

pub returns : goal.returns
returns c = λ f opens.
    let none : c.loop-word.pending.items ≡ [] = search rules in
    rw c.from_vec-2.ensures (ap (λ finds. Ok finds) (none_left c.loop-word.found.items c.loop-word.pending.items _ none (c.loop-word.invariant.goes_on f opens)))
