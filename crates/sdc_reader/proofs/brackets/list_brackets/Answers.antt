use Rattle.std.proofs.Common.{◌≡◌, ◌++◌, ◌<◌, [], reverse, refl, sym, rules, arith}
use Rattle.std.proofs.lemmas.List.{append-nil}
use Rattle.sdc_reader.specs.declared.faults.SdcFault.TheVariants.{Syntax}
use Rattle.sdc_reader.specs.Rooms.{weights}
use Rattle.sdc_reader.proofs.OpenLemmas.{nested_first, weight_more}
use Rattle.sdc_reader.proofs.ListedLemmas.{inner_is, empty_inside, refused_inside, turn_refused, turn_simple, turn_list, put_reversed, put_weighs, put_room}
use Rattle.sdc_reader.proofs.brackets.list_brackets.Goals as goal

pub returns-in-Nothing-clause-turn : goal.returns-in-Nothing-clause-turn
returns-in-Nothing-clause-turn c = λ f opens.
    let w = c.args.word.now in
    let left = reverse c.args.pending.now.items in
    let nested = nested_first _ w left f refl c.requires.bracket opens in
    let inner = inner_is w left f nested c.in_ok-inner.inner.items (c.in_ok-inner.ensures.words nested.inner nested.words) in
    let head = rw c.in-Nothing.is at (c.in_ok-beginning.ensures.head nested.inside inner) in
    turn_refused c.args.found.now.items c.args.found.now.items left w f nested.inside nested.rest [] (Syntax w.at) nested.is (empty_inside w nested.inside head) (sym (append-nil c.args.found.now.items))

pub returns-in-Misnamed-clause-turn : goal.returns-in-Misnamed-clause-turn
returns-in-Misnamed-clause-turn c = λ f opens.
    let w = c.args.word.now in
    let left = reverse c.args.pending.now.items in
    let nested = nested_first _ w left f refl c.requires.bracket opens in
    let inner = inner_is w left f nested c.in_ok-inner.inner.items (c.in_ok-inner.ensures.words nested.inner nested.words) in
    let head = rw c.in-Misnamed.is at (c.in_ok-beginning.ensures.head nested.inside inner) in
    turn_refused c.args.found.now.items c.args.found.now.items left w f nested.inside nested.rest [] c.in-Misnamed.fault nested.is (refused_inside w nested.inside c.in-Misnamed.fault head) (sym (append-nil c.args.found.now.items))

pub returns-in_ok-add_found-in-Some-clause-turn : goal.returns-in_ok-add_found-in-Some-clause-turn
returns-in_ok-add_found-in-Some-clause-turn c = λ f opens.
    let w = c.args.word.now in
    let left = reverse c.args.pending.now.items in
    let nested = nested_first _ w left f refl c.requires.bracket opens in
    let inner = inner_is w left f nested c.in_ok-inner.inner.items (c.in_ok-inner.ensures.words nested.inner nested.words) in
    let head = rw c.in-Named.is at (c.in_ok-beginning.ensures.head nested.inside inner) in
    let finds = rw c.in-Some.is at (c.in_ok-more-in-Named.ensures head.rest (rw c.as_slice.ensures head.opens)) in
    let new_is : c.add_found.new.found.items ≡ c.args.found.now.items ++ c.in-Some.field-0.found = search rules in
    turn_simple c.args.found.now.items c.add_found.new.found.items left w f nested.inside nested.rest c.in-Named.command c.in-Named.at c.in-Named.words c.in-Some.field-0 nested.is head nested.opens finds new_is

pub returns-in_ok-put_before-in-None-clause-turn : goal.returns-in_ok-put_before-in-None-clause-turn
returns-in_ok-put_before-in-None-clause-turn c = λ f opens.
    let w = c.args.word.now in
    let left = reverse c.args.pending.now.items in
    let nested = nested_first _ w left f refl c.requires.bracket opens in
    let inner = inner_is w left f nested c.in_ok-inner.inner.items (c.in_ok-inner.ensures.words nested.inner nested.words) in
    let head = rw c.in-Named.is at (c.in_ok-beginning.ensures.head nested.inside inner) in
    let finds = rw c.in-None.is at (c.in_ok-more-in-Named.ensures head.rest (rw c.as_slice.ensures head.opens)) in
    let put = rw c.into_vec.ensures at c.in_ok-put_before-in-None.ensures in
    turn_list c.args.found.now.items left (reverse c.put_before.new.pending.items) w f nested.inside nested.rest c.in-Named.command c.in-Named.at c.in-Named.words nested.is head nested.opens finds
    (put_reversed c.args.pending.now.items c.in-Named.words c.put_before.new.pending.items put)

pub returns-in_ok-put_before-in-None-clause-left : goal.returns-in_ok-put_before-in-None-clause-left
returns-in_ok-put_before-in-None-clause-left c =
    let put = rw c.into_vec.ensures at c.in_ok-put_before-in-None.ensures in
    let rest = rw c.in-Named.is at c.in_ok-beginning.ensures.rest in
    let heavy = weight_more c.args.word.now c.requires.bracket in
    let light = c.in_ok-inner.ensures.weight in
    let less : weights c.in-Named.words < weights c.in_ok-inner.inner.items = rest.1 in
    let whole = put_weighs c.args.pending.now.items c.in-Named.words c.put_before.new.pending.items put in
    (put_room c.args.pending.now.items c.in-Named.words c.put_before.new.pending.items put rest.0.each, omega arith)
