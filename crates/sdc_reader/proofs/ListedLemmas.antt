-- What lists of objects find, word by word.
use Rattle.std.proofs.Common.{◌≡◌, ℕ, ◌+◌, ◌<◌, true, false, List, [], ◌∷◌, ◌++◌, reverse, length, get_or, remove, if◌then◌else◌, Option, Some, None, Ok, refl, sym, ap, ◌∙◌, subst, arith, append_assoc}
use Rattle.std.specs.List.{AllByRecursion}
use Rattle.std.proofs.lemmas.List.{append-nil, reverse-append, reverse-reverse}
use Rattle.tcl_words.specs.declared.words.Word.{Word}
use Rattle.sdc_reader.specs.declared.faults.SdcFault.{SdcFault}
use Rattle.sdc_reader.specs.declared.faults.SdcFault.TheVariants.{Syntax, UnknownCommand, UnknownOption, Value, NoMemory}
use Rattle.sdc_reader.specs.declared.opened.Found.{Found}
use Rattle.sdc_reader.specs.declared.opened.Finds.{Finds}
use Rattle.sdc_reader.specs.declared.opened.NameKind.{NameKind}
use Rattle.sdc_reader.specs.declared.opened.NameKind.TheVariants.{Any}
use Rattle.sdc_reader.specs.declared.opened.ObjectCommand.{ObjectCommand}
use Rattle.sdc_reader.specs.declared.opened.ObjectCommand.TheVariants.{Get, AllInputs, AllOutputs, AllClocks, List as ListOf}
use Rattle.sdc_reader.specs.declared.opened.Inside.{Inside}
use Rattle.sdc_reader.specs.declared.opened.Inside.TheVariants.{Empty, Refused, Command}
use Rattle.sdc_reader.specs.declared.opened.Opened.{Opened}
use Rattle.sdc_reader.specs.Answers.{Answer, Fails}
use Rattle.sdc_reader.specs.Words.{is_option}
use Rattle.sdc_reader.specs.Brackets.{Forest, Opens, object_command, found_in, all_of, refused, behind_refusal, followed, unknown_option, unknown_command, surplus, got, obeyed, commanded, listed, inside_of, named, opened}
use Rattle.sdc_reader.specs.Brackets.Forest.{nothing, plain_word, in_brackets}
use Rattle.sdc_reader.proofs.OpenLemmas.{IsNested, opens_nothing}
use Rattle.sdc_reader.specs.Rooms.{HasRoom, weight, weights, found_then, IsMemory, IsNamed, simple, IsTurn, IsLeft, AreLeft}

pub got_is : (kind : NameKind) (at : ℕ) (w : Word) (f rest : Forest) (found : List Found) (refusal : Option SdcFault) → f ≡ plain_word w rest → is_option w ≡ false → found_in kind w ≡ found → surplus rest ≡ refusal →
    got kind at f ≡ record { found = found; refusal = refusal }
got_is kind at w f rest found refusal is option names left = rw (is, option, names, left) refl

-- only want of memory keeps what there is from being given
pub memory_only : {Y : Type 0} (fault : SdcFault) (y : Y) → Fails fault (Ok y) → IsMemory fault
memory_only (Syntax at) y fails = cc
memory_only (UnknownCommand name at) y fails = cc
memory_only (UnknownOption name at) y fails = cc
memory_only (Value at) y fails = cc
memory_only NoMemory y fails = tt

pub memory_gives : {Y : Type 0} (fault : SdcFault) (y : Y) → IsMemory fault → Fails fault (Ok y)
memory_gives (Syntax at) y memory = absurd memory
memory_gives (UnknownCommand name at) y memory = absurd memory
memory_gives (UnknownOption name at) y memory = absurd memory
memory_gives (Value at) y memory = absurd memory
memory_gives NoMemory y memory = tt

-- what stands in brackets in a list, by what stands in brackets
abbrev pub found_inside : Word → Inside → Finds
found_inside w Empty = refused (Syntax w.at)
found_inside w (Refused fault) = refused fault
found_inside w (Command _ _ _ finds) = finds

by_command : (w first : Word) (words : Forest) (command : Option ObjectCommand) → commanded command first words (listed words) ≡ found_inside w (named command first words)
by_command w first words None = refl
by_command w first words (Some command) = refl

pub listed_brackets : (w : Word) (inside rest : Forest) → listed (in_brackets w inside rest) ≡ followed (found_inside w (inside_of inside)) (listed rest)
unfolding listed
listed_brackets w nothing rest = refl
listed_brackets w (in_brackets first inside _) rest = refl
listed_brackets w (plain_word first words) rest = ap (λ finds. followed finds (listed rest)) (by_command w first words (object_command first.text))

pub listed_plain : (w : Word) (rest : Forest) → is_option w ≡ false → listed (plain_word w rest) ≡ found_then (found_in Any w) (listed rest)
unfolding listed
listed_plain w rest option = rw option refl

pub listed_option : (w : Word) (rest : Forest) → is_option w ≡ true → listed (plain_word w rest) ≡ refused (unknown_option w)
unfolding listed
listed_option w rest option = rw option refl

obeyed_list : (command : ObjectCommand) (at : ℕ) (words : Forest) (others : Finds) → simple command at words ≡ None → obeyed command at words others ≡ others
obeyed_list (Get kind) at words others is = cc
obeyed_list AllInputs at words others is = cc
obeyed_list AllOutputs at words others is = cc
obeyed_list AllClocks at words others is = cc
obeyed_list ListOf at words others is = refl

obeyed_simple : (command : ObjectCommand) (at : ℕ) (words : Forest) (others finds : Finds) → simple command at words ≡ Some finds → obeyed command at words others ≡ finds
obeyed_simple (Get kind) at words others finds is = cc
obeyed_simple AllInputs at words others finds is = cc
obeyed_simple AllOutputs at words others finds is = cc
obeyed_simple AllClocks at words others finds is = cc
obeyed_simple ListOf at words others finds is = cc

pub removed_first : {X : Type 0} (xs ys : List X) (x : X) → 0 < length xs → x ≡ get_or xs 0 x → ys ≡ remove xs 0 → xs ≡ x ∷ ys
removed_first [] ys x some first rest = absurd (omega arith)
removed_first (y ∷ zs) ys x some first rest = rw (first, rest) refl

pub misnamed_inside : (w : Word) (f rest : Forest) (fault : SdcFault) → f ≡ plain_word w rest → object_command w.text ≡ None → ◌≡◌ {A = Answer SdcFault} (Ok (unknown_command w)) (Ok fault) → inside_of f ≡ Refused fault
misnamed_inside w f rest fault is none same = rw (is, none) cc

then_followed : (found more : List Found) (refusal : Option SdcFault) (c : Finds) → found_then found (behind_refusal more refusal c) ≡ behind_refusal (found ++ more) refusal c
then_followed found more None c = ap (λ xs. record { found = xs; refusal = c.refusal }) (sym (append_assoc found more c.found))
then_followed found more (Some fault) c = refl

followed_by : (found : List Found) (refusal : Option SdcFault) (b c : Finds) → behind_refusal found refusal (followed b c) ≡ followed (behind_refusal found refusal b) c
followed_by found (Some fault) b c = refl
followed_by found None b c = then_followed found b.found b.refusal c

followed_twice : (a b c : Finds) → followed a (followed b c) ≡ followed (followed a b) c
followed_twice a b c = followed_by a.found a.refusal b c

-- words that are opened, one list behind the other
pub record AreJoined (xs ys : List Word) (f g : Forest) : Type 0 where
  pub both : Forest
  pub opens : Opens (xs ++ ys) both
  pub finds : listed both ≡ followed (listed f) (listed g)

none_first : (finds : Finds) → finds ≡ followed (all_of []) finds
none_first finds = refl

pub joined : (xs ys : List Word) (f g : Forest) → Opens xs f → Opens ys g → AreJoined xs ys f g
unfolding listed
joined _ ys _ g Opens.none second = record { both = g; opens = second; finds = none_first (listed g) }
joined _ ys _ g (Opens.plain w ws f plain opens) second =
    let rest = joined ws ys f g opens second in
    let one = (if is_option w then refused (unknown_option w) else all_of (found_in Any w)) in
    record {
      both = plain_word w rest.both;
      opens = Opens.plain w (ws ++ ys) rest.both plain rest.opens;
      finds = ap (λ finds. followed one finds) rest.finds ∙ followed_twice one (listed f) (listed g);
    }
joined _ ys _ g (Opens.nested w ws inner inside f is words inner_opens opens) second =
    let rest = joined ws ys f g opens second in
    let one = found_inside w (inside_of inside) in
    record {
      both = in_brackets w inside rest.both;
      opens = Opens.nested w (ws ++ ys) inner inside rest.both is words inner_opens rest.opens;
      finds = listed_brackets w inside rest.both ∙ ap (λ finds. followed one finds) rest.finds ∙ followed_twice one (listed f) (listed g) ∙ ap (λ finds. followed finds (listed g)) (sym (listed_brackets w inside f));
    }

pub weights-append : (xs ys : List Word) → weights (xs ++ ys) ≡ weights xs + weights ys
weights-append [] ys = omega arith
weights-append (x ∷ xs) ys = (let rest = weights-append xs ys in omega arith)

pub room-append : (xs ys : List Word) → AllByRecursion HasRoom xs → AllByRecursion HasRoom ys → AllByRecursion HasRoom (xs ++ ys)
room-append [] ys first second = second
room-append (x ∷ xs) ys first second = (first.0, room-append xs ys first.1 second)

pub room_front : (xs ys : List Word) → AllByRecursion HasRoom (xs ++ ys) → AllByRecursion HasRoom xs
room_front [] ys room = tt
room_front (x ∷ xs) ys room = (room.0, room_front xs ys room.1)

pub room_back : (xs ys : List Word) → AllByRecursion HasRoom (xs ++ ys) → AllByRecursion HasRoom ys
room_back [] ys room = room
room_back (x ∷ xs) ys room = room_back xs ys room.1

-- a word of a list, by what it is and what is left
pub turn_option : (old : List Found) (left : List Word) (w : Word) (f rest : Forest) (fault : SdcFault) → f ≡ plain_word w rest → is_option w ≡ true → ◌≡◌ {A = Answer SdcFault} (Ok (unknown_option w)) (Ok fault) → IsTurn old old left (listed f) (Ok (Some fault))
turn_option old left w f rest fault is option same = rw (is, listed_option w rest option, append-nil old) cc

pub turn_plain : (old new : List Found) (left : List Word) (w : Word) (f rest : Forest) → f ≡ plain_word w rest → is_option w ≡ false → Opens left rest → ◌≡◌ {A = Answer (List Found)} (Ok (old ++ found_in Any w)) (Ok new) → IsTurn old new left (listed f) (Ok None)
turn_plain old new left w f rest is option opens same =
    let new_is : new ≡ old ++ found_in Any w = cc in
    (rest, (opens, rw (is, listed_plain w rest option, new_is) (ap (λ xs. record { found = xs; refusal = (listed rest).refusal }) (append_assoc old (found_in Any w) (listed rest).found))))

-- brackets in a list, in which something is refused
pub turn_refused : (old new : List Found) (left : List Word) (w : Word) (f inside rest : Forest) (more : List Found) (fault : SdcFault) → f ≡ in_brackets w inside rest → found_inside w (inside_of inside) ≡ record { found = more; refusal = Some fault } → new ≡ old ++ more →
    IsTurn old new left (listed f) (Ok (Some fault))
turn_refused old new left w f inside rest more fault is finds new_is = rw (is, listed_brackets w inside rest, finds, new_is) refl

-- and in which nothing is
pub turn_found : (old new : List Found) (left : List Word) (w : Word) (f inside rest : Forest) (more : List Found) → f ≡ in_brackets w inside rest → Opens left rest → found_inside w (inside_of inside) ≡ record { found = more; refusal = None } → new ≡ old ++ more →
    IsTurn old new left (listed f) (Ok None)
turn_found old new left w f inside rest more is opens finds new_is =
    (rest, (opens, rw (is, listed_brackets w inside rest, finds, new_is) (ap (λ xs. record { found = xs; refusal = (listed rest).refusal }) (append_assoc old more (listed rest).found))))

command_finds : (w : Word) (inside : Forest) (command : ObjectCommand) (at : ℕ) (words : List Word) → (is : IsNamed inside command at words) → found_inside w (inside_of inside) ≡ obeyed command at is.rest (listed is.rest)
command_finds w inside command at words is = rw (is.is, is.command_is, is.at_is) refl

by_refusal : (old new : List Found) (left : List Word) (w : Word) (f inside rest : Forest) (more : List Found) (refusal : Option SdcFault) → f ≡ in_brackets w inside rest → Opens left rest → found_inside w (inside_of inside) ≡ record { found = more; refusal = refusal } → new ≡ old ++ more →
    IsTurn old new left (listed f) (Ok refusal)
by_refusal old new left w f inside rest more None is opens finds new_is = turn_found old new left w f inside rest more is opens finds new_is
by_refusal old new left w f inside rest more (Some fault) is opens finds new_is = turn_refused old new left w f inside rest more fault is finds new_is

-- an object command but `list`
pub turn_simple : (old new : List Found) (left : List Word) (w : Word) (f inside rest : Forest) (command : ObjectCommand) (at : ℕ) (words : List Word) (finds : Finds) → f ≡ in_brackets w inside rest → (is : IsNamed inside command at words) → Opens left rest →
    ◌≡◌ {A = Answer (Option Finds)} (Ok (simple command at is.rest)) (Ok (Some finds)) → new ≡ old ++ finds.found → IsTurn old new left (listed f) (Ok finds.refusal)
turn_simple old new left w f inside rest command at words finds f_is is opens same new_is =
    let given : simple command at is.rest ≡ Some finds = cc in
    let found : found_inside w (inside_of inside) ≡ finds = command_finds w inside command at words is ∙ obeyed_simple command at is.rest (listed is.rest) finds given in
    by_refusal old new left w f inside rest finds.found finds.refusal f_is opens found new_is

-- `list`, whose words come next
pub turn_list : (old : List Found) (left next : List Word) (w : Word) (f inside rest : Forest) (command : ObjectCommand) (at : ℕ) (words : List Word) → f ≡ in_brackets w inside rest → (is : IsNamed inside command at words) → Opens left rest →
    ◌≡◌ {A = Answer (Option Finds)} (Ok (simple command at is.rest)) (Ok None) → next ≡ words ++ left → IsTurn old old next (listed f) (Ok None)
turn_list old left next w f inside rest command at words f_is is opens same next_is =
    let given : simple command at is.rest ≡ None = cc in
    let found : found_inside w (inside_of inside) ≡ listed is.rest = command_finds w inside command at words is ∙ obeyed_list command at is.rest (listed is.rest) given in
    let both = joined words left is.rest rest is.opens opens in
    let whole : listed f ≡ listed both.both = rw f_is (listed_brackets w inside rest ∙ ap (λ finds. followed finds (listed rest)) found ∙ sym both.finds) in
    (both.both, (rw next_is both.opens, ap (found_then old) (sym whole)))

-- the words that were read in brackets are those that are opened
pub inner_is : (w : Word) (ws : List Word) (f : Forest) (nested : IsNested w ws f) (items : List Word) → ◌≡◌ {A = Answer (List Word)} (Ok nested.inner) (Ok items) → Opens items nested.inside
inner_is w ws f nested items same = (let is : nested.inner ≡ items = cc in subst (λ (xs : List Word). Opens xs nested.inside) is nested.inner_opens)

pub empty_inside : (w : Word) (f : Forest) → f ≡ nothing → found_inside w (inside_of f) ≡ record { found = []; refusal = Some (Syntax w.at) }
empty_inside w f is = rw is refl

pub refused_inside : (w : Word) (f : Forest) (fault : SdcFault) → inside_of f ≡ Refused fault → found_inside w (inside_of f) ≡ record { found = []; refusal = Some fault }
refused_inside w f fault is = rw is refl

pub weights-reverse : (xs : List Word) → weights (reverse xs) ≡ weights xs
weights-reverse [] = refl
weights-reverse (x ∷ xs) = ap weights (reverse-append (x ∷ []) xs) ∙ (let rest = weights-reverse xs in let whole = weights-append (reverse xs) (x ∷ []) in omega arith)

pub room-reverse : (xs : List Word) → AllByRecursion HasRoom xs → AllByRecursion HasRoom (reverse xs)
room-reverse [] room = tt
room-reverse (x ∷ xs) room =
    subst (λ (ys : List Word). AllByRecursion HasRoom ys) (sym (reverse-append (x ∷ []) xs)) (room-append (reverse xs) (x ∷ []) (room-reverse xs room.1) (room.0, tt))

-- words put before those that are pending
pub put_reversed : (old words new : List Word) → ◌≡◌ {A = Answer (List Word)} (Ok (old ++ reverse words)) (Ok new) → reverse new ≡ words ++ reverse old
put_reversed old words new same =
    let is : new ≡ old ++ reverse words = cc in
    rw is (reverse-append old (reverse words) ∙ ap (λ xs. xs ++ reverse old) (reverse-reverse words))

pub put_weighs : (old words new : List Word) → ◌≡◌ {A = Answer (List Word)} (Ok (old ++ reverse words)) (Ok new) → weights new ≡ weights old + weights words
put_weighs old words new same =
    let is : new ≡ old ++ reverse words = cc in
    rw is (weights-append old (reverse words) ∙ ap (λ n. weights old + n) (weights-reverse words))

pub put_room : (old words new : List Word) → ◌≡◌ {A = Answer (List Word)} (Ok (old ++ reverse words)) (Ok new) → AllByRecursion HasRoom words → AllByRecursion HasRoom old → AllByRecursion HasRoom new
put_room old words new same room before =
    let is : new ≡ old ++ reverse words = cc in
    rw is (room-append old (reverse words) before (room-reverse words room))

-- all words are pending in the beginning
pub all_left : (words pending : List Word) (found : List Found) (f : Forest) → pending ≡ reverse words → found ≡ [] → Opens words f → IsLeft found (reverse pending) (listed f)
all_left words pending found f is none opens = rw (is, reverse-reverse words, none) (f, (opens, refl))

pub all_room : (words pending : List Word) → pending ≡ reverse words → AllByRecursion HasRoom words → AllByRecursion HasRoom pending
all_room words pending is room = rw is (room-reverse words room)

pub last_room : (pending rest : List Word) (w : Word) → pending ≡ rest ++ w ∷ [] → AllByRecursion HasRoom pending → HasRoom w × AllByRecursion HasRoom rest
last_room pending rest w is room =
    let given : AllByRecursion HasRoom (rest ++ w ∷ []) = subst (λ (xs : List Word). AllByRecursion HasRoom xs) is room in
    ((room_back rest (w ∷ []) given).0, room_front rest (w ∷ []) given)

pub last_weighs : (pending rest : List Word) (w : Word) → pending ≡ rest ++ w ∷ [] → weights pending ≡ weights rest + weight w
last_weighs pending rest w is = rw is (let whole = weights-append rest (w ∷ []) in omega arith)

pub last_first : (pending rest : List Word) (w : Word) → pending ≡ rest ++ w ∷ [] → reverse pending ≡ w ∷ reverse rest
last_first pending rest w is = rw is (reverse-append rest (w ∷ []))

-- no words are left
pub none_left : (found : List Found) (pending : List Word) (whole : Finds) → pending ≡ [] → IsLeft found (reverse pending) whole → whole ≡ record { found = found; refusal = None }
unfolding listed
none_left found pending whole is given =
    let opens : Opens [] given.0 = rw is at given.1.0 in
    let end = opens_nothing [] given.0 refl opens in
    let same : found_then found (listed nothing) ≡ whole = rw end at given.1.1 in
    sym same ∙ ap (λ xs. record { found = xs; refusal = None }) (append-nil found)

pub all_unopened : (words pending : List Word) (done : List Opened) (f : Forest) → pending ≡ reverse words → done ≡ [] → Opens words f → AreLeft done (reverse pending) (opened f)
all_unopened words pending done f is none opens = rw (is, reverse-reverse words, none) (f, (opens, refl))

pub open_turn : (done new : List Opened) (pending rest : List Word) (w : Word) (o : Opened) (whole : List Opened) → pending ≡ rest ++ w ∷ [] → new ≡ done ++ o ∷ [] →
    ((words : List Word) (f : Forest) → Opens (w ∷ words) f → (g : Forest) × (Opens words g × (opened f ≡ o ∷ opened g))) → AreLeft done (reverse pending) whole → AreLeft new (reverse rest) whole
open_turn done new pending rest w o whole is new_is one given =
    let opens : Opens (w ∷ reverse rest) given.0 = rw (last_first pending rest w is) at given.1.0 in
    let turned = one (reverse rest) given.0 opens in
    (turned.0, (turned.1.0, rw new_is (append_assoc done (o ∷ []) (opened turned.0) ∙ ap (λ xs. done ++ xs) (sym turned.1.1) ∙ given.1.1)))

pub all_opened : (done : List Opened) (pending : List Word) (whole : List Opened) → pending ≡ [] → AreLeft done (reverse pending) whole → whole ≡ done
all_opened done pending whole is given =
    let opens : Opens [] given.0 = rw is at given.1.0 in
    let end = opens_nothing [] given.0 refl opens in
    let same : done ++ opened nothing ≡ whole = rw end at given.1.1 in
    sym same ∙ append-nil done
