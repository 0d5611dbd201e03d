use Rattle.std.proofs.Common.{◌≡◌, Ok, arith, subst}
use Rattle.timing_scopes.specs.Resolving.{resolved}
use Rattle.requirements.proofs.ResolveLaws.{whole_of, constraints-are, constraints-sound}
use Rattle.requirements.proofs.ScopeLaws.{resolved-sound}
use Rattle.requirements.proofs.resolving.resolve.Goals as goal

pub gathered-requires : goal.gathered-requires
gathered-requires c =
    let whole = whole_of c.args.flat.now c.args.timing.now in
    let says : resolved whole c.args.commands.now ≡ Ok c.in_ok-scope.scope = subst (λ s. resolved s c.args.commands.now ≡ Ok c.in_ok-scope.scope) c.in-Ok.ensures c.in_ok-scope.ensures.answer in
    let clocks = c.in_ok-scope.ensures.clocks in
    let result = resolved-sound whole c.args.commands.now c.in_ok-scope.scope c.requires.read c.requires.numbers says in
    record { timing = c.requires.timing; few = omega (arith, clocks, c.requires.few); clocks = result.sound.clocks }

pub returns-in-Ok-gathered-clause-answer : goal.returns-in-Ok-gathered-clause-answer
returns-in-Ok-gathered-clause-answer c =
    let whole = whole_of c.args.flat.now c.args.timing.now in
    let says : resolved whole c.args.commands.now ≡ Ok c.in_ok-scope.scope = subst (λ s. resolved s c.args.commands.now ≡ Ok c.in_ok-scope.scope) c.in-Ok.ensures c.in_ok-scope.ensures.answer in
    let result = resolved-sound whole c.args.commands.now c.in_ok-scope.scope c.requires.read c.requires.numbers says in
    constraints-are c.args.flat.now c.keep.ensures.is_design c.args.timing.now c.requires.timing c.args.commands.now c.in_ok-scope.scope c.in-Ok-gathered.all says result c.in-Ok-gathered.ensures

pub returns-in-Ok-gathered-clause-sound : goal.returns-in-Ok-gathered-clause-sound
returns-in-Ok-gathered-clause-sound c =
    let whole = whole_of c.args.flat.now c.args.timing.now in
    let says : resolved whole c.args.commands.now ≡ Ok c.in_ok-scope.scope = subst (λ s. resolved s c.args.commands.now ≡ Ok c.in_ok-scope.scope) c.in-Ok.ensures c.in_ok-scope.ensures.answer in
    let result = resolved-sound whole c.args.commands.now c.in_ok-scope.scope c.requires.read c.requires.numbers says in
    constraints-sound c.args.flat.now c.keep.ensures.is_design c.args.timing.now c.requires.timing c.requires.leaves c.in_ok-scope.scope c.in-Ok-gathered.all result c.in-Ok-gathered.ensures
