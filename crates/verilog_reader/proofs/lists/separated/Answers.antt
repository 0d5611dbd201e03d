use Rattle.std.proofs.Common.{◌≡◌, ◌++◌, ◌∷◌, [], sym, ◌∙◌, rules, arith}
use Rattle.std.proofs.lemmas.Result.{err_from_is_err_and}
use Rattle.verilog_reader.specs.Readings.{left_of}
use Rattle.verilog_reader.proofs.ListSteps.{listing_begins, listing_turns, listing_stops, listing_ends, first_stops}
use Rattle.verilog_reader.proofs.lists.separated.Goals as goal

pub returns-in_err-first-clause-read : goal.returns-in_err-first-clause-read
returns-in_err-first-clause-read g c =
    let p = err_from_is_err_and c.from_residual.result c.from_residual.ensures.1 in
    rw (p.1, p.2) (first_stops g.P.Part.production (left_of c.args.left) _ c.in_err-first.ensures.read)

pub loop-alloc-init : goal.loop-alloc-init
loop-alloc-init g c =
    let pushed : c.push.new.self.items ≡ c.in_ok-first.first ∷ [] = search rules in
    record {
      listing = rw pushed (listing_begins g.P.Part.production (left_of c.args.left) (left_of c.in_ok-first.rest) c.in_ok-first.first c.in_ok-first.ensures.read);
      order = c.in_ok-first.ensures.on;
    }

pub returns-in_err-value-clause-read : goal.returns-in_err-value-clause-read
returns-in_err-value-clause-read g c =
    let p = err_from_is_err_and c.from_residual-in_err-value.result c.from_residual-in_err-value.ensures.1 in
    rw (p.1, p.2) (listing_stops g.P.Part.production _ _ _ _ c.loop-alloc.invariant.listing (sym c.begins_sign.ensures ∙ c.loop-alloc-test.true) c.in_err-value.ensures.read)

pub loop-alloc-preserved : goal.loop-alloc-preserved
loop-alloc-preserved g c =
    let pushed : c.push-in-loop-alloc.new.self.items ≡ c.loop-alloc.values.items ++ c.in_ok-value.value ∷ [] = search rules in
    record {
      listing =
          listing_turns g.P.Part.production _ c.loop-alloc.values.items _ (left_of c.loop-alloc.rest) (left_of c.in_ok-value.behind) c.in_ok-value.value c.loop-alloc.invariant.listing
          (sym c.begins_sign.ensures ∙ c.loop-alloc-test.true) c.in_ok-value.ensures.read c.in_ok-value.ensures.on pushed;
      order = omega (arith, c.in_ok-value.ensures.on, c.loop-alloc.invariant.order);
    }

pub returns-clause-read : goal.returns-clause-read
returns-clause-read g c =
    listing_ends g.P.Part.production _ _ _ c.loop-alloc.invariant.listing (sym c.begins_sign.ensures ∙ c.loop-alloc-test.false)
