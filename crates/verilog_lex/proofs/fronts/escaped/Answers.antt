use Rattle.std.proofs.Common.{◌≤◌, length, rules, arith}
use Rattle.std.specs.Char.{is_ascii_graphic}
use Rattle.std.proofs.lemmas.List.Sums.{prefix_len-le-length}
use Rattle.verilog_lex.proofs.fronts.escaped.Goals as goal

pub slice_bounds-begins_white-count : goal.slice_bounds-begins_white-count
slice_bounds-begins_white-count c = (let e = prefix_len-le-length is_ascii_graphic c.args.behind.now in omega arith)

pub slice_bounds-begins_white-start : goal.slice_bounds-begins_white-start
slice_bounds-begins_white-start c =
    let e = prefix_len-le-length is_ascii_graphic c.args.behind.now in
    let within : c.args.printable ≤ length c.args.behind.now = omega arith in
    search (rules, within)
