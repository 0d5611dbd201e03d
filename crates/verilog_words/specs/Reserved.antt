-- The words that, unless escaped, are no identifiers.
use Rattle.std.specs.Prelude.{ℕ, ◌||◌, Bool, List, codes}
use Rattle.std.specs.Str.{bytes_eq}

-- the words of the grammar of modules
unfoldable pub is_of_grammar : List ℕ → Bool
is_of_grammar word =
    bytes_eq word (codes "module") || bytes_eq word (codes "endmodule") || bytes_eq word (codes "primitive")
    || bytes_eq word (codes "endprimitive") || bytes_eq word (codes "input") || bytes_eq word (codes "output")
    || bytes_eq word (codes "inout") || bytes_eq word (codes "wire") || bytes_eq word (codes "tri")
    || bytes_eq word (codes "supply0") || bytes_eq word (codes "supply1") || bytes_eq word (codes "assign")

-- the words of behaviour, parameters and timing that structural Verilog leaves out
unfoldable pub is_of_behaviour : List ℕ → Bool
is_of_behaviour word =
    bytes_eq word (codes "always") || bytes_eq word (codes "initial") || bytes_eq word (codes "parameter")
    || bytes_eq word (codes "localparam") || bytes_eq word (codes "defparam") || bytes_eq word (codes "generate")
    || bytes_eq word (codes "genvar") || bytes_eq word (codes "function") || bytes_eq word (codes "task")
    || bytes_eq word (codes "specify") || bytes_eq word (codes "reg") || bytes_eq word (codes "integer")
    || bytes_eq word (codes "signed")

-- the gates that it leaves out
unfoldable pub is_gate : List ℕ → Bool
is_gate word =
    bytes_eq word (codes "and") || bytes_eq word (codes "nand") || bytes_eq word (codes "or") || bytes_eq word (codes "nor")
    || bytes_eq word (codes "xor") || bytes_eq word (codes "xnor") || bytes_eq word (codes "buf")
    || bytes_eq word (codes "not") || bytes_eq word (codes "bufif0") || bytes_eq word (codes "bufif1")
    || bytes_eq word (codes "notif0") || bytes_eq word (codes "notif1") || bytes_eq word (codes "pullup")
    || bytes_eq word (codes "pulldown") || bytes_eq word (codes "tran")

abbrev pub is_left_out : List ℕ → Bool
is_left_out word = is_of_behaviour word || is_gate word

abbrev pub is_reserved : List ℕ → Bool
is_reserved word = is_of_grammar word || is_left_out word

-- the directives that are skipped to the end of their line
unfoldable pub is_skipped : List ℕ → Bool
is_skipped word =
    bytes_eq word (codes "timescale") || bytes_eq word (codes "default_nettype") || bytes_eq word (codes "resetall")
    || bytes_eq word (codes "unconnected_drive") || bytes_eq word (codes "nounconnected_drive")
