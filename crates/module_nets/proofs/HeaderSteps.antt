-- Modules by the places of their names.
use Rattle.std.proofs.Common.{◌≡◌, ℕ, ◌<◌, Some, None, List, [], false, length, map, get_or, sym, ap, ◌∙◌, arith}
use Rattle.std.specs.Str.{bytes_eq}
use Rattle.std.proofs.lemmas.List.{length-map, get_or-map}
use Rattle.bud_syntax.specs.declared.modules.Module.{Module}
use Rattle.module_nets.specs.Headers.{module_number}
use Rattle.module_nets.specs.Nets.{module_called}
use Rattle.module_nets.specs.Tops.{module_at}
use Rattle.module_nets.proofs.ListSteps.{at_place, no_place}

pub number_below : (modules : List Module) (name : List ℕ) (k : ℕ) → module_number modules name ≡ Some k → k < length modules
number_below modules name k is = (at_place (λ m. bytes_eq m.name name) modules k is).within

pub called_at : (modules : List Module) (name : List ℕ) (k : ℕ) → module_number modules name ≡ Some k → module_called modules name ≡ Some (module_at modules k)
called_at modules name k is = (at_place (λ m. bytes_eq m.name name) modules k is).element (record { name = []; leaf = false; ports = []; nets = []; assigns = []; instances = [] })

pub called_none : (modules : List Module) (name : List ℕ) → module_number modules name ≡ None → module_called modules name ≡ None
called_none modules name is = no_place (λ m. bytes_eq m.name name) modules is

-- headers stand as their modules do
pub header_within : {H : Type 0} (f : H → Module) (headers : List H) (modules : List Module) (k : ℕ) → map f headers ≡ modules → k < length modules → k < length headers
header_within f headers modules k headed within = omega (arith, within, ap length headed, length-map headers f)

pub header_is : {H : Type 0} (f : H → Module) (headers : List H) (modules : List Module) (k : ℕ) (h : H) → map f headers ≡ modules → k < length modules → h ≡ get_or headers k h → f h ≡ module_at modules k
header_is f headers modules k h headed within is =
    ap f is ∙ (sym (get_or-map f headers k h (record { name = []; leaf = false; ports = []; nets = []; assigns = []; instances = [] }) (header_within f headers modules k headed within))
    ∙ ap (λ ms. module_at ms k) headed)
