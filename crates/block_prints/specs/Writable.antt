-- What a block's file is made from where its text is to read back as it.
use Rattle.std.specs.Prelude.{◌≡◌, ◌^◌, ◌<◌, ◌&&◌, nat_le, ℤ, Bool, true, List, All, length}
use Rattle.std.specs.List.{list_all}
use Rattle.bud_design.specs.declared.clocks.Clock.{Clock}
use Rattle.bud_design.specs.declared.clocks.ExceptionKind.{ExceptionKind}
use Rattle.bud_design.specs.declared.clocks.ExceptionKind.TheVariants.{FalsePath, Multicycle, MaxDelay}
use Rattle.bud_design.specs.DesignRules.{HasPrintedNames}
use Rattle.bud_design.proofs.NameLaws.{IsShort}
use Rattle.sdc_reader.specs.Numbers.{is_small}
use Rattle.sdc_reader.specs.Words.{is_clock_name}
use Rattle.block_theory.specs.BlockPorts.{Context, input_nodes, output_nodes}
use Rattle.block_theory.specs.BlockFiles.{input_amount, output_amount}

abbrev pub has_small_times : Clock → Bool
has_small_times c = is_small c.period && (is_small c.rise && is_small c.fall)

-- a clock with a name and times that may be read
abbrev pub is_read_clock : Clock → Bool
is_read_clock c = is_clock_name c.name && has_small_times c

abbrev pub is_read_kind : ExceptionKind → Bool
is_read_kind FalsePath = true
is_read_kind (Multicycle count by_launch) = nat_le 1 count && nat_le count 1000
is_read_kind (MaxDelay amount) = is_small amount

-- names are printed identifiers, clocks and exceptions such as are read, and the delays at the block's ports are times that may be read
pub record IsWritable (x : Context) (arrivals : List ℤ) : Type 0 where
  pub names : HasPrintedNames x.design
  pub bits : All (λ v. IsShort v.bit) x.design.pins
  pub block : x.block < length x.design.places
  pub clocks : list_all is_read_clock x.all.clocks ≡ true
  pub exceptions : list_all (λ e. is_read_kind e.kind) x.all.exceptions ≡ true
  pub nodes : All (λ n. n.pin.0 < length x.design.pins) x.layered.nodes
  pub classes : length x.layered.classes < 2 ^ 64
  pub class_of_node : All (λ n. n.«class».0 < length x.layered.classes) x.layered.nodes
  pub inputs : list_all (λ n. is_small (input_amount arrivals n)) (input_nodes x.design x.layered x.block) ≡ true
  pub outputs : list_all (λ n. is_small (output_amount x.all x.layered arrivals n)) (output_nodes x.design x.layered x.block) ≡ true
