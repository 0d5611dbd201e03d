-- What the places in an expression stand for.
use Rattle.verilog_reader.specs.Joining.{Joint}
use Rattle.verilog_reader.specs.Readings.{left_of}
use Rattle.verilog_reader.specs.declared.joints.Joint.{Joint as Place}

abbrev pub joint_of : Place → Joint
joint_of place = record { depth = place.depth; wanted = place.wanted; rest = left_of place.rest }
