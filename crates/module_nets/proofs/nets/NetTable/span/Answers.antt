use Rattle.std.proofs.Common.{ap}
use Rattle.module_nets.specs.Nets.{piece_net}
use Rattle.module_nets.proofs.PieceSpans.{net_piece, piece_found, bit_piece, part_piece}
use Rattle.module_nets.proofs.nets.NetTable.span.Goals as goal

pub returns-in_err-find-in-Bit : goal.returns-in_err-find-in-Bit
returns-in_err-find-in-Bit c =
    piece_found c.args.self.now.«module».now c.args.piece.now c.in-Bit.name c.as_slice-in-Bit.result.now c.find.result (ap piece_net c.in-Bit.is) c.as_slice-in-Bit.ensures c.requires.used
    c.find.ensures c.in_err-find-in-Bit.was

pub returns-in_err-place-in-Part : goal.returns-in_err-place-in-Part
returns-in_err-place-in-Part c =
    piece_found c.args.self.now.«module».now c.args.piece.now c.in-Part.name c.as_slice-in-Part.result.now c.find-in-Part.result (ap piece_net c.in-Part.is) c.as_slice-in-Part.ensures c.requires.used
    c.find-in-Part.ensures c.in_err-place-in-Part.was

pub returns-in-Net : goal.returns-in-Net
returns-in-Net c = net_piece c.args.self.now.«module».now c.args.piece.now c.in-Net.name c.as_slice.result.now c.net_span.result c.in-Net.is c.as_slice.ensures c.net_span.ensures

pub returns-in_ok-find-in-Bit : goal.returns-in_ok-find-in-Bit
returns-in_ok-find-in-Bit c =
    bit_piece c.args.self.now.«module».now c.args.piece.now c.in-Bit.name c.as_slice-in-Bit.result.now c.in-Bit.bit c.number_in-first.result c.args.self.now.bits c.find.result c.in_ok-find-in-Bit.field-0
    c.args.self.now.apart c.args.self.now.all c.requires.small c.requires.used c.requires.select c.in-Bit.is c.as_slice-in-Bit.ensures
    c.find.ensures c.in_ok-find-in-Bit.was c.number_in-first.ensures

pub returns-in_ok-place-in-Part : goal.returns-in_ok-place-in-Part
returns-in_ok-place-in-Part c =
    part_piece c.args.self.now.«module».now c.args.piece.now c.in-Part.name c.as_slice-in-Part.result.now c.in-Part.left c.in-Part.right c.number_in.result c.number_in-in-Part.result c.args.self.now.bits
    c.find-in-Part.result c.in_ok-place-in-Part.place c.args.self.now.apart c.args.self.now.all c.requires.small c.requires.used c.requires.select c.in-Part.is c.as_slice-in-Part.ensures
    c.find-in-Part.ensures c.in_ok-place-in-Part.was c.number_in.ensures c.number_in-in-Part.ensures
