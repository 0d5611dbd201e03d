use Rattle.block_theory.specs.BlockFiles.{block_file}
use Rattle.sdc_writer.proofs.Printed.{text_reads}
use Rattle.block_prints.proofs.Files.{file_printable}
use Rattle.block_prints.proofs.laws.block_files_are_printable.Goals as goal

pub returns : goal.returns
returns c = record { printable = file_printable; reads = λ x arrivals fine. text_reads (block_file x arrivals) (file_printable x arrivals fine) }
