use Rattle.std.proofs.Common.{◌≡◌, ◌≤◌, ◌++◌, List, length, ℕ}
use Rattle.etcs_text.specs.Readers.{seen_bits}
use Rattle.etcs_stream.specs.Readers.{Awaits, HasRoom}
use Rattle.etcs_stream.specs.Taking.{Advances}
use Rattle.etcs_stream.proofs.byte_items.ByteItems.take_bytes.Given as goal

abbrev pub invariant-loop-rest : goal.invariant-loop-rest
invariant-loop-rest l = record {
  front : List ℕ;
  job_is : l.self.job ≡ l.fn.self.job;
  waits : Awaits l.fn.self.job.kind l.self.reader;
  few : l.self.printer.count ≤ 1000000;
  room : HasRoom l.fn.self.printer.count (seen_bits l.fn.self.reader.progress) → HasRoom l.self.printer.count (seen_bits l.self.reader.progress);
  all : l.bytes ≡ front ++ l.rest;
  advances : Advances l.fn.self.job.kind l.fn.self.job.command (seen_bits l.fn.self.reader.progress) (seen_bits l.self.reader.progress) l.fn.self.printer l.self.printer front l.fn.page l.page;
}

abbrev pub decreases-loop-rest : goal.decreases-loop-rest
decreases-loop-rest l = length l.rest
