use Rattle.std.proofs.Common.{◌≤◌, vec_len}
use Rattle.std.specs.Io.KnownBytes.{Consumes}
use Rattle.arbitrary_int.specs.Watched.{inner_of}
use Rattle.bitrun_service.proofs.stream.read_all.Given as goal

abbrev pub invariant-loop : goal.invariant-loop
invariant-loop g l =
    Consumes (g.R.Read.remaining (inner_of l.fn.reader)) (g.R.Read.remaining (inner_of l.reader)) l.input.items
    × (l.counter ≤ vec_len l.input)
    × (vec_len l.input ≤ 65536)
