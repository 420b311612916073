-- For `written_and_read` in src/journal.rt: the bytes that were written are those that are read, and no two records share theirs
-- (`records-same` of Records.antt).
use Rattle.std.specs.Prelude.{◌≡◌, ◌++◌, []}
use Rattle.std.proofs.Common.{rules, sym, append-nil, ◌∙◌}
use Rattle.arbitrary_int.specs.Watched.{inner_of}
use Rattle.examples.specs.Journal.{record_bytes}
use Rattle.examples.proofs.Records.{records-same}
use Rattle.examples.proofs.journal.written_and_read.Goals as goal

pub returns : goal.returns
returns c =
    let line = c.args.line in
    let found = c.in_ok-found.found in
    let start : (inner_of c.new-log.result).items ≡ [] = rw c.new-log.ensures.inner c.new.ensures.items in
    let written : (inner_of c.write.new.writer).items ≡ record_bytes line.time line.level line.source line.reading = rw start at c.in_ok-write.ensures.all in
    let held : (inner_of c.new-2.result).now ≡ record_bytes line.time line.level line.source line.reading ++ [] =
    rw (c.new-2.ensures.inner, c.as_slice.ensures.value, c.into_inner-bytes.ensures) (written ∙ sym (append-nil _)) in
    let e = records-same found.time found.level found.source found.reading line.time line.level line.source line.reading _ [] (search rules) (search rules) (search rules) (search rules)
    (search rules) (search rules) (search rules) (search rules) (sym c.in_ok-found.ensures.taken ∙ held) in
    λ i. record { time = e.0 i; level = e.1 i; source = e.2 i; reading = e.3 i }
