-- What `serve` reads, writes and returns.
use Rattle.std.specs.Prelude.{◌≢◌, ℕ, ◌≤◌, ◌<◌, Bool, List, length, Option, IfSome, Result, IfErr, OnOk, IsErrOf, IsTrue, ⊤}
use Rattle.std.specs.Io.KnownBytes.{Appends, Keeps, IsAtEnd}
use Rattle.bitrun_service.specs.Output.{IsOutput}
use Rattle.bitrun_text.specs.Form.{BadLine}
use Rattle.arbitrary_int.specs.Streams.{AppendsBeginning}
use Rattle.bitrun_text.specs.declared.fault.Fault.{Fault}
use Rattle.bitrun_text.specs.declared.fault.Fault.TheVariants.{Line, TooLong, Read, Write}

-- `held` is the input, all bytes of the reader before, and `left` are its bytes afterwards; `before` and `after` are the
-- bytes that the writer has accepted; the flags are whether a call failed. An input with an output has no bad line, as
-- `laws::every_line_is_fine` states
pub record Serves (held left : Option (List ℕ)) (reader_failed : Bool) (before after : Option (List ℕ)) (writer_failed : Bool) (result : Result ⊤ Fault) : Type 0 where
  -- what is written is the output, and nothing else
  pub outputs : OnOk result (IfSome held (λ input. (text : List ℕ) × IsOutput input text × Appends before after text))
  pub all_read : OnOk result (IsAtEnd left)
  pub short : OnOk result (IfSome held (λ input. length input ≤ 65536))
  -- when each fault is returned; nothing is written before a fault, except before a writer's fault
  pub bad_line : (k : ℕ) → IsErrOf result (Line k) → IfSome held (λ input. BadLine input k × length input ≤ 65536) × IsAtEnd left
  pub too_long : IsErrOf result TooLong → IfSome held (λ input. 65536 < length input)
  pub read_failed : IsErrOf result Read → IsTrue reader_failed
  pub nothing_written : IfErr result (λ fault. fault ≢ Write → Keeps before after)
  -- after a writer's fault a beginning of the output is written, and nothing else
  pub write_failed : IsErrOf result Write → IsTrue writer_failed
  pub read_before : IsErrOf result Write → IsAtEnd left
  pub cut_short : IsErrOf result Write → IfSome held (λ input. (text : List ℕ) × IsOutput input text × AppendsBeginning before after text)
