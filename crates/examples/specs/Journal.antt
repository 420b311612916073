-- A record of a log as bytes: the definitions for the contracts in src/journal.rt. proofs/Records.antt has
-- lemmas about them.
use Rattle.std.specs.Prelude.{◌≡◌, ℕ, ℤ, Bool, List, ◌++◌, Option, Some, IsTrue}
use Rattle.arbitrary_int.specs.ByteLists.{BorshBytes}

-- the fields one after the other: 5 bytes, 1 byte, 2 bytes and 2 bytes
abbrev pub record_bytes : ℤ → ℤ → ℤ → ℤ → List ℕ
record_bytes time level source reading = BorshBytes 40 time ++ (BorshBytes 3 level ++ (BorshBytes 9 source ++ BorshBytes 12 reading))

-- where a reader held a record, and what follows, it failed
abbrev pub FailedOrNoRecord : Option (List ℕ) → Bool → Type 0
FailedOrNoRecord held failed = (time level source reading : ℤ) (rest : List ℕ) → held ≡ Some (record_bytes time level source reading ++ rest) → IsTrue failed
