-- Lemmas about the bytes of a number and about streams of bytes, for src/byte_lists.rt, src/streams.rt and
-- crates above. Those about the number of bytes are in NumberOfBytes.antt, and those about a read or a write in
-- StreamSteps.antt. The definitions are in specs/ByteLists.antt and specs/Streams.antt.
pub mod NumberOfBytes
pub mod StreamSteps
