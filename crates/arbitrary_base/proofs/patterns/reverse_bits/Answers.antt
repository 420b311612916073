use Rattle.arbitrary_base.proofs.bit_lists.CodeOnPatterns.{reverse_pattern, reverse_raised}
use Rattle.arbitrary_base.proofs.patterns.reverse_bits.Goals as goal

pub returns-then-width-le8 : goal.returns-then-width-le8
returns-then-width-le8 c = reverse_raised 8 _ _ _ c.if-width-le8.true c.requires.fits c.reverse_bits.ensures

pub returns-then-width-le16 : goal.returns-then-width-le16
returns-then-width-le16 c = reverse_pattern 16 _ _ _ c.if-width-le16.true c.requires.fits c.reverse_bits-then-width-le16.ensures

pub returns-then-width-le32 : goal.returns-then-width-le32
returns-then-width-le32 c = reverse_pattern 32 _ _ _ c.if-width-le32.true c.requires.fits c.reverse_bits-then-width-le32.ensures

pub returns-then-width-le64 : goal.returns-then-width-le64
returns-then-width-le64 c = reverse_pattern 64 _ _ _ c.if-width-le64.true c.requires.fits c.reverse_u64.ensures

pub returns-else-width-le64 : goal.returns-else-width-le64
returns-else-width-le64 c = reverse_pattern 128 _ _ _ c.requires.high c.requires.fits c.reverse_u128.ensures
