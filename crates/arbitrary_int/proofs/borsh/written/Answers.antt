use Rattle.std.proofs.Common.{◌∙◌, sym, ap, le_trans, ◌≡◌, ℕ}
use Rattle.arbitrary_base.specs.Residue.{residue}
use Rattle.std.specs.Int.{div_ceil}
use Rattle.arbitrary_base.proofs.bytes.NumberOfBytes.{take-Borsh, length-Borsh}
use Rattle.arbitrary_int.proofs.borsh.written.Goals as goal

pub returns-clause-count : goal.returns-clause-count
returns-clause-count g c = c.div_ceil.ensures ∙ ap (λ (b : ℕ). div_ceil b 8) c.BITS-2.ensures ∙ sym (length-Borsh _ _)

pub returns-clause-bytes : goal.returns-clause-bytes
returns-clause-bytes g c =
    let e : c.low_bits.result ≡ residue g.V.Numbered.BITS (g.V.Numbered.number c.args.value) = c.low_bits.ensures.value ∙ (λ i. residue (c.BITS.ensures i) (c.to_storage.ensures.number i)) in
    take-Borsh _ _ _ _ _ e (le_trans c.to_storage.ensures.storage g.met.V.Representation.Storage.width_law.1) (c.div_ceil.ensures ∙ ap (λ (b : ℕ). div_ceil b 8) c.BITS-2.ensures) c.all_bytes-all.ensures
