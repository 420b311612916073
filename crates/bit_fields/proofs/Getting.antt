-- Reading a field of a word.
use Rattle.std.specs.Prelude.{◌≡◌, ℕ, ℤ, Bool, false, pos, ◌+◌, ◌/◌, ◌^◌, ◌<◌, ◌≤◌}
use Rattle.std.proofs.Common.{sym, subst, ◌∙◌}
use Rattle.arbitrary_int.specs.Field.{field}
use Rattle.arbitrary_int.specs.Residue.{Congruent, wrap}
use Rattle.arbitrary_int.specs.BitList.{val}
use Rattle.bit_fields.specs.BitField.{field_bits}
use Rattle.arbitrary_int.proofs.ExtractedField.{val-items, items-plain}
use Rattle.arbitrary_int.proofs.Residue.{wrap-congruent}

module _ (s : Bool) (width start word : ℕ) (z : ℤ) (widths : (1 ≤ width) × (width ≤ 128)) (within : start + width ≤ 128) (fits : word < 2 ^ 128)
    (read : z ≡ wrap s width (pos (word / 2 ^ start))) where
  pub read-field : z ≡ val s (field_bits word start width)
  unfolding field_bits
  read-field = read ∙ sym (val-items s width 128 start word widths.0 within fits)

  pub read-plain : s ≡ false → z ≡ field word start width
  read-plain e = read ∙ sym (val-items s width 128 start word widths.0 within fits) ∙ items-plain s width 128 start word e widths.0 within fits

  pub read-congruent : Congruent width z (pos (word / 2 ^ start))
  read-congruent = subst (λ (x : ℤ). Congruent width x (pos (word / 2 ^ start))) (sym read) (wrap-congruent s width (pos (word / 2 ^ start)))
