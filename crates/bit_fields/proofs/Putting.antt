-- Writing a field, from the pattern of the value's 128 bits.
use Rattle.std.specs.Prelude.{◌≡◌, ℕ, ℤ, Bool, List, false, pos, ◌+◌, ◌-◌, ◌*◌, ◌/◌, ◌%◌, ◌≤◌, ◌<◌, ◌^◌, ◌++◌, ◌+ℤ◌, length, take, drop}
use Rattle.std.proofs.Common.{arith, refl, ap, sym, subst, bit_and, ◌∙◌, mod-lt, pow-add, take-append-drop, drop-drop, append_assoc, length-drop, length-take}
use Rattle.std.proofs.Math.Nat.{div-div-eq-div-mul}
use Rattle.std.proofs.lemmas.Int.{ints}
use Rattle.std.proofs.lemmas.Nat.{and_mask, div-mul-add, mod-mul-add, pow_pos}
use Rattle.arbitrary_int.specs.Range.{InRange}
use Rattle.arbitrary_int.specs.Residue.{Congruent, residue}
use Rattle.arbitrary_int.specs.Field.{field}
use Rattle.arbitrary_int.specs.BitList.{bits, num, val}
use Rattle.bit_fields.specs.BitField.{field_bits, with_field}
use Rattle.arbitrary_int.proofs.Ring.{add-mul_z}
use Rattle.arbitrary_int.proofs.Truncation.{masked-residue, residue-wrap}
use Rattle.arbitrary_int.proofs.UnsignedNumber.{length-bits, num-bits_small}
use Rattle.arbitrary_int.proofs.TwosComplement.{bits-residue, bits-val, val-bits_in_range}
use Rattle.arbitrary_int.proofs.Residue.{residue-congruent, residue-lt, wrap-of_in_range}
use Rattle.bit_fields.proofs.Replacing.{num-placed}
use Rattle.bit_fields.proofs.Placing.{field-put, field-put_above, field-put_below, length-field}
use Rattle.arbitrary_base.proofs.modular.Congruence.{Congruent-by_times, times}

-- the low bits of a number's 128 are its residue
pub masked-is : (width p mask : ℕ) (x : ℤ) → (1 ≤ width) × (width ≤ 128) → p ≡ residue 128 x → mask + 1 ≡ 2 ^ width → bit_and p mask ≡ residue width x
masked-is width p mask x w e m =
    ap (bit_and p) (let d : mask ≡ 2 ^ width - 1 = omega arith in d) ∙ and_mask p width ∙ masked-residue width 128 p x w.0 w.1 e

pub put-is : (word start width count p new : ℕ) (x : ℤ) → count ≡ width → new ≡ with_field word start (bits count (pos p)) → p ≡ residue width x
    → new ≡ with_field word start (bits width x)
put-is word start width count p new x c f e = f ∙ ap (λ (n : ℕ). with_field word start (bits n (pos p))) c ∙ ap (with_field word start) (bits-residue width p x e)

-- a list with its own middle put into its middle
put-back : (start count : ℕ) (l : List Bool) → take start l ++ take count (drop start l) ++ drop (start + count) l ≡ l
put-back start count l =
    append_assoc (take start l) (take count (drop start l)) (drop (start + count) l)
    ∙ ap (λ (m : List Bool). take start l ++ (take count (drop start l) ++ m)) (sym (drop-drop count start l))
    ∙ ap (λ (m : List Bool). take start l ++ m) (take-append-drop count (drop start l))
    ∙ take-append-drop start l

same-field : (word start width : ℕ) → word < 2 ^ 128 → start + width ≤ 128 → with_field word start (field_bits word start width) ≡ word
unfolding with_field field_bits
same-field word start width h g =
    let n : length (take width (drop start (bits 128 (pos word)))) ≡ width = let all = length-bits 128 (pos word) in simp (length-drop, length-take) (omega arith) in
    ap num (ap (λ (k : ℕ). take start (bits 128 (pos word)) ++ take width (drop start (bits 128 (pos word))) ++ drop (start + k) (bits 128 (pos word))) n
    ∙ put-back start width (bits 128 (pos word)))
    ∙ num-bits_small 128 word h

module _ (word start width new : ℕ) (x : ℤ) (put : new ≡ with_field word start (bits width x)) (fits : start + width ≤ 128) where
  room : start + length (bits width x) ≤ 128
  room = let n = length-bits width x in omega arith

  pub read-back : (s : Bool) → 1 ≤ width → InRange s width x → val s (field_bits new start width) ≡ x
  read-back s h f =
      ap (val s) (rw put (ap (field_bits (with_field word start (bits width x)) start) (sym (length-bits width x)) ∙ field-put word start (bits width x) room))
      ∙ val-bits_in_range s width x h f

  pub read-below : (other count : ℕ) → other + count ≤ start → field_bits new other count ≡ field_bits word other count
  read-below other count h = rw put (field-put_above word start (bits width x) other count room h)

  pub read-above : (other count : ℕ) → start + width ≤ other → field_bits new other count ≡ field_bits word other count
  read-above other count h = let n = length-bits width x in rw put (field-put_below word start (bits width x) other count room (omega arith))

  pub read-same : (s : Bool) → word < 2 ^ 128 → val s (field_bits word start width) ≡ x → new ≡ word
  read-same s h e =
      put ∙ ap (λ (z : ℤ). with_field word start (bits width z)) (sym e)
      ∙ ap (with_field word start) (bits-val s width (field_bits word start width) (length-field word start width fits))
      ∙ same-field word start width h fits

  -- the same in numbers: what was above, the value, and what was below
  parts : word < 2 ^ 128 → new ≡ (word / 2 ^ (start + width) * 2 ^ width + residue width x) * 2 ^ start + word % 2 ^ start
  parts h =
      put ∙ ap (with_field word start) (sym (bits-residue width (residue width x) x refl))
      ∙ num-placed word start width (residue width x) h fits (residue-lt width x)
      ∙ rw (pow-add 2 start width) (omega arith)

  pub number-below : word < 2 ^ 128 → new % 2 ^ start ≡ word % 2 ^ start
  number-below h = ap (λ (n : ℕ). n % 2 ^ start) (parts h) ∙ mod-mul-add _ (2 ^ start) (word % 2 ^ start) (mod-lt word (pow_pos start))

  upward : word < 2 ^ 128 → new / 2 ^ start ≡ word / 2 ^ (start + width) * 2 ^ width + residue width x
  upward h = ap (λ (n : ℕ). n / 2 ^ start) (parts h) ∙ div-mul-add _ (2 ^ start) (word % 2 ^ start) (mod-lt word (pow_pos start))

  pub number-above : word < 2 ^ 128 → new / 2 ^ (start + width) ≡ word / 2 ^ (start + width)
  number-above h =
      ap (λ (i : ℕ). new / i) (pow-add 2 start width) ∙ sym (div-div-eq-div-mul new (2 ^ start) (2 ^ width))
      ∙ ap (λ (i : ℕ). i / 2 ^ width) (upward h) ∙ div-mul-add _ (2 ^ width) (residue width x) (residue-lt width x)

  number-within : word < 2 ^ 128 → new / 2 ^ start % 2 ^ width ≡ residue width x
  number-within h = ap (λ (i : ℕ). i % 2 ^ width) (upward h) ∙ mod-mul-add _ (2 ^ width) (residue width x) (residue-lt width x)

  pub number-plain : (s : Bool) → word < 2 ^ 128 → 1 ≤ width → InRange s width x → s ≡ false → field new start width ≡ x
  number-plain s h o f e =
      ap pos (number-within h) ∙ residue-wrap width x o
      ∙ wrap-of_in_range false width x o (subst (λ (t : Bool). InRange t width x) e f)

  pub number-congruent : word < 2 ^ 128 → Congruent width (pos (new / 2 ^ start)) x
  number-congruent h =
      let r = times width (pos (residue width x)) x (residue-congruent width x) in
      let u = upward h in
      let m = add-mul_z (pos (word / 2 ^ (start + width))) r.0 (pos (2 ^ width)) in
      Congruent-by_times _ _ _ (pos (word / 2 ^ (start + width)) +ℤ r.0) (omega (arith, ints))
