-- What the operations return for literals, positive and negative, from their low digits. The definitions are
-- `abbrev`s, so that they compute for a literal.
use Rattle.std.specs.Prelude.{◌≡◌, ℕ, ℤ, Bool, true, false, List, length, zero, suc, pos, negsuc, ◌+◌, ◌-◌, ◌*◌, ◌/◌, ◌%◌, ◌^◌, ◌≤◌, ◌<◌, ◌≤ℤ◌, map, not, reverse, nat_lt, if◌then◌else◌}
use Rattle.std.specs.Int.{reverse_bits_onto}
use Rattle.std.specs.Int.Bits.{bit_and, bit_or, bit_xor}
use Rattle.std.specs.List.{slice_rotate_right}
use Rattle.std.proofs.Common.{refl, sym, subst, ap, ap₂, ◌∙◌, arith, mod-lt}
use Rattle.std.proofs.Math.Nat.{div-add-mod'}
use Rattle.std.proofs.lemmas.Int.{ints}
use Rattle.std.proofs.lemmas.List.{length-reverse}
use Rattle.std.proofs.lemmas.Nat.{pow_pos}
use Rattle.arbitrary_base.specs.Range.{lo, hi}
use Rattle.arbitrary_base.specs.Residue.{Congruent, wrap}
use Rattle.arbitrary_base.specs.BitList.{bits, num, val, bits_and, bits_or, bits_xor, shl}
use Rattle.arbitrary_base.specs.Operation.{bitwise_and, bitwise_not, bitwise_or, bitwise_xor, reversed, rotated_left, rotated_right, shifted_left, shifted_right}
use Rattle.arbitrary_base.proofs.bit_lists.Movement.{length-rotl, length-rotr, num-reverse_onto, num-rotl, num-rotr, rotr}
use Rattle.arbitrary_base.proofs.bit_lists.SignBit.{val-shl, val-shr}
use Rattle.arbitrary_base.proofs.bit_lists.TwosComplement.{bits-congruent, num-bits_residue, val-num}
use Rattle.arbitrary_base.proofs.bit_lists.UnsignedNumber.{length-and, length-bits, length-not, length-or, length-xor, num-and, num-bits, num-not, num-or, num-xor, same_length}
use Rattle.arbitrary_base.proofs.modular.Congruence.{pow_half, Congruent-from_apart, Congruent-sym, Congruent-trans}
use Rattle.arbitrary_base.proofs.modular.Residue.{wrap-unique}
use Rattle.arbitrary_base.proofs.operations.Definition.{and-is, left-is, not-is, or-is, reversed-is, right-is, rotl-is, rotr-is, xor-is}
use Rattle.arbitrary_base.proofs.storages.Primitive.{mod-congruent, unsigned-in_range, wrap-pos}

-- ---- wrapping

-- the low B digits of minus n minus one
abbrev pub negative_digits : ℕ → ℕ → ℕ
negative_digits B n = 2 ^ B - 1 - n % 2 ^ B

-- the signed number of B bits with the low digits r
abbrev pub signed_of : ℕ → ℕ → ℤ
signed_of B r = if nat_lt r (2 ^ (B - 1)) then pos r else negsuc (2 ^ B - 1 - r)

negative_digits-congruent : (B n : ℕ) → Congruent B (pos (negative_digits B n)) (negsuc n)
negative_digits-congruent B n =
    let e = div-add-mod' n (2 ^ B) in let m = mod-lt n (pow_pos B) in
    Congruent-from_apart B _ _ (0, suc (n / 2 ^ B), omega (arith, ints))

negative_digits-lt : (B n : ℕ) → negative_digits B n < 2 ^ B
negative_digits-lt B n = let p = pow_pos B in omega arith

signed-digits : (B r : ℕ) (x : ℤ) (b : Bool) → 1 ≤ B → r < 2 ^ B → Congruent B (pos r) x → b ≡ nat_lt r (2 ^ (B - 1))
    → wrap true B x ≡ (if b then pos r else negsuc (2 ^ B - 1 - r))
signed-digits B r x true h g c e =
    let l : r < 2 ^ (B - 1) = grind arith in
    let p = pow_half B h in
    wrap-unique true B x (pos r) h (record { low = omega (arith, ints); high = omega (arith, ints) }) c
signed-digits B r x false h g c e =
    let l : 2 ^ (B - 1) ≤ r = grind arith in
    let p = pow_half B h in
    wrap-unique true B x (negsuc (2 ^ B - 1 - r)) h (record { low = omega (arith, ints); high = omega (arith, ints) })
    (Congruent-trans B _ _ _ (Congruent-from_apart B _ _ (1, 0, omega (arith, ints))) c)

pub wrap-of_positive : (B m : ℕ) → 1 ≤ B → wrap false B (pos m) ≡ pos (m % 2 ^ B)
wrap-of_positive B m h = wrap-pos B m h

pub wrap-of_negative : (B n : ℕ) → 1 ≤ B → wrap false B (negsuc n) ≡ pos (negative_digits B n)
wrap-of_negative B n h =
    wrap-unique false B (negsuc n) _ h (unsigned-in_range B _ (negative_digits-lt B n)) (negative_digits-congruent B n)

pub signed_wrap-of_positive : (B m : ℕ) → 1 ≤ B → wrap true B (pos m) ≡ signed_of B (m % 2 ^ B)
signed_wrap-of_positive B m h = signed-digits B (m % 2 ^ B) (pos m) _ h (mod-lt m (pow_pos B)) (mod-congruent B m) refl

pub signed_wrap-of_negative : (B n : ℕ) → 1 ≤ B → wrap true B (negsuc n) ≡ signed_of B (negative_digits B n)
signed_wrap-of_negative B n h =
    signed-digits B (negative_digits B n) (negsuc n) _ h (negative_digits-lt B n) (negative_digits-congruent B n) refl

-- ---- bits

negative : (B n : ℕ) → bits B (negsuc n) ≡ bits B (pos (negative_digits B n))
negative B n = bits-congruent B _ _ (Congruent-sym B _ _ (negative_digits-congruent B n))

least : (s : Bool) (B m : ℕ) → lo s B ≤ℤ pos m
least false B m = omega (arith, ints)
least true B m = omega (arith, ints)

-- std's word for the reversal, so that it computes
abbrev pub turned : ℕ → ℕ → ℕ → ℕ
turned zero r a = a
turned (suc i) r a = turned i (r / 2) (a * 2 + r % 2)

turned-is : (i r a : ℕ) → turned i r a ≡ reverse_bits_onto i r a
unfolding reverse_bits_onto
turned-is zero r a = refl
turned-is (suc i) r a = turned-is i (r / 2) (a * 2 + r % 2)

module _ (s : Bool) (B : ℕ) where
  of_digits : (l : List Bool) (r : ℕ) → length l ≡ B → num l ≡ r → val s l ≡ wrap s B (pos r)
  of_digits l r n e = val-num s B l n ∙ ap (λ (m : ℕ). wrap s B (pos m)) e

  pub and-of_positive : (m n : ℕ) → bitwise_and s B (pos m) (pos n) ≡ wrap s B (pos (bit_and (m % 2 ^ B) (n % 2 ^ B)))
  and-of_positive m n =
      let l = same_length B (pos m) (pos n) in
      and-is s B _ _ ∙ of_digits _ _ (length-and _ _ l ∙ length-bits B _) (num-and _ _ ∙ ap₂ bit_and (num-bits B m) (num-bits B n))

  pub or-of_positive : (m n : ℕ) → bitwise_or s B (pos m) (pos n) ≡ wrap s B (pos (bit_or (m % 2 ^ B) (n % 2 ^ B)))
  or-of_positive m n =
      let l = same_length B (pos m) (pos n) in
      or-is s B _ _ ∙ of_digits _ _ (length-or _ _ l ∙ length-bits B _) (num-or _ _ l ∙ ap₂ bit_or (num-bits B m) (num-bits B n))

  pub xor-of_positive : (m n : ℕ) → bitwise_xor s B (pos m) (pos n) ≡ wrap s B (pos (bit_xor (m % 2 ^ B) (n % 2 ^ B)))
  xor-of_positive m n =
      let l = same_length B (pos m) (pos n) in
      xor-is s B _ _ ∙ of_digits _ _ (length-xor _ _ l ∙ length-bits B _) (num-xor _ _ l ∙ ap₂ bit_xor (num-bits B m) (num-bits B n))

  pub not-of_positive : (m : ℕ) → bitwise_not s B (pos m) ≡ wrap s B (pos (negative_digits B m))
  not-of_positive m =
      let d = num-bits B m in let l = length-bits B (pos m) in
      let e = num-not (bits B (pos m)) ∙ ap (λ (n : ℕ). 2 ^ n) l in
      not-is s B _ ∙ of_digits _ _ (length-not _ ∙ l) (omega arith)

  pub left-of_positive : (m k : ℕ) → 1 ≤ B → k ≤ B → shifted_left s B (pos m) k ≡ wrap s B (pos (m % 2 ^ B * 2 ^ k))
  left-of_positive m k h g = left-is s B _ k ∙ val-shl s B k (m % 2 ^ B) (pos m) h g (sym (num-bits B m) ∙ num-bits_residue B (pos m))

  pub rotated_left-of_positive : (m k : ℕ) → k ≤ B
      → rotated_left s B (pos m) k ≡ wrap s B (pos (m % 2 ^ B / 2 ^ (B - k) + m % 2 ^ B * 2 ^ k % 2 ^ B))
  rotated_left-of_positive m k g =
      let d = num-bits B m in let l = length-bits B (pos m) in
      rotl-is s B _ k ∙ of_digits _ _ (length-rotl _ k ∙ l) (num-rotl _ k (subst (λ (n : ℕ). k ≤ n) (sym l) g) ∙ rw (d, l) refl)

  pub rotated_right-of_positive : (m k : ℕ) → k ≤ B
      → rotated_right s B (pos m) k ≡ wrap s B (pos (m % 2 ^ B / 2 ^ k + m % 2 ^ B * 2 ^ (B - k) % 2 ^ B))
  rotated_right-of_positive m k g =
      let d = num-bits B m in let l = length-bits B (pos m) in
      rotr-is s B _ k ∙ of_digits _ _ (length-rotr _ k ∙ l) (num-rotr _ k (subst (λ (n : ℕ). k ≤ n) (sym l) g) ∙ rw (d, l) refl)

  pub reversed-of_positive : (m : ℕ) → reversed s B (pos m) ≡ wrap s B (pos (turned B (m % 2 ^ B) 0))
  reversed-of_positive m =
      let d = num-bits B m in let l = length-bits B (pos m) in
      let e = ap₂ (λ (n r : ℕ). reverse_bits_onto n r 0) (sym l) (sym d) ∙ num-reverse_onto (bits B (pos m)) 0 in
      let t = turned-is B (m % 2 ^ B) 0 in
      reversed-is s B _ ∙ of_digits _ _ (length-reverse _ ∙ l) (omega arith)

  pub right-of_positive : (m k : ℕ) → 1 ≤ B → k ≤ B → pos m ≤ℤ hi s B → shifted_right s B (pos m) k ≡ pos (m / 2 ^ k)
  right-of_positive m k h g f = right-is s B _ k ∙ val-shr s B k (pos m) h g (record { low = least s B m; high = f })

  -- a negative operand is its low digits
  pub and-of_negative : (m : ℕ) (y : ℤ) → bitwise_and s B (negsuc m) y ≡ bitwise_and s B (pos (negative_digits B m)) y
  unfolding bitwise_and
  and-of_negative m y = ap (λ (l : List Bool). val s (bits_and l (bits B y))) (negative B m)

  pub and-with_negative : (n : ℕ) (x : ℤ) → bitwise_and s B x (negsuc n) ≡ bitwise_and s B x (pos (negative_digits B n))
  unfolding bitwise_and
  and-with_negative n x = ap (λ (l : List Bool). val s (bits_and (bits B x) l)) (negative B n)

  pub or-of_negative : (m : ℕ) (y : ℤ) → bitwise_or s B (negsuc m) y ≡ bitwise_or s B (pos (negative_digits B m)) y
  unfolding bitwise_or
  or-of_negative m y = ap (λ (l : List Bool). val s (bits_or l (bits B y))) (negative B m)

  pub or-with_negative : (n : ℕ) (x : ℤ) → bitwise_or s B x (negsuc n) ≡ bitwise_or s B x (pos (negative_digits B n))
  unfolding bitwise_or
  or-with_negative n x = ap (λ (l : List Bool). val s (bits_or (bits B x) l)) (negative B n)

  pub xor-of_negative : (m : ℕ) (y : ℤ) → bitwise_xor s B (negsuc m) y ≡ bitwise_xor s B (pos (negative_digits B m)) y
  unfolding bitwise_xor
  xor-of_negative m y = ap (λ (l : List Bool). val s (bits_xor l (bits B y))) (negative B m)

  pub xor-with_negative : (n : ℕ) (x : ℤ) → bitwise_xor s B x (negsuc n) ≡ bitwise_xor s B x (pos (negative_digits B n))
  unfolding bitwise_xor
  xor-with_negative n x = ap (λ (l : List Bool). val s (bits_xor (bits B x) l)) (negative B n)

  pub not-of_negative : (n : ℕ) → bitwise_not s B (negsuc n) ≡ bitwise_not s B (pos (negative_digits B n))
  unfolding bitwise_not
  not-of_negative n = ap (λ (l : List Bool). val s (map not l)) (negative B n)

  pub left-of_negative : (n k : ℕ) → shifted_left s B (negsuc n) k ≡ shifted_left s B (pos (negative_digits B n)) k
  unfolding shifted_left
  left-of_negative n k = ap (λ (l : List Bool). val s (shl l k)) (negative B n)

  pub rotated_left-of_negative : (n k : ℕ) → rotated_left s B (negsuc n) k ≡ rotated_left s B (pos (negative_digits B n)) k
  unfolding rotated_left
  rotated_left-of_negative n k = ap (λ (l : List Bool). val s (slice_rotate_right l k)) (negative B n)

  pub rotated_right-of_negative : (n k : ℕ) → rotated_right s B (negsuc n) k ≡ rotated_right s B (pos (negative_digits B n)) k
  unfolding rotated_right
  rotated_right-of_negative n k = ap (λ (l : List Bool). val s (rotr l k)) (negative B n)

  pub reversed-of_negative : (n : ℕ) → reversed s B (negsuc n) ≡ reversed s B (pos (negative_digits B n))
  unfolding reversed
  reversed-of_negative n = ap (λ (l : List Bool). val s (reverse l)) (negative B n)

pub right-of_negative : (B n k : ℕ) → 1 ≤ B → k ≤ B → lo true B ≤ℤ negsuc n → shifted_right true B (negsuc n) k ≡ negsuc (n / 2 ^ k)
right-of_negative B n k h g f =
    let p = pow_pos (B - 1) in
    right-is true B _ k ∙ val-shr true B k (negsuc n) h g (record { low = f; high = omega (arith, ints) })
