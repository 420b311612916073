-- The laws of numbers under a known mask: the bits that it keeps, clears, sets and toggles, in sums, multiples
-- and remainders.
use Rattle.std.specs.Int.{int_rem_euclid}
use Rattle.std.specs.Int.Bits.{bit_and}
use Rattle.std.specs.Prelude.{Bool, false, pos, true, unsigned_abs, ℕ, ℤ, ◌%◌, ◌&&◌, ◌+◌, ◌-◌, ◌<◌, ◌^◌, ◌≡◌, ◌≤ℤ◌, ◌≤◌}
use Rattle.std.proofs.Common.{ap, arith, lt_of_le_of_lt, mod-eq_of_lt, mod-lt, refl, subst, sym, ◌∙◌}
use Rattle.std.proofs.lemmas.Grind.{low_zeros}
use Rattle.std.proofs.lemmas.Int.{ints}
use Rattle.std.proofs.lemmas.Nat.{and_le_r, and_mask, and_mod, pow_pos}
use Rattle.arbitrary_base.specs.BitList.{bits, num}
use Rattle.arbitrary_base.specs.Operation.{bitwise_and}
use Rattle.arbitrary_base.specs.Range.{InRange, hi}
use Rattle.arbitrary_base.specs.Residue.{Congruent}
use Rattle.arbitrary_base.proofs.bit_lists.StdBitwise.{reach, val-plain}
use Rattle.arbitrary_base.proofs.bit_lists.UnsignedNumber.{num-and, num-bits_small}
use Rattle.arbitrary_base.proofs.modular.Congruence.{Congruent-narrower, Congruent-sym, Congruent-trans, pow_half}
use Rattle.arbitrary_base.proofs.operations.BitsAndSums.{natural}
use Rattle.arbitrary_base.proofs.operations.Definition.{and-is, length-of_two}
use Rattle.arbitrary_base.proofs.storages.Primitive.{mod-congruent}

-- ---- a mask that is not below 0

and-number : (s : Bool) (B n : ℕ) (x : ℤ) → 1 ≤ B → n < 2 ^ B → bit_and (num (bits B x)) n < 2 ^ reach s B
    → bitwise_and s B x (pos n) ≡ pos (bit_and (num (bits B x)) n)
and-number s B n x h g l =
    and-is s B x (pos n)
    ∙ val-plain s B _ _ h (length-of_two (λ a b. a && b) B x (pos n)) (num-and (bits B x) (bits B (pos n)) ∙ ap (bit_and (num (bits B x))) (num-bits_small B n g)) l

pub and-natural : (s : Bool) (B n : ℕ) (x : ℤ) → 1 ≤ B → pos n ≤ℤ hi s B → bitwise_and s B x (pos n) ≡ pos (bit_and (num (bits B x)) n)
and-natural false B n x h f =
    let p = pow_pos B in
    let g : n < 2 ^ B = omega (arith, ints) in
    and-number false B n x h g (lt_of_le_of_lt (and_le_r _ n) g)
and-natural true B n x h f =
    let p = pow_pos (B - 1) in
    let g : n < 2 ^ (B - 1) = omega (arith, ints) in
    let e = pow_half B h in
    and-number true B n x h (omega arith) (lt_of_le_of_lt (and_le_r _ n) g)

pub and-within : (s : Bool) (B n : ℕ) (x : ℤ) → 1 ≤ B → pos n ≤ℤ hi s B → (m : ℕ) × (bitwise_and s B x (pos n) ≡ pos m) × (m ≤ n)
and-within s B n x h f = (bit_and (num (bits B x)) n, and-natural s B n x h f, and_le_r _ n)

-- the low ones of a mask: as many low bits are kept
pub and-congruent : (s : Bool) (B n : ℕ) (x : ℤ) → 1 ≤ B → pos n ≤ℤ hi s B → low_zeros 128 (n + 1) ≤ B → n % 2 ^ low_zeros 128 (n + 1) + 1 ≡ 2 ^ low_zeros 128 (n + 1)
    → Congruent (low_zeros 128 (n + 1)) (bitwise_and s B x (pos n)) x
and-congruent s B n x h f g e =
    let k = low_zeros 128 (n + 1) in
    let N = num (bits B x) in
    let ones : n % 2 ^ k ≡ 2 ^ k - 1 = omega arith in
    let low : bit_and N n % 2 ^ k ≡ N % 2 ^ k = and_mod N n k ∙ ap (bit_and (N % 2 ^ k)) ones ∙ and_mask (N % 2 ^ k) k ∙ mod-eq_of_lt (mod-lt N (pow_pos k)) in
    let c : Congruent k (pos (N % 2 ^ k)) (pos (bit_and N n)) = subst (λ (m : ℕ). Congruent k (pos m) (pos (bit_and N n))) low (mod-congruent k (bit_and N n)) in
    let d : Congruent k (pos (bit_and N n)) x =
    Congruent-trans k _ (pos N) x (Congruent-trans k _ _ (pos N) (Congruent-sym k _ _ c) (mod-congruent k N)) (Congruent-sym k x (pos N) (Congruent-narrower k B x (pos N) g (natural B x))) in
    subst (λ (z : ℤ). Congruent k z x) (sym (and-natural s B n x h f)) d

-- the lowest bit alone is what the remainder by two is, with or without a sign
pub and-by_one : (s : Bool) (B : ℕ) (x y z : ℤ) → 1 ≤ B → InRange s B y → z ≡ bitwise_and s B x y → y ≡ pos 1 → z ≡ pos (unsigned_abs x % 2)
and-by_one s B x y z h f e d =
    let g : pos 1 ≤ℤ hi s B = let t = f.high in omega (arith, ints) in
    let w = and-within s B 1 x h g in
    let c = and-congruent s B 1 x h g h refl in
    e ∙ ap (bitwise_and s B x) d ∙ w.1 ∙ ap pos (of-congruent w.0 x w.2 (subst (λ (a : ℤ). Congruent 1 a x) w.1 c))
  where
    of-congruent : (m : ℕ) (x : ℤ) → m ≤ 1 → Congruent 1 (pos m) x → m ≡ unsigned_abs x % 2
    of-congruent m x l c = let e : int_rem_euclid (pos m) (pos 2) ≡ int_rem_euclid x (pos 2) = c.remainders in grind (arith, ints)
