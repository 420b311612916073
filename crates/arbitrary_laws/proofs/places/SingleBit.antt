-- The laws of one bit of an unsigned number by its place k: as `1 << k`, tested, set and reversed, and under the
-- complement.
use Rattle.std.specs.Prelude.{◌≡◌, ◌⊎◌, ℕ, ℤ, zero, suc, false, pos, negsuc, unsigned_abs, max, ◌≤◌, ◌<◌, ◌+◌, ◌*◌, ◌/◌, ◌%◌, ◌^◌, ◌-ℤ◌, ◌*ℤ◌, Bool, true, List, [], ◌∷◌, ◌++◌, length, take, replicate, reverse, ◌-◌}
use Rattle.std.specs.Int.{bit_at}
use Rattle.std.specs.Int.Bits.{bit_and, bit_or}
use Rattle.std.proofs.Common.{refl, ap, ◌∙◌, arith, sym, subst, inl, inr, div-le_self, mod-lt}
use Rattle.std.proofs.Math.Nat.{div-add-mod', div-eq_of_lt-le}
use Rattle.std.proofs.Math.Pow.{shr_lt}
use Rattle.std.proofs.lemmas.Int.{ints}
use Rattle.std.proofs.lemmas.List.{length-replicate}
use Rattle.std.proofs.lemmas.Nat.{pow_below, pow_pos}
use Rattle.std.proofs.lemmas.Nat.Bits.{and_pow, bit_at-lt, bit_at-pow_same, bit_at_or, shr_and_one}
use Rattle.arbitrary_base.specs.Range.{InRange}
use Rattle.arbitrary_base.specs.BitList.{bits, shl}
use Rattle.arbitrary_base.specs.Operation.{bitwise_and, bitwise_not, bitwise_or, reversed, shifted_left, shifted_right}
use Rattle.arbitrary_base.proofs.integers.Ring.{pos-unsigned_abs}
use Rattle.arbitrary_base.proofs.modular.Congruence.{pow_half, pow_split}
use Rattle.arbitrary_base.proofs.bit_lists.Movement.{reverse-cons}
use Rattle.arbitrary_base.proofs.bit_lists.Rotation.{reverse-alike}
use Rattle.arbitrary_base.proofs.storages.Primitive.{unsigned-in_range}
use Rattle.arbitrary_base.proofs.bit_lists.StdBitwise.{and-plain, not-unsigned, or-plain}
use Rattle.arbitrary_base.proofs.operations.Definition.{and-is, bits-zero, by-bits, left-is, not-in_range, not-is, or-is, reversed-is}
use Rattle.arbitrary_base.proofs.operations.BitsAndSums.{or-in_range}
use Rattle.arbitrary_base.proofs.operations.RotateAndReverse.{reversed-shifted_left}
use Rattle.arbitrary_base.proofs.operations.Shift.{shifted_right-is_shr}
use Rattle.arbitrary_base.proofs.operations.ShiftAsProduct.{shl-stays}

below : (B : ℕ) (x : ℤ) → InRange false B x → unsigned_abs x < 2 ^ B
below B (pos n) f = let t = f.high in let o = pow_pos B in omega (arith, ints)
below B (negsuc n) f = let l = f.low in absurd (omega (arith, ints))

pub left-of_one : (B k : ℕ) → k < B → shifted_left false B (pos 1) k ≡ pos (2 ^ k)
left-of_one B k g =
    let b = pow_below k B g in
    let f : InRange false B (pos 1 *ℤ pos (2 ^ k)) = record { low = omega (arith, ints); high = omega (arith, ints) } in
    let e : pos 1 *ℤ pos (2 ^ k) ≡ pos (2 ^ k) = omega (arith, ints) in
    shl-stays false B k (pos 1) _ (omega arith) g f (left-is false B (pos 1) k) ∙ e

right-natural : (B k : ℕ) (x : ℤ) → 1 ≤ B → k < B → InRange false B x → shifted_right false B x k ≡ pos (unsigned_abs x / 2 ^ k)
right-natural B k (pos n) h g f = shifted_right-is_shr false B (pos n) k h (omega arith) f
right-natural B k (negsuc n) h g f = let l = f.low in absurd (omega (arith, ints))

and-natural : (B n : ℕ) (x : ℤ) → 1 ≤ B → n < 2 ^ B → InRange false B x → bitwise_and false B x (pos n) ≡ pos (bit_and (unsigned_abs x) n)
and-natural B n x h g f = and-plain false B x (pos n) _ h f (unsigned-in_range B n g) (and-is false B x (pos n)) f.low (omega (arith, ints))

or-natural : (B n : ℕ) (x : ℤ) → 1 ≤ B → n < 2 ^ B → InRange false B x → bitwise_or false B x (pos n) ≡ pos (bit_or (unsigned_abs x) n)
or-natural B n x h g f = or-plain false B x (pos n) _ h f (unsigned-in_range B n g) (or-is false B x (pos n)) f.low (omega (arith, ints))

-- ---- a test by `x & (1 << k)`

pub tested : (B k : ℕ) (x : ℤ) → 1 ≤ B → k < B → InRange false B x → bitwise_and false B x (shifted_left false B (pos 1) k) ≡ pos (bit_at (unsigned_abs x) k * 2 ^ k)
tested B k x h g f =
    ap (bitwise_and false B x) (left-of_one B k g) ∙ and-natural B (2 ^ k) x h (pow_below k B g) f ∙ ap pos (and_pow (unsigned_abs x) k)

either : (b m : ℕ) (z : ℤ) → b < 2 → z ≡ pos (b * m) → ((b ≡ 0) × (z ≡ pos 0)) ⊎ ((b ≡ 1) × (z ≡ pos m))
either zero m z h e = inl (refl, e ∙ ap pos (omega arith))
either (suc zero) m z h e = inr (refl, e ∙ ap pos (omega arith))
either (suc (suc b)) m z h e = absurd (omega arith)

pub and-one_bit : (B k : ℕ) (x : ℤ) → 1 ≤ B → k < B → InRange false B x
    → (bitwise_and false B x (shifted_left false B (pos 1) k) ≡ bitwise_and false B x (shifted_left false B (pos 1) k)) × (1 ≤ 2 ^ k)
    × (((unsigned_abs x / 2 ^ k % 2 ≡ 0) × (bitwise_and false B x (shifted_left false B (pos 1) k) ≡ pos 0))
    ⊎ ((unsigned_abs x / 2 ^ k % 2 ≡ 1) × (bitwise_and false B x (shifted_left false B (pos 1) k) ≡ pos (2 ^ k))))
and-one_bit B k x h g f = (refl, pow_pos k, either (bit_at (unsigned_abs x) k) (2 ^ k) _ (bit_at-lt (unsigned_abs x) k) (tested B k x h g f))

-- ---- a test by `(x >> k) & 1`

pub low-of_right : (B k : ℕ) (x : ℤ) → 1 ≤ B → k < B → InRange false B x → bitwise_and false B (shifted_right false B x k) (pos 1) ≡ pos (unsigned_abs x / 2 ^ k % 2)
low-of_right B k x h g f =
    let b = below B x f in
    let d = div-le_self (unsigned_abs x) (2 ^ k) in
    ap (λ (z : ℤ). bitwise_and false B z (pos 1)) (right-natural B k x h g f)
    ∙ and-natural B 1 (pos (unsigned_abs x / 2 ^ k)) h (pow_below 0 B (omega arith)) (unsigned-in_range B _ (omega arith))
    ∙ ap pos (shr_and_one (unsigned_abs x) k)

pub or-one_bit : (B k : ℕ) (x : ℤ) → 1 ≤ B → k < B → InRange false B x → bitwise_or false B x (shifted_left false B (pos 1) k) ≡ pos (bit_or (unsigned_abs x) (2 ^ k))
or-one_bit B k x h g f = ap (bitwise_or false B x) (left-of_one B k g) ∙ or-natural B (2 ^ k) x h (pow_below k B g) f

pub low-of_right_set : (B k : ℕ) (x : ℤ) → 1 ≤ B → k < B → InRange false B x
    → bitwise_and false B (shifted_right false B (bitwise_or false B x (shifted_left false B (pos 1) k)) k) (pos 1) ≡ pos 1
low-of_right_set B k x h g f =
    let n = unsigned_abs x in
    let top : max (bit_at n k) (bit_at (2 ^ k) k) ≡ 1 = omega (arith, bit_at-lt n k, bit_at-pow_same k) in
    low-of_right B k _ h g (or-in_range false B x (shifted_left false B (pos 1) k) h) ∙ ap (λ (z : ℤ). pos (unsigned_abs z / 2 ^ k % 2)) (or-one_bit B k x h g f)
    ∙ ap pos (bit_at_or n (2 ^ k) k ∙ top)

-- ---- the complement, tested

-- a quotient by K of what n lacks to the number before 2 * M * K
quotient-of_rest : (K M n q r : ℕ) → n ≡ q * K + r → r < K → q < 2 * M → (2 * M * K - 1 - n) / K ≡ 2 * M - 1 - q
quotient-of_rest K M n q r e l h =
    let t : (2 * M - 1 - q + 1 + q) * K ≡ 2 * M * K = ap (λ (i : ℕ). i * K) (omega arith) in
    div-eq_of_lt-le K (omega arith) (omega arith)

pub low-of_right_not : (B k : ℕ) (x : ℤ) → 1 ≤ B → k < B → InRange false B x
    → bitwise_and false B (shifted_right false B (bitwise_not false B x) k) (pos 1) ≡ pos 1 -ℤ bitwise_and false B (shifted_right false B x k) (pos 1)
low-of_right_not B k x h g f =
    let n = unsigned_abs x in
    let m = 2 ^ (B - k - 1) in
    let b = below B x f in
    let l = f.low in
    let p = pos-unsigned_abs x l in
    let d = not-unsigned false B x _ refl h f (not-is false B x) in
    let e : 2 ^ B ≡ 2 * m * 2 ^ k = pow_split k B (omega arith) ∙ ap (λ (i : ℕ). i * 2 ^ k) (pow_half (B - k) (omega arith)) in
    let a : unsigned_abs (bitwise_not false B x) ≡ 2 * m * 2 ^ k - 1 - n = ap unsigned_abs d ∙ (grind (arith, p, b, e)) in
    let c : n / 2 ^ k < 2 ^ (B - k) = shr_lt (B - k) k (subst (λ (i : ℕ). n < 2 ^ i) (omega arith) b) in
    let small : n / 2 ^ k < 2 * m = let t = pow_half (B - k) (omega arith) in omega arith in
    let q = quotient-of_rest (2 ^ k) m n (n / 2 ^ k) (n % 2 ^ k) (sym (div-add-mod' n (2 ^ k))) (mod-lt n (pow_pos k)) small in
    low-of_right B k (bitwise_not false B x) h g (not-in_range false B x h)
    ∙ ap (λ (i : ℕ). pos (i % 2)) (ap (λ (i : ℕ). i / 2 ^ k) a ∙ q)
    ∙ (let w : pos ((2 * m - 1 - n / 2 ^ k) % 2) ≡ pos 1 -ℤ pos (n / 2 ^ k % 2) = omega (arith, ints) in w)
    ∙ ap (λ (z : ℤ). pos 1 -ℤ z) (sym (low-of_right B k x h g f))

-- ---- reversed

list-of_one : (n : ℕ) → bits (suc n) (pos 1) ≡ true ∷ replicate n false
unfolding bits
list-of_one n = ap (λ (l : List Bool). true ∷ l) (bits-zero n)

one-turned : (n : ℕ) → reverse (true ∷ replicate n false) ≡ shl (true ∷ replicate n false) n
one-turned n =
    let e : suc (length (replicate n false)) - n ≡ 1 = let r = length-replicate n false in omega (arith, r) in
    reverse-cons true (replicate n false) ∙ ap (λ (l : List Bool). l ++ true ∷ []) (reverse-alike n false)
    ∙ ap (λ (i : ℕ). replicate n false ++ take i (true ∷ replicate n false)) (sym e)

pub reversed-one : (B : ℕ) → 1 ≤ B → reversed false B (pos 1) ≡ pos (2 ^ (B - 1))
reversed-one zero h = absurd (omega arith)
reversed-one (suc n) h =
    by-bits _ _ _ _ _ (reversed-is false (suc n) (pos 1)) (left-is false (suc n) (pos 1) n)
    (ap reverse (list-of_one n) ∙ one-turned n ∙ ap (λ (l : List Bool). shl l n) (sym (list-of_one n)))
    ∙ left-of_one (suc n) n (omega arith) ∙ ap (λ (i : ℕ). pos (2 ^ i)) (omega arith)

pub reversed-one_bit : (B k : ℕ) → k < B → reversed false B (shifted_left false B (pos 1) k) ≡ shifted_left false B (pos 1) (B - 1 - k)
reversed-one_bit B k g =
    let p = pow_pos k in
    let e = pow_split k (B - 1) (omega arith) in
    let d : 2 ^ (B - 1) / 2 ^ k ≡ 2 ^ (B - 1 - k) = div-eq_of_lt-le (2 ^ k) (omega arith) (omega arith) in
    reversed-shifted_left B (pos 1) k (omega arith) ∙ ap (λ (z : ℤ). shifted_right false B z k) (reversed-one B (omega arith))
    ∙ right-natural B k (pos (2 ^ (B - 1))) (omega arith) g (unsigned-in_range B _ (pow_below (B - 1) B (omega arith))) ∙ ap pos d
    ∙ sym (left-of_one B (B - 1 - k) (omega arith))
