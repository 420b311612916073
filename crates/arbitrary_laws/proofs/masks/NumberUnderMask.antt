-- A number under a constant mask: it is at most the mask, a multiple, and a sum of its digits. Bits that are
-- cleared and set under it stay so. WrittenMask.antt has the mask of the complement of a constant, and
-- MaskDigits.antt the quotients and remainders of the sum.
use Rattle.std.specs.Bool.{beq}
use Rattle.std.specs.Int.{int_rem_euclid}
use Rattle.std.specs.Int.Bits.{bit_and}
use Rattle.std.specs.Prelude.{Bool, false, int_lt, negsuc, not, pos, true, unsigned_abs, ℕ, ℤ, ◌%◌, ◌&&◌, ◌*◌, ◌+ℤ◌, ◌+◌, ◌-ℤ◌, ◌-◌, ◌/◌, ◌<◌, ◌^◌, ◌||◌, ◌≡◌, ◌≤ℤ◌, ◌≤◌}
use Rattle.std.proofs.Common.{ap, ap₂, arith, div-add-mod', mod-eq_of_lt, mod-lt, pow-add, refl, subst, sym, ◌∙◌}
use Rattle.std.proofs.Math.Nat.{div-div-eq-div-mul}
use Rattle.std.proofs.lemmas.Grind.{bit_length, low_zeros}
use Rattle.std.proofs.lemmas.Int.{ints}
use Rattle.std.proofs.lemmas.Nat.{pow_pos}
use Rattle.std.proofs.lemmas.Nat.Bits.{and_high}
use Rattle.arbitrary_base.specs.BitList.{bits, num}
use Rattle.arbitrary_base.specs.Operation.{bitwise_and, bitwise_not, bitwise_or, bitwise_xor}
use Rattle.arbitrary_base.specs.Range.{InRange, hi}
use Rattle.arbitrary_base.specs.Residue.{Congruent}
use Rattle.arbitrary_base.proofs.bit_lists.Pointwise.{pointwise}
use Rattle.arbitrary_base.proofs.bit_lists.StdBitwise.{not-signed, num-plain}
use Rattle.arbitrary_base.proofs.bit_lists.UnsignedNumber.{digit, length-bits, num-lt_of, same_length}
use Rattle.arbitrary_base.proofs.modular.Congruence.{Apart-from_congruent, Congruent-by_times, Congruent-from_apart, Congruent-narrower, Congruent-trans, pow_half}
use Rattle.arbitrary_base.proofs.modular.Residue.{congruent-same}
use Rattle.arbitrary_base.proofs.operations.BitsAndSums.{and-in_range, natural, num-or_and, num-xor_and, or-above, or-in_range, plain, xor-in_range}
use Rattle.arbitrary_base.proofs.operations.Bitwise.{bitwise_and-commutes, bitwise_or-commutes}
use Rattle.arbitrary_base.proofs.operations.Definition.{bits-and, bits-or, bits-xor, not-is}
use Rattle.arbitrary_base.proofs.operations.KnownMask.{and-congruent, and-natural, and-within}
use Rattle.arbitrary_base.proofs.storages.Primitive.{unsigned-in_range}
use Rattle.arbitrary_laws.proofs.bits.Identities.{and-absorbs, bitwise_and-associates, bitwise_and-complement, bitwise_and-same, bitwise_and-zero}
use Rattle.arbitrary_laws.proofs.bits.Parts.{and_not-is_xor}
use Rattle.arbitrary_laws.proofs.orders.Order.{sign-pointwise}

-- ---- `|`, `^` and `& !` by `&`, exactly

-- what the bits of a number with a sign spell, by whether it is below 0
spelled : (B : ℕ) (x : ℤ) (b : Bool) → 1 ≤ B → InRange true B x → int_lt x (pos 0) ≡ b → x +ℤ pos (digit b * 2 ^ B) ≡ pos (num (bits B x))
spelled B x true h f e =
    let l = f.low in
    let t = f.high in
    let p = pow_half B h in
    let o = pow_pos (B - 1) in
    let c : Congruent B (x +ℤ pos (2 ^ B)) x = Congruent-by_times B _ _ (pos 1) (omega (arith, ints)) in
    let r : InRange false B (x +ℤ pos (2 ^ B)) = record { low = omega (arith, ints); high = grind (arith, ints) } in
    let u = unsigned-in_range B (num (bits B x)) (num-lt_of B (bits B x) (length-bits B x)) in
    let d : x +ℤ pos (2 ^ B) ≡ pos (num (bits B x)) = congruent-same false B _ _ h r u (Congruent-trans B _ x _ c (natural B x)) in
    omega (arith, ints)
spelled B x false h f e =
    let z : pos 0 ≤ℤ x = grind (arith, ints) in
    let d = num-plain true B x f z in
    omega (arith, ints)

-- what is known of the numbers that are made of x and y bit by bit
module _ (B : ℕ) (x y : ℤ) (a b : Bool) (h : 1 ≤ B) (f : InRange true B x) (g : InRange true B y) (p : int_lt x (pos 0) ≡ a) (q : int_lt y (pos 0) ≡ b) where
  combined : (op : Bool → Bool → Bool) (z : ℤ) → op false false ≡ false → InRange true B z → bits B z ≡ pointwise op (bits B x) (bits B y)
      → z +ℤ pos (digit (op a b) * 2 ^ B) ≡ pos (num (pointwise op (bits B x) (bits B y)))
  combined op z n k e = spelled B z (op a b) h k (sign-pointwise op B x y z n h f g k e ∙ ap₂ op p q) ∙ ap (λ l. pos (num l)) e

-- signs a and b, and by them the numbers x, y, their `|` or `^`, and their `&`
or-signs : (a b : Bool) (m p q i j : ℕ) (x y z w : ℤ) → i + j ≡ p + q → x +ℤ pos (digit a * m) ≡ pos p → y +ℤ pos (digit b * m) ≡ pos q
    → z +ℤ pos (digit (a || b) * m) ≡ pos i → w +ℤ pos (digit (a && b) * m) ≡ pos j → z ≡ x +ℤ y -ℤ w
or-signs true true m p q i j x y z w e f g h k = omega (arith, ints)
or-signs true false m p q i j x y z w e f g h k = omega (arith, ints)
or-signs false true m p q i j x y z w e f g h k = omega (arith, ints)
or-signs false false m p q i j x y z w e f g h k = omega (arith, ints)

xor-signs : (a b : Bool) (m p q i j : ℕ) (x y z w : ℤ) → i + j + j ≡ p + q → x +ℤ pos (digit a * m) ≡ pos p → y +ℤ pos (digit b * m) ≡ pos q
    → z +ℤ pos (digit (not (beq a b)) * m) ≡ pos i → w +ℤ pos (digit (a && b) * m) ≡ pos j → z ≡ x +ℤ y -ℤ w -ℤ w
xor-signs true true m p q i j x y z w e f g h k = omega (arith, ints)
xor-signs true false m p q i j x y z w e f g h k = omega (arith, ints)
xor-signs false true m p q i j x y z w e f g h k = omega (arith, ints)
xor-signs false false m p q i j x y z w e f g h k = omega (arith, ints)

pub or-by_and : (s : Bool) (B : ℕ) (x y : ℤ) → 1 ≤ B → InRange s B x → InRange s B y → bitwise_or s B x y ≡ x +ℤ y -ℤ bitwise_and s B x y
or-by_and false B x y h f g =
    let a = plain B x f in
    let b = plain B y g in
    let c = plain B (bitwise_or false B x y) (or-in_range false B x y h) in
    let d = plain B (bitwise_and false B x y) (and-in_range false B x y h) in
    let i = ap num (bits-or false B x y) in
    let j = ap num (bits-and false B x y) in
    let e = num-or_and (bits B x) (bits B y) (same_length B x y) in
    omega (arith, ints)
or-by_and true B x y h f g =
    let a = int_lt x (pos 0) in
    let b = int_lt y (pos 0) in
    or-signs a b (2 ^ B) _ _ _ _ x y _ _ (num-or_and (bits B x) (bits B y) (same_length B x y)) (spelled B x a h f refl) (spelled B y b h g refl)
    (combined B x y a b h f g refl refl (λ c d. c || d) _ refl (or-in_range true B x y h) (bits-or true B x y))
    (combined B x y a b h f g refl refl (λ c d. c && d) _ refl (and-in_range true B x y h) (bits-and true B x y))

pub xor-by_and : (s : Bool) (B : ℕ) (x y : ℤ) → 1 ≤ B → InRange s B x → InRange s B y
    → bitwise_xor s B x y ≡ x +ℤ y -ℤ bitwise_and s B x y -ℤ bitwise_and s B x y
xor-by_and false B x y h f g =
    let a = plain B x f in
    let b = plain B y g in
    let c = plain B (bitwise_xor false B x y) (xor-in_range false B x y h) in
    let d = plain B (bitwise_and false B x y) (and-in_range false B x y h) in
    let i = ap num (bits-xor false B x y) in
    let j = ap num (bits-and false B x y) in
    let e = num-or_and (bits B x) (bits B y) (same_length B x y) in
    let k = num-xor_and (bits B x) (bits B y) (same_length B x y) in
    omega (arith, ints)
xor-by_and true B x y h f g =
    let a = int_lt x (pos 0) in
    let b = int_lt y (pos 0) in
    let e = num-or_and (bits B x) (bits B y) (same_length B x y) in
    let k = num-xor_and (bits B x) (bits B y) (same_length B x y) in
    xor-signs a b (2 ^ B) _ _ _ _ x y _ _ (omega arith) (spelled B x a h f refl) (spelled B y b h g refl)
    (combined B x y a b h f g refl refl (λ c d. not (beq c d)) _ refl (xor-in_range true B x y h) (bits-xor true B x y))
    (combined B x y a b h f g refl refl (λ c d. c && d) _ refl (and-in_range true B x y h) (bits-and true B x y))

pub and-by_complement : (s : Bool) (B : ℕ) (x y : ℤ) → 1 ≤ B → InRange s B x → bitwise_and s B x (bitwise_not s B y) ≡ x -ℤ bitwise_and s B x y
and-by_complement s B x y h f =
    let a : bitwise_and s B x (bitwise_and s B x y) ≡ bitwise_and s B x y =
    sym (bitwise_and-associates s B x x y) ∙ ap (λ (z : ℤ). bitwise_and s B z y) (bitwise_and-same s B x h f) in
    let e = and_not-is_xor s B x y in
    let d = xor-by_and s B x (bitwise_and s B x y) h f (and-in_range s B x y h) in
    omega (arith, ints)

-- a mask with a sign that is written out as a negative number is the complement of one that is not
pub and-by_negative : (B n : ℕ) (x : ℤ) → 1 ≤ B → InRange true B x → pos n ≤ℤ hi true B → bitwise_and true B x (negsuc n) ≡ x -ℤ bitwise_and true B x (pos n)
and-by_negative B n x h f g =
    let p = pow_pos (B - 1) in
    let r : InRange true B (pos n) = record { low = omega (arith, ints); high = g } in
    let e = not-signed true B (pos n) _ refl h r (not-is true B (pos n)) in
    let d : bitwise_not true B (pos n) ≡ negsuc n = omega (arith, ints) in
    ap (bitwise_and true B x) (sym d) ∙ and-by_complement true B x (pos n) h f

-- ---- a mask that is not below 0

pub and-below : (B : ℕ) (x y : ℤ) → 1 ≤ B → InRange false B x → InRange false B y
    → (pos 0 ≤ℤ bitwise_and false B x y) × (bitwise_and false B x y ≤ℤ x) × (bitwise_and false B x y ≤ℤ y)
and-below B x y h f g =
    let r = and-in_range false B x y h in
    let a = or-by_and false B x y h f g in
    let b = or-above B x y h f in
    let c = or-above B y x h g in
    let d = bitwise_or-commutes false B x y in
    let l = r.low in
    (l, omega (arith, ints), omega (arith, ints))

less : (k : ℕ) (x a : ℤ) → Congruent k a x → Congruent k (x -ℤ a) (pos 0)
less k x a c =
    let p = Apart-from_congruent k a x c in
    let e = p.2 in
    Congruent-from_apart k (x -ℤ a) (pos 0) (p.1, p.0, omega (arith, ints))

-- the complement of such a mask leaves a multiple
pub and-multiple : (s : Bool) (B n : ℕ) (x : ℤ) → 1 ≤ B → InRange s B x → pos n ≤ℤ hi s B → low_zeros 128 (n + 1) ≤ B → n % 2 ^ low_zeros 128 (n + 1) + 1 ≡ 2 ^ low_zeros 128 (n + 1)
    → Congruent (low_zeros 128 (n + 1)) (bitwise_and s B x (bitwise_not s B (pos n))) (pos 0)
and-multiple s B n x h i f g e =
    let k = low_zeros 128 (n + 1) in
    subst (λ (z : ℤ). Congruent k z (pos 0)) (sym (and-by_complement s B x (pos n) h i)) (less k x _ (and-congruent s B n x h f g e))

pub and-multiple_by_negative : (B n : ℕ) (x : ℤ) → 1 ≤ B → InRange true B x → pos n ≤ℤ hi true B → low_zeros 128 (n + 1) ≤ B → n % 2 ^ low_zeros 128 (n + 1) + 1 ≡ 2 ^ low_zeros 128 (n + 1)
    → Congruent (low_zeros 128 (n + 1)) (bitwise_and true B x (negsuc n)) (pos 0)
and-multiple_by_negative B n x h i f g e =
    let k = low_zeros 128 (n + 1) in
    subst (λ (z : ℤ). Congruent k z (pos 0)) (sym (and-by_negative B n x h i f)) (less k x _ (and-congruent true B n x h f g e))

and-of_run : (N n k t : ℕ) → k ≤ t → n + 2 ^ k ≡ 2 ^ t → bit_and N n ≡ N / 2 ^ k % 2 ^ (t - k) * 2 ^ k
and-of_run N n k t l e =
    let top : t ≡ (t - k) + k = omega arith in
    let mask : n ≡ 2 ^ ((t - k) + k) - 2 ^ k = (let m : n ≡ 2 ^ t - 2 ^ k = omega arith in m) ∙ ap (λ (i : ℕ). 2 ^ i - 2 ^ k) top in
    ap (bit_and N) mask ∙ and_high N (t - k) k

-- a number in three parts
three_parts : (N j k : ℕ) → N ≡ N / 2 ^ (j + k) * 2 ^ (j + k) + (N / 2 ^ k % 2 ^ j * 2 ^ k + N % 2 ^ k)
three_parts N j k =
    let e : N / 2 ^ k / 2 ^ j ≡ N / 2 ^ (j + k) = div-div-eq-div-mul N (2 ^ k) (2 ^ j) ∙ ap (λ (i : ℕ). N / i) (let c : 2 ^ k * 2 ^ j ≡ 2 ^ j * 2 ^ k = omega arith in c ∙ sym (pow-add 2 j k)) in
    let low = div-add-mod' N (2 ^ k) in
    let high = div-add-mod' (N / 2 ^ k) (2 ^ j) in
    let a : N / 2 ^ k * 2 ^ k ≡ N / 2 ^ (j + k) * 2 ^ (j + k) + N / 2 ^ k % 2 ^ j * 2 ^ k =
    ap (λ (i : ℕ). i * 2 ^ k) (sym high ∙ ap (λ (i : ℕ). i * 2 ^ j + N / 2 ^ k % 2 ^ j) e) ∙ regroup (N / 2 ^ (j + k)) (2 ^ j) (N / 2 ^ k % 2 ^ j) (2 ^ k)
    ∙ ap (λ (i : ℕ). N / 2 ^ (j + k) * i + N / 2 ^ k % 2 ^ j * 2 ^ k) (sym (pow-add 2 j k)) in
    omega arith
  where
    regroup : (x m y d : ℕ) → (x * m + y) * d ≡ x * (m * d) + y * d
    regroup x m y d = grind arith

-- a mask whose ones are adjacent keeps a field in place
pub and-digits : (B n : ℕ) (x : ℤ) → 1 ≤ B → InRange false B x → pos n ≤ℤ hi false B → low_zeros 128 n ≤ bit_length 128 n → n + 2 ^ low_zeros 128 n ≡ 2 ^ bit_length 128 n
    → bitwise_and false B x (pos n) ≡ pos (unsigned_abs x / 2 ^ low_zeros 128 n % 2 ^ (bit_length 128 n - low_zeros 128 n) * 2 ^ low_zeros 128 n)
and-digits B n x h f g l e =
    let k = low_zeros 128 n in
    let j = bit_length 128 n - k in
    and-natural false B n x h g ∙ ap pos (and-of_run (num (bits B x)) n k (bit_length 128 n) l e)
    ∙ ap (λ (N : ℕ). pos (N / 2 ^ k % 2 ^ j * 2 ^ k)) (num-plain false B x f f.low)

-- the same where there is a sign and x is not below 0
pub and-digits_signed : (B n : ℕ) (x : ℤ) → 1 ≤ B → InRange true B x → pos 0 ≤ℤ x → pos n ≤ℤ hi true B → low_zeros 128 n ≤ bit_length 128 n → n + 2 ^ low_zeros 128 n ≡ 2 ^ bit_length 128 n
    → bitwise_and true B x (pos n) ≡ pos (unsigned_abs x / 2 ^ low_zeros 128 n % 2 ^ (bit_length 128 n - low_zeros 128 n) * 2 ^ low_zeros 128 n)
and-digits_signed B n x h f z g l e =
    let k = low_zeros 128 n in
    let j = bit_length 128 n - k in
    and-natural true B n x h g ∙ ap pos (and-of_run (num (bits B x)) n k (bit_length 128 n) l e)
    ∙ ap (λ (N : ℕ). pos (N / 2 ^ k % 2 ^ j * 2 ^ k)) (num-plain true B x f z)

-- under a mask of low ones a number is its remainder, with or without a sign
pub and-remainder : (s : Bool) (B n : ℕ) (x : ℤ) → 1 ≤ B → pos n ≤ℤ hi s B → low_zeros 128 (n + 1) ≤ B → n + 1 ≡ 2 ^ low_zeros 128 (n + 1)
    → bitwise_and s B x (pos n) ≡ int_rem_euclid x (pos (n + 1))
and-remainder s B n x h f l q =
    let k = low_zeros 128 (n + 1) in
    let c = and-congruent s B n x h f l (omega (arith, mod-eq_of_lt (let i : n < 2 ^ k = omega arith in i))) in
    let w = and-within s B n x h f in
    let small : w.0 % 2 ^ k ≡ w.0 = mod-eq_of_lt (let i = w.2 in omega arith) in
    w.1 ∙ ap pos (sym small) ∙ ap (λ (y : ℤ). int_rem_euclid y (pos (2 ^ k))) (sym w.1) ∙ c.remainders ∙ ap (λ (i : ℕ). int_rem_euclid x (pos i)) (sym q)

-- where there is a sign: z is the field of x, b over it, and r under it
pub and-run : (B n : ℕ) (x : ℤ) → 1 ≤ B → pos n ≤ℤ hi true B → bit_length 128 n ≤ B → low_zeros 128 n ≤ bit_length 128 n → n + 2 ^ low_zeros 128 n ≡ 2 ^ bit_length 128 n
    → (z : ℕ) × (r : ℕ) × (a : ℕ) × (b : ℕ) × (bitwise_and true B x (pos n) ≡ pos (z * 2 ^ low_zeros 128 n)) × (z < 2 ^ (bit_length 128 n - low_zeros 128 n)) × (r < 2 ^ low_zeros 128 n)
    × (x +ℤ pos (a * 2 ^ bit_length 128 n) ≡ pos (b * 2 ^ bit_length 128 n + (z * 2 ^ low_zeros 128 n + r)))
and-run B n x h f g l e =
    let k = low_zeros 128 n in
    let t = bit_length 128 n in
    let N = num (bits B x) in
    let top : (t - k) + k ≡ t = omega arith in
    let c = Apart-from_congruent t x (pos N) (Congruent-narrower t B x (pos N) g (natural B x)) in
    let whole : N ≡ N / 2 ^ t * 2 ^ t + (N / 2 ^ k % 2 ^ (t - k) * 2 ^ k + N % 2 ^ k) =
    three_parts N (t - k) k ∙ ap (λ (i : ℕ). N / 2 ^ i * 2 ^ i + (N / 2 ^ k % 2 ^ (t - k) * 2 ^ k + N % 2 ^ k)) top in
    let apart = c.2 in
    let sum : (c.1 + N / 2 ^ t) * 2 ^ t ≡ c.1 * 2 ^ t + N / 2 ^ t * 2 ^ t = grind arith in (
      N / 2 ^ k % 2 ^ (t - k),
      N % 2 ^ k,
      c.0,
      c.1 + N / 2 ^ t,
      and-natural true B n x h f ∙ ap pos (and-of_run N n k t l e),
      mod-lt (N / 2 ^ k) (pow_pos (t - k)),
      mod-lt N (pow_pos k),
      omega (arith, ints),
    )

-- ---- what was cleared is not there, and what was set is

pub and-of_cleared : (s : Bool) (B : ℕ) (x y : ℤ) → 1 ≤ B → bitwise_and s B (bitwise_and s B x (bitwise_not s B y)) y ≡ pos 0
and-of_cleared s B x y h =
    bitwise_and-associates s B x _ y ∙ ap (bitwise_and s B x) (bitwise_and-commutes s B _ y ∙ bitwise_and-complement s B y h) ∙ bitwise_and-zero s B x h

pub and-of_set : (s : Bool) (B : ℕ) (x y : ℤ) → 1 ≤ B → InRange s B y → bitwise_and s B (bitwise_or s B x y) y ≡ y
and-of_set s B x y h f =
    bitwise_and-commutes s B _ y ∙ ap (bitwise_and s B y) (bitwise_or-commutes s B x y) ∙ and-absorbs s B y x h f
