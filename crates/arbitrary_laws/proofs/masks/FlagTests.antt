-- A number under a constant mask with several ones, compared with a constant: each one of the mask is compared
-- alone. So a test of several flags is a test of each flag, by its place. Callers name the set `flag_tests`.
use Rattle.std.specs.Int.Bits.{and_self, bit_and}
use Rattle.std.specs.Ordering.{int_eq}
use Rattle.std.specs.Prelude.{Bool, false, not, pos, suc, true, unsigned_abs, ℕ, ℤ, ◌%◌, ◌&&◌, ◌*ℤ◌, ◌*◌, ◌+ℤ◌, ◌+◌, ◌/◌, ◌<◌, ◌^◌, ◌≡◌, ◌≤ℤ◌, ◌≤◌}
use Rattle.std.proofs.Common.{ap, ap₂, arith, div-add-mod', mod-lt, refl, sym, ◌∙◌}
use Rattle.std.proofs.Math.Nat.{div-eq_of_lt-le}
use Rattle.std.proofs.lemmas.Bool.Decides.{Decides-int_eq, same_from_decides}
use Rattle.std.proofs.lemmas.Grind.{low_zeros}
use Rattle.std.proofs.lemmas.Int.{ints}
use Rattle.std.proofs.lemmas.Nat.{and_block, and_comm, and_le_r, pow_pos}
use Rattle.arbitrary_base.specs.Operation.{bitwise_and, bitwise_or, shifted_left}
use Rattle.arbitrary_base.specs.Range.{InRange, hi}
use Rattle.arbitrary_base.proofs.bit_lists.StdBitwise.{and-plain}
use Rattle.arbitrary_base.proofs.operations.BitsAndSums.{and-in_range}
use Rattle.arbitrary_base.proofs.operations.Bitwise.{bitwise_and-commutes}
use Rattle.arbitrary_base.proofs.operations.Definition.{and-is, left-is, zero-in_range}
use Rattle.arbitrary_base.proofs.operations.KnownMask.{and-within}
use Rattle.arbitrary_base.proofs.operations.ShiftAsProduct.{shl-stays}
use Rattle.arbitrary_laws.proofs.bits.Identities.{and-distributes_or, bitwise_and-associates, bitwise_and-zero}
use Rattle.arbitrary_laws.proofs.masks.NumberUnderMask.{or-by_and}
use Rattle.arbitrary_base.proofs.operations.BitByBit.{bit, bit-and, bit-not, bit-or, bit-xor}
use Rattle.arbitrary_laws.proofs.places.BitPlaces.{bit-written, clear-by_mask, clear-by_shift, set-by_mask, set-by_shift}

and-none : (m : ℕ) → bit_and m 0 ≡ 0
and-none m = omega (arith, and_le_r m 0)

no-bit_shared : (a r k : ℕ) → r < 2 ^ k → bit_and (a * 2 ^ k) r ≡ 0
no-bit_shared a r k h =
    ap₂ bit_and (let e : a * 2 ^ k ≡ a * 2 ^ k + 0 = omega arith in e) (let e : r ≡ 0 * 2 ^ k + r = omega arith in e)
    ∙ and_block k a 0 0 r (pow_pos k) h
    ∙ omega (arith, ap (λ (i : ℕ). i * 2 ^ k) (and-none a), and_comm 0 r, and-none r)

upper-within : (a r k : ℕ) → r < 2 ^ k → bit_and (a * 2 ^ k + r) (a * 2 ^ k) ≡ a * 2 ^ k
upper-within a r k h =
    ap (bit_and (a * 2 ^ k + r)) (let e : a * 2 ^ k ≡ a * 2 ^ k + 0 = omega arith in e) ∙ and_block k a a r 0 h (pow_pos k)
    ∙ omega (arith, ap (λ (i : ℕ). i * 2 ^ k) (and_self a), and-none r)

multiple : (w a k : ℕ) → bit_and w (a * 2 ^ k) ≡ bit_and (w / 2 ^ k) a * 2 ^ k
multiple w a k =
    ap₂ bit_and (sym (div-add-mod' w (2 ^ k))) (let e : a * 2 ^ k ≡ a * 2 ^ k + 0 = omega arith in e)
    ∙ and_block k (w / 2 ^ k) a (w % 2 ^ k) 0 (mod-lt w (pow_pos k)) (pow_pos k) ∙ omega (arith, and-none (w % 2 ^ k))

-- a mask n in two parts at place t
module _ (s : Bool) (B n t : ℕ) (x : ℤ) (some : 1 ≤ B) (fits : pos n ≤ℤ hi s B) where
  abbrev upper : ℕ
  upper = n / 2 ^ t * 2 ^ t

  abbrev lower : ℕ
  lower = n % 2 ^ t

  parts : upper + lower ≡ n
  parts = div-add-mod' n (2 ^ t)

  within : (m : ℕ) → m ≤ n → InRange s B (pos m)
  within m h = let z = zero-in_range s B in let l = z.low in record { low = omega (arith, ints); high = omega (arith, ints) }

  none : bitwise_and s B (pos upper) (pos lower) ≡ pos 0
  none =
      and-plain s B (pos upper) (pos lower) _ some (within upper (omega (arith, parts))) (within lower (omega (arith, parts))) (and-is s B (pos upper) (pos lower))
      (omega (arith, ints)) (omega (arith, ints))
      ∙ ap pos (no-bit_shared (n / 2 ^ t) lower t (mod-lt n (pow_pos t)))

  joined : bitwise_or s B (pos upper) (pos lower) ≡ pos n
  joined =
      let e = none in
      let p = parts in
      or-by_and s B (pos upper) (pos lower) some (within upper (omega (arith, parts))) (within lower (omega (arith, parts))) ∙ omega (arith, ints)

  apart : bitwise_and s B (bitwise_and s B x (pos upper)) (bitwise_and s B x (pos lower)) ≡ pos 0
  apart =
      bitwise_and-associates s B x (pos upper) _
      ∙ ap (bitwise_and s B x)
      (ap (bitwise_and s B (pos upper)) (bitwise_and-commutes s B x (pos lower)) ∙ sym (bitwise_and-associates s B (pos upper) (pos lower) x)
      ∙ ap (λ (z : ℤ). bitwise_and s B z x) none ∙ bitwise_and-commutes s B (pos 0) x ∙ bitwise_and-zero s B x some)
      ∙ bitwise_and-zero s B x some

  in-parts : bitwise_and s B x (pos n) ≡ bitwise_and s B x (pos upper) +ℤ bitwise_and s B x (pos lower)
  in-parts =
      let a = apart in
      ap (bitwise_and s B x) (sym joined) ∙ and-distributes_or s B x (pos upper) (pos lower)
      ∙ or-by_and s B (bitwise_and s B x (pos upper)) (bitwise_and s B x (pos lower)) some (and-in_range s B x (pos upper) some) (and-in_range s B x (pos lower) some)
      ∙ omega (arith, ints)

  -- what is under the upper part is a multiple
  upper-multiple : (m : ℕ) × (bitwise_and s B x (pos upper) ≡ pos (m * 2 ^ t))
  upper-multiple =
      let w = and-within s B n x some fits in
      let u : bitwise_and s B (pos n) (pos upper) ≡ pos upper =
      and-plain s B (pos n) (pos upper) _ some (within n (omega arith)) (within upper (omega (arith, parts))) (and-is s B (pos n) (pos upper)) (omega (arith, ints)) (omega (arith, ints))
      ∙ ap (λ (i : ℕ). pos (bit_and i upper)) (sym parts) ∙ ap pos (upper-within (n / 2 ^ t) lower t (mod-lt n (pow_pos t))) in
      let l = w.2 in (
        bit_and (w.0 / 2 ^ t) (n / 2 ^ t),
        ap (bitwise_and s B x) (sym u) ∙ sym (bitwise_and-associates s B x (pos n) (pos upper)) ∙ ap (λ (z : ℤ). bitwise_and s B z (pos upper)) w.1
            ∙ and-plain s B (pos w.0) (pos upper) _ some (within w.0 w.2) (within upper (omega (arith, parts))) (and-is s B (pos w.0) (pos upper)) (omega (arith, ints)) (omega (arith, ints))
            ∙ ap pos (multiple w.0 (n / 2 ^ t) t),
      )

  compared : (v : ℕ) → int_eq (bitwise_and s B x (pos n)) (pos v)
      ≡ (int_eq (bitwise_and s B x (pos upper)) (pos (v / 2 ^ t * 2 ^ t)) && int_eq (bitwise_and s B x (pos lower)) (pos (v % 2 ^ t)))
  compared v =
      let a = upper-multiple in
      let b = and-within s B lower x some (let p = parts in omega (arith, ints)) in
      let g = b.2 in
      let l : b.0 < 2 ^ t = omega (arith, mod-lt n (pow_pos t)) in
      let whole : bitwise_and s B x (pos n) ≡ pos (a.0 * 2 ^ t + b.0) = in-parts ∙ ap₂ (λ (y z : ℤ). y +ℤ z) a.1 b.1 ∙ omega (arith, ints) in
      ap (λ (z : ℤ). int_eq z (pos v)) whole
      ∙ test a.0 b.0 (v / 2 ^ t) (v % 2 ^ t) v (2 ^ t) l (mod-lt v (pow_pos t)) (sym (div-add-mod' v (2 ^ t)))
      ∙ ap₂ (λ (y z : ℤ). int_eq y (pos (v / 2 ^ t * 2 ^ t)) && int_eq z (pos (v % 2 ^ t))) (sym a.1) (sym b.1)
    where
      both : (p q : Bool) → (p && q) ≡ true → (p ≡ true) × (q ≡ true)
      both true true e = (refl, refl)
      both true false e = absurd (cc)
      both false q e = absurd (cc)

      same-part : (a b c d K : ℕ) → a * K + b ≡ c * K + d → b < K → d < K → (a * K ≡ c * K) × (b ≡ d)
      same-part a b c d K e h g = let r = parts-equal a b c d K e h g in (ap (λ (i : ℕ). i * K) r, (let m = ap (λ (i : ℕ). i * K) r in omega arith))
        where
          parts-equal : (a b c d K : ℕ) → a * K + b ≡ c * K + d → b < K → d < K → a ≡ c
          parts-equal a b c d K e h g = sym (div-eq_of_lt-le K (omega arith) (let m : suc a * K ≡ a * K + K = omega arith in omega arith)) ∙ ap (λ (i : ℕ). i / K) e ∙ div-eq_of_lt-le K (omega arith) (let m : suc c * K ≡ c * K + K = omega arith in omega arith)

      test : (a b c d v K : ℕ) → b < K → d < K → v ≡ c * K + d → int_eq (pos (a * K + b)) (pos v) ≡ (int_eq (pos (a * K)) (pos (c * K)) && int_eq (pos b) (pos d))
      test a b c d v K h g e =
          sym (same_from_decides _ _ (
            λ t.
                let w = both _ _ t in
                let p = (Decides-int_eq (pos (a * K)) (pos (c * K))).0 w.0 in
                let q = (Decides-int_eq (pos b) (pos d)).0 w.1 in
                omega (arith, ints),
            λ (f : pos (a * K + b) ≡ pos v).
                let r = same-part a b c d K (ap unsigned_abs f ∙ e) h g in
                ap₂ (λ (p q : Bool). p && q) ((Decides-int_eq (pos (a * K)) (pos (c * K))).1 (ap pos r.0)) ((Decides-int_eq (pos b) (pos d)).1 (ap pos r.1)),
          )
          (Decides-int_eq (pos (a * K + b)) (pos v)))

-- the lowest one of the mask, and the others
pub flags-compared : (s : Bool) (B n v : ℕ) (x : ℤ) → 1 ≤ B → pos n ≤ℤ hi s B → 1 ≤ n / 2 ^ (low_zeros 128 n + 1)
    → int_eq (bitwise_and s B x (pos n)) (pos v)
    ≡ (int_eq (bitwise_and s B x (pos (n / 2 ^ (low_zeros 128 n + 1) * 2 ^ (low_zeros 128 n + 1)))) (pos (v / 2 ^ (low_zeros 128 n + 1) * 2 ^ (low_zeros 128 n + 1)))
    && int_eq (bitwise_and s B x (pos (n % 2 ^ (low_zeros 128 n + 1)))) (pos (v % 2 ^ (low_zeros 128 n + 1))))
flags-compared s B n v x some fits more = compared s B n (low_zeros 128 n + 1) x some fits v

-- ---- one flag that is written out

not-twice : (b : Bool) → b ≡ not (not b)
not-twice true = refl
not-twice false = refl

module _ (s : Bool) (B n : ℕ) (x : ℤ) (fits : pos n ≤ℤ hi s B) (alone : n ≡ 2 ^ low_zeros 128 n) (place : low_zeros 128 n < B) where
  one-written : shifted_left s B (pos 1) (low_zeros 128 n) ≡ pos n
  one-written =
      let k = low_zeros 128 n in
      let e : pos 1 *ℤ pos (2 ^ k) ≡ pos n = omega (arith, ints) in
      let z = zero-in_range s B in
      let l = z.low in
      let f : InRange s B (pos 1 *ℤ pos (2 ^ k)) = record { low = omega (arith, ints); high = omega (arith, ints) } in
      shl-stays s B k (pos 1) _ (omega arith) place f (left-is s B (pos 1) k) ∙ e

  pub set-by_flag : int_eq (bitwise_and s B x (pos n)) (pos n) ≡ bit B x (low_zeros 128 n)
  set-by_flag = ap (λ (z : ℤ). int_eq (bitwise_and s B x z) z) (sym one-written) ∙ set-by_mask s B (low_zeros 128 n) x place

  pub clear-by_flag : int_eq (bitwise_and s B x (pos n)) (pos 0) ≡ not (bit B x (low_zeros 128 n))
  clear-by_flag = ap (λ (z : ℤ). int_eq (bitwise_and s B x z) (pos 0)) (sym one-written) ∙ clear-by_mask s B (low_zeros 128 n) x place

  -- so one test decides the other, with no case
  pub set-unless_clear : int_eq (bitwise_and s B x (pos n)) (pos n) ≡ not (int_eq (bitwise_and s B x (pos n)) (pos 0))
  set-unless_clear = set-by_flag ∙ not-twice (bit B x (low_zeros 128 n)) ∙ ap not (sym clear-by_flag)

-- flags by written masks and by shifts, from the bits at their places
pub ruleset flag_tests = (flags-compared, set-by_flag, clear-by_flag, set-by_shift, clear-by_shift, bit-or, bit-and, bit-xor, bit-not, bit-written)

-- one flag that is tested in two ways
pub ruleset one_flag = (Decides-int_eq, set-unless_clear)
