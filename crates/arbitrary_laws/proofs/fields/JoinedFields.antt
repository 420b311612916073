-- Adjacent fields of a `UInt`, joined by `|`, the high one first: each `|` is a sum, however many there are, and a
-- law for five at once. SideBySide.antt has those of primitives.
use Rattle.std.specs.Prelude.{◌≡◌, ℕ, ℤ, false, pos, negsuc, unsigned_abs, int_rem, ◌+◌, ◌-◌, ◌*◌, ◌/◌, ◌%◌, ◌^◌, ◌≤◌, ◌<◌, ◌≤ℤ◌, ◌<ℤ◌, ◌+ℤ◌, ◌-ℤ◌, ◌*ℤ◌}
use Rattle.std.specs.Int.Bits.{bit_or}
use Rattle.std.proofs.Common.{refl, sym, ap, ap₂, subst, ◌∙◌, arith, pow-add, mul-le-mul_right}
use Rattle.std.proofs.Math.Nat.{mul-mod_left}
use Rattle.std.proofs.lemmas.Int.{ints}
use Rattle.std.proofs.lemmas.Nat.{or_mod, pow_pos}
use Rattle.arbitrary_base.specs.Range.{InRange}
use Rattle.arbitrary_base.specs.Operation.{bitwise_or, shifted_left}
use Rattle.arbitrary_base.proofs.bit_lists.StdBitwise.{or-plain}
use Rattle.arbitrary_base.proofs.modular.Congruence.{pow_le}
use Rattle.arbitrary_base.proofs.operations.BitsAndSums.{or-in_range}
use Rattle.arbitrary_base.proofs.operations.Definition.{left-is, or-is}
use Rattle.arbitrary_base.proofs.operations.ShiftAsProduct.{shl-stays}
use Rattle.arbitrary_laws.proofs.fields.SideBySide.{beside}

module _ (B k : ℕ) (h : 1 ≤ B) (g : k < B) where
  -- a number with no bit below place k, and one with none from there on
  apart : (n m : ℕ) → InRange false B (pos n) → n % 2 ^ k ≡ 0 → m < 2 ^ k → bitwise_or false B (pos n) (pos m) ≡ pos n +ℤ pos m
  apart n m f e l =
      let p : 2 ^ k ≤ 2 ^ B = pow_le k B (omega arith) in
      let i : InRange false B (pos m) = record { low = omega (arith, ints); high = omega (arith, ints, p) } in
      or-plain false B (pos n) (pos m) _ h f i (or-is false B (pos n) (pos m)) (omega (arith, ints)) (omega (arith, ints)) ∙ ap pos (beside n k m e l)

  moved : (y : ℕ) → (pos y *ℤ pos (2 ^ k)) <ℤ pos (2 ^ B) → shifted_left false B (pos y) k ≡ pos (y * 2 ^ k)
  moved y b =
      shl-stays false B k (pos y) _ h g (record { low = omega (arith, ints); high = omega (arith, ints, b) }) (left-is false B (pos y) k)

  -- two fields
  pub joined_first : (y z : ℤ) → pos 0 ≤ℤ y → (y *ℤ pos (2 ^ k)) <ℤ pos (2 ^ B) → pos 0 ≤ℤ z → z <ℤ pos (2 ^ k)
      → bitwise_or false B (shifted_left false B y k) z ≡ y *ℤ pos (2 ^ k) +ℤ z
  joined_first (negsuc y) z a b c d = absurd (omega (arith, ints, a))
  joined_first (pos y) (negsuc z) a b c d = absurd (omega (arith, ints, c))
  joined_first (pos y) (pos z) a b c d =
      ap (λ (v : ℤ). bitwise_or false B v (pos z)) (moved y b)
      ∙ apart (y * 2 ^ k) z (record { low = omega (arith, ints); high = omega (arith, ints, b) }) (mul-mod_left y (2 ^ k)) (omega (arith, ints, d))

  -- one more below them
  pub joined_next : (u y z : ℤ) → InRange false B u → int_rem u (pos (2 ^ k)) ≡ pos 0 → pos 0 ≤ℤ y → (y *ℤ pos (2 ^ k)) <ℤ pos (2 ^ B) → pos 0 ≤ℤ z → z <ℤ pos (2 ^ k)
      → bitwise_or false B (bitwise_or false B u (shifted_left false B y k)) z ≡ bitwise_or false B u (shifted_left false B y k) +ℤ z
  joined_next u y (negsuc z) f e a b c d = absurd (omega (arith, ints, c))
  joined_next u (negsuc y) (pos z) f e a b c d = absurd (omega (arith, ints, a))
  joined_next (negsuc u) (pos y) (pos z) f e a b c d = let l = f.low in absurd (omega (arith, ints, l))
  joined_next (pos u) (pos y) (pos z) f e a b c d =
      let s : InRange false B (pos (y * 2 ^ k)) = record { low = omega (arith, ints); high = omega (arith, ints, b) } in
      let o = or-plain false B (pos u) (pos (y * 2 ^ k)) _ h f s (or-is false B (pos u) (pos (y * 2 ^ k))) (omega (arith, ints)) (omega (arith, ints)) in
      let t : bitwise_or false B (pos u) (shifted_left false B (pos y) k) ≡ pos (bit_or u (y * 2 ^ k)) = ap (bitwise_or false B (pos u)) (moved y b) ∙ o in
      let r : u % 2 ^ k ≡ 0 = omega (arith, ints, e) in
      let m : bit_or u (y * 2 ^ k) % 2 ^ k ≡ 0 = or_mod u (y * 2 ^ k) k ∙ ap₂ bit_or r (mul-mod_left y (2 ^ k)) in
      let i : InRange false B (pos (bit_or u (y * 2 ^ k))) = subst (InRange false B) o (or-in_range false B (pos u) (pos (y * 2 ^ k)) h) in
      ap (λ (v : ℤ). bitwise_or false B v (pos z)) t ∙ apart (bit_or u (y * 2 ^ k)) z i m (omega (arith, ints, d)) ∙ ap (λ (v : ℤ). v +ℤ pos z) (sym t)

-- any number of fields; five and more may take the search to its limits
pub ruleset joined_fields = (joined_first, joined_next)

-- ---- five fields at once

-- that a number has no bit below place k
Multiple : ℕ → ℤ → Type 0
Multiple k w = (m : ℕ) × (w ≡ pos (m * 2 ^ k))

lower : (j k : ℕ) (w : ℤ) → k ≤ j → Multiple j w → Multiple k w
unfolding Multiple
lower j k w l p =
    let e : 2 ^ j ≡ 2 ^ (j - k) * 2 ^ k = ap (λ (n : ℕ). 2 ^ n) (omega arith) ∙ pow-add 2 (j - k) k in
    let d : p.0 * (2 ^ (j - k) * 2 ^ k) ≡ p.0 * 2 ^ (j - k) * 2 ^ k = grind arith in
    (p.0 * 2 ^ (j - k), p.1 ∙ ap (λ (n : ℕ). pos (p.0 * n)) e ∙ ap pos d)

plus : (k : ℕ) (w v : ℤ) → Multiple k w → Multiple k v → Multiple k (w +ℤ v)
unfolding Multiple
plus k w v p q =
    let d : p.0 * 2 ^ k + q.0 * 2 ^ k ≡ (p.0 + q.0) * 2 ^ k = grind arith in
    (p.0 + q.0, ap₂ (λ a b. a +ℤ b) p.1 q.1 ∙ ap pos d)

times : (k : ℕ) (x : ℤ) → pos 0 ≤ℤ x → Multiple k (x *ℤ pos (2 ^ k))
unfolding Multiple
times k (pos n) a = (n, refl)
times k (negsuc n) a = absurd (omega (arith, ints))

from_zero : (k : ℕ) (x : ℤ) → pos 0 ≤ℤ x → pos 0 ≤ℤ (x *ℤ pos (2 ^ k))
from_zero k (pos n) a = omega (arith, ints)
from_zero k (negsuc n) a = absurd (omega (arith, ints))

below : (j k : ℕ) (z : ℤ) → j ≤ k → z <ℤ pos (2 ^ j) → z <ℤ pos (2 ^ k)
below j k z l b =
    let e : 2 ^ k ≡ 2 ^ (k - j) * 2 ^ j = ap (λ (n : ℕ). 2 ^ n) (omega arith) ∙ pow-add 2 (k - j) j in
    let m = mul-le-mul_right (2 ^ j) (pow_pos (k - j)) in
    omega (arith, ints, e, m, b)

module _ (B : ℕ) (h : 1 ≤ B) where
  -- what `|` has given so far: the sum of the fields, which has no bit below the lowest one's place
  Stack : ℕ → ℤ → ℤ → Type 0
  Stack k u w = (u ≡ w) × (Multiple k w × (w <ℤ pos (2 ^ B)))

  -- what is below that place
  last : (k : ℕ) (u w z : ℤ) → k < B → Stack k u w → pos 0 ≤ℤ z → z <ℤ pos (2 ^ k) → bitwise_or false B u z ≡ w +ℤ z
  unfolding Multiple Stack
  last k u w (negsuc z) g s a b = absurd (omega (arith, ints, a))
  last k u w (pos z) g s a b =
      let t = below k B (pos z) (omega arith) b in
      let e = s.1.0.1 in
      let l = s.1.1 in
      let i : InRange false B w = record { low = omega (arith, ints, e); high = omega (arith, ints, l) } in
      let n : InRange false B (pos z) = record { low = omega (arith, ints); high = omega (arith, ints, t) } in
      ap (λ (v : ℤ). bitwise_or false B v (pos z)) s.0
      ∙ or-plain false B w (pos z) _ h i n (or-is false B w (pos z)) i.low (omega (arith, ints))
      ∙ ap pos (ap (λ (v : ℤ). bit_or (unsigned_abs v) z) e ∙ beside (s.1.0.0 * 2 ^ k) k z (mul-mod_left s.1.0.0 (2 ^ k)) (omega (arith, ints, b)))
      ∙ ap (λ (v : ℤ). v +ℤ pos z) (sym e)

  one : (x : ℤ) (j : ℕ) → j < B → pos 0 ≤ℤ x → (x *ℤ pos (2 ^ j)) <ℤ pos (2 ^ B) → Stack j (shifted_left false B x j) (x *ℤ pos (2 ^ j))
  unfolding Multiple Stack
  one (negsuc n) j g a b = absurd (omega (arith, ints, a))
  one (pos n) j g a b = (shl-stays false B j (pos n) _ h g (record { low = omega (arith, ints); high = omega (arith, ints, b) }) (left-is false B (pos n) j), (times j (pos n) a, b))

  more : (j k : ℕ) (u w y : ℤ) → k ≤ j → j < B → Stack j u w → pos 0 ≤ℤ y → (y *ℤ pos (2 ^ k)) <ℤ pos (2 ^ j)
      → Stack k (bitwise_or false B u (shifted_left false B y k)) (w +ℤ y *ℤ pos (2 ^ k))
  unfolding Stack
  more j k u w y l g s a b =
      let f = one y k (omega arith) a (below j B _ (omega arith) b) in
      let c : pos 0 ≤ℤ shifted_left false B y k = subst (λ (v : ℤ). pos 0 ≤ℤ v) (sym f.0) (from_zero k y a) in
      let e = last j u w (shifted_left false B y k) g s c (subst (λ (v : ℤ). v <ℤ pos (2 ^ j)) (sym f.0) b) ∙ ap (λ (v : ℤ). w +ℤ v) f.0 in
      let i = or-in_range false B u (shifted_left false B y k) h in
      let t = i.high in
      (e, (plus k w _ (lower j k w l s.1.0) f.1.0, omega (arith, ints, subst (λ (v : ℤ). v ≤ℤ (pos (2 ^ B) -ℤ pos 1)) e t)))

  pub joined-five : (r t x y z : ℤ) (v i j k : ℕ) → v < B → i ≤ v → j ≤ i → k ≤ j → pos 0 ≤ℤ r → (r *ℤ pos (2 ^ v)) <ℤ pos (2 ^ B)
      → pos 0 ≤ℤ t → (t *ℤ pos (2 ^ i)) <ℤ pos (2 ^ v) → pos 0 ≤ℤ x → (x *ℤ pos (2 ^ j)) <ℤ pos (2 ^ i)
      → pos 0 ≤ℤ y → (y *ℤ pos (2 ^ k)) <ℤ pos (2 ^ j) → pos 0 ≤ℤ z → z <ℤ pos (2 ^ k)
      → bitwise_or false B
      (bitwise_or false B (bitwise_or false B (bitwise_or false B (shifted_left false B r v) (shifted_left false B t i)) (shifted_left false B x j)) (shifted_left false B y k)) z
      ≡ r *ℤ pos (2 ^ v) +ℤ t *ℤ pos (2 ^ i) +ℤ x *ℤ pos (2 ^ j) +ℤ y *ℤ pos (2 ^ k) +ℤ z
  joined-five r t x y z v i j k g l m n a b c d e f o p q s =
      last k _ _ z (omega arith)
      (more j k _ _ y n (omega arith) (more i j _ _ x m (omega arith) (more v i _ _ t l g (one r v g a b) c d) e f) o p) q s

pub ruleset five_fields = (joined-five)
