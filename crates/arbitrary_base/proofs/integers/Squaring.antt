-- Why powers by squaring are right, and how many multiplications they take. The loop of src/power.rt has the
-- record `Squaring` as its invariant. `Powers` has the laws of powers.
use Rattle.std.specs.Prelude.{◌≡◌, ℕ, ℤ, Bool, true, false, zero, suc, pos, negsuc, ◌*ℤ◌, ◌≤ℤ◌, ◌<ℤ◌, ◌+◌, ◌-◌, ◌*◌, ◌/◌, ◌%◌, ◌^◌, ◌≤◌, ◌<◌, unsigned_abs, int_lt, length, Option, Some, None, MatchOption, SomeIff, option_map}
use Rattle.std.proofs.Common.{arith, ap, sym, subst, ◌∙◌, ⊎_elim, le_trans}
use Rattle.std.proofs.lemmas.Int.{ints, unsigned_abs-mul}
use Rattle.std.proofs.lemmas.Int.Digits.{length-digits_of_step, length-digits_of-le}
use Rattle.std.specs.Int.{int_pow}
use Rattle.std.specs.Int.Digits.{digits_of}
use Rattle.std.specs.Ordering.{int_eq}
use Rattle.std.proofs.lemmas.Bool.{cases_lt}
use Rattle.std.proofs.lemmas.Bool.Decides.{Decides-int_eq}
use Rattle.std.proofs.lemmas.Nat.{pow_pos, mul-le}
use Rattle.arbitrary_base.specs.Range.{lo, hi, InRange, range_end}
use Rattle.arbitrary_base.specs.Residue.{wrap}
use Rattle.arbitrary_base.specs.Saturating.{clamp}
use Rattle.arbitrary_base.proofs.integers.Ring.{mul_assoc_z}
use Rattle.arbitrary_base.proofs.modular.Congruence.{pow_half, pow_le}
use Rattle.arbitrary_base.proofs.modular.Residue.{wrap-of_in_range}
use Rattle.arbitrary_base.proofs.storages.CheckedSum.{three_ways, zero-in_range}
use Rattle.arbitrary_base.proofs.storages.Clamp.{clamp-in_range, clamp-out}
use Rattle.arbitrary_base.proofs.integers.Powers.{mul_comm_z, one-mul_z, power-zero, power-suc, power-one, power-odd, power-square, size_grows, power-positive, natural-mul}

-- p is the power so far, to which the power of b to what remains of the exponent is still to come,
-- at no more than two multiplications for each digit that is left
pub record Squaring (x : ℤ) (e : ℕ) (p b : ℤ) (left count : ℕ) : Type 0 where
  pub whole : int_pow x e ≡ p *ℤ int_pow b left
  pub nonzero : 0 < unsigned_abs b → 0 < unsigned_abs p
  pub some : 1 ≤ left
  pub counted : count + 2 * length (digits_of 2 left) ≤ 2 * length (digits_of 2 e)

-- ---- binary digits

digits-step : (n : ℕ) → 1 ≤ n → length (digits_of 2 n) ≡ length (digits_of 2 (n / 2)) + 1
digits-step n h = length-digits_of_step 2 n (omega arith) h

few_digits : (n : ℕ) → n < 2 ^ 32 → length (digits_of 2 n) ≤ 32
few_digits n h = length-digits_of-le 2 32 n (omega arith) h

-- ---- one, where the squaring begins

pub one-in_range : (s : Bool) (W : ℕ) → 2 ≤ W → InRange s W (pos 1)
one-in_range false W h = let p = pow_half W (omega arith) in let q = pow_pos (W - 1) in record { low = omega (arith, ints); high = omega (arith, ints) }
one-in_range true W h = let p = pow_half (W - 1) (omega arith) in let q = pow_pos (W - 1 - 1) in record { low = omega (arith, ints); high = omega (arith, ints) }

pub wrap-one : (s : Bool) (W : ℕ) → 2 ≤ W → wrap s W (pos 1) ≡ pos 1
wrap-one s W h = wrap-of_in_range s W (pos 1) (omega arith) (one-in_range s W h)

pub InRange-equal : {s : Bool} {W : ℕ} {x y : ℤ} → y ≡ x → InRange s W x → InRange s W y
InRange-equal {s} {W} {x} {y} e f = subst (λ (z : ℤ). InRange s W z) (sym e) f

-- ---- a product of two numbers of 64 bits, in 128

half-size-unsigned : (x : ℤ) → InRange false 64 x → unsigned_abs x ≤ 2 ^ 64 - 1
half-size-unsigned (pos n) i = let u = i.high in omega (arith, ints)
half-size-unsigned (negsuc n) i = let l = i.low in absurd (omega (arith, ints))

half-size-signed : (x : ℤ) → InRange true 64 x → unsigned_abs x ≤ 2 ^ 63
half-size-signed (pos n) i = let u = i.high in omega (arith, ints)
half-size-signed (negsuc n) i = let l = i.low in omega (arith, ints)

half-product-in : (s : Bool) (x y : ℤ) → InRange s 64 x → InRange s 64 y → InRange s 128 (x *ℤ y)
half-product-in false x y f g =
    let size = unsigned_abs-mul x y in
    let most = mul-le (unsigned_abs x) (unsigned_abs y) (2 ^ 64 - 1) (2 ^ 64 - 1) (half-size-unsigned x f) (half-size-unsigned y g) in
    let some = natural-mul x y f.low g.low in
    fits (x *ℤ y) some (omega arith)
  where
    fits : (z : ℤ) → pos 0 ≤ℤ z → unsigned_abs z < 2 ^ 128 → InRange false 128 z
    fits (pos n) some most = record { low = omega (arith, ints); high = omega (arith, ints) }
    fits (negsuc n) some most = absurd (omega (arith, ints))
half-product-in true x y f g =
    let size = unsigned_abs-mul x y in
    let most = mul-le (unsigned_abs x) (unsigned_abs y) (2 ^ 63) (2 ^ 63) (half-size-signed x f) (half-size-signed y g) in
    fits (x *ℤ y) (omega arith)
  where
    fits : (z : ℤ) → unsigned_abs z < 2 ^ 127 → InRange true 128 z
    fits (pos n) most = record { low = omega (arith, ints); high = omega (arith, ints) }
    fits (negsuc n) most = record { low = omega (arith, ints); high = omega (arith, ints) }

pub half-product : {T : Type 0} (number : T → ℤ) (s : Bool) (W : ℕ) (x y : ℤ) (z : T) → W ≡ 128 → InRange s 64 x → InRange s 64 y
    → number z ≡ wrap s W (x *ℤ y) → SomeIff (option_map number (Some z)) (InRange s W (x *ℤ y)) (x *ℤ y)
half-product number s W x y z width f g e =
    let fits : InRange s W (x *ℤ y) = subst (λ (w : ℕ). InRange s w (x *ℤ y)) (sym width) (half-product-in s x y f g) in
    (fits, e ∙ wrap-of_in_range s W (x *ℤ y) (omega arith) fits)

-- ---- the steps

pub power-none : (x p : ℤ) (e : ℕ) → p ≡ pos 1 → e ≡ 0 → p ≡ int_pow x e
power-none x p e is none = is ∙ sym (power-zero x) ∙ ap (int_pow x) (sym none)

pub one-times : (p x : ℤ) → p ≡ pos 1 → x ≡ p *ℤ x
one-times p x is = sym (ap (λ (z : ℤ). z *ℤ x) is ∙ one-mul_z x)

pub begun : (x p : ℤ) (e : ℕ) → 1 ≤ e → p ≡ pos 1 → Squaring x e p x e 0
begun x p e h is = record {
  whole = one-times p (int_pow x e) is;
  nonzero = λ k. subst (λ (z : ℤ). 0 < unsigned_abs z) (sym is) (omega arith);
  some = h;
  counted = omega arith;
}

pub begun-more : (x p : ℤ) (e : ℕ) → 1 < e → p ≡ pos 1 → Squaring x e p x e 0
begun-more x p e h is = begun x p e (omega arith) is

squared : (b d : ℤ) (left : ℕ) → d ≡ b *ℤ b → int_pow d (left / 2) ≡ int_pow b (left / 2 + left / 2)
squared b d left is = ap (λ (z : ℤ). int_pow z (left / 2)) is ∙ power-square b (left / 2)

nonzero-mul : (a b : ℤ) → 0 < unsigned_abs a → 0 < unsigned_abs b → 0 < unsigned_abs (a *ℤ b)
nonzero-mul a b h k = le_trans h (size_grows a b k)

left_nonzero : (a b : ℤ) → 0 < unsigned_abs (a *ℤ b) → 0 < unsigned_abs a
left_nonzero a b h = ⊎_elim
    (λ (k : 0 < unsigned_abs a). k)
    (λ (k : unsigned_abs a ≤ 0).
    let z : unsigned_abs a ≡ 0 = omega arith in
    let e = unsigned_abs-mul a b ∙ ap (λ (n : ℕ). n * unsigned_abs b) z in
    absurd (omega arith))
    (cases_lt 0 (unsigned_abs a))

right_nonzero : (a b : ℤ) → 0 < unsigned_abs (a *ℤ b) → 0 < unsigned_abs b
right_nonzero a b h = left_nonzero b a (subst (λ (z : ℤ). 0 < unsigned_abs z) (mul_comm_z a b) h)

pub odd-turn : {x p b : ℤ} {e left count : ℕ} (q d : ℤ) (c : ℕ) → Squaring x e p b left count → 1 < left → left % 2 ≡ 1
    → q ≡ p *ℤ b → d ≡ b *ℤ b → c ≤ count + 1 + 1 → Squaring x e q d (left / 2) c
odd-turn {x} {p} {b} {e} {left} {count} q d c s h o is square add =
    let base : 0 < unsigned_abs d → 0 < unsigned_abs b = λ k. left_nonzero b b (subst (λ (z : ℤ). 0 < unsigned_abs z) square k) in
    record {
      whole =
          s.whole
          ∙ ap (λ (z : ℤ). p *ℤ z) (power-odd b left o)
          ∙ sym (mul_assoc_z p b (int_pow b (left / 2 + left / 2)))
          ∙ ap (λ (z : ℤ). z *ℤ int_pow b (left / 2 + left / 2)) (sym is)
          ∙ ap (λ (z : ℤ). q *ℤ z) (sym (squared b d left square));
      nonzero = λ k. subst (λ (z : ℤ). 0 < unsigned_abs z) (sym is) (nonzero-mul p b (s.nonzero (base k)) (base k));
      some = omega arith;
      counted = let t = digits-step left s.some in let k = s.counted in omega arith;
    }

pub even-turn : {x p b : ℤ} {e left count : ℕ} (q d : ℤ) (c : ℕ) → Squaring x e p b left count → 1 < left → (left % 2 ≡ 1 → ⊥)
    → q ≡ p → d ≡ b *ℤ b → c ≡ count + 1 → Squaring x e q d (left / 2) c
even-turn {x} {p} {b} {e} {left} {count} q d c s h o is square add =
    let base : 0 < unsigned_abs d → 0 < unsigned_abs b = λ k. left_nonzero b b (subst (λ (z : ℤ). 0 < unsigned_abs z) square k) in
    record {
      whole =
          s.whole
          ∙ ap (λ (n : ℕ). p *ℤ int_pow b n) (let m : left ≡ left / 2 + left / 2 = omega arith in m)
          ∙ ap (λ (z : ℤ). z *ℤ int_pow b (left / 2 + left / 2)) (sym is)
          ∙ ap (λ (z : ℤ). q *ℤ z) (sym (squared b d left square));
      nonzero = λ k. subst (λ (z : ℤ). 0 < unsigned_abs z) (sym is) (s.nonzero (base k));
      some = omega arith;
      counted = let t = digits-step left s.some in let k = s.counted in omega arith;
    }

pub half-less : (n : ℕ) → 1 < n → n / 2 < n
half-less n h = omega arith

-- one multiplication, where an odd turn may have two
pub once : (old new count : ℕ) → old ≡ count → new ≡ old + 1 → new ≤ count + 1 + 1
once old new count a d = omega arith

-- the last digit is one
pub last-turn : {x p b : ℤ} {e left count : ℕ} → Squaring x e p b left count → left ≤ 1 → p *ℤ b ≡ int_pow x e
last-turn {x} {p} {b} {e} {left} {count} s h =
    let some = s.some in
    ap (λ (z : ℤ). p *ℤ z) (sym (power-one b)) ∙ ap (λ (n : ℕ). p *ℤ int_pow b n) (let m : 1 ≡ left = omega arith in m) ∙ sym s.whole

-- ---- bases whose square is themselves or 1

pub equal-numbers : (x y : ℤ) → true ≡ int_eq x y → x ≡ y
equal-numbers x y t = (Decides-int_eq x y).0 (sym t)

-- a base that is its own square is each of its powers
pub idempotent-power : (b : ℤ) (n : ℕ) → 1 ≤ n → b *ℤ b ≡ b → b ≡ int_pow b n
idempotent-power b zero some h = absurd (omega arith)
idempotent-power b (suc zero) some h = sym (power-one b)
idempotent-power b (suc (suc n)) some h =
    sym (power-suc b (suc n) ∙ ap (λ (z : ℤ). b *ℤ z) (sym (idempotent-power b (suc n) (omega arith) h)) ∙ h)

-- the powers of a base x whose square d is 1 are x and d in turn
unit-twice : (x d : ℤ) (e : ℕ) → 1 < e → d ≡ x *ℤ x → d ≡ pos 1 → d ≡ int_pow x (e / 2 + e / 2)
unit-twice x d e two square one = idempotent-power d (e / 2) (omega arith) (sym (one-times d d one)) ∙ squared x d e square

pub unit-even : (x d : ℤ) (e : ℕ) → 1 < e → (e % 2 ≡ 1 → ⊥) → d ≡ x *ℤ x → d ≡ pos 1 → d ≡ int_pow x e
unit-even x d e two o square one = unit-twice x d e two square one ∙ ap (int_pow x) (let m : e / 2 + e / 2 ≡ e = omega arith in m)

pub unit-odd : (x d : ℤ) (e : ℕ) → 1 < e → e % 2 ≡ 1 → d ≡ x *ℤ x → d ≡ pos 1 → x ≡ int_pow x e
unit-odd x d e two o square one =
    one-times d x one ∙ mul_comm_z d x ∙ ap (λ (z : ℤ). x *ℤ z) (unit-twice x d e two square one) ∙ sym (power-odd x e o)

-- ---- the count

-- before and after one multiplication, and before and after another
pub room : {x p b : ℤ} {e left count : ℕ} → Squaring x e p b left count → e < 2 ^ 32 → count < 64
room {x} {p} {b} {e} {left} {count} s h =
    let t = digits-step left s.some in let k = s.counted in let f = few_digits e h in omega arith

pub spent : {x p b : ℤ} {e left count : ℕ} (old new : ℕ) → Squaring x e p b left count → old ≡ count → new ≡ old + 1 → new ≤ 2 * length (digits_of 2 e)
spent {x} {p} {b} {e} {left} {count} old new s a d =
    let t = digits-step left s.some in let k = s.counted in omega arith

pub room-again : {x p b : ℤ} {e left count : ℕ} (new : ℕ) → Squaring x e p b left count → e < 2 ^ 32 → new ≡ count + 1 → new < 64
room-again {x} {p} {b} {e} {left} {count} new s h a =
    let t = digits-step left s.some in let k = s.counted in let f = few_digits e h in omega arith

pub spent-again : {x p b : ℤ} {e left count : ℕ} (old new : ℕ) → Squaring x e p b left count → old ≡ count + 1 → new ≡ old + 1 → new ≤ 2 * length (digits_of 2 e)
spent-again {x} {p} {b} {e} {left} {count} old new s a d =
    let t = digits-step left s.some in let k = s.counted in omega arith

pub count-bound : (e count : ℕ) → e < 2 ^ 32 → count ≤ 2 * length (digits_of 2 e) → count ≤ 64
count-bound e count h k = let f = few_digits e h in omega arith

-- ---- a product that the storage does not have

positive-of : (z : ℤ) (n : ℕ) → pos n <ℤ pos (unsigned_abs z) → 0 < unsigned_abs z
positive-of z n h = omega (arith, ints)

hi-natural : (s : Bool) (W : ℕ) → (n : ℕ) × (hi s W ≡ pos n)
hi-natural false W = let p = pow_pos W in (2 ^ W - 1, omega (arith, ints))
hi-natural true W = let p = pow_pos (W - 1) in (2 ^ (W - 1) - 1, omega (arith, ints))

-- then it is further from 0 than the greatest number
out-beyond : (s : Bool) (W : ℕ) (x y : ℤ) → InRange s W x → InRange s W y → (InRange s W (x *ℤ y) → ⊥) → hi s W <ℤ pos (unsigned_abs (x *ℤ y))
out-beyond false W x y f g n =
    let k = natural-mul x y f.low g.low in far (x *ℤ y) k n
  where
    far : (z : ℤ) → pos 0 ≤ℤ z → (InRange false W z → ⊥) → hi false W <ℤ pos (unsigned_abs z)
    far (negsuc a) k n = absurd (omega (arith, ints))
    far (pos a) k n = ⊎_elim
        (λ i. absurd (n i))
        (⊎_elim (λ b. absurd (omega (arith, ints))) (λ a. a))
        (three_ways false W (pos a))
out-beyond true W x y f g n = far (x *ℤ y) n
  where
    far : (z : ℤ) → (InRange true W z → ⊥) → hi true W <ℤ pos (unsigned_abs z)
    far (pos a) n = ⊎_elim
        (λ i. absurd (n i))
        (⊎_elim (λ b. absurd (omega (arith, ints))) (λ a. a))
        (three_ways true W (pos a))
    far (negsuc a) n = ⊎_elim
        (λ i. absurd (n i))
        (⊎_elim (λ b. let p = pow_pos (W - 1) in omega (arith, ints)) (λ c. let p = pow_pos (W - 1) in absurd (omega (arith, ints))))
        (three_ways true W (negsuc a))

-- and so is the whole power
grown : (h a b : ℤ) (n : ℕ) → h ≡ pos n → h <ℤ pos (unsigned_abs a) → 0 < unsigned_abs b → h <ℤ pos (unsigned_abs (a *ℤ b))
grown h a b n e f g = let k = size_grows a b g in omega (arith, ints)

pub product-beyond : {x p b : ℤ} {e left count : ℕ} (s : Bool) (W : ℕ) → Squaring x e p b left count → InRange s W p → InRange s W b
    → (InRange s W (p *ℤ b) → ⊥) → hi s W <ℤ pos (unsigned_abs (int_pow x e))
product-beyond {x} {p} {b} {e} {left} {count} s W t f g n =
    let far = out-beyond s W p b f g n in
    let m = hi-natural s W in
    let base = right_nonzero p b (positive-of (p *ℤ b) m.0 (subst (λ (z : ℤ). z <ℤ pos (unsigned_abs (p *ℤ b))) m.1 far)) in
    let some = t.some in
    let is : p *ℤ b *ℤ int_pow b (left - 1) ≡ int_pow x e =
    mul_assoc_z p b (int_pow b (left - 1)) ∙ ap (λ (z : ℤ). p *ℤ z) (sym (power-suc b (left - 1)))
    ∙ ap (λ (n : ℕ). p *ℤ int_pow b n) (let m : suc (left - 1) ≡ left = omega arith in m) ∙ sym t.whole in
    subst (λ (z : ℤ). hi s W <ℤ pos (unsigned_abs z)) is
    (grown (hi s W) (p *ℤ b) (int_pow b (left - 1)) m.0 m.1 far (power-positive b (left - 1) base))

pub square-beyond : {x p b : ℤ} {e left count : ℕ} (s : Bool) (W : ℕ) → Squaring x e p b left count → 1 < left → InRange s W b
    → (InRange s W (b *ℤ b) → ⊥) → hi s W <ℤ pos (unsigned_abs (int_pow x e))
square-beyond {x} {p} {b} {e} {left} {count} s W t two g n =
    let far = out-beyond s W b b g g n in
    let m = hi-natural s W in
    let base = left_nonzero b b (positive-of (b *ℤ b) m.0 (subst (λ (z : ℤ). z <ℤ pos (unsigned_abs (b *ℤ b))) m.1 far)) in
    let is : b *ℤ b *ℤ int_pow b (left - 2) *ℤ p ≡ int_pow x e =
    mul_comm_z (b *ℤ b *ℤ int_pow b (left - 2)) p
    ∙ ap (λ (z : ℤ). p *ℤ z) (mul_assoc_z b b (int_pow b (left - 2)) ∙ ap (λ (z : ℤ). b *ℤ z) (sym (power-suc b (left - 2))) ∙ sym (power-suc b (suc (left - 2))))
    ∙ ap (λ (n : ℕ). p *ℤ int_pow b n) (let m : suc (suc (left - 2)) ≡ left = omega arith in m) ∙ sym t.whole in
    subst (λ (z : ℤ). hi s W <ℤ pos (unsigned_abs z)) is
    (grown (hi s W) (b *ℤ b *ℤ int_pow b (left - 2)) p m.0 m.1
    (grown (hi s W) (b *ℤ b) (int_pow b (left - 2)) m.0 m.1 far (power-positive b (left - 2) base))
    (t.nonzero base))

-- the last product, where the storage has it
pub last-product : {T : Type 0} (number : T → ℤ) {x p b : ℤ} {e left count : ℕ} (s : Bool) (W : ℕ) (r : Option T) → Squaring x e p b left count
    → InRange s W p → InRange s W b → p *ℤ b ≡ int_pow x e → SomeIff (option_map number r) (InRange s W (p *ℤ b)) (p *ℤ b)
    → MatchOption r (hi s W <ℤ pos (unsigned_abs (int_pow x e))) (λ y. number y ≡ int_pow x e)
last-product number s W None t f g is h = product-beyond s W t f g h
last-product number s W (Some y) t f g is h = h.1 ∙ is

-- ---- the end of the range

pub nearest-end : (s : Bool) (B : ℕ) (x z : ℤ) (b : Bool) → 1 ≤ B → (InRange s B x → ⊥) → b ≡ int_lt x (pos 0) → z ≡ range_end s B b → z ≡ clamp s B x
nearest-end s B x z b h n e w =
    let k = zero-in_range s B h in let l = k.low in
    w ∙ clamp-out s B x b h n (λ t. grind (arith, ints)) (λ t. let m : pos 0 ≤ℤ x = grind (arith, ints) in omega (arith, ints))

hi-wider : (s : Bool) (A B : ℕ) → A ≤ B → hi s A ≤ℤ hi s B
hi-wider false A B h = let p = pow_le A B h in omega (arith, ints)
hi-wider true A B h = let p = pow_le (A - 1) (B - 1) (omega arith) in omega (arith, ints)

pub far-end : (s : Bool) (A B : ℕ) (x z : ℤ) (b : Bool) → 1 ≤ A → A ≤ B → hi s B <ℤ pos (unsigned_abs x) → b ≡ int_lt x (pos 0)
    → z ≡ range_end s A b → z ≡ clamp s A x
far-end s A B x z b h l f e w =
    let m = hi-wider s A B l in
    ⊎_elim
    (λ i. w ∙ least s x b i (omega (arith, ints)) e)
    (λ o. ⊎_elim (λ c. nearest-end s A x z b h (λ (i : InRange s A x). let k = i.low in absurd (omega (arith, ints))) e w)
    (λ c. nearest-end s A x z b h (λ (i : InRange s A x). let k = i.high in absurd (omega (arith, ints))) e w) o)
    (three_ways s A x)
  where
    least : (s : Bool) (x : ℤ) (b : Bool) → InRange s A x → hi s A <ℤ pos (unsigned_abs x) → b ≡ int_lt x (pos 0) → range_end s A b ≡ clamp s A x
    least s (pos n) b i f e = let k = i.high in absurd (omega (arith, ints))
    least false (negsuc n) b i f e = let k = i.low in absurd (omega (arith, ints))
    least true (negsuc n) b i f e =
        let p = pow_pos (A - 1) in let k = i.low in
        let t : true ≡ b = sym e in
        subst (λ (v : Bool). range_end true A v ≡ clamp true A (negsuc n)) t
        (clamp-in_range true A (negsuc n) (lo true A) i (let q : lo true A ≡ negsuc n = omega (arith, ints) in q))

pub ruleset one_laws = (wrap-one)
