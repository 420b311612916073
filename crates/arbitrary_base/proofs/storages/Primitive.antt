-- Why each primitive meets the laws of `Storage`. The impls in src/storage cite these lemmas.
use Rattle.std.specs.Prelude.{◌≡◌, ◌↔◌, ℕ, ℤ, Bool, true, false, suc, pos, negsuc, ◌+ℤ◌, ◌-ℤ◌, ◌*ℤ◌, ◌+◌, ◌*◌, ◌-◌, ◌/◌, ◌%◌, ◌^◌, ◌≤◌, ◌<◌, FitsSigned, IsTrue, Option, Some, None, option_map}
use Rattle.std.specs.Int.{Width, w8, w16, w32, w64, w128, int_wrap, cast_signed, cast_unsigned, int_wrapping_add, int_wrapping_sub, int_wrapping_mul}
use Rattle.std.specs.Bool.{FalseIff}
use Rattle.std.specs.Option.{SomeIff}
use Rattle.std.proofs.Common.{arith, refl, ap, sym, subst, ◌∙◌, mod-lt, to_z, of_z, to_z-of_z}
use Rattle.std.proofs.Math.Nat.{div-add-mod', mod-eq_of_lt}
use Rattle.std.proofs.lemmas.Int.{ints, wrapping_add_is, wrapping_sub_is, wrapping_mul_is, SFits-int_wrap}
use Rattle.std.proofs.lemmas.Nat.{pow_pos}
use mir.Val.{bits, hbits, sel}
use lib.Dec.{ltb}
use Rattle.arbitrary_base.specs.Range.{InRange}
use Rattle.arbitrary_base.specs.Residue.{Congruent, residue, wrap}
use Rattle.arbitrary_base.proofs.modular.Congruence.{Congruent-from_apart, Congruent-trans}
use Rattle.arbitrary_base.proofs.modular.Residue.{residue-lt, residue-congruent, wrap-unique, wrap-same}

-- ---- unsigned

pub unsigned-in_range : (B n : ℕ) → n < 2 ^ B → InRange false B (pos n)
unsigned-in_range B n h = record { low = omega (arith, ints); high = omega (arith, ints) }

pub mod-congruent : (B n : ℕ) → Congruent B (pos (n % 2 ^ B)) (pos n)
mod-congruent B n = Congruent-from_apart B _ _ (n / 2 ^ B, 0, let e = div-add-mod' n (2 ^ B) in omega (arith, ints))

pub residue-pos : (B n : ℕ) → n < 2 ^ B → residue B (pos n) ≡ n
unfolding residue
residue-pos B n h = mod-eq_of_lt h

pub wrap-pos : (B n : ℕ) → 1 ≤ B → wrap false B (pos n) ≡ pos (n % 2 ^ B)
wrap-pos B n h =
    wrap-unique false B (pos n) (pos (n % 2 ^ B)) h (unsigned-in_range B (n % 2 ^ B) (mod-lt n (pow_pos B)))
    (mod-congruent B n)

-- a difference that wraps
pub unsigned-sub : (B a b : ℕ) → 1 ≤ B → b ≤ 2 ^ B → pos ((a + (2 ^ B - b)) % 2 ^ B) ≡ wrap false B (pos a -ℤ pos b)
unsigned-sub B a b h g =
    sym (wrap-pos B (a + (2 ^ B - b)) h) ∙ wrap-same false B _ _ (Congruent-from_apart B _ _ (0, 1, omega (arith, ints)))

-- ---- signed

pub pow_bits : (w : Width) → 2 ^ bits w ≡ 2 * 2 ^ hbits w
pow_bits w8 = refl
pow_bits w16 = refl
pow_bits w32 = refl
pow_bits w64 = refl
pow_bits w128 = refl

pub bits_less : (w : Width) → bits w - 1 ≡ hbits w
bits_less w8 = refl
bits_less w16 = refl
bits_less w32 = refl
bits_less w64 = refl
bits_less w128 = refl

pub bits_some : (w : Width) → 1 ≤ bits w
bits_some w8 = omega arith
bits_some w16 = omega arith
bits_some w32 = omega arith
bits_some w64 = omega arith
bits_some w128 = omega arith

pub signed-in_range : (w : Width) (x : ℤ) → FitsSigned w x → InRange true (bits w) x
signed-in_range w x f =
    let e = ap (λ (n : ℕ). 2 ^ n) (bits_less w) in
    record { low = omega (arith, ints); high = omega (arith, ints) }

pub signed-fits : (w : Width) (x : ℤ) → InRange true (bits w) x → FitsSigned w x
signed-fits w x f =
    let e = ap (λ (n : ℕ). 2 ^ n) (bits_less w) in
    let p = pow_pos (hbits w) in
    omega (arith, ints)

read_by : (M n : ℕ) (t : Bool) → n < M → (j : ℕ) × (sel t (pos n) (negsuc (M - suc n)) +ℤ pos (j * M) ≡ pos n)
read_by M n true h = (0, omega (arith, ints))
read_by M n false h = (1, omega (arith, ints))

read : (w : Width) (n : ℕ) → n < 2 ^ bits w → (j : ℕ) × (cast_signed w n +ℤ pos (j * 2 ^ bits w) ≡ pos n)
read w n h = read_by (2 ^ bits w) n (ltb n (2 ^ hbits w)) h

pub cast_signed-congruent : (w : Width) (n : ℕ) → n < 2 ^ bits w → Congruent (bits w) (cast_signed w n) (pos n)
cast_signed-congruent w n h = let r = read w n h in let e = r.1 in Congruent-from_apart (bits w) _ _ (r.0, 0, omega (arith, ints))

pub int_wrap-congruent : (w : Width) (x : ℤ) → Congruent (bits w) (int_wrap w x) x
unfolding int_wrap residue
int_wrap-congruent w x =
    Congruent-trans (bits w) _ _ x (cast_signed-congruent w (residue (bits w) x) (residue-lt (bits w) x)) (residue-congruent (bits w) x)

-- std's word for wrapping says the same
pub int_wrap_is : (w : Width) (x : ℤ) → int_wrap w x ≡ wrap true (bits w) x
int_wrap_is w x =
    sym (wrap-unique true (bits w) x (int_wrap w x) (bits_some w) (signed-in_range w _ (SFits-int_wrap w x)) (int_wrap-congruent w x))

pub signed-wrapping_add : (w : Width) (a b : ℤ) → FitsSigned w a → FitsSigned w b → int_wrapping_add w a b ≡ wrap true (bits w) (a +ℤ b)
signed-wrapping_add w a b f g = wrapping_add_is w a b f g ∙ int_wrap_is w (a +ℤ b)

pub signed-wrapping_sub : (w : Width) (a b : ℤ) → FitsSigned w a → FitsSigned w b → int_wrapping_sub w a b ≡ wrap true (bits w) (a -ℤ b)
signed-wrapping_sub w a b f g = wrapping_sub_is w a b f g ∙ int_wrap_is w (a -ℤ b)

pub signed-wrapping_mul : (w : Width) (a b : ℤ) → FitsSigned w a → FitsSigned w b → int_wrapping_mul w a b ≡ wrap true (bits w) (a *ℤ b)
signed-wrapping_mul w a b f g = wrapping_mul_is w a b f g ∙ int_wrap_is w (a *ℤ b)

-- the bits of a number are its residue
pub cast_unsigned-residue : (w : Width) (x : ℤ) → FitsSigned w x → cast_unsigned w x ≡ residue (bits w) x
unfolding residue
cast_unsigned-residue w (pos n) f = let s = f.sfits in let p = pow_bits w in sym (mod-eq_of_lt (omega arith))
cast_unsigned-residue w (negsuc n) f =
    let s = f.sfits in
    let p = pow_bits w in
    let e : n % 2 ^ bits w ≡ n = mod-eq_of_lt (omega arith) in
    omega arith

-- a number read from the bits that are left of p
pub signed-from_bits : (w : Width) (p : ℕ) → cast_signed w (p % 2 ^ bits w) ≡ wrap true (bits w) (pos p)
signed-from_bits w p =
    let small = mod-lt p (pow_pos (bits w)) in
    sym (wrap-unique true (bits w) (pos p) _ (bits_some w) (in_range small)
    (Congruent-trans (bits w) _ (pos (p % 2 ^ bits w)) (pos p) (cast_signed-congruent w (p % 2 ^ bits w) small) (mod-congruent (bits w) p)))
  where
    in_range : p % 2 ^ bits w < 2 ^ bits w → InRange true (bits w) (cast_signed w (p % 2 ^ bits w))
    in_range small = signed-in_range w _ (omega (arith, ints))

pub signed-from_small : (w : Width) (p : ℕ) → p < 2 ^ bits w → cast_signed w p ≡ wrap true (bits w) (pos p)
signed-from_small w p h = ap (cast_signed w) (sym (mod-eq_of_lt h)) ∙ signed-from_bits w p

-- ---- checked results

signed-checks : (w : Width) (x : ℤ) (r : Option ℤ) → SomeIff r (FitsSigned w x) x → SomeIff (option_map (λ (z : ℤ). z) r) (InRange true (bits w) x) x
signed-checks w x None h = λ f. h (signed-fits w x f)
signed-checks w x (Some y) h = (signed-in_range w x h.0, h.1)

-- ---- flags of overflow

pub unsigned-flag : (B n : ℕ) (b : Bool) → FalseIff b (n < 2 ^ B) → IsTrue b ↔ ¬ (InRange false B (pos n))
unsigned-flag B n true h = ((λ t i. h (let k = i.high in let p = pow_pos B in omega (arith, ints))), (λ t. refl))
unsigned-flag B n false h = ((λ t. cc), (λ t. absurd (t (unsigned-in_range B n h))))

signed-flag : (w : Width) (x : ℤ) (b : Bool) → FalseIff b (FitsSigned w x) → IsTrue b ↔ ¬ (InRange true (bits w) x)
signed-flag w x true h = ((λ t i. h (signed-fits w x i)), (λ t. refl))
signed-flag w x false h = ((λ t. cc), (λ t. absurd (t (signed-in_range w x h))))

-- a product of numbers as the primitive's call reads them
pub signed-overflowing_mul : (w : Width) (a b r : ℤ) (o : Bool) → FitsSigned w a → FitsSigned w b → r ≡ int_wrapping_mul w (to_z w (of_z w a)) (to_z w (of_z w b))
    → FalseIff o (FitsSigned w (to_z w (of_z w a) *ℤ to_z w (of_z w b))) → (r ≡ wrap true (bits w) (a *ℤ b)) × (IsTrue o ↔ ¬ (InRange true (bits w) (a *ℤ b)))
signed-overflowing_mul w a b r o f g e h =
    let x = to_z-of_z {w = w} {z = a} f in
    let y = to_z-of_z {w = w} {z = b} g in (
      e ∙ (λ i. int_wrapping_mul w (x i) (y i)) ∙ signed-wrapping_mul w a b f g,
      signed-flag w (a *ℤ b) o (subst (λ (z : ℤ). FalseIff o (FitsSigned w z)) (λ i. x i *ℤ y i) h),
    )

pub signed-checked_mul : (w : Width) (a b : ℤ) (r : Option ℤ) → FitsSigned w a → FitsSigned w b
    → SomeIff r (FitsSigned w (to_z w (of_z w a) *ℤ to_z w (of_z w b))) (to_z w (of_z w a) *ℤ to_z w (of_z w b))
    → SomeIff (option_map (λ (z : ℤ). z) r) (InRange true (bits w) (a *ℤ b)) (a *ℤ b)
signed-checked_mul w a b r f g h =
    let x = to_z-of_z {w = w} {z = a} f in
    let y = to_z-of_z {w = w} {z = b} g in
    signed-checks w (a *ℤ b) r (subst (λ (z : ℤ). SomeIff r (FitsSigned w z) z) (λ i. x i *ℤ y i) h)

-- what the impls ask of these
pub ruleset unsigned_laws = (residue-pos, wrap-pos, unsigned-in_range, unsigned-sub, unsigned-flag)

pub ruleset signed_laws = (to_z-of_z, cast_unsigned-residue, signed-from_bits, signed-from_small, signed-wrapping_add, signed-wrapping_sub, signed-wrapping_mul, signed-in_range)
