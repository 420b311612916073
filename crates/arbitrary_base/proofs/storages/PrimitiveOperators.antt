-- What `+ - * /` and unary minus of the primitives, as std defines them, state about numbers. The impls of
-- `arbitrary_traits` cite these lemmas.
use Rattle.std.specs.Prelude.{◌≡◌, ◌≢◌, ◌-◌, ◌^◌, ◌<◌, ◌≤◌, ◌-ℤ◌, ℕ, ℤ, zero, suc, pos, negsuc, int_div, FitsSigned, true, false, nat_eq}
use Rattle.std.specs.Int.{Width, IsNonZero}
use Rattle.std.specs.Ordering.{int_cmp, int_eq, nat_cmp}
use Rattle.std.proofs.Common.{arith, refl}
use Rattle.std.proofs.lemmas.Int.{ints}
use Rattle.std.proofs.lemmas.Nat.{pow_pos}
use mir.Val.{bits}
use Rattle.arbitrary_base.specs.Range.{InRange}
pub use Rattle.arbitrary_base.proofs.storages.Primitive.{signed-fits}
use Rattle.arbitrary_base.proofs.storages.Primitive.{pow_bits}

pub nat_eq-pos : (a b : ℕ) → nat_eq a b ≡ int_eq (pos a) (pos b)
nat_eq-pos a b = grind (arith, ints)

pub nat_cmp-pos : (a b : ℕ) → nat_cmp a b ≡ int_cmp (pos a) (pos b)
nat_cmp-pos a b = grind (arith, ints)

pub lt-of_in_range : (B n : ℕ) → InRange false B (pos n) → n < 2 ^ B
lt-of_in_range B n f = let h = f.high in let p = pow_pos B in omega (arith, ints)

pub sub-in_range : (B a b : ℕ) → InRange false B (pos a -ℤ pos b) → b ≤ a
sub-in_range B a b f = let l = f.low in omega (arith, ints)

pub sub-pos : (B a b r : ℕ) → r ≡ a - b → InRange false B (pos a -ℤ pos b) → pos r ≡ pos a -ℤ pos b
sub-pos B a b r e f = let l = f.low in omega (arith, ints)

pub nonzero-pos : (n : ℕ) → pos n ≢ pos 0 → 0 < n
nonzero-pos zero h = absurd (h refl)
nonzero-pos (suc n) h = omega arith

signed-nonzero : (w : Width) (x : ℤ) → InRange true (bits w) x → x ≢ pos 0 → IsNonZero w x
signed-nonzero w (pos n) f h = nonzero-pos n h
signed-nonzero w (negsuc n) f h = let s = signed-fits w (negsuc n) f in let p = pow_bits w in omega (arith, ints)

-- what a primitive's quotient needs, from that it is in range
pub signed-divides : (w : Width) (a b : ℤ) → InRange true (bits w) b → b ≢ pos 0 → InRange true (bits w) (int_div a b) → IsNonZero w b × FitsSigned w (int_div a b)
signed-divides w a b f n g = (signed-nonzero w b f n, signed-fits w (int_div a b) g)
