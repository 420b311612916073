-- A number that is shifted left, also past the end of its type, with new bits joined below it by `|`:
-- `(history << 1) | bit`. SideBySide.antt has fields that lose no bit.
use Rattle.std.specs.Prelude.{◌≡◌, ℕ, ◌+◌, ◌*◌, ◌/◌, ◌%◌, ◌^◌, ◌<◌}
use Rattle.std.specs.Int.Bits.{bit_or}
use Rattle.std.proofs.Common.{ap, subst, ◌∙◌, arith}
use Rattle.std.proofs.Math.Arith.{mod-mul}
use Rattle.std.proofs.Math.Nat.{mod-mod, mul-add-mod_self_right, mul-mod_left}
use Rattle.std.proofs.lemmas.Grind.{low_zeros}
use Rattle.std.proofs.lemmas.Nat.{or_comm}
use Rattle.arbitrary_laws.proofs.fields.SideBySide.{beside}

-- c is 2 to the shift, and w is 2 to the type's width: the bits below the shift are zeros
none_below : (x c w : ℕ) → 0 < c → 0 < w / c → w ≡ w / c * c → x * c % w % c ≡ 0
none_below x c w p q e =
    ap (λ (n : ℕ). x * c % n % c) e ∙ ap (λ (n : ℕ). n % c) (mod-mul (x * c) q p)
    ∙ mul-add-mod_self_right (x * c / c % (w / c)) c (x * c % c) ∙ mod-mod (x * c) c ∙ mul-mod_left x c

pub or_moved_in : (x c w b : ℕ) → c ≡ 2 ^ low_zeros 128 c → 0 < w / c → w ≡ w / c * c → b < c → bit_or (x * c % w) b ≡ x * c % w + b
or_moved_in x c w b p q e g =
    let s : x * c % w % 2 ^ low_zeros 128 c ≡ 0 = subst (λ (n : ℕ). x * c % w % n ≡ 0) p (none_below x c w (omega arith) q e) in
    beside (x * c % w) (low_zeros 128 c) b s (omega arith)

pub or_moved_above : (b x c w : ℕ) → c ≡ 2 ^ low_zeros 128 c → 0 < w / c → w ≡ w / c * c → b < c → bit_or b (x * c % w) ≡ x * c % w + b
or_moved_above b x c w p q e g = or_comm b (x * c % w) ∙ or_moved_in x c w b p q e g
