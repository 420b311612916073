-- The counts of a converted number: to the type of its width with the other sign, and to a primitive. Callers name
-- the set `converted_counts`.
use Rattle.std.specs.Int.{Width, cast_unsigned}
use Rattle.std.specs.Int.Count.{count_trailing_zeros, under}
use Rattle.std.specs.List.{count_by}
use Rattle.std.specs.Prelude.{FitsSigned, count_ones, suc, zero, ℕ, ℤ, ◌%◌, ◌/◌, ◌<◌, ◌^◌, ◌≡◌, ◌≤◌}
use Rattle.std.proofs.Common.{ap, arith, pow-suc, refl, sym, ◌∙◌}
use Rattle.std.proofs.lemmas.Bool.Decides.{Decides-int_eq}
use Rattle.arbitrary_base.specs.BitList.{bits, num}
use Rattle.arbitrary_base.proofs.bit_lists.Count.{popcount-num}
use Rattle.arbitrary_base.proofs.bit_lists.TwosComplement.{bits-wrap, num-bits_residue}
use Rattle.arbitrary_base.proofs.storages.Primitive.{cast_unsigned-residue}
use Rattle.arbitrary_calls.proofs.counts.RunsByDigits.{leading-counted}
use mir.Val.{bits as width}

pattern : (w : Width) (x : ℤ) → FitsSigned w x → cast_unsigned w x ≡ num (bits (width w) x)
pattern w x f = cast_unsigned-residue w x f ∙ sym (num-bits_residue (width w) x)

pub popcount-of_signed : (w : Width) (x : ℤ) → FitsSigned w x → count_ones (cast_unsigned w x) ≡ count_by (λ b. b) (bits (width w) x)
popcount-of_signed w x f = ap count_ones (pattern w x f) ∙ popcount-num (bits (width w) x)

-- ---- zeros at the low end, at two widths

wider : (f g n : ℕ) → f ≤ g → 0 < n → n < 2 ^ f → count_trailing_zeros f n ≡ count_trailing_zeros g n
unfolding count_trailing_zeros
wider zero g n h z l = absurd (omega arith)
wider (suc f) zero n h z l = absurd (omega arith)
wider (suc f) (suc g) n h z l = by-digit (n % 2) refl (λ some. wider f g (n / 2) (omega arith) some (let p = pow-suc 2 f in omega arith))
  where
    by-digit : (d : ℕ) → d ≡ n % 2 → (0 < n / 2 → count_trailing_zeros f (n / 2) ≡ count_trailing_zeros g (n / 2))
        → under (n % 2) (count_trailing_zeros f (n / 2)) ≡ under (n % 2) (count_trailing_zeros g (n / 2))
    by-digit zero d more = ap (under (n % 2)) (more (omega arith))
    by-digit (suc c) d more = rw (sym d) refl

pub trailing-of_128 : (W n : ℕ) → W < 128 → 0 < n → n < 2 ^ W → count_trailing_zeros W n ≡ count_trailing_zeros 128 n
trailing-of_128 W n h z l = wider W 128 n (omega arith) z l

pub ruleset converted_counts = (Decides-int_eq, bits-wrap, leading-counted, popcount-of_signed, trailing-of_128)
