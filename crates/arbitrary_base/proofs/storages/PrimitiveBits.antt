-- How `& | ^ !` of the primitives, as std defines them, act on bit lists. The impls of `arbitrary_traits` cite
-- these lemmas.
use Rattle.std.specs.Prelude.{◌≡◌, ◌^◌, ℕ, ℤ, List, Bool, length, pos, true, false, map, not}
use Rattle.std.specs.Int.{Width, bit_not, cast_signed, cast_unsigned, int_bit_and, int_bit_or, int_bit_xor, int_bit_not}
use Rattle.std.specs.Int.Bits.{bit_and, bit_or, bit_xor}
use Rattle.std.proofs.Common.{◌∙◌, ap, ap₂, arith, sym}
use mir.Val.{bits as width}
use Rattle.arbitrary_base.specs.Range.{InRange}
use Rattle.arbitrary_base.specs.Residue.{residue}
use Rattle.arbitrary_base.specs.BitList.{bits, num, val, bits_and, bits_or, bits_xor}
use Rattle.arbitrary_base.proofs.storages.Primitive.{bits_some, cast_unsigned-residue, residue-pos, signed-fits, signed-from_small, unsigned-in_range}
use Rattle.arbitrary_base.proofs.modular.Residue.{wrap-of_in_range}
use Rattle.arbitrary_base.proofs.bit_lists.UnsignedNumber.{length-and, length-bits, same_length, length-not, length-or, length-xor, num-and, num-lt_of, num-not, num-or, num-xor}
use Rattle.arbitrary_base.proofs.bit_lists.TwosComplement.{num-bits_residue, val-num}
use Rattle.arbitrary_base.proofs.storages.PrimitiveOperators.{lt-of_in_range}

-- ---- residues, bit by bit

and-residue : (B : ℕ) (x y : ℤ) → bit_and (residue B x) (residue B y) ≡ num (bits_and (bits B x) (bits B y))
and-residue B x y = sym (num-and (bits B x) (bits B y) ∙ ap₂ bit_and (num-bits_residue B x) (num-bits_residue B y))

or-residue : (B : ℕ) (x y : ℤ) → bit_or (residue B x) (residue B y) ≡ num (bits_or (bits B x) (bits B y))
or-residue B x y = sym (num-or (bits B x) (bits B y) (same_length B x y) ∙ ap₂ bit_or (num-bits_residue B x) (num-bits_residue B y))

xor-residue : (B : ℕ) (x y : ℤ) → bit_xor (residue B x) (residue B y) ≡ num (bits_xor (bits B x) (bits B y))
xor-residue B x y = sym (num-xor (bits B x) (bits B y) (same_length B x y) ∙ ap₂ bit_xor (num-bits_residue B x) (num-bits_residue B y))

not-residue : (w : Width) (x : ℤ) → bit_not w (residue (width w) x) ≡ num (map not (bits (width w) x))
not-residue w x =
    omega (arith, num-not (bits (width w) x), num-bits_residue (width w) x, ap (λ (n : ℕ). 2 ^ n) (length-bits (width w) x))

length-and_of : (B : ℕ) (x y : ℤ) → length (bits_and (bits B x) (bits B y)) ≡ B
length-and_of B x y = length-and (bits B x) (bits B y) (same_length B x y) ∙ length-bits B x

length-or_of : (B : ℕ) (x y : ℤ) → length (bits_or (bits B x) (bits B y)) ≡ B
length-or_of B x y = length-or (bits B x) (bits B y) (same_length B x y) ∙ length-bits B x

length-xor_of : (B : ℕ) (x y : ℤ) → length (bits_xor (bits B x) (bits B y)) ≡ B
length-xor_of B x y = length-xor (bits B x) (bits B y) (same_length B x y) ∙ length-bits B x

length-not_of : (B : ℕ) (x : ℤ) → length (map not (bits B x)) ≡ B
length-not_of B x = length-not (bits B x) ∙ length-bits B x

-- ---- unsigned

residue-unsigned : (w : Width) (n : ℕ) → InRange false (width w) (pos n) → residue (width w) (pos n) ≡ n
residue-unsigned w n f = residue-pos (width w) n (lt-of_in_range (width w) n f)

value-unsigned : (w : Width) (n : ℕ) (l : List Bool) → length l ≡ width w → n ≡ num l → pos n ≡ val false l
value-unsigned w n l h e =
    ap pos e
    ∙ sym (wrap-of_in_range false (width w) (pos (num l)) (bits_some w) (unsigned-in_range (width w) (num l) (num-lt_of (width w) l h)))
    ∙ sym (val-num false (width w) l h)

pub bitand-unsigned : (w : Width) (a b r : ℕ) → r ≡ bit_and a b → InRange false (width w) (pos a) → InRange false (width w) (pos b)
    → pos r ≡ val false (bits_and (bits (width w) (pos a)) (bits (width w) (pos b)))
bitand-unsigned w a b r e f g =
    value-unsigned w r _ (length-and_of (width w) (pos a) (pos b))
    (e ∙ sym (ap₂ bit_and (residue-unsigned w a f) (residue-unsigned w b g)) ∙ and-residue (width w) (pos a) (pos b))

pub bitor-unsigned : (w : Width) (a b r : ℕ) → r ≡ bit_or a b → InRange false (width w) (pos a) → InRange false (width w) (pos b)
    → pos r ≡ val false (bits_or (bits (width w) (pos a)) (bits (width w) (pos b)))
bitor-unsigned w a b r e f g =
    value-unsigned w r _ (length-or_of (width w) (pos a) (pos b))
    (e ∙ sym (ap₂ bit_or (residue-unsigned w a f) (residue-unsigned w b g)) ∙ or-residue (width w) (pos a) (pos b))

pub bitxor-unsigned : (w : Width) (a b r : ℕ) → r ≡ bit_xor a b → InRange false (width w) (pos a) → InRange false (width w) (pos b)
    → pos r ≡ val false (bits_xor (bits (width w) (pos a)) (bits (width w) (pos b)))
bitxor-unsigned w a b r e f g =
    value-unsigned w r _ (length-xor_of (width w) (pos a) (pos b))
    (e ∙ sym (ap₂ bit_xor (residue-unsigned w a f) (residue-unsigned w b g)) ∙ xor-residue (width w) (pos a) (pos b))

pub not-unsigned : (w : Width) (a r : ℕ) → r ≡ bit_not w a → InRange false (width w) (pos a)
    → pos r ≡ val false (map not (bits (width w) (pos a)))
not-unsigned w a r e f =
    value-unsigned w r _ (length-not_of (width w) (pos a))
    (e ∙ sym (ap (bit_not w) (residue-unsigned w a f)) ∙ not-residue w (pos a))

-- ---- signed

residue-signed : (w : Width) (x : ℤ) → InRange true (width w) x → cast_unsigned w x ≡ residue (width w) x
residue-signed w x f = cast_unsigned-residue w x (signed-fits w x f)

value-signed : (w : Width) (n : ℕ) (l : List Bool) → length l ≡ width w → n ≡ num l → cast_signed w n ≡ val true l
value-signed w n l h e =
    ap (cast_signed w) e ∙ signed-from_small w (num l) (num-lt_of (width w) l h) ∙ sym (val-num true (width w) l h)

pub bitand-signed : (w : Width) (a b r : ℤ) → r ≡ int_bit_and w a b → InRange true (width w) a → InRange true (width w) b
    → r ≡ val true (bits_and (bits (width w) a) (bits (width w) b))
bitand-signed w a b r e f g =
    e ∙ value-signed w _ _ (length-and_of (width w) a b) (ap₂ bit_and (residue-signed w a f) (residue-signed w b g) ∙ and-residue (width w) a b)

pub bitor-signed : (w : Width) (a b r : ℤ) → r ≡ int_bit_or w a b → InRange true (width w) a → InRange true (width w) b
    → r ≡ val true (bits_or (bits (width w) a) (bits (width w) b))
bitor-signed w a b r e f g =
    e ∙ value-signed w _ _ (length-or_of (width w) a b) (ap₂ bit_or (residue-signed w a f) (residue-signed w b g) ∙ or-residue (width w) a b)

pub bitxor-signed : (w : Width) (a b r : ℤ) → r ≡ int_bit_xor w a b → InRange true (width w) a → InRange true (width w) b
    → r ≡ val true (bits_xor (bits (width w) a) (bits (width w) b))
bitxor-signed w a b r e f g =
    e ∙ value-signed w _ _ (length-xor_of (width w) a b) (ap₂ bit_xor (residue-signed w a f) (residue-signed w b g) ∙ xor-residue (width w) a b)

pub not-signed : (w : Width) (a r : ℤ) → r ≡ int_bit_not w a → InRange true (width w) a → r ≡ val true (map not (bits (width w) a))
not-signed w a r e f =
    e ∙ value-signed w _ _ (length-not_of (width w) a) (ap (bit_not w) (residue-signed w a f) ∙ not-residue w a)
