-- Why `Int` can store the pattern of its number, and why the calls on bits can use that pattern.
use Rattle.std.specs.Prelude.{◌≡◌, ℕ, ℤ, Bool, List, false, pos, length, suc, true, zero, ◌≤◌, ◌-ℤ◌}
use Rattle.std.specs.Ordering.{int_eq}
use Rattle.std.proofs.Common.{refl, ap, arith, sym, subst, ◌∙◌}
use Rattle.std.proofs.lemmas.Bool.Decides.{Decides-int_eq, same_from_decides}
use Rattle.std.proofs.lemmas.Int.{ints}
use Rattle.arbitrary_base.specs.Range.{InRange, lo}
use Rattle.arbitrary_base.specs.Residue.{residue, wrap}
use Rattle.arbitrary_base.specs.BitList.{bits, num, val}
use Rattle.arbitrary_base.proofs.modular.Residue.{residue-lt, wrap-congruent, wrap-in_range, wrap-same}
use Rattle.arbitrary_base.proofs.storages.Primitive.{unsigned-in_range}
use Rattle.arbitrary_base.proofs.modular.RoundTrip.{number-of_residue}
use Rattle.arbitrary_base.proofs.bit_lists.TwosComplement.{bits-residue, val-bits, val-num}
use Rattle.arbitrary_base.proofs.bit_lists.UnsignedNumber.{length-bits}

-- a pattern is in the range of an unsigned storage's type
pub pattern-range : (t : Bool) (B : ℕ) (x p : ℤ) → t ≡ false → pos (residue B x) ≡ p → InRange t B p
pattern-range t B x p e f =
    subst (λ (z : ℤ). InRange t B z) f (subst (λ (u : Bool). InRange u B (pos (residue B x))) (sym e) (unsigned-in_range B _ (residue-lt B x)))

-- the truncation of p, which is that of x at the other sign, is that of x
pub wrapped-twice : (s t : Bool) (B : ℕ) (x p r : ℤ) → 1 ≤ B → p ≡ wrap t B x → r ≡ wrap s B p → r ≡ wrap s B x
wrapped-twice s t B x p r h e f = f ∙ ap (wrap s B) e ∙ wrap-same s B _ x (wrap-congruent t B x)

-- the number r that has the list l, from that of the other sign
pub number-of_list : (s t : Bool) (B : ℕ) (l m : List Bool) (z r : ℤ) → 1 ≤ B → length l ≡ B → m ≡ l → z ≡ val t m → r ≡ wrap s B z → r ≡ val s l
number-of_list s t B l m z r h n d e f =
    wrapped-twice s t B (pos (num l)) z r h (e ∙ ap (val t) d ∙ val-num t B l n) f ∙ sym (val-num s B l n)

-- the pattern has the bits of its number
pub bits-stays : (B : ℕ) (x p : ℤ) → p ≡ pos (residue B x) → bits B p ≡ bits B x
bits-stays B x p e = ap (bits B) e ∙ bits-residue B (residue B x) x refl

-- numbers are equal where their patterns are
pub same-patterns : (s : Bool) (B : ℕ) (x y p q : ℤ) (r : Bool) → 1 ≤ B → InRange s B x → InRange s B y → p ≡ pos (residue B x) → q ≡ pos (residue B y)
    → r ≡ int_eq p q → r ≡ int_eq x y
same-patterns s B x y p q r h f g d e k =
    let t = Decides-int_eq p q in
    let same : p ≡ q → x ≡ y = λ i. sym (number-of_residue s B x h f) ∙ ap (wrap s B) (sym d ∙ i ∙ e) ∙ number-of_residue s B y h g in
    let stays : x ≡ y → p ≡ q = λ i. d ∙ ap (λ (z : ℤ). pos (residue B z)) i ∙ sym e in
    k ∙ same_from_decides (int_eq p q) (int_eq x y) ((λ i. same (t.0 i)), (λ i. t.1 (stays i))) (Decides-int_eq x y)

wrap-at_no_width : (s : Bool) (y : ℤ) → InRange s 0 (wrap s 0 y)
unfolding wrap
wrap-at_no_width false y = let l = residue-lt 0 (y -ℤ lo false 0) in record { low = omega (arith, ints, l); high = omega (arith, ints, l) }
wrap-at_no_width true y = let l = residue-lt 0 (y -ℤ lo true 0) in record { low = omega (arith, ints, l); high = omega (arith, ints, l) }

-- a number that is the value of its own bits is in range: one behind a reference, of which nothing else is known
pub in_range-by_bits : (s : Bool) (B : ℕ) (x : ℤ) → val s (bits B x) ≡ x → InRange s B x
in_range-by_bits s zero x e = subst (InRange s 0) (sym (val-num s 0 (bits 0 x) (length-bits 0 x)) ∙ e) (wrap-at_no_width s _)
in_range-by_bits s (suc B) x e =
    let h : 1 ≤ suc B = omega arith in
    subst (InRange s (suc B)) (sym (val-bits s (suc B) x h) ∙ e) (wrap-in_range s (suc B) x h)
