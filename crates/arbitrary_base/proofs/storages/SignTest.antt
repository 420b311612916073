-- A signed sum overflows exactly where its sign is that of neither number.
use Rattle.std.specs.Prelude.{◌≡◌, ◌↔◌, ℕ, ℤ, Bool, true, false, not, ◌&&◌, pos, neg_ℤ, ◌+ℤ◌, ◌-ℤ◌, ◌≤ℤ◌, ◌<ℤ◌, ◌-◌, ◌^◌, ◌≤◌, int_lt, nat_eq, IsTrue}
use Rattle.std.specs.Int.Bits.{bit_and, bit_xor}
use Rattle.std.proofs.Common.{arith, refl, sym, subst, ◌∙◌, ⊎_elim}
use Rattle.std.proofs.lemmas.Int.{ints}
use Rattle.std.proofs.lemmas.Nat.{pow_pos}
use mathlib.Core.Bool.{beq}
use mir.Val.{bool_byte}
use Rattle.arbitrary_base.specs.Range.{lo, hi, InRange}
use Rattle.arbitrary_base.specs.Residue.{wrap}
use Rattle.arbitrary_base.proofs.modular.Congruence.{pow_half, span}
use Rattle.arbitrary_base.proofs.modular.Residue.{wrap-of_in_range}
use Rattle.arbitrary_base.proofs.storages.CheckedSum.{three_ways, wrap-above, wrap-below}

-- the test, as the code makes it of the signs a, b and c
pub across-zero : (p q r a b c : Bool) → a ≡ p → b ≡ q → c ≡ r
    → nat_eq (bit_and (bit_xor (bool_byte a) (bool_byte b)) (bit_xor (bool_byte a) (bool_byte c))) 1 ≡ (not (beq p q) && not (beq p r))
across-zero p q r a b c e f g = table a b c ∙ (λ i. not (beq (e i) (f i)) && not (beq (e i) (g i)))
  where
    table : (a b c : Bool) → nat_eq (bit_and (bit_xor (bool_byte a) (bool_byte b)) (bit_xor (bool_byte a) (bool_byte c))) 1 ≡ (not (beq a b) && not (beq a c))
    table true true true = refl
    table true true false = refl
    table true false true = refl
    table true false false = refl
    table false true true = refl
    table false true false = refl
    table false false true = refl
    table false false false = refl

-- a test that holds where the exact result e is out of range, and so its truncation w on the other side of 0
side_tests : (B : ℕ) (e w : ℤ) (o : Bool) → 1 ≤ B → neg_ℤ (pos (2 ^ B)) ≤ℤ e → e <ℤ pos (2 ^ B) → w ≡ wrap true B e → (w ≡ e → o ≡ false)
    → (e <ℤ lo true B → pos 0 ≤ℤ w → o ≡ true) → (hi true B <ℤ e → w <ℤ pos 0 → o ≡ true) → IsTrue o ↔ ¬ (InRange true B e)
side_tests B e w o h l u c f g k =
    let p = pow_half B h in let q = span true B h in let r = pow_pos (B - 1) in
    ⊎_elim
    (λ i. ((λ t. let z : IsTrue false = subst (λ (b : Bool). IsTrue b) (f (c ∙ wrap-of_in_range true B e h i)) t in cc), (λ n. absurd (n i))))
    (⊎_elim
    (λ a. let d : w ≡ e +ℤ pos (2 ^ B) = c ∙ wrap-below true B e h a (omega (arith, ints)) in
    ((λ t i. let m = i.low in omega (arith, ints)), (λ n. subst (λ (b : Bool). IsTrue b) (sym (g a (omega (arith, ints)))) refl)))
    (λ a. let d : w ≡ e -ℤ pos (2 ^ B) = c ∙ wrap-above true B e h a (omega (arith, ints)) in
    ((λ t i. let m = i.high in omega (arith, ints)), (λ n. subst (λ (b : Bool). IsTrue b) (sym (k a (omega (arith, ints)))) refl))))
    (three_ways true B e)

-- the signs of x, y and w, where x is the sum
keeps_sign : (x y w : ℤ) (p q r : Bool) → x ≡ y +ℤ w → p ≡ int_lt x (pos 0) → q ≡ int_lt y (pos 0) → r ≡ int_lt w (pos 0) → (not (beq p q) && not (beq p r)) ≡ false
keeps_sign x y w true true r e f g h = refl
keeps_sign x y w true false true e f g h = refl
keeps_sign x y w true false false e f g h = absurd (grind (arith, ints))
keeps_sign x y w false false r e f g h = refl
keeps_sign x y w false true false e f g h = refl
keeps_sign x y w false true true e f g h = absurd (grind (arith, ints))

pub add-across : (s : Bool) (B : ℕ) (x y w : ℤ) (o : Bool) → s ≡ true → 1 ≤ B → InRange s B x → InRange s B y → w ≡ wrap s B (x +ℤ y)
    → o ≡ (not (beq (int_lt w (pos 0)) (int_lt x (pos 0))) && not (beq (int_lt w (pos 0)) (int_lt y (pos 0)))) → IsTrue o ↔ ¬ (InRange s B (x +ℤ y))
add-across false B x y w o t h i j e f = cc
add-across true B x y w o t h i j e f =
    let a = i.low in let b = i.high in let c = j.low in let d = j.high in
    let k = span true B h in let m = pow_half B h in let g = pow_pos (B - 1) in
    side_tests B (x +ℤ y) w o h (omega (arith, ints)) (omega (arith, ints)) e (λ z. f ∙ keeps_sign w x y _ _ _ (omega (arith, ints)) refl refl refl)
    (λ l n. grind (arith, ints)) (λ l n. grind (arith, ints))

pub sub-across : (s : Bool) (B : ℕ) (x y w : ℤ) (o : Bool) → s ≡ true → 1 ≤ B → InRange s B x → InRange s B y → w ≡ wrap s B (x -ℤ y)
    → o ≡ (not (beq (int_lt x (pos 0)) (int_lt y (pos 0))) && not (beq (int_lt x (pos 0)) (int_lt w (pos 0)))) → IsTrue o ↔ ¬ (InRange s B (x -ℤ y))
sub-across false B x y w o t h i j e f = cc
sub-across true B x y w o t h i j e f =
    let a = i.low in let b = i.high in let c = j.low in let d = j.high in
    let k = span true B h in let m = pow_half B h in let g = pow_pos (B - 1) in
    side_tests B (x -ℤ y) w o h (omega (arith, ints)) (omega (arith, ints)) e (λ z. f ∙ keeps_sign x y w _ _ _ (omega (arith, ints)) refl refl refl)
    (λ l n. grind (arith, ints)) (λ l n. grind (arith, ints))
