-- How the numbers of two lists of bits relate to those of their `&`, `|` and `^`, and what follows for sums and
-- differences.
use Rattle.std.specs.Bool.{beq}
use Rattle.std.specs.Prelude.{Bool, List, [], false, length, map, not, pos, true, ℕ, ℤ, ◌&&◌, ◌+◌, ◌||◌, ◌∷◌, ◌≡◌, ◌≤ℤ◌, ◌≤◌}
use Rattle.std.proofs.Common.{ap, arith, refl, subst, sym, ◌∙◌}
use Rattle.std.proofs.lemmas.Int.{ints}
use Rattle.arbitrary_base.specs.BitList.{bits, bits_and, bits_or, bits_xor, num}
use Rattle.arbitrary_base.specs.Operation.{bitwise_and, bitwise_or, bitwise_xor, wrapped_difference, wrapped_sum}
use Rattle.arbitrary_base.specs.Range.{InRange}
use Rattle.arbitrary_base.specs.Residue.{Congruent}
use Rattle.arbitrary_base.proofs.bit_lists.StdBitwise.{num-and_right, num-plain}
use Rattle.arbitrary_base.proofs.bit_lists.TwosComplement.{num-bits_residue, val-num}
use Rattle.arbitrary_base.proofs.bit_lists.UnsignedNumber.{same_length}
use Rattle.arbitrary_base.proofs.modular.Congruence.{Congruent-sym}
use Rattle.arbitrary_base.proofs.modular.Residue.{residue-congruent, wrap-in_range}
use Rattle.arbitrary_base.proofs.operations.Definition.{and-is, bits-and, bits-or, bits-xor, length-of_two, or-is, xor-is}
use Rattle.arbitrary_base.proofs.operations.WrappedRing.{by-congruence, difference-congruent, difference-in_range, sum-congruent, sum-in_range, wrapped_sum-zero}

-- ---- the numbers of lists

pub num-or_and : (l m : List Bool) → length l ≡ length m → num (bits_or l m) + num (bits_and l m) ≡ num l + num m
num-or_and [] [] e = refl
num-or_and [] (b ∷ m) e = absurd (omega arith)
num-or_and (a ∷ l) [] e = absurd (omega arith)
num-or_and (true ∷ l) (true ∷ m) e = let h = num-or_and l m (omega arith) in omega arith
num-or_and (true ∷ l) (false ∷ m) e = let h = num-or_and l m (omega arith) in omega arith
num-or_and (false ∷ l) (true ∷ m) e = let h = num-or_and l m (omega arith) in omega arith
num-or_and (false ∷ l) (false ∷ m) e = let h = num-or_and l m (omega arith) in omega arith

pub num-xor_and : (l m : List Bool) → length l ≡ length m → num (bits_xor l m) + num (bits_and l m) ≡ num (bits_or l m)
num-xor_and [] [] e = refl
num-xor_and [] (b ∷ m) e = absurd (omega arith)
num-xor_and (a ∷ l) [] e = absurd (omega arith)
num-xor_and (true ∷ l) (true ∷ m) e = let h = num-xor_and l m (omega arith) in omega arith
num-xor_and (true ∷ l) (false ∷ m) e = let h = num-xor_and l m (omega arith) in omega arith
num-xor_and (false ∷ l) (true ∷ m) e = let h = num-xor_and l m (omega arith) in omega arith
num-xor_and (false ∷ l) (false ∷ m) e = let h = num-xor_and l m (omega arith) in omega arith

pub num-and_not : (l m : List Bool) → length l ≡ length m → num (bits_and l (map not m)) + num (bits_and l m) ≡ num l
num-and_not [] [] e = refl
num-and_not [] (b ∷ m) e = absurd (omega arith)
num-and_not (a ∷ l) [] e = absurd (omega arith)
num-and_not (true ∷ l) (true ∷ m) e = let h = num-and_not l m (omega arith) in omega arith
num-and_not (true ∷ l) (false ∷ m) e = let h = num-and_not l m (omega arith) in omega arith
num-and_not (false ∷ l) (true ∷ m) e = let h = num-and_not l m (omega arith) in omega arith
num-and_not (false ∷ l) (false ∷ m) e = let h = num-and_not l m (omega arith) in omega arith

-- ---- what a number is congruent to

pub natural : (B : ℕ) (x : ℤ) → Congruent B x (pos (num (bits B x)))
natural B x = Congruent-sym B _ x (subst (λ (n : ℕ). Congruent B (pos n) x) (sym (num-bits_residue B x)) (residue-congruent B x))

pub of-list : (B : ℕ) (x : ℤ) (l : List Bool) → bits B x ≡ l → Congruent B x (pos (num l))
of-list B x l e = subst (λ (m : List Bool). Congruent B x (pos (num m))) e (natural B x)

pub and-in_range : (s : Bool) (B : ℕ) (x y : ℤ) → 1 ≤ B → InRange s B (bitwise_and s B x y)
and-in_range s B x y h =
    subst (InRange s B) (sym (and-is s B x y ∙ val-num s B _ (length-of_two (λ a b. a && b) B x y))) (wrap-in_range s B _ h)

pub or-in_range : (s : Bool) (B : ℕ) (x y : ℤ) → 1 ≤ B → InRange s B (bitwise_or s B x y)
or-in_range s B x y h =
    subst (InRange s B) (sym (or-is s B x y ∙ val-num s B _ (length-of_two (λ a b. a || b) B x y))) (wrap-in_range s B _ h)

pub xor-in_range : (s : Bool) (B : ℕ) (x y : ℤ) → 1 ≤ B → InRange s B (bitwise_xor s B x y)
xor-in_range s B x y h =
    subst (InRange s B) (sym (xor-is s B x y ∙ val-num s B _ (length-of_two (λ a b. not (beq a b)) B x y))) (wrap-in_range s B _ h)

-- ---- sums and differences

pub sum-of_or_and : (s : Bool) (B : ℕ) (x y : ℤ) → 1 ≤ B → wrapped_sum s B (bitwise_or s B x y) (bitwise_and s B x y) ≡ wrapped_sum s B x y
sum-of_or_and s B x y h =
    let e = num-or_and (bits B x) (bits B y) (same_length B x y) in
    by-congruence s B _ _ _ _ h (sum-in_range s B _ _ h) (sum-in_range s B x y h)
    (sum-congruent s B _ _ _ _ (of-list B _ _ (bits-or s B x y)) (of-list B _ _ (bits-and s B x y)))
    (sum-congruent s B x y _ _ (natural B x) (natural B y)) (omega (arith, ints))

pub sum-of_disjoint : (s : Bool) (B : ℕ) (x y : ℤ) → 1 ≤ B → bitwise_and s B x y ≡ pos 0 → wrapped_sum s B x y ≡ bitwise_or s B x y
sum-of_disjoint s B x y h e =
    sym (sum-of_or_and s B x y h) ∙ ap (wrapped_sum s B (bitwise_or s B x y)) e
    ∙ wrapped_sum-zero s B (bitwise_or s B x y) h (or-in_range s B x y h)

pub difference-of_or_and : (s : Bool) (B : ℕ) (x y : ℤ) → 1 ≤ B → wrapped_difference s B (bitwise_or s B x y) (bitwise_and s B x y) ≡ bitwise_xor s B x y
difference-of_or_and s B x y h =
    let e = num-xor_and (bits B x) (bits B y) (same_length B x y) in
    by-congruence s B _ _ _ _ h (difference-in_range s B _ _ h) (xor-in_range s B x y h)
    (difference-congruent s B _ _ _ _ (of-list B _ _ (bits-or s B x y)) (of-list B _ _ (bits-and s B x y)))
    (of-list B _ _ (bits-xor s B x y)) (omega (arith, ints))

-- ---- order, where the type has no sign

pub plain : (B : ℕ) (x : ℤ) → InRange false B x → x ≡ pos (num (bits B x))
plain B x f =
    let z = f.low in
    let n = num-plain false B x f z in
    omega (arith, ints)

num-or_left : (l m : List Bool) → length l ≡ length m → num l ≤ num (bits_or l m)
num-or_left l m e = omega (arith, num-or_and l m e, num-and_right l m)

pub or-above : (B : ℕ) (x y : ℤ) → 1 ≤ B → InRange false B x → x ≤ℤ bitwise_or false B x y
or-above B x y h f =
    let e = plain B x f in
    let d = plain B (bitwise_or false B x y) (or-in_range false B x y h) in
    let b = ap num (bits-or false B x y) in
    let c = num-or_left (bits B x) (bits B y) (same_length B x y) in
    omega (arith, ints)

-- the same for an equal result
pub or-keeps : (s : Bool) (B : ℕ) (x y z : ℤ) → s ≡ false → 1 ≤ B → InRange s B x → z ≡ bitwise_or s B x y → x ≤ℤ z
or-keeps true B x y z d h f e = absurd (cc)
or-keeps false B x y z d h f e = subst (λ (w : ℤ). x ≤ℤ w) (sym e) (or-above B x y h f)
