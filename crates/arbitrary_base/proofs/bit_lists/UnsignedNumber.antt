-- The unsigned number that a list of bits represents.
use Rattle.std.proofs.Common.{◌≡◌, ℕ, zero, suc, ◌+◌, ◌*◌, ◌/◌, ◌%◌, ◌^◌, ◌<◌, min, max, Bool, if◌then◌else◌, true, false, not, ◌&&◌, ◌||◌, eqb, List, [], ◌∷◌, ◌++◌, length, take, drop, replicate, pos, ℤ, refl, sym, ap, ◌∙◌, subst, arith, add-one, mod-eq_of_lt}
use Rattle.std.specs.Prelude.{map}
use Rattle.std.proofs.Math.Nat.{mod-one, pow-suc, zero-mod, div-one, zero-div, div-div-eq-div-mul}
use Rattle.std.proofs.Math.Pow.{mod-pow-add}
use Rattle.std.proofs.lemmas.List.{length-map}
use Rattle.std.specs.Bool.{beq}
use Rattle.std.specs.Int.{int_div_euclid}
use Rattle.std.specs.Int.Bits.{bit_and, bit_or, bit_xor, and_step, or_step, xor_step, and_zero_r, differ}
use Rattle.arbitrary_base.specs.BitList.{bits, num, bits_and, bits_or, bits_xor}

-- what a bit adds to the number that begins with it
abbrev pub digit : Bool → ℕ
digit b = if b then 1 else 0

pub length-bits : (B : ℕ) (x : ℤ) → length (bits B x) ≡ B
unfolding bits
length-bits zero x = refl
length-bits (suc k) x = ap suc (length-bits k (int_div_euclid x (pos 2)))

pub same_length : (B : ℕ) (x y : ℤ) → length (bits B x) ≡ length (bits B y)
same_length B x y = length-bits B x ∙ sym (length-bits B y)

digit-odd : (n : ℕ) → digit (eqb (n % 2) 1) ≡ n % 2
digit-odd n = grind arith

pub mod-suc : (k n : ℕ) → n % 2 ^ suc k ≡ n % 2 + 2 * (n / 2 % 2 ^ k)
mod-suc k n = ap (λ (x : ℕ). n % 2 ^ x) (sym (add-one k)) ∙ mod-pow-add n k 1 ∙ omega arith

div-suc : (k n : ℕ) → n / 2 ^ suc k ≡ n / 2 / 2 ^ k
div-suc k n = ap (λ (x : ℕ). n / x) (omega (arith, pow-suc 2 k)) ∙ sym (div-div-eq-div-mul n 2 (2 ^ k))

pub num-bits : (B n : ℕ) → num (bits B (pos n)) ≡ n % 2 ^ B
unfolding bits
num-bits zero n = sym (mod-one n)
num-bits (suc k) n = omega (arith, digit-odd n, num-bits k (n / 2), mod-suc k n)

pub num-bits_small : (B n : ℕ) → n < 2 ^ B → num (bits B (pos n)) ≡ n
num-bits_small B n h = num-bits B n ∙ mod-eq_of_lt h

-- the lowest bit of a list's number, and what remains without it
pub cons-mod : (b : Bool) (n : ℕ) → (digit b + 2 * n) % 2 ≡ digit b
cons-mod true n = omega arith
cons-mod false n = omega arith

pub cons-div : (b : Bool) (n : ℕ) → (digit b + 2 * n) / 2 ≡ n
cons-div true n = omega arith
cons-div false n = omega arith

odd-digit : (b : Bool) → eqb (digit b) 1 ≡ b
odd-digit true = refl
odd-digit false = refl

bits-num : (l : List Bool) → bits (length l) (pos (num l)) ≡ l
unfolding bits
bits-num [] = refl
bits-num (b ∷ l) = rw (cons-mod b (num l), cons-div b (num l), odd-digit b, bits-num l) refl

pub bits-num_of : (B : ℕ) (l : List Bool) → length l ≡ B → bits B (pos (num l)) ≡ l
bits-num_of B l e = ap (λ (n : ℕ). bits n (pos (num l))) (sym e) ∙ bits-num l

-- two lists of one length that spell one number are one
pub same_num : (l m : List Bool) → length l ≡ length m → num l ≡ num m → l ≡ m
same_num l m e h = sym (bits-num l) ∙ ap (λ (n : ℕ). bits (length l) (pos n)) h ∙ bits-num_of (length l) m (sym e)

num-lt : (l : List Bool) → num l < 2 ^ length l
num-lt [] = omega arith
num-lt (true ∷ l) = omega (arith, num-lt l, pow-suc 2 (length l))
num-lt (false ∷ l) = omega (arith, num-lt l, pow-suc 2 (length l))

pub num-lt_of : (B : ℕ) (l : List Bool) → length l ≡ B → num l < 2 ^ B
num-lt_of B l e = subst (λ (n : ℕ). num l < 2 ^ n) e (num-lt l)

-- ---- parts

pub num-append : (l m : List Bool) → num (l ++ m) ≡ num l + 2 ^ length l * num m
num-append [] m = omega arith
num-append (b ∷ l) m = omega (arith, num-append l m, ap (λ (x : ℕ). x * num m) (pow-suc 2 (length l)))

pub num-zeros : (k : ℕ) → num (replicate k false) ≡ 0
num-zeros zero = refl
num-zeros (suc k) = omega (arith, num-zeros k)

pub num-take : (k : ℕ) (l : List Bool) → num (take k l) ≡ num l % 2 ^ k
num-take zero l = sym (mod-one (num l))
num-take (suc k) [] = sym (zero-mod (2 ^ suc k))
num-take (suc k) (b ∷ l) = omega (arith, num-take k l, mod-suc k (num (b ∷ l)), cons-mod b (num l), ap (λ (x : ℕ). x % 2 ^ k) (cons-div b (num l)))

pub num-drop : (k : ℕ) (l : List Bool) → num (drop k l) ≡ num l / 2 ^ k
num-drop zero l = sym (div-one (num l))
num-drop (suc k) [] = sym (zero-div (2 ^ suc k))
num-drop (suc k) (b ∷ l) = num-drop k l ∙ sym (div-suc k (num (b ∷ l)) ∙ ap (λ (x : ℕ). x / 2 ^ k) (cons-div b (num l)))

-- ---- item by item

pub num-not : (l : List Bool) → num l + num (map not l) + 1 ≡ 2 ^ length l
num-not [] = refl
num-not (true ∷ l) = omega (arith, num-not l, pow-suc 2 (length l))
num-not (false ∷ l) = omega (arith, num-not l, pow-suc 2 (length l))

digit-and : (a b : Bool) → digit (a && b) ≡ min (digit a) (digit b)
digit-and true true = refl
digit-and true false = refl
digit-and false true = refl
digit-and false false = refl

digit-or : (a b : Bool) → digit (a || b) ≡ max (digit a) (digit b)
digit-or true true = refl
digit-or true false = refl
digit-or false true = refl
digit-or false false = refl

digit-xor : (a b : Bool) → digit (not (beq a b)) ≡ differ (digit a) (digit b)
digit-xor true true = refl
digit-xor true false = refl
digit-xor false true = refl
digit-xor false false = refl

pub num-and : (l m : List Bool) → num (bits_and l m) ≡ bit_and (num l) (num m)
num-and [] m = refl
num-and (a ∷ l) [] = sym (and_zero_r (num (a ∷ l)))
num-and (a ∷ l) (b ∷ m) =
    sym (rw (and_step (num (a ∷ l)) (num (b ∷ m)), cons-mod a (num l), cons-mod b (num m), cons-div a (num l), cons-div b (num m), ← num-and l m, ← digit-and a b) (omega arith))

pub num-or : (l m : List Bool) → length l ≡ length m → num (bits_or l m) ≡ bit_or (num l) (num m)
num-or [] [] e = refl
num-or [] (b ∷ m) e = absurd (omega arith)
num-or (a ∷ l) [] e = absurd (omega arith)
num-or (a ∷ l) (b ∷ m) e =
    sym (rw (or_step (num (a ∷ l)) (num (b ∷ m)), cons-mod a (num l), cons-mod b (num m), cons-div a (num l), cons-div b (num m), ← num-or l m (omega arith), ← digit-or a b) (omega arith))

pub num-xor : (l m : List Bool) → length l ≡ length m → num (bits_xor l m) ≡ bit_xor (num l) (num m)
num-xor [] [] e = refl
num-xor [] (b ∷ m) e = absurd (omega arith)
num-xor (a ∷ l) [] e = absurd (omega arith)
num-xor (a ∷ l) (b ∷ m) e =
    sym (rw (xor_step (num (a ∷ l)) (num (b ∷ m)), cons-mod a (num l), cons-mod b (num m), cons-div a (num l), cons-div b (num m), ← num-xor l m (omega arith), ← digit-xor a b) (omega arith))

-- ---- lengths

pub length-and : (l m : List Bool) → length l ≡ length m → length (bits_and l m) ≡ length l
length-and [] [] e = refl
length-and [] (b ∷ m) e = refl
length-and (a ∷ l) [] e = absurd (omega arith)
length-and (a ∷ l) (b ∷ m) e = ap suc (length-and l m (omega arith))

pub length-or : (l m : List Bool) → length l ≡ length m → length (bits_or l m) ≡ length l
length-or [] [] e = refl
length-or [] (b ∷ m) e = refl
length-or (a ∷ l) [] e = absurd (omega arith)
length-or (a ∷ l) (b ∷ m) e = ap suc (length-or l m (omega arith))

pub length-xor : (l m : List Bool) → length l ≡ length m → length (bits_xor l m) ≡ length l
length-xor [] [] e = refl
length-xor [] (b ∷ m) e = refl
length-xor (a ∷ l) [] e = absurd (omega arith)
length-xor (a ∷ l) (b ∷ m) e = ap suc (length-xor l m (omega arith))

pub length-not : (l : List Bool) → length (map not l) ≡ length l
length-not l = length-map l not
