-- Numbers of a primitive that wrap: std's sums and differences at their own width, of a converted number, and
-- the low bits of a word that are read with a sign. Each law rewrites a call to what it is congruent to, so that
-- the search opens no congruence.
use Rattle.std.specs.Prelude.{◌≡◌, ℕ, ℤ, suc, Bool, false, pos, ◌+ℤ◌, ◌-ℤ◌, ◌+◌, ◌-◌, ◌%◌, ◌^◌, ◌≤◌}
use Rattle.std.specs.Int.Bits.{bit_and}
use Rattle.std.proofs.Common.{arith, refl, ap, sym, subst, ◌∙◌}
use Rattle.std.proofs.lemmas.Int.{ints}
use Rattle.std.proofs.lemmas.Nat.{and_mask, pow_pos}
use Rattle.arbitrary_base.specs.Residue.{Congruent, wrap}
use Rattle.arbitrary_base.proofs.modular.Congruence.{Congruent-add, Congruent-from_apart, Congruent-refl, Congruent-sub, Congruent-trans}
use Rattle.arbitrary_base.proofs.modular.Residue.{wrap-congruent, wrap-same}
use Rattle.arbitrary_base.proofs.storages.Primitive.{mod-congruent}
use Rattle.arbitrary_laws.proofs.numbers.Conversions.{signed_primitive}

remainder : (B n m : ℕ) → m ≡ 2 ^ B → Congruent B (pos (n % m)) (pos n)
remainder B n m e = subst (λ (i : ℕ). Congruent B (pos (n % i)) (pos n)) (sym e) (mod-congruent B n)

converted : (B a : ℕ) (x : ℤ) → pos a ≡ wrap false B x → Congruent B (pos a) x
converted B a x e = subst (λ (z : ℤ). Congruent B z x) (sym e) (wrap-congruent false B x)

same : (B a : ℕ) → Congruent B (pos a) (pos a)
same B a = Congruent-refl B (pos a)

sum : (B a b m : ℕ) (x y : ℤ) → m ≡ 2 ^ B → Congruent B (pos a) x → Congruent B (pos b) y → Congruent B (pos ((a + b) % m)) (x +ℤ y)
sum B a b m x y e c d =
    let total : pos (a + b) ≡ pos a +ℤ pos b = omega (arith, ints) in
    let s : Congruent B (pos (a + b)) (x +ℤ y) = subst (λ (z : ℤ). Congruent B z (x +ℤ y)) (sym total) (Congruent-add B (pos a) x (pos b) y c d) in
    Congruent-trans B (pos ((a + b) % m)) (pos (a + b)) (x +ℤ y) (remainder B (a + b) m e) s

difference : (B a b m : ℕ) (x y : ℤ) → m ≡ 2 ^ B → b ≤ m → Congruent B (pos a) x → Congruent B (pos b) y
    → Congruent B (pos ((a + (m - b)) % m)) (x -ℤ y)
difference B a b m x y e l c d =
    let n = a + (m - b) in
    let apart : Congruent B (pos n) (pos a -ℤ pos b) = Congruent-from_apart B (pos n) (pos a -ℤ pos b) (0, 1, omega (arith, ints, e, l)) in
    let s : Congruent B (pos a -ℤ pos b) (x -ℤ y) = Congruent-sub B (pos a) x (pos b) y c d in
    Congruent-trans B (pos (n % m)) (pos n) (x -ℤ y) (remainder B n m e) (Congruent-trans B (pos n) (pos a -ℤ pos b) (x -ℤ y) apart s)

-- ---- a word that is read with a sign, or with fewer bits

pub wrap-remainder : (s : Bool) (B n m : ℕ) → 1 ≤ B → m ≡ 2 ^ B → wrap s B (pos (n % m)) ≡ wrap s B (pos n)
wrap-remainder s B n m h e = wrap-same s B (pos (n % m)) (pos n) (remainder B n m e)

-- `suc m` fits a mask that is written out
pub wrap-masked : (s : Bool) (B n m : ℕ) → 1 ≤ B → suc (suc m) ≡ 2 ^ B → wrap s B (pos (bit_and n (suc m))) ≡ wrap s B (pos n)
wrap-masked s B n m h e =
    let p = pow_pos B in
    let f : suc m ≡ 2 ^ B - 1 = omega (arith, e) in
    let g : bit_and n (suc m) ≡ n % 2 ^ B = ap (bit_and n) f ∙ and_mask n B in
    ap (λ (i : ℕ). wrap s B (pos i)) g ∙ wrap-remainder s B n (2 ^ B) h refl

-- ---- std's sums and differences that wrap, of a converted number

pub word_sum-left : (B a b m : ℕ) (x : ℤ) → m ≡ 2 ^ B → pos a ≡ wrap false B x → Congruent B (pos ((a + b) % m)) (x +ℤ pos b)
word_sum-left B a b m x e f = sum B a b m x (pos b) e (converted B a x f) (same B b)

pub word_sum-before : (B a b c m : ℕ) (y : ℤ) → m ≡ 2 ^ B → pos b ≡ wrap false B y
    → Congruent B (pos (((a + b) % m + c) % m)) (pos a +ℤ y +ℤ pos c)
word_sum-before B a b c m y e f =
    sum B ((a + b) % m) c m (pos a +ℤ y) (pos c) e (sum B a b m (pos a) y e (same B a) (converted B b y f)) (same B c)

pub word_sum-after : (B a b m : ℕ) (y : ℤ) → m ≡ 2 ^ B → pos b ≡ wrap false B y → Congruent B (pos ((a % m + b) % m)) (pos a +ℤ y)
word_sum-after B a b m y e f = sum B (a % m) b m (pos a) y e (remainder B a m e) (converted B b y f)

pub word_difference-right : (B a b m : ℕ) (y : ℤ) → m ≡ 2 ^ B → b ≤ m → pos b ≡ wrap false B y
    → Congruent B (pos ((a + (m - b)) % m)) (pos a -ℤ y)
word_difference-right B a b m y e l f = difference B a b m (pos a) y e l (same B a) (converted B b y f)

-- a difference that is read with a sign, or with fewer bits
pub wrap-word_difference : (s : Bool) (B a b m : ℕ) → 1 ≤ B → m ≡ 2 ^ B → b ≤ m → wrap s B (pos ((a + (m - b)) % m)) ≡ wrap s B (pos a -ℤ pos b)
wrap-word_difference s B a b m h e l =
    wrap-same s B (pos ((a + (m - b)) % m)) (pos a -ℤ pos b) (difference B a b m (pos a) (pos b) e l (same B a) (same B b))

pub ruleset wrapped_words = (wrap-congruent, signed_primitive, wrap-remainder, wrap-masked, word_sum-left, word_sum-before, word_sum-after, word_difference-right, wrap-word_difference)
