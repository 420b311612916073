-- The lowest field of a word that is joined by `|`: the congruence of the word, also for a signed field, and the
-- bits below a flag above a field. Callers name the set `lowest_fields`.
use Rattle.std.specs.Prelude.{◌≡◌, ℕ, ℤ, suc, false, pos, ◌+◌, ◌*◌, ◌%◌, ◌^◌, ◌<◌}
use Rattle.std.specs.Int.Bits.{bit_or}
use Rattle.std.proofs.Common.{arith, refl, ap, sym, subst, ◌∙◌, mod-eq_of_lt}
use Rattle.std.proofs.Math.Nat.{mul-mod_left}
use Rattle.std.proofs.lemmas.Grind.{low_zeros}
use Rattle.std.proofs.lemmas.Nat.{or_mod}
use Rattle.arbitrary_base.specs.Residue.{Congruent, wrap}
use Rattle.arbitrary_base.proofs.modular.Congruence.{Congruent-refl, Congruent-sym, Congruent-trans}
use Rattle.arbitrary_base.proofs.modular.Residue.{wrap-congruent}
use Rattle.arbitrary_base.proofs.storages.Primitive.{mod-congruent}
use Rattle.arbitrary_laws.proofs.fields.SideBySide.{beside}

-- ---- that field, whatever is above it

lowest : (k a b : ℕ) (y : ℤ) → a % 2 ^ k ≡ 0 → Congruent k (pos b) y → Congruent k (pos (bit_or a b)) y
lowest k a b y e c =
    let z : bit_or 0 (b % 2 ^ k) ≡ b % 2 ^ k = omega arith in
    let f : bit_or a b % 2 ^ k ≡ b % 2 ^ k = or_mod a b k ∙ ap (λ (n : ℕ). bit_or n (b % 2 ^ k)) e ∙ z in
    let one : Congruent k (pos (bit_or a b)) (pos (bit_or a b % 2 ^ k)) = Congruent-sym k _ _ (mod-congruent k (bit_or a b)) in
    let two : Congruent k (pos (bit_or a b % 2 ^ k)) (pos b) = subst (λ (n : ℕ). Congruent k (pos n) (pos b)) (sym f) (mod-congruent k b) in
    Congruent-trans k _ _ y one (Congruent-trans k _ _ y two c)

pub lowest_field : (k a b : ℕ) (y : ℤ) → a % 2 ^ k ≡ 0 → pos b ≡ y → Congruent k (pos (bit_or a b)) y
lowest_field k a b y e f = lowest k a b y e (subst (λ (z : ℤ). Congruent k (pos b) z) f (Congruent-refl k (pos b)))

pub lowest_field-wrapped : (k a b : ℕ) (y : ℤ) → a % 2 ^ k ≡ 0 → pos b ≡ wrap false k y → Congruent k (pos (bit_or a b)) y
lowest_field-wrapped k a b y e f = lowest k a b y e (subst (λ (z : ℤ). Congruent k z y) (sym f) (wrap-congruent false k y))

-- ---- a flag that a test sets above a field, and what comes below both

-- `suc m` fits a flag that is written out
pub or_below_flag : (y d v m b : ℕ) → d ≡ 2 ^ low_zeros 128 d → suc m % d ≡ 0 → b < d → y * d < v
    → bit_or (bit_or (y * d % v) (suc m)) b ≡ bit_or (y * d % v) (suc m) + b
or_below_flag y d v m b p e g h =
    let k = low_zeros 128 d in
    let f : suc m % 2 ^ k ≡ 0 = ap (λ (n : ℕ). suc m % n) (sym p) ∙ e in
    let s : y * d % v % 2 ^ k ≡ 0 = ap (λ (n : ℕ). n % 2 ^ k) (mod-eq_of_lt h) ∙ ap (λ (n : ℕ). y * n % 2 ^ k) p ∙ mul-mod_left y (2 ^ k) in
    let c : bit_or (y * d % v) (suc m) % 2 ^ k ≡ 0 = or_mod (y * d % v) (suc m) k ∙ rw (s, f) refl in
    beside (bit_or (y * d % v) (suc m)) k b c (omega arith)

pub ruleset lowest_fields = (lowest_field, lowest_field-wrapped, or_below_flag)
