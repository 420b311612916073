-- Signed fields in a word that is joined by `|`, or written where a mask has cleared one: you read the number
-- whose bits you wrote, and write the bits that you read. Callers name the set `signed_fields`.
use Rattle.std.specs.Prelude.{◌≡◌, ℕ, ℤ, suc, true, false, pos, ◌+◌, ◌*◌, ◌/◌, ◌%◌, ◌^◌, ◌≤◌, ◌<◌}
use Rattle.std.specs.Int.Bits.{bit_and, bit_or}
use Rattle.std.proofs.Common.{arith, refl, ap, ap₂, sym, subst, ◌∙◌, mod-eq_of_lt}
use Rattle.std.proofs.lemmas.Grind.{low_zeros}
use Rattle.std.proofs.lemmas.Nat.{and_le_r, and_mod, and_shr, div-mul-add, or_mod, or_shr, pow_pos}
use Rattle.arbitrary_base.specs.Range.{InRange}
use Rattle.arbitrary_base.specs.Residue.{Congruent, residue, wrap}
use Rattle.arbitrary_base.proofs.modular.Congruence.{Congruent-sym, Congruent-trans}
use Rattle.arbitrary_base.proofs.modular.Inverse.{wrap-wrap}
use Rattle.arbitrary_base.proofs.modular.Residue.{wrap-congruent, wrap-same}
use Rattle.arbitrary_base.proofs.modular.Truncation.{residue-wrap}
use Rattle.arbitrary_base.proofs.storages.Primitive.{mod-congruent, wrap-pos}
use Rattle.arbitrary_laws.proofs.fields.JoinedWords.{words_read_back}

-- what is read of the bits of x. The first part of each conclusion says nothing: it shows the search the call
pub signed-of_bits : (B : ℕ) (x : ℤ) → 1 ≤ B → InRange true B x → (residue B x ≡ residue B x) × (wrap true B (pos (residue B x)) ≡ x)
signed-of_bits B x h f = (refl, ap (wrap true B) (residue-wrap B x h) ∙ wrap-wrap true false B x h f)

pub signed-of_unsigned : (B : ℕ) (x : ℤ) → 1 ≤ B → InRange true B x → (wrap false B x ≡ wrap false B x) × (wrap true B (wrap false B x) ≡ x)
signed-of_unsigned B x h f = (refl, wrap-wrap true false B x h f)

-- what is written of a number that was read of the bits n
pub unsigned-of_signed : (B n : ℕ) → 1 ≤ B → (wrap true B (pos n) ≡ wrap true B (pos n)) × (wrap false B (wrap true B (pos n)) ≡ pos (n % 2 ^ B))
unsigned-of_signed B n h = (refl, wrap-same false B _ (pos n) (wrap-congruent true B (pos n)) ∙ wrap-pos B n h)

pub bits-of_signed : (B n : ℕ) → 1 ≤ B → (wrap true B (pos n) ≡ wrap true B (pos n)) × (pos (residue B (wrap true B (pos n))) ≡ pos (n % 2 ^ B))
bits-of_signed B n h = let u = unsigned-of_signed B n h in (refl, residue-wrap B (wrap true B (pos n)) h ∙ u.1)

-- ---- a field that is written where a mask has cleared one; `suc m` fits a mask that is written out

quotient : (y c : ℕ) → 0 < c → y * c / c ≡ y
quotient y c l = let e : y * c ≡ y * c + 0 = omega arith in ap (λ (i : ℕ). i / c) e ∙ div-mul-add y c 0 l

-- what is there then
written : (B w m y d v : ℕ) → d ≡ 2 ^ low_zeros 128 d → suc m / d % 2 ^ B ≡ 0 → y * d < v → bit_or (bit_and w (suc m)) (y * d % v) / d % 2 ^ B ≡ y % 2 ^ B
written B w m y d v p f h =
    let k = low_zeros 128 d in
    let g : suc m / 2 ^ k % 2 ^ B ≡ 0 = subst (λ (i : ℕ). suc m / i % 2 ^ B ≡ 0) p f in
    let none : bit_and (w / 2 ^ k % 2 ^ B) 0 ≡ 0 = omega (arith, and_le_r (w / 2 ^ k % 2 ^ B) 0) in
    let cleared : bit_and w (suc m) / 2 ^ k % 2 ^ B ≡ 0 =
    ap (λ (i : ℕ). i % 2 ^ B) (and_shr w (suc m) k) ∙ and_mod (w / 2 ^ k) (suc m / 2 ^ k) B ∙ ap (bit_and (w / 2 ^ k % 2 ^ B)) g ∙ none in
    let moved : y * d % v / 2 ^ k ≡ y = ap (λ (i : ℕ). i / 2 ^ k) (mod-eq_of_lt h) ∙ ap (λ (i : ℕ). y * i / 2 ^ k) p ∙ quotient y (2 ^ k) (pow_pos k) in
    let alone : bit_or 0 (y % 2 ^ B) ≡ y % 2 ^ B = omega arith in
    ap (λ (i : ℕ). bit_or (bit_and w (suc m)) (y * d % v) / i % 2 ^ B) p
    ∙ ap (λ (i : ℕ). i % 2 ^ B) (or_shr (bit_and w (suc m)) (y * d % v) k)
    ∙ or_mod (bit_and w (suc m) / 2 ^ k) (y * d % v / 2 ^ k) B
    ∙ ap₂ bit_or cleared (ap (λ (i : ℕ). i % 2 ^ B) moved) ∙ alone

pub written-congruent : (B w m y d v : ℕ) (x : ℤ) → d ≡ 2 ^ low_zeros 128 d → suc m / d % 2 ^ B ≡ 0 → y * d < v → pos y ≡ pos (residue B x)
    → 1 ≤ B → Congruent B (pos (bit_or (bit_and w (suc m)) (y * d % v) / d)) x
written-congruent B w m y d v x p f h e l =
    let n = bit_or (bit_and w (suc m)) (y * d % v) / d in
    let one : Congruent B (pos n) (pos (n % 2 ^ B)) = Congruent-sym B _ _ (mod-congruent B n) in
    let two : Congruent B (pos (n % 2 ^ B)) (pos y) = subst (λ (i : ℕ). Congruent B (pos i) (pos y)) (sym (written B w m y d v p f h)) (mod-congruent B y) in
    let three : Congruent B (pos y) x = subst (λ (z : ℤ). Congruent B z x) (sym (e ∙ residue-wrap B x l)) (wrap-congruent false B x) in
    Congruent-trans B _ _ x one (Congruent-trans B _ _ x two three)

pub written-read_back : (w m y d v c : ℕ) → d ≡ 2 ^ low_zeros 128 d → c ≡ 2 ^ low_zeros 128 c → suc m / d % c ≡ 0 → y < c → y * d < v
    → bit_or (bit_and w (suc m)) (y * d % v) / d % c ≡ y
written-read_back w m y d v c p q f l h =
    let B = low_zeros 128 c in
    let n = bit_or (bit_and w (suc m)) (y * d % v) / d in
    ap (λ (i : ℕ). n % i) q ∙ written B w m y d v p (subst (λ (i : ℕ). suc m / d % i ≡ 0) q f) h ∙ mod-eq_of_lt (subst (λ (i : ℕ). y < i) q l)

-- the field alone
pub ruleset signs_read_back = (signed-of_bits, signed-of_unsigned, unsigned-of_signed, bits-of_signed, written-congruent)

-- and the other bits of the word
pub ruleset signed_fields = (words_read_back, signs_read_back, written-read_back)
