-- What you read from a field of a primitive whose word consists of `|` and masks: the same as from its parts. So
-- several fields that are written at once, under masks and with constants in any order, are read back, and the
-- other fields do not change. Callers name the set `field_reads`.
use Rattle.std.specs.Prelude.{◌≡◌, ℕ, suc, ◌+◌, ◌-◌, ◌*◌, ◌/◌, ◌%◌, ◌^◌, ◌<◌}
use Rattle.std.specs.Int.Bits.{bit_and, bit_or, or_add_and}
use Rattle.std.proofs.Common.{sym, ap, ap₂, subst, ◌∙◌, arith, div-add-mod', mod-eq_of_lt}
use Rattle.std.proofs.Math.Nat.{mod-mod, mul-mod_left}
use Rattle.std.proofs.lemmas.Grind.{low_zeros}
use Rattle.std.proofs.lemmas.Nat.{and_le_r, and_mask, and_mod, and_shr, div-mul-add, or_comm, or_mod, or_shr, pow_pos}

none : (n : ℕ) → bit_and n 0 ≡ 0
none n = let l = and_le_r n 0 in omega arith

alone : (a b : ℕ) → a ≡ 0 → bit_or a b ≡ b
alone a b e = ap (λ (n : ℕ). bit_or n b) e ∙ (let z : bit_or 0 b ≡ b = omega arith in z)

-- ---- two parts that `|` joins: the lowest c numbers, and the field of c numbers from place d on

module _ (a b c : ℕ) where
  pub low-of_joined : c ≡ 2 ^ low_zeros 128 c → bit_or a b % c ≡ bit_or (a % c) (b % c)
  low-of_joined q =
      let l = low_zeros 128 c in
      ap (λ (i : ℕ). bit_or a b % i) q ∙ or_mod a b l ∙ sym (ap (λ (i : ℕ). bit_or (a % i) (b % i)) q)

  pub low-of_right : a % c ≡ 0 → bit_or (a % c) (b % c) ≡ b % c
  low-of_right e = alone (a % c) (b % c) e

  pub low-of_left : b % c ≡ 0 → bit_or (a % c) (b % c) ≡ a % c
  low-of_left e = or_comm (a % c) (b % c) ∙ alone (b % c) (a % c) e

  module _ (d : ℕ) where
    pub field-of_joined : d ≡ 2 ^ low_zeros 128 d → c ≡ 2 ^ low_zeros 128 c → bit_or a b / d % c ≡ bit_or (a / d % c) (b / d % c)
    field-of_joined p q =
        let k = low_zeros 128 d in
        let l = low_zeros 128 c in
        ap₂ (λ (i j : ℕ). bit_or a b / i % j) p q ∙ ap (λ (n : ℕ). n % 2 ^ l) (or_shr a b k) ∙ or_mod (a / 2 ^ k) (b / 2 ^ k) l
        ∙ sym (ap₂ (λ (i j : ℕ). bit_or (a / i % j) (b / i % j)) p q)

    pub field-of_right : a / d % c ≡ 0 → bit_or (a / d % c) (b / d % c) ≡ b / d % c
    field-of_right e = alone (a / d % c) (b / d % c) e

    pub field-of_left : b / d % c ≡ 0 → bit_or (a / d % c) (b / d % c) ≡ a / d % c
    field-of_left e = or_comm (a / d % c) (b / d % c) ∙ alone (b / d % c) (a / d % c) e

-- ---- a part that is moved up: past the field, and into it

regroup : (y q d c : ℕ) → y * (q * (d * c)) ≡ y * q * c * d + 0
regroup y q d c = grind arith

module _ (y d v c : ℕ) (p : d ≡ 2 ^ low_zeros 128 d) where
  some : 0 < d
  some = subst (λ (i : ℕ). 0 < i) (sym p) (pow_pos (low_zeros 128 d))

  pub moved-past : (e : ℕ) → e % (d * c) ≡ 0 → y * e < v → y * e % v / d % c ≡ 0
  moved-past e f h =
      let q = e / (d * c) in
      let s : e ≡ q * (d * c) = omega (arith, f, div-add-mod' e (d * c)) in
      ap (λ (i : ℕ). i / d % c) (mod-eq_of_lt h ∙ ap (λ (i : ℕ). y * i) s ∙ regroup y q d c)
      ∙ ap (λ (i : ℕ). i % c) (div-mul-add (y * q * c) d 0 some) ∙ mul-mod_left (y * q) c

  pub moved-in : y < c → y * d < v → y * d % v / d % c ≡ y
  moved-in g h =
      let z : y * d ≡ y * d + 0 = omega arith in
      ap (λ (i : ℕ). i / d % c) (mod-eq_of_lt h ∙ z) ∙ ap (λ (i : ℕ). i % c) (div-mul-add y d 0 some) ∙ mod-eq_of_lt g

-- ---- what a mask that is written out clears and keeps, and what a written number sets; `suc m` fits one

module _ (n m c : ℕ) (q : c ≡ 2 ^ low_zeros 128 c) where
  under : (i j : ℕ) → j + 1 ≡ c → bit_and (i % c) j ≡ i % c
  under i j e =
      let l = low_zeros 128 c in
      let f : j ≡ 2 ^ l - 1 = omega (arith, e, q) in
      ap (bit_and (i % c)) f ∙ and_mask (i % c) l ∙ subst (λ (x : ℕ). i % c % x ≡ i % c) q (mod-mod i c)

  low : (i j : ℕ) → bit_and i j % c ≡ bit_and (i % c) (j % c)
  low i j =
      let l = low_zeros 128 c in
      ap (λ (x : ℕ). bit_and i j % x) q ∙ and_mod i j l ∙ sym (ap (λ (x : ℕ). bit_and (i % x) (j % x)) q)

  pub low-cleared : suc m % c ≡ 0 → bit_and n (suc m) % c ≡ 0
  low-cleared e = low n (suc m) ∙ ap (bit_and (n % c)) e ∙ none (n % c)

  pub low-kept : suc m % c + 1 ≡ c → bit_and n (suc m) % c ≡ n % c
  low-kept e = low n (suc m) ∙ under n (suc m % c) e

  module _ (d : ℕ) (p : d ≡ 2 ^ low_zeros 128 d) where
    read : bit_and n (suc m) / d % c ≡ bit_and (n / d % c) (suc m / d % c)
    read =
        let k = low_zeros 128 d in
        ap (λ (i : ℕ). bit_and n (suc m) / i % c) p ∙ ap (λ (i : ℕ). i % c) (and_shr n (suc m) k)
        ∙ sym (ap (λ (i : ℕ). bit_and (n / i) (suc m / i) % c) p) ∙ low (n / d) (suc m / d)

    pub field-cleared : suc m / d % c ≡ 0 → bit_and n (suc m) / d % c ≡ 0
    field-cleared e = read ∙ ap (bit_and (n / d % c)) e ∙ none (n / d % c)

    pub field-kept : suc m / d % c + 1 ≡ c → bit_and n (suc m) / d % c ≡ n / d % c
    field-kept e = read ∙ under (n / d) (suc m / d % c) e

    pub field-set : suc m / d % c + 1 ≡ c → bit_or n (suc m) / d % c + 1 ≡ c
    field-set e =
        let g = under (n / d) (suc m / d % c) e in
        omega (arith, field-of_joined n (suc m) c d p q, or_add_and (n / d % c) (suc m / d % c), g, e)

-- fields that are written at once: each is read back, and the others stay
pub ruleset field_reads = (low-of_joined, low-of_right, low-of_left, field-of_joined, field-of_right, field-of_left, moved-past, moved-in, low-cleared, low-kept, field-cleared, field-kept, field-set)
