-- What the counts of leading and trailing zeros determine of a number.
use Rattle.std.specs.Bool.{beq}
use Rattle.std.specs.Int.Count.{count_leading_zeros}
use Rattle.std.specs.List.{count_by, prefix_len, suffix_len}
use Rattle.std.specs.Prelude.{Bool, List, [], false, length, negsuc, pos, true, ℕ, ℤ, ◌%◌, ◌*◌, ◌+ℤ◌, ◌+◌, ◌-◌, ◌/◌, ◌<ℤ◌, ◌<◌, ◌^◌, ◌∷◌, ◌≡◌, ◌≢◌, ◌≤ℤ◌, ◌≤◌}
use Rattle.std.proofs.Common.{ap, arith, inl, inr, refl, suc, sym, zero, ◌∙◌}
use Rattle.std.proofs.Math.Nat.{pow-suc}
use Rattle.std.proofs.lemmas.Bool.{cases_lt}
use Rattle.std.proofs.lemmas.Int.{ints}
use Rattle.std.proofs.lemmas.Nat.{leading_length, pow_pos}
use Rattle.arbitrary_base.specs.BitList.{bits, num}
use Rattle.arbitrary_base.specs.Range.{InRange}
use Rattle.arbitrary_base.specs.Residue.{Congruent, residue}
use Rattle.arbitrary_base.proofs.bit_lists.Count.{front-fits, leading-num}
use Rattle.arbitrary_base.proofs.bit_lists.TwosComplement.{num-bits_residue}
use Rattle.arbitrary_base.proofs.bit_lists.UnsignedNumber.{length-bits}
use Rattle.arbitrary_base.proofs.modular.Congruence.{Congruent-by_times, Congruent-narrower, Congruent-sym, Congruent-trans, pow_half, pow_le}
use Rattle.arbitrary_base.proofs.modular.Residue.{residue-congruent, residue-lt, wrap-unique}
use Rattle.arbitrary_base.proofs.modular.Truncation.{residue-wrap}
use Rattle.arbitrary_base.proofs.storages.Primitive.{residue-pos}
use Rattle.arbitrary_calls.proofs.counts.EndCounts.{front-of_zero, tail-of_zero, zero-of_no_ones}

-- ---- the residue of a number in range

residue-above : (s : Bool) (B : ℕ) (x : ℤ) → 1 ≤ B → InRange s B x → pos 0 ≤ℤ x → pos (residue B x) ≡ x
residue-above s B (negsuc n) h f g = absurd (omega (arith, ints))
residue-above true B (pos n) h f g =
    let t = f.high in
    let e = pow_half B h in
    let p = pow_pos (B - 1) in
    ap pos (residue-pos B n (omega (arith, ints)))
residue-above false B (pos n) h f g =
    let t = f.high in
    let p = pow_pos B in
    ap pos (residue-pos B n (omega (arith, ints)))

residue-below : (s : Bool) (B : ℕ) (x : ℤ) → 1 ≤ B → InRange s B x → x <ℤ pos 0 → (pos (residue B x) ≡ x +ℤ pos (2 ^ B)) × (pos (2 ^ (B - 1)) ≤ℤ pos (residue B x))
residue-below false B x h f g = let l = f.low in absurd (omega (arith, ints))
residue-below true B x h f g =
    let l = f.low in
    let e = pow_half B h in
    let p = pow_pos (B - 1) in
    let r : InRange false B (x +ℤ pos (2 ^ B)) = record { low = omega (arith, ints); high = omega (arith, ints) } in
    let c : Congruent B (x +ℤ pos (2 ^ B)) x = Congruent-by_times B _ _ (pos 1) (omega (arith, ints)) in
    let v : pos (residue B x) ≡ x +ℤ pos (2 ^ B) = residue-wrap B x h ∙ wrap-unique false B x (x +ℤ pos (2 ^ B)) h r c in
    (v, omega (arith, ints))

residue-some : (s : Bool) (B : ℕ) (x : ℤ) → 1 ≤ B → InRange s B x → x ≢ pos 0 → 0 < residue B x
residue-some s B (pos n) h f d =
    let e = residue-above s B (pos n) h f (omega (arith, ints)) in
    omega (arith, ints)
residue-some s B (negsuc n) h f d =
    let e = residue-below s B (negsuc n) h f (omega (arith, ints)) in
    let l = e.1 in
    let p = pow_pos (B - 1) in
    omega (arith, ints)

-- ---- zeros at the high end

module _ (s : Bool) (B : ℕ) (x : ℤ) (h : 1 ≤ B) (f : InRange s B x) where
  -- how many places the residue has
  places : (m : ℕ) × (suffix_len (beq false) (bits B x) + m ≡ B) × (residue B x < 2 ^ m) × (2 ^ m ≤ 2 * residue B x + 1)
  places =
      let n : num (bits B x) ≡ residue B x = num-bits_residue B x in
      let e : count_leading_zeros B (residue B x) ≡ suffix_len (beq false) (bits B x) =
      ap (λ (k : ℕ). count_leading_zeros k (residue B x)) (sym (length-bits B x)) ∙ ap (count_leading_zeros (length (bits B x))) (sym n) ∙ leading-num (bits B x) in
      let l = leading_length B (residue B x) (residue-lt B x) in
      let sum = l.1 in
      (l.0, (let t : suffix_len (beq false) (bits B x) + l.0 ≡ B = omega arith in t), l.2, l.3)

  pub leading-none : x ≡ pos 0 → suffix_len (beq false) (bits B x) ≡ B
  leading-none e = ap (λ (z : ℤ). suffix_len (beq false) (bits B z)) e ∙ tail-of_zero B

  pub leading-found : x ≢ pos 0 → suffix_len (beq false) (bits B x) < B
  leading-found d =
      let l = places in
      let sum = l.1 in
      let q = residue-some s B x h f d in
      let small = l.2 in
      several l.0 small sum q
    where
      several : (m : ℕ) → residue B x < 2 ^ m → suffix_len (beq false) (bits B x) + m ≡ B → 0 < residue B x → suffix_len (beq false) (bits B x) < B
      several zero small sum q = absurd (omega arith)
      several (suc m) small sum q = omega arith

  pub leading-high : pos 0 ≤ℤ x → x <ℤ pos (2 ^ (B - suffix_len (beq false) (bits B x)))
  leading-high g =
      let l = places in
      let sum = l.1 in
      let e = residue-above s B x h f g in
      let w : 2 ^ l.0 ≡ 2 ^ (B - suffix_len (beq false) (bits B x)) = ap (λ (k : ℕ). 2 ^ k) (omega arith) in
      let small = l.2 in
      omega (arith, ints)

  pub leading-low : pos 0 <ℤ x → pos (2 ^ (B - 1 - suffix_len (beq false) (bits B x))) ≤ℤ x
  leading-low g =
      let l = places in
      let sum = l.1 in
      let e = residue-above s B x h f (omega (arith, ints)) in
      let some : 0 < residue B x = omega (arith, ints) in
      least l.0 sum l.2 l.3 some e
    where
      least : (m : ℕ) → suffix_len (beq false) (bits B x) + m ≡ B → residue B x < 2 ^ m → 2 ^ m ≤ 2 * residue B x + 1 → 0 < residue B x → pos (residue B x) ≡ x → pos (2 ^ (B - 1 - suffix_len (beq false) (bits B x))) ≤ℤ x
      least zero sum small large some e = absurd (omega arith)
      least (suc m) sum small large some e =
          let w : 2 ^ m ≡ 2 ^ (B - 1 - suffix_len (beq false) (bits B x)) = ap (λ (k : ℕ). 2 ^ k) (omega arith) in
          let p = pow-suc 2 m in
          omega (arith, ints)

  -- a residue that fills all places
  whole : (m : ℕ) → suffix_len (beq false) (bits B x) + m ≡ B → residue B x < 2 ^ m → 2 ^ (B - 1) ≤ residue B x → suffix_len (beq false) (bits B x) ≡ 0
  whole m sum small large = by-cases (suffix_len (beq false) (bits B x)) refl
    where
      by-cases : (t : ℕ) → t ≡ suffix_len (beq false) (bits B x) → suffix_len (beq false) (bits B x) ≡ 0
      by-cases zero e = sym e
      by-cases (suc t) e =
          let p = pow_le m (B - 1) (omega arith) in
          absurd (omega arith)

  pub leading-negative : x <ℤ pos 0 → suffix_len (beq false) (bits B x) ≡ 0
  leading-negative g =
      let l = places in
      let q = (residue-below s B x h f g).1 in
      whole l.0 l.1 l.2 (omega (arith, ints))

  -- the highest bit is set, in a type with no sign
  pub leading-set : pos (2 ^ (B - 1)) ≤ℤ x → suffix_len (beq false) (bits B x) ≡ 0
  leading-set g =
      let l = places in
      let p = pow_pos (B - 1) in
      let q = residue-above s B x h f (omega (arith, ints)) in
      whole l.0 l.1 l.2 (omega (arith, ints))

  -- it is not, in a number from 0 on
  pub leading-clear : pos 0 ≤ℤ x → x <ℤ pos (2 ^ (B - 1)) → 1 ≤ suffix_len (beq false) (bits B x)
  leading-clear g u =
      let l = places in
      let q = residue-above s B x h f g in
      short l.0 l.1 l.3 (omega (arith, ints))
    where
      short : (m : ℕ) → suffix_len (beq false) (bits B x) + m ≡ B → 2 ^ m ≤ 2 * residue B x + 1 → residue B x < 2 ^ (B - 1) → 1 ≤ suffix_len (beq false) (bits B x)
      short m sum large small = by-cases (suffix_len (beq false) (bits B x)) refl
        where
          by-cases : (t : ℕ) → t ≡ suffix_len (beq false) (bits B x) → 1 ≤ suffix_len (beq false) (bits B x)
          by-cases zero e =
              let w : 2 ^ m ≡ 2 ^ B = ap (λ (k : ℕ). 2 ^ k) (omega arith) in
              let d = pow_half B h in
              absurd (omega arith)
          by-cases (suc t) e = omega arith

-- ---- zeros at the low end

-- an odd number after as many zeros
odd-after : (l : List Bool) → (q : ℕ) × (num l ≡ q * 2 ^ prefix_len (beq false) l) × (prefix_len (beq false) l < length l → q % 2 ≡ 1)
odd-after [] = (0, refl, λ g. absurd (omega arith))
odd-after (true ∷ l) = (1 + 2 * num l, (let e : 1 + 2 * num l ≡ (1 + 2 * num l) * 1 = omega arith in e), λ g. omega arith)
odd-after (false ∷ l) =
    let r = odd-after l in
    let q = r.0 in
    let e = r.1 in
    let p = pow-suc 2 (prefix_len (beq false) l) in
    let start : 0 + 2 * num l ≡ 2 * num l = omega arith in
    let next : 2 ^ (1 + prefix_len (beq false) l) ≡ 2 ^ suc (prefix_len (beq false) l) = ap (λ (n : ℕ). 2 ^ n) (omega arith) in
    let twice : 0 + 2 * num l ≡ q * 2 ^ (1 + prefix_len (beq false) l) = start ∙ ap (λ (n : ℕ). 2 * n) e ∙ regroup q (2 ^ prefix_len (beq false) l) ∙ ap (λ (n : ℕ). q * n) (let t : 2 * 2 ^ prefix_len (beq false) l ≡ 2 ^ (1 + prefix_len (beq false) l) = omega arith in t) in
    (q, twice, λ g. r.2 (omega arith))
  where
    regroup : (q w : ℕ) → 2 * (q * w) ≡ q * (2 * w)
    regroup q w = grind arith

module _ (s : Bool) (B : ℕ) (x : ℤ) (h : 1 ≤ B) (f : InRange s B x) where
  parts : (q : ℕ) × (residue B x ≡ q * 2 ^ prefix_len (beq false) (bits B x)) × (prefix_len (beq false) (bits B x) < B → q % 2 ≡ 1)
  parts =
      let r = odd-after (bits B x) in
      let n = length-bits B x in
      (r.0, sym (num-bits_residue B x) ∙ r.1, λ g. r.2 (omega arith))

  pub trailing-none : x ≡ pos 0 → prefix_len (beq false) (bits B x) ≡ B
  trailing-none e = ap (λ (z : ℤ). prefix_len (beq false) (bits B z)) e ∙ front-of_zero B

  pub trailing-found : x ≢ pos 0 → prefix_len (beq false) (bits B x) < B
  trailing-found d =
      let r = parts in
      let fits = front-fits false B x in
      less (prefix_len (beq false) (bits B x)) r.0 (residue B x) fits r.1 (residue-lt B x) (residue-some s B x h f d)
    where
      less : (t q p : ℕ) → t ≤ B → p ≡ q * 2 ^ t → p < 2 ^ B → 0 < p → t < B
      less t zero p g e small some = absurd (omega arith)
      less t (suc q) p g e small some = elim (cases_lt t B) [
        | inl under ↦ under
        | inr from ↦
            let w : 2 ^ t ≡ 2 ^ B = ap (λ (n : ℕ). 2 ^ n) (omega arith) in
            absurd (omega arith)
      ]

  low-zeros : (k : ℕ) → k ≤ B → Congruent k (pos (residue B x)) x
  low-zeros k g = Congruent-narrower k B (pos (residue B x)) x g (residue-congruent B x)

  pub trailing-low : Congruent (prefix_len (beq false) (bits B x)) x (pos 0)
  trailing-low =
      let r = parts in
      let k = prefix_len (beq false) (bits B x) in
      let e = r.1 in
      let c : Congruent (prefix_len (beq false) (bits B x)) (pos (residue B x)) (pos 0) = Congruent-by_times _ _ _ (pos r.0) (omega (arith, ints)) in
      Congruent-trans (prefix_len (beq false) (bits B x)) x (pos (residue B x)) (pos 0) (Congruent-sym (prefix_len (beq false) (bits B x)) (pos (residue B x)) x (low-zeros (prefix_len (beq false) (bits B x)) (front-fits false B x))) c

  pub trailing-odd : x ≢ pos 0 → Congruent (prefix_len (beq false) (bits B x) + 1) x (pos (2 ^ prefix_len (beq false) (bits B x)))
  trailing-odd d =
      let r = parts in
      let less = trailing-found d in
      let odd = r.2 less in
      let e = r.1 in
      let p = pow-suc 2 (prefix_len (beq false) (bits B x)) in
      let half : r.0 ≡ 1 + 2 * (r.0 / 2) = omega arith in
      let c : Congruent (prefix_len (beq false) (bits B x) + 1) (pos (residue B x)) (pos (2 ^ prefix_len (beq false) (bits B x))) = odd-times (prefix_len (beq false) (bits B x)) r.0 (residue B x) e odd in
      Congruent-trans (prefix_len (beq false) (bits B x) + 1) x (pos (residue B x)) (pos (2 ^ prefix_len (beq false) (bits B x))) (Congruent-sym (prefix_len (beq false) (bits B x) + 1) (pos (residue B x)) x (low-zeros (prefix_len (beq false) (bits B x) + 1) (omega arith))) c
    where
      odd-times : (k q p : ℕ) → p ≡ q * 2 ^ k → q % 2 ≡ 1 → Congruent (k + 1) (pos p) (pos (2 ^ k))
      odd-times k q p e odd =
          let half : q ≡ 1 + 2 * (q / 2) = omega arith in
          let w : p ≡ (1 + 2 * (q / 2)) * 2 ^ k = e ∙ ap (λ (n : ℕ). n * 2 ^ k) half in
          let r = pow-suc 2 k in
          let next : 2 ^ (k + 1) ≡ 2 ^ suc k = ap (λ (n : ℕ). 2 ^ n) (omega arith) in
          let t : 2 ^ (k + 1) ≡ 2 * 2 ^ k = omega arith in
          let u : p ≡ 2 ^ k + q / 2 * 2 ^ (k + 1) = grind arith in
          Congruent-by_times (k + 1) (pos p) (pos (2 ^ k)) (pos (q / 2)) (omega (arith, ints))

-- ---- ones

pub popcount-some : (s : Bool) (B : ℕ) (x : ℤ) → 1 ≤ B → InRange s B x → x ≢ pos 0 → 1 ≤ count_by (λ b. b) (bits B x)
popcount-some s B x h f d = elim (cases_lt (count_by (λ b. b) (bits B x)) 1) [
  | inl none ↦ absurd (d (zero-of_no_ones s B x h f (let e : count_by (λ b. b) (bits B x) ≡ 0 = omega arith in e)))
  | inr some ↦ some
]
