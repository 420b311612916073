-- A number whose low bits are 0, by a `requires`, a product or a mask, with a number that has only low bits.
use Rattle.std.specs.Prelude.{◌≡◌, ℕ, suc, ◌+◌, ◌-◌, ◌*◌, ◌/◌, ◌%◌, ◌^◌, ◌<◌}
use Rattle.std.specs.Int.Bits.{bit_and}
use lib.Bits.{and_shifted}
use Rattle.std.proofs.Common.{refl, sym, ap, subst, ◌∙◌, arith, div-add-mod'}
use Rattle.std.proofs.lemmas.Nat.{and_comm, and_mask}
use Rattle.arbitrary_laws.proofs.words.ApartParts.{or_apart, shared}
use Rattle.arbitrary_laws.proofs.words.LowestOne.{power}

-- the number without its bits below `d`, which is a power of two
unfoldable pub above : ℕ → ℕ → ℕ
above d n = n / d * d

above-is : (d n : ℕ) → above d n ≡ n / d * d
unfolding above
above-is d n = refl

pub multiple_is : (n m : ℕ) → bit_and (suc m) m ≡ 0 → n % suc m ≡ 0 → (n % suc m ≡ n % suc m) × (n ≡ above (suc m) n)
multiple_is n m p e = (refl, omega (arith, div-add-mod' n (suc m), e) ∙ sym (above-is (suc m) n))

module _ (m n b : ℕ) (p : bit_and (suc m) m ≡ 0) (l : b < suc m) where
  pub multiple_over : shared (above (suc m) n) b ≡ 0
  unfolding shared
  multiple_over =
      let s : suc m - 1 ≡ m = omega arith in
      let h = power (suc m) (omega arith) (ap (bit_and (suc m)) s ∙ p) in
      let k = h.0 in
      let e : above (suc m) n ≡ n / suc m * 2 ^ k = above-is (suc m) n ∙ ap (λ (i : ℕ). n / suc m * i) h.1 in
      ap (λ (i : ℕ). bit_and i b) e ∙ and_shifted (n / suc m) k b (subst (λ (i : ℕ). b < i) h.1 l)

  pub over_multiple : shared b (above (suc m) n) ≡ 0
  unfolding shared
  over_multiple = and_comm b (above (suc m) n) ∙ multiple_over

pub masked_is : (n m : ℕ) → bit_and (suc m + 1) (suc m) ≡ 0 → bit_and n (suc m) ≡ 0
    → (bit_and n (suc m) ≡ bit_and n (suc m)) × (n ≡ above (suc m + 1) n)
masked_is n m p e =
    let s : suc m + 1 - 1 ≡ suc m = omega arith in
    let h = power (suc m + 1) (omega arith) (ap (bit_and (suc m + 1)) s ∙ p) in
    let o : suc m ≡ 2 ^ h.0 - 1 = omega (arith, h.1) in
    let z : n % (suc m + 1) ≡ 0 = ap (λ (i : ℕ). n % i) h.1 ∙ sym (ap (bit_and n) o ∙ and_mask n h.0) ∙ e in
    (refl, omega (arith, div-add-mod' n (suc m + 1), z) ∙ sym (above-is (suc m + 1) n))

module _ (y d b : ℕ) (c : 0 < d) (p : bit_and d (d - 1) ≡ 0) (l : b < d) where
  pub product_over : shared (y * d) b ≡ 0
  unfolding shared
  product_over =
      let h = power d c p in
      ap (λ (i : ℕ). bit_and (y * i) b) h.1 ∙ and_shifted y h.0 b (subst (λ (i : ℕ). b < i) h.1 l)

  pub over_product : shared b (y * d) ≡ 0
  unfolding shared
  over_product = and_comm b (y * d) ∙ product_over

pub ruleset multiples = (multiple_is, multiple_over, over_multiple, product_over, over_product)

-- where `&` with a mask says that the low bits are 0. With the laws of masks this one takes the search to its limits
pub ruleset masked_multiples = (masked_is, or_apart, multiple_over, over_multiple)
