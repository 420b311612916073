-- Multiples of one number, added and subtracted, wrapped: `(x << 3) + (x << 1)` is ten times x.
use Rattle.std.specs.Prelude.{Bool, false, negsuc, pos, ℕ, ℤ, ◌*ℤ◌, ◌+ℤ◌, ◌-ℤ◌, ◌≡◌, ◌≤◌}
use Rattle.std.proofs.Common.{ap, ap₂, arith, sym, ◌∙◌}
use Rattle.std.proofs.Math.IntN.{*ℤ_comm}
use Rattle.std.proofs.lemmas.Int.{ints}
use Rattle.arbitrary_base.specs.Operation.{wrapped_difference, wrapped_product, wrapped_sum}
use Rattle.arbitrary_base.specs.Range.{hi}
use Rattle.arbitrary_base.specs.Residue.{Congruent}
use Rattle.arbitrary_base.proofs.integers.Ring.{add-mul_z, sub-mul_z}
use Rattle.arbitrary_base.proofs.modular.Congruence.{Congruent-by_times, Congruent-refl}
use Rattle.arbitrary_base.proofs.operations.WrappedRing.{by-congruence, difference-congruent, difference-in_range, product-congruent, product-in_range, sum-congruent, sum-in_range}
use Rattle.arbitrary_laws.proofs.sums.Ring.{wrapped_product-two}

times-sum : (x a b : ℤ) → x *ℤ a +ℤ x *ℤ b ≡ x *ℤ (a +ℤ b)
times-sum x a b = ap₂ (λ (c d : ℤ). c +ℤ d) (*ℤ_comm x a) (*ℤ_comm x b) ∙ sym (add-mul_z a b x) ∙ *ℤ_comm (a +ℤ b) x

times-difference : (x a b : ℤ) → x *ℤ a -ℤ x *ℤ b ≡ x *ℤ (a -ℤ b)
times-difference x a b = ap₂ (λ (c d : ℤ). c -ℤ d) (*ℤ_comm x a) (*ℤ_comm x b) ∙ sym (sub-mul_z a b x) ∙ *ℤ_comm (a -ℤ b) x

once : (x : ℤ) → x ≡ x *ℤ pos 1
once x = omega (arith, ints)

module _ (s : Bool) (B : ℕ) (x a b : ℤ) (h : 1 ≤ B) where
  pub multiples-added : wrapped_sum s B (wrapped_product s B x a) (wrapped_product s B x b) ≡ wrapped_product s B x (a +ℤ b)
  multiples-added =
      by-congruence s B _ _ _ _ h (sum-in_range s B _ _ h) (product-in_range s B _ _ h)
      (sum-congruent s B _ _ _ _ (product-congruent s B _ _ _ _ (Congruent-refl B x) (Congruent-refl B a)) (product-congruent s B _ _ _ _ (Congruent-refl B x) (Congruent-refl B b)))
      (product-congruent s B _ _ _ _ (Congruent-refl B x) (Congruent-refl B (a +ℤ b))) (times-sum x a b)

  pub multiples-apart : wrapped_difference s B (wrapped_product s B x a) (wrapped_product s B x b) ≡ wrapped_product s B x (a -ℤ b)
  multiples-apart =
      by-congruence s B _ _ _ _ h (difference-in_range s B _ _ h) (product-in_range s B _ _ h)
      (difference-congruent s B _ _ _ _ (product-congruent s B _ _ _ _ (Congruent-refl B x) (Congruent-refl B a)) (product-congruent s B _ _ _ _ (Congruent-refl B x) (Congruent-refl B b)))
      (product-congruent s B _ _ _ _ (Congruent-refl B x) (Congruent-refl B (a -ℤ b))) (times-difference x a b)

pub sum-doubles : (s : Bool) (B : ℕ) (x : ℤ) → 1 ≤ B → wrapped_sum s B x x ≡ wrapped_product s B x (pos 2)
sum-doubles s B x h = sym (wrapped_product-two s B x h)

module _ (s : Bool) (B : ℕ) (x a : ℤ) (h : 1 ≤ B) where
  -- once more, and once less
  pub multiple-next : wrapped_sum s B (wrapped_product s B x a) x ≡ wrapped_product s B x (a +ℤ pos 1)
  multiple-next =
      by-congruence s B _ _ _ _ h (sum-in_range s B _ _ h) (product-in_range s B _ _ h)
      (sum-congruent s B _ _ _ _ (product-congruent s B _ _ _ _ (Congruent-refl B x) (Congruent-refl B a)) (Congruent-refl B x))
      (product-congruent s B _ _ _ _ (Congruent-refl B x) (Congruent-refl B (a +ℤ pos 1))) (ap (λ (c : ℤ). x *ℤ a +ℤ c) (once x) ∙ times-sum x a (pos 1))

  pub multiple-before : wrapped_difference s B (wrapped_product s B x a) x ≡ wrapped_product s B x (a -ℤ pos 1)
  multiple-before =
      by-congruence s B _ _ _ _ h (difference-in_range s B _ _ h) (product-in_range s B _ _ h)
      (difference-congruent s B _ _ _ _ (product-congruent s B _ _ _ _ (Congruent-refl B x) (Congruent-refl B a)) (Congruent-refl B x))
      (product-congruent s B _ _ _ _ (Congruent-refl B x) (Congruent-refl B (a -ℤ pos 1))) (ap (λ (c : ℤ). x *ℤ a -ℤ c) (once x) ∙ times-difference x a (pos 1))

-- the greatest number of a type with no sign is congruent to -1
highest-congruent : (B : ℕ) → Congruent B (hi false B) (negsuc 0)
highest-congruent B = Congruent-by_times _ _ _ (pos 1) (omega (arith, ints))

pub wrapped_product-highest : (B : ℕ) (x : ℤ) → 1 ≤ B → wrapped_product false B x (hi false B) ≡ wrapped_difference false B (pos 0) x
wrapped_product-highest B x h =
    by-congruence false B _ _ _ _ h (product-in_range false B _ _ h) (difference-in_range false B _ _ h)
    (product-congruent false B _ _ _ _ (Congruent-refl B x) (highest-congruent B))
    (difference-congruent false B _ _ _ _ (Congruent-refl B (pos 0)) (Congruent-refl B x)) (*ℤ_comm x (negsuc 0) ∙ omega (arith, ints))
