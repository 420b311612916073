-- A number plus and minus constants, wrapped: `x + 5 - 9` is `x - 4`, and at three bits `x - 1` is `x + 7`.
use Rattle.std.specs.Prelude.{Bool, IsTrue, false, int_lt, neg_ℤ, negsuc, pos, ℕ, ℤ, ◌+ℤ◌, ◌-ℤ◌, ◌^◌, ◌≡◌, ◌≤◌}
use Rattle.std.proofs.Common.{arith, refl, ◌∙◌}
use Rattle.std.proofs.lemmas.Int.{ints}
use Rattle.arbitrary_base.specs.Operation.{wrapped_difference, wrapped_sum}
use Rattle.arbitrary_base.specs.Range.{hi, lo}
use Rattle.arbitrary_base.specs.Residue.{Congruent}
use Rattle.arbitrary_base.proofs.modular.Congruence.{Congruent-by_times, Congruent-refl}
use Rattle.arbitrary_base.proofs.operations.WrappedRing.{by-congruence, difference-congruent, difference-in_range, sum-congruent, sum-in_range}

module _ (s : Bool) (B : ℕ) (x a b : ℤ) (h : 1 ≤ B) where
  pub offsets-added : wrapped_sum s B (wrapped_sum s B x a) b ≡ wrapped_sum s B x (a +ℤ b)
  offsets-added =
      by-congruence s B _ _ _ _ h (sum-in_range s B _ _ h) (sum-in_range s B _ _ h)
      (sum-congruent s B _ _ _ _ (sum-congruent s B _ _ _ _ (Congruent-refl B x) (Congruent-refl B a)) (Congruent-refl B b))
      (sum-congruent s B _ _ _ _ (Congruent-refl B x) (Congruent-refl B (a +ℤ b))) (omega (arith, ints))

  pub offset-less : wrapped_difference s B (wrapped_sum s B x a) b ≡ wrapped_sum s B x (a -ℤ b)
  offset-less =
      by-congruence s B _ _ _ _ h (difference-in_range s B _ _ h) (sum-in_range s B _ _ h)
      (difference-congruent s B _ _ _ _ (sum-congruent s B _ _ _ _ (Congruent-refl B x) (Congruent-refl B a)) (Congruent-refl B b))
      (sum-congruent s B _ _ _ _ (Congruent-refl B x) (Congruent-refl B (a -ℤ b))) (omega (arith, ints))

down : (s : Bool) (B : ℕ) (x y : ℤ) → 1 ≤ B → wrapped_difference s B x y ≡ wrapped_sum s B x (neg_ℤ y)
down s B x y h =
    by-congruence s B _ _ _ _ h (difference-in_range s B _ _ h) (sum-in_range s B _ _ h)
    (difference-congruent s B _ _ _ _ (Congruent-refl B x) (Congruent-refl B y))
    (sum-congruent s B _ _ _ _ (Congruent-refl B x) (Congruent-refl B (neg_ℤ y))) (omega (arith, ints))

pub offset-down : (s : Bool) (B : ℕ) (x : ℤ) (n : ℕ) → 1 ≤ B → wrapped_difference s B x (pos n) ≡ wrapped_sum s B x (neg_ℤ (pos n))
offset-down s B x n h = down s B x (pos n) h

pub offset-down_negative : (s : Bool) (B : ℕ) (x : ℤ) (n : ℕ) → 1 ≤ B → wrapped_difference s B x (negsuc n) ≡ wrapped_sum s B x (neg_ℤ (negsuc n))
offset-down_negative s B x n h = down s B x (negsuc n) h

-- ---- once round the range

another : (s : Bool) (B : ℕ) (x a b : ℤ) → 1 ≤ B → Congruent B a b → wrapped_sum s B x a ≡ wrapped_sum s B x b
another s B x a b h c =
    by-congruence s B _ _ _ _ h (sum-in_range s B _ _ h) (sum-in_range s B _ _ h)
    (sum-congruent s B _ _ _ _ (Congruent-refl B x) c) (sum-congruent s B _ _ _ _ (Congruent-refl B x) (Congruent-refl B b)) refl

pub offset-above : (s : Bool) (B : ℕ) (x : ℤ) (n : ℕ) → 1 ≤ B → IsTrue (int_lt (hi s B) (pos n)) → wrapped_sum s B x (pos n) ≡ wrapped_sum s B x (pos n -ℤ pos (2 ^ B))
offset-above s B x n h p = another s B x _ _ h (Congruent-by_times _ _ _ (pos 1) (omega (arith, ints)))

pub offset-below : (s : Bool) (B : ℕ) (x : ℤ) (n : ℕ) → 1 ≤ B → IsTrue (int_lt (negsuc n) (lo s B)) → wrapped_sum s B x (negsuc n) ≡ wrapped_sum s B x (negsuc n +ℤ pos (2 ^ B))
offset-below s B x n h p = another s B x _ _ h (Congruent-by_times _ _ _ (negsuc 0) (omega (arith, ints)))

-- with no sign, down is up by what is left of the round
pub offset-round : (B : ℕ) (x : ℤ) (n : ℕ) → 1 ≤ B → wrapped_difference false B x (pos n) ≡ wrapped_sum false B x (pos (2 ^ B) -ℤ pos n)
offset-round B x n h = down false B x (pos n) h ∙ another false B x _ _ h (Congruent-by_times _ _ _ (negsuc 0) (omega (arith, ints)))
