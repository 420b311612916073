-- Literals above 0 that two operations combine: their sum and their product, as in `(x + 3) * 5`, and the masked
-- part of an inverted number, as in `(x ^ 0x55) & 0x0F`. As in PositiveParts.antt, they apply only to literals.
-- Callers name the set `positive_results`.
use Rattle.std.specs.Int.Bits.{bit_and}
use Rattle.std.specs.Prelude.{Bool, false, pos, suc, true, ℕ, ℤ, ◌*◌, ◌+◌, ◌≡◌, ◌≤ℤ◌, ◌≤◌}
use Rattle.std.proofs.Common.{ap₂, arith, ◌∙◌}
use Rattle.std.proofs.lemmas.Bool.Decides.{Decides-int_eq}
use Rattle.std.proofs.lemmas.Int.{ints}
use Rattle.arbitrary_base.specs.Operation.{bitwise_and, bitwise_xor, wrapped_product, wrapped_sum}
use Rattle.arbitrary_base.specs.Range.{hi, lo}
use Rattle.arbitrary_base.proofs.modular.Residue.{wrap-of_in_range}
use Rattle.arbitrary_base.proofs.operations.Bitwise.{bitwise_and-commutes}
use Rattle.arbitrary_laws.proofs.bits.Identities.{and-distributes_xor}
use Rattle.arbitrary_laws.proofs.written.WrittenParts.{and-numbers}

least : (s : Bool) (B n : ℕ) → lo s B ≤ℤ pos n
least false B n = omega (arith, ints)
least true B n = omega (arith, ints)

module _ (s : Bool) (B m n : ℕ) (h : 1 ≤ B) where
  pub sum-of_positive : pos (suc m + suc n) ≤ℤ hi s B → wrapped_sum s B (pos (suc m)) (pos (suc n)) ≡ pos (suc m + suc n)
  unfolding wrapped_sum
  sum-of_positive f = wrap-of_in_range s B (pos (suc m + suc n)) h (record { low = least s B (suc m + suc n); high = f })

  pub product-of_positive : pos (suc m * suc n) ≤ℤ hi s B → wrapped_product s B (pos (suc m)) (pos (suc n)) ≡ pos (suc m * suc n)
  unfolding wrapped_product
  product-of_positive f = wrap-of_in_range s B (pos (suc m * suc n)) h (record { low = least s B (suc m * suc n); high = f })

pub and-of_positive_xor : (s : Bool) (B m n : ℕ) (x : ℤ) → 1 ≤ B → pos (suc m) ≤ℤ hi s B → pos (suc n) ≤ℤ hi s B
    → bitwise_and s B (bitwise_xor s B x (pos (suc m))) (pos (suc n)) ≡ bitwise_xor s B (bitwise_and s B x (pos (suc n))) (pos (bit_and (suc m) (suc n)))
and-of_positive_xor s B m n x h f g =
    bitwise_and-commutes s B _ _ ∙ and-distributes_xor s B (pos (suc n)) x (pos (suc m))
    ∙ ap₂ (bitwise_xor s B) (bitwise_and-commutes s B (pos (suc n)) x) (bitwise_and-commutes s B (pos (suc n)) (pos (suc m)) ∙ and-numbers s B (suc m) (suc n) h f g)

pub ruleset positive_results = (Decides-int_eq, sum-of_positive, product-of_positive, and-of_positive_xor)
