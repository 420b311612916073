-- One set of laws that no single call can state, for callers:
-- `#[tactic(auto, using(arbitrary_laws::proofs::Everyday::everyday))]`.
use Rattle.std.specs.Prelude.{◌≡◌, ℕ, ◌+◌, ◌*◌, ◌/◌, ◌%◌, ◌^◌, ◌<◌}
use Rattle.std.specs.Int.Bits.{bit_or}
use Rattle.std.proofs.Common.{arith, ap, sym, ◌∙◌, mod-eq_of_lt}
use Rattle.std.proofs.lemmas.Grind.{low_zeros, or_after_shift}
use Rattle.arbitrary_base.proofs.modular.Residue.{wrap-congruent, wrap-of_in_range}
use Rattle.arbitrary_base.proofs.modular.Inverse.{wrap-wrap}
use Rattle.arbitrary_base.proofs.storages.Clamp.{clamp-fits}
use Rattle.arbitrary_base.proofs.bit_lists.UnsignedNumber.{length-bits}
use Rattle.arbitrary_base.proofs.bit_lists.TwosComplement.{num-bits_residue, val-bits_in_range}
use Rattle.arbitrary_base.proofs.LawProof.{in_range-decides, sums-associate}

regroup : (x m d y : ℕ) → x * (m * d) + y * d ≡ (x * m + y) * d
regroup x m d y = grind arith

-- three fields put side by side by `|`; std has the rule for two
pub or_three : (x c w y d v b : ℕ) → c ≡ 2 ^ low_zeros 128 c → d ≡ 2 ^ low_zeros 128 d → c ≡ c / d * d → y * d < c → b < d → x * c < w → y * d < v
    → bit_or (bit_or (x * c % w) (y * d % v)) b ≡ x * c + y * d + b
or_three x c w y d v b p q e f g h k =
    let l : y * d % v ≡ y * d = mod-eq_of_lt k in
    let first : bit_or (x * c % w) (y * d % v) ≡ x * c + y * d = ap (bit_or (x * c % w)) l ∙ or_after_shift x c w (y * d) p f h in
    let z : x * c + y * d ≡ (x * (c / d) + y) * d = ap (λ (n : ℕ). x * n + y * d) e ∙ regroup x (c / d) d y in
    let n : (x * (c / d) + y) * d % ((x * (c / d) + y) * d + 1) ≡ (x * (c / d) + y) * d = mod-eq_of_lt (omega arith) in
    ap (λ (n : ℕ). bit_or n b) (first ∙ z ∙ sym n) ∙ or_after_shift (x * (c / d) + y) d ((x * (c / d) + y) * d + 1) b q g (omega arith) ∙ ap (λ (n : ℕ). n + b) (sym z)

pub ruleset everyday = (wrap-of_in_range, wrap-congruent, wrap-wrap, clamp-fits, length-bits, num-bits_residue, val-bits_in_range, in_range-decides, sums-associate, or_three)
