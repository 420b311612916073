-- The quotient of a dividend plus the divisor, of a negated number, a product or a quotient, quotients that are 0,
-- and two quotients in order whose divisors vary. `QuotientOrder` compares a quotient with its dividend; in one
-- set with its laws, the search fails at a checked product and a negated dividend. Callers name the set
-- `quotient_parts`.
use Rattle.std.specs.Prelude.{int_div, neg_ℤ, negsuc, pos, suc, zero, ℕ, ℤ, ◌*◌, ◌+◌, ◌/◌, ◌<ℤ◌, ◌<◌, ◌≡◌, ◌≢◌, ◌≤ℤ◌, ◌≤◌}
use Rattle.std.proofs.Common.{ap, arith, div-add-mod', le_trans, refl, sym, ◌∙◌}
use Rattle.std.proofs.Math.Nat.{div-eq_of_lt, le-div_iff_mul-le}
use Rattle.std.proofs.lemmas.Int.{ints}
use Rattle.arbitrary_int.proofs.StepLemmas.{nonzero, unless_zero-other, unless_zero-zero}
use Rattle.arbitrary_laws.proofs.numbers.QuotientOrder.{quotient-by_more, quotient-of_product, quotient-of_quotient, quotient-orders}
use Rattle.arbitrary_laws.proofs.orders.Order.{le-tested, lt-tested}

-- ---- amounts

pub ruleset divisors = (nonzero, unless_zero-zero, unless_zero-other)

-- the first part says nothing: it shows the search the quotient
pub quotient-none : (a b : ℕ) → 0 < b → (a / b ≡ a / b) × (a < b → a / b ≡ 0) × (b ≤ a → 1 ≤ a / b)
quotient-none a b h = (refl, λ l. div-eq_of_lt l, λ l. (le-div_iff_mul-le {k = b} {x = 1} {y = a} h).1 (omega arith))

pub quotient-of_next : (a b : ℕ) → 0 < b → (a + b) / b ≡ a / b + 1
quotient-of_next a b h = let d = div-add-mod' a b in let e = div-add-mod' (a + b) b in grind (arith, d, e)

pub quotients-exchanged : (a b c : ℕ) → a / b / c ≡ a / c / b
quotients-exchanged a b c =
    let t : b * c ≡ c * b = grind arith in
    quotient-of_quotient a b c ∙ ap (λ (n : ℕ). a / n) t ∙ sym (quotient-of_quotient a c b)

turned : (x y : ℤ) → pos 0 <ℤ y → int_div (neg_ℤ x) y ≡ neg_ℤ (int_div x y)
turned x (negsuc b) h = absurd (omega (arith, ints))
turned (pos zero) (pos b) h = let z : 0 / b ≡ 0 = div-eq_of_lt (omega (arith, ints)) in omega (arith, ints)
turned (pos (suc a)) (pos b) h = refl
turned (negsuc a) (pos b) h = omega (arith, ints)

-- what the code negates is a number z of its own
pub quotient-of_negated : (x y z : ℤ) → pos 0 <ℤ y → z ≡ neg_ℤ x → (int_div x y ≡ int_div x y) × (int_div z y ≡ neg_ℤ (int_div x y))
quotient-of_negated x y z h e = (refl, ap (λ (w : ℤ). int_div w y) e ∙ turned x y h)

pub ruleset quotient_parts = (lt-tested, le-tested, quotient-of_product, quotient-none, quotient-of_next, quotients-exchanged, quotient-of_negated)

ordered : (a b c d : ℕ) → 0 < d → a ≤ b → d ≤ c → a / c ≤ b / d
ordered a b c d h g l = le_trans (quotient-by_more a d c h l) (quotient-orders a b d g)

-- the premises are what a test and the calls state: that a divisor is above 0 would be a case of its own
pub quotients-ordered : (x y z w : ℤ) → pos 0 ≤ℤ x → x ≤ℤ y → pos 0 ≤ℤ w → w ≢ pos 0 → w ≤ℤ z → int_div x z ≤ℤ int_div y w
quotients-ordered (negsuc a) y z w f g h n l = absurd (omega (arith, ints))
quotients-ordered (pos a) (negsuc b) z w f g h n l = absurd (omega (arith, ints))
quotients-ordered (pos a) (pos b) (negsuc c) w f g h n l = absurd (omega (arith, ints))
quotients-ordered (pos a) (pos b) (pos c) (negsuc d) f g h n l = absurd (omega (arith, ints))
quotients-ordered (pos a) (pos b) (pos c) (pos d) f g h n l =
    let o = ordered a b c d (omega (arith, ints)) (omega (arith, ints)) (omega (arith, ints)) in omega (arith, ints)

-- the lesser dividend over the greater divisor
pub ruleset quotient_pairs = (le-tested, quotients-ordered)
