-- Facts about numbers of at least 0 as facts about natural numbers, for the clauses of `& | ^` of a signed type.
use Rattle.std.specs.Prelude.{◌≡◌, ℕ, ℤ, pos, unsigned_abs, ◌≤◌, ◌≤ℤ◌}
use Rattle.std.proofs.Common.{arith, ap, ap₂, sym, ◌∙◌}
use Rattle.std.proofs.lemmas.Int.{ints}
use Rattle.arbitrary_base.proofs.integers.Ring.{pos-unsigned_abs}

-- the result where both operands are natural
pub naturals : (f : ℕ → ℕ → ℕ) (x y z : ℤ) → (pos 0 ≤ℤ x → pos 0 ≤ℤ y → z ≡ pos (f (unsigned_abs x) (unsigned_abs y)))
    → (m n : ℕ) → x ≡ pos m → y ≡ pos n → z ≡ pos (f m n)
naturals f x y z h m n d e =
    h (omega (arith, ints)) (omega (arith, ints)) ∙ ap₂ (λ (a b : ℕ). pos (f a b)) (ap unsigned_abs d) (ap unsigned_abs e)

-- a result that is at most the operand
pub at_most : (x z : ℤ) → (pos 0 ≤ℤ x → (pos 0 ≤ℤ z) × (z ≤ℤ x)) → (k : ℕ) → x ≡ pos k → (n : ℕ) × ((z ≡ pos n) × (n ≤ k))
at_most x z h k d =
    let b = h (omega (arith, ints)) in
    let e : z ≡ pos (unsigned_abs z) = sym (pos-unsigned_abs z b.0) in
    (unsigned_abs z, (e, omega (arith, ints)))
