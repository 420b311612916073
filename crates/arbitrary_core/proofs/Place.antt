-- The bits of a number minus those of the least one, in the storage: their order is that of the numbers.
use Rattle.std.specs.Prelude.{◌≡◌, ◌<ℤ◌, ◌≤ℤ◌, ℕ, ℤ, Bool, true, false, pos, ◌+ℤ◌, ◌-ℤ◌, ◌-◌, ◌^◌, ◌≤◌}
use Rattle.std.specs.Ordering.{MatchOrdering, int_cmp}
use Rattle.std.specs.Cmp.{int_cmp_is, int_ranks}
use Rattle.std.proofs.Common.{Ordering, Less, Equal, Greater, arith, sym, ◌∙◌}
use Rattle.std.proofs.lemmas.Int.{ints, by_lt_z}
use Rattle.std.proofs.lemmas.Nat.{pow_pos}
use Rattle.arbitrary_base.specs.Range.{lo, InRange}
use Rattle.arbitrary_base.specs.Residue.{residue, wrap}
use Rattle.arbitrary_base.proofs.modular.Congruence.{pow_half, pow_le}
use Rattle.arbitrary_base.proofs.modular.Residue.{wrap-of_in_range}
use Rattle.arbitrary_base.proofs.modular.Truncation.{residue-wrap}
use Rattle.arbitrary_base.proofs.storages.CheckedSum.{wrap-below}

-- a number from 0 up is its own pattern, and one below 0 lies 2 ^ B below it
pattern-above : (B : ℕ) (x n : ℤ) → 1 ≤ B → InRange true B x → n ≡ pos (residue B x) → pos 0 ≤ℤ x → n ≡ x
pattern-above B x n o f e g =
    let high = f.high in
    let half = pow_half B o in
    e ∙ residue-wrap B x o ∙ wrap-of_in_range false B x o (record { low = g; high = omega (arith, ints) })

pattern-below : (B : ℕ) (x n : ℤ) → 1 ≤ B → InRange true B x → n ≡ pos (residue B x) → x <ℤ pos 0 → n ≡ x +ℤ pos (2 ^ B)
pattern-below B x n o f e g =
    let low = f.low in
    let half = pow_half B o in
    e ∙ residue-wrap B x o ∙ wrap-below false B x o g (omega (arith, ints))

-- the pattern of the least number is half of 2 ^ B
pattern-least : (B : ℕ) (l h : ℤ) → 1 ≤ B → l ≡ lo true B → h ≡ pos (residue B l) → h ≡ pos (2 ^ (B - 1))
pattern-least B l h o e f =
    let some = pow_pos (B - 1) in
    let half = pow_half B o in
    let p : h ≡ l +ℤ pos (2 ^ B) = pattern-below B l h o (record { low = omega (arith, ints); high = omega (arith, ints) }) f (omega (arith, ints)) in
    omega (arith, ints)

pub place-above : (s t : Bool) (B W V : ℕ) (x n l h z : ℤ) → s ≡ true → t ≡ false → 1 ≤ B → B ≤ W → V ≡ W → InRange s B x
    → n ≡ pos (residue B x) → l ≡ lo s B → h ≡ pos (residue B l) → z ≡ wrap t V (n -ℤ h) → pos 0 ≤ℤ x → z ≡ x +ℤ pos (2 ^ W) -ℤ pos (2 ^ (B - 1))
place-above false t B W V x n l h z a b o g v f e k m q u = cc
place-above true true B W V x n l h z a b o g v f e k m q u = cc
place-above true false B W V x n l h z a b o g v f e k m q u =
    let high = f.high in
    let own = pattern-above B x n o f e u in
    let least = pattern-least B l h o k m in
    let same : n -ℤ h ≡ x -ℤ pos (2 ^ (B - 1)) = omega (arith, ints) in
    let wide = pow_le (B - 1) W (omega arith) in
    let w = wrap-below false W (x -ℤ pos (2 ^ (B - 1))) (omega arith) (omega (arith, ints)) (omega (arith, ints)) in
    let r : z ≡ x -ℤ pos (2 ^ (B - 1)) +ℤ pos (2 ^ W) = q ∙ (λ i. wrap false (v i) (same i)) ∙ w in
    omega (arith, ints)

pub place-below : (s t : Bool) (B W V : ℕ) (x n l h z : ℤ) → s ≡ true → t ≡ false → 1 ≤ B → B ≤ W → V ≡ W → InRange s B x
    → n ≡ pos (residue B x) → l ≡ lo s B → h ≡ pos (residue B l) → z ≡ wrap t V (n -ℤ h) → x <ℤ pos 0 → z ≡ x +ℤ pos (2 ^ (B - 1))
place-below false t B W V x n l h z a b o g v f e k m q u = cc
place-below true true B W V x n l h z a b o g v f e k m q u = cc
place-below true false B W V x n l h z a b o g v f e k m q u =
    let low = f.low in
    let half = pow_half B o in
    let own = pattern-below B x n o f e u in
    let least = pattern-least B l h o k m in
    let same : n -ℤ h ≡ x +ℤ pos (2 ^ (B - 1)) = omega (arith, ints) in
    let wide = pow_le (B - 1) W (omega arith) in
    let i : InRange false W (x +ℤ pos (2 ^ (B - 1))) = record { low = omega (arith, ints); high = omega (arith, ints) } in
    q ∙ (λ j. wrap false (v j) (same j)) ∙ wrap-of_in_range false W (x +ℤ pos (2 ^ (B - 1))) (omega arith) i

-- ---- order

-- what the two say of the place a of x
abbrev pub IsPlace : ℕ → ℕ → ℤ → ℤ → Type 0
IsPlace B W x a = (pos 0 ≤ℤ x → a ≡ x +ℤ pos (2 ^ W) -ℤ pos (2 ^ (B - 1))) × (x <ℤ pos 0 → a ≡ x +ℤ pos (2 ^ (B - 1)))

place-less : (B W : ℕ) (x y a b : ℤ) → 1 ≤ B → B ≤ W → IsPlace B W x a → IsPlace B W y b → x <ℤ y → a <ℤ b
place-less B W x y a b o g p q l =
    let half = pow_half B o in
    let wide = pow_le B W g in
    by_lt_z x (pos 0)
    (λ u. let d = p.1 u in by_lt_z y (pos 0) (λ v. let e = q.1 v in omega (arith, ints)) (λ v. let e = q.0 v in omega (arith, ints)))
    (λ u. let d = p.0 u in let e = q.0 (omega (arith, ints)) in omega (arith, ints))

place-same : (B W : ℕ) (x y a b : ℤ) → IsPlace B W x a → IsPlace B W y b → x ≡ y → a ≡ b
place-same B W x y a b p q e =
    by_lt_z x (pos 0)
    (λ u. let d = p.1 u in let f = q.1 (omega (arith, ints)) in omega (arith, ints))
    (λ u. let d = p.0 u in let f = q.0 (omega (arith, ints)) in omega (arith, ints))

pub place-order : (B W : ℕ) (x y a b : ℤ) (r : Ordering) → 1 ≤ B → B ≤ W → IsPlace B W x a → IsPlace B W y b → r ≡ int_cmp a b → r ≡ int_cmp x y
place-order B W x y a b r o h p q e = e ∙ sym (int_cmp_is a b (int_cmp x y) (ranked (int_cmp x y) (int_ranks x y)))
  where
    ranked : (t : Ordering) → MatchOrdering t (x <ℤ y) (x ≡ y) (y <ℤ x) → MatchOrdering t (a <ℤ b) (a ≡ b) (b <ℤ a)
    ranked Less l = place-less B W x y a b o h p q l
    ranked Equal l = place-same B W x y a b p q l
    ranked Greater l = place-less B W y x b a o h q p l
