-- What each call of a range's `next` returns, from the first to the last, and the count of the range's numbers.
use Rattle.std.specs.Prelude.{◌≡◌, ◌≤◌, ◌<◌, ◌^◌, ℕ, ℤ, pos, ◌-◌, ◌+ℤ◌, ◌-ℤ◌, ◌≤ℤ◌, ◌<ℤ◌, negsuc, Bool, true, List, [], ◌∷◌, ◌++◌, map, length, Option, Some, None, IfSome, IsSomeAnd}
use Rattle.std.proofs.Common.{ap, sym, subst, ◌∙◌, arith}
use Rattle.std.proofs.lemmas.Int.{ints}
use Rattle.std.specs.Int.{int_gap}
use Rattle.std.specs.Iterator.{Yields, YieldsFirstBy}
use Rattle.std.specs.Option.{option_map}
use Rattle.std.specs.Iterator.Runs.{EachRunFrom, AnyItem}
use Rattle.std.proofs.iter.runs.Made.{took, at-is}
use Rattle.std.proofs.iter.runs.Sources.{lists}
use Rattle.arbitrary_base.specs.Range.{InRange}
use Rattle.arbitrary_base.proofs.modular.Congruence.{span}
use Rattle.arbitrary_int.specs.Ranges.{numbers, CountsUp}
use Rattle.arbitrary_int.proofs.SteppingLemmas.{gap-some, length-numbers, numbers-none, numbers-placed}
use Rattle.arbitrary_int.proofs.RangeNumbers.{numbers-count}

gap-less : (a b : ℤ) (k : ℕ) → k < int_gap a b → (a +ℤ pos k) <ℤ b
gap-less (pos a) (pos b) k h = omega (arith, ints)
gap-less (pos a) (negsuc b) k h = absurd (omega arith)
gap-less (negsuc a) (pos b) k h = omega (arith, ints)
gap-less (negsuc a) (negsuc b) k h = omega (arith, ints)

gap-below : (a b : ℤ) (k : ℕ) (x : ℤ) → x ≡ a +ℤ pos k → k < int_gap a (b +ℤ pos 1) → x ≤ℤ b
gap-below a b k x e h = let l = gap-less a (b +ℤ pos 1) k h in omega (arith, ints)

-- the items of a run, and what is left after it, are what the range had left
module _ {S A : Type 0} (number : A → ℤ) (rest : S → List ℤ) where
  rest_after : (l : List A) (s t : S) → Yields (YieldsFirstBy number rest) s l t → rest s ≡ map number l ++ rest t
  rest_after [] s t y = ap rest y
  rest_after (x ∷ l) s t y = y.1 ∙ ap (λ m. number x ∷ m) (rest_after l y.0 t y.2)

gap-most : (a b : ℤ) (n : ℕ) → (b -ℤ a) ≤ℤ pos n → int_gap a b ≤ n
gap-most (pos a) (pos b) n h = omega (arith, ints)
gap-most (pos a) (negsuc b) n h = omega arith
gap-most (negsuc a) (pos b) n h = omega (arith, ints)
gap-most (negsuc a) (negsuc b) n h = omega (arith, ints)

-- a range has no more numbers than its type
pub numbers-most : (s : Bool) (B : ℕ) (a b : ℤ) → 1 ≤ B → InRange s B a → InRange s B b → length (numbers a b) ≤ 2 ^ B
numbers-most s B a b h f g =
    let wide = span s B h in
    let low = f.low in
    let high = g.high in
    let e : (b +ℤ pos 1 -ℤ a) ≤ℤ pos (2 ^ B) = omega (arith, ints) in
    let k = gap-most a (b +ℤ pos 1) (2 ^ B) e in
    omega (arith, length-numbers a b)

module _ {S A : Type 0} (number : A → ℤ) (rest : S → List ℤ) (s : S) (a b : ℤ) where
  pub counts_up : rest s ≡ numbers a b → EachRunFrom (YieldsFirstBy number rest) s (λ p. CountsUp p number a b)
  counts_up e p _ f =
      let ran = took p in
      let cut : numbers a b ≡ map number p.items ++ rest ran.0 = sym e ∙ ap rest (sym f) ∙ rest_after number rest p.items p.from ran.0 ran.1 in
      let none : p.whole ≡ true → length (rest ran.0) ≡ 0 = λ w. ap length (ran.2 w).1.0 in
      let all = lists p number (numbers a b) (rest ran.0) none cut in
      let gap : ℕ = int_gap a (b +ℤ pos 1) in
      let at : (k : ℕ) → IfSome (p.at k) (λ x. (number x ≡ a +ℤ pos k) × (k < gap)) = λ k. subst (λ o. IfSome o (λ x. (number x ≡ a +ℤ pos k) × (k < gap))) (sym (at-is p k)) (numbers-placed number p.items (rest ran.0) a b (sym cut) k) in
      let there : (k : ℕ) (y : ℤ) → p.whole ≡ true → k < gap → a +ℤ pos k ≡ y → AnyItem p (λ x. number x ≡ y) = λ k y w l e.
      let m : k < p.len = omega (arith, l, all.1 w, length-numbers a b) in
      (k, m, some k y _ (p.at k) e (all.2 k (pos 0) m) (at k)) in
      let ends : p.whole ≡ true → a ≤ℤ b → AnyItem p (λ x. number x ≡ a) × AnyItem p (λ x. number x ≡ b) = λ w h.
      let wide = gap-some a (b +ℤ pos 1) (omega (arith, ints)) in
      (there 0 a w (omega (arith, ints)) (omega (arith, ints)), there (gap - 1) b w (omega (arith, ints)) (omega (arith, ints))) in
      (all, (λ k. below a b k (p.at k) (at k)), (λ w h. ap pos (all.1 w) ∙ numbers-count a b h), (λ w h. all.1 w ∙ ap length (numbers-none a b h)), ends)
    where
      some : (k : ℕ) (y z : ℤ) (o : Option A) → a +ℤ pos k ≡ y → option_map number o ≡ Some z → IfSome o (λ x. (number x ≡ a +ℤ pos k) × (k < int_gap a (b +ℤ pos 1))) → IsSomeAnd o (λ x. number x ≡ y)
      some k y z None e n h = absurd (cc)
      some k y z (Some x) e n h = h.0 ∙ e

      below : (a b : ℤ) (k : ℕ) (o : Option A) → IfSome o (λ x. (number x ≡ a +ℤ pos k) × (k < int_gap a (b +ℤ pos 1))) → IfSome o (λ x. (number x ≡ a +ℤ pos k) × (number x ≤ℤ b))
      below a b k None h = tt
      below a b k (Some x) h = (h.0, gap-below a b k (number x) h.0 h.1)
