-- Nested sums and differences that clamp, of unsigned types; and a number that tests compare with the ends of a
-- range. Callers name the set `saturations`.
use Rattle.std.specs.Prelude.{◌≡◌, ◌⊎◌, ℕ, ℤ, false, pos, ◌≤◌, ◌≤ℤ◌, ◌<ℤ◌, ◌+ℤ◌, ◌-ℤ◌}
use Rattle.std.proofs.Common.{sym, ap, ◌∙◌, arith, inl, inr}
use Rattle.std.proofs.lemmas.Bool.Decides.{Decides-int_eq}
use Rattle.std.proofs.lemmas.Int.{ints}
use Rattle.std.proofs.lemmas.Nat.{pow_pos}
use Rattle.arbitrary_base.specs.Range.{InRange, hi, lo}
use Rattle.arbitrary_base.specs.Saturating.{clamp}
use Rattle.arbitrary_base.proofs.storages.CheckedSum.{three_ways}
use Rattle.arbitrary_base.proofs.storages.Clamp.{clamp-above, clamp-below, clamp-fits}

none : (B : ℕ) (w : ℤ) → w ≤ℤ pos 0 → clamp false B w ≡ pos 0
none B w l = elim (three_ways false B w) [
  | inl r ↦ (let m = r.low in clamp-fits false B w r ∙ omega (arith, ints))
  | inr e ↦ elim e [
    | inl r ↦ clamp-below false B w r
    | inr r ↦ (let p = pow_pos B in absurd (omega (arith, ints, r)))
  ]
]

-- one number less two others
module _ (B : ℕ) (x y z : ℤ) (h : 1 ≤ B) (f : InRange false B x) (g : InRange false B y) (i : InRange false B z) where
  twice : (InRange false B (x -ℤ y)) ⊎ (((x -ℤ y) <ℤ lo false B) ⊎ (hi false B <ℤ (x -ℤ y))) → clamp false B (clamp false B (x -ℤ y) -ℤ z) ≡ clamp false B (x -ℤ (y +ℤ z))
  twice (inl r) = ap (λ (w : ℤ). clamp false B (w -ℤ z)) (clamp-fits false B _ r) ∙ ap (clamp false B) (omega (arith, ints))
  twice (inr (inl r)) =
      let e = clamp-below false B (x -ℤ y) r in
      let l = i.low in
      none B (clamp false B (x -ℤ y) -ℤ z) (omega (arith, ints)) ∙ sym (none B (x -ℤ (y +ℤ z)) (omega (arith, ints)))
  twice (inr (inr r)) = let u = f.high in let l = g.low in absurd (omega (arith, ints))

  pub clamped-difference_twice : clamp false B (clamp false B (x -ℤ y) -ℤ z) ≡ clamp false B (x -ℤ (y +ℤ z))
  clamped-difference_twice = twice (three_ways false B (x -ℤ y))

module _ (B : ℕ) (x y z : ℤ) (h : 1 ≤ B) (f : InRange false B x) (g : InRange false B y) (i : InRange false B z) where
  pub clamped-differences_exchanged : clamp false B (clamp false B (x -ℤ y) -ℤ z) ≡ clamp false B (clamp false B (x -ℤ z) -ℤ y)
  clamped-differences_exchanged =
      clamped-difference_twice B x y z h f g i ∙ ap (clamp false B) (let e : x -ℤ (y +ℤ z) ≡ x -ℤ (z +ℤ y) = omega (arith, ints) in e)
      ∙ sym (clamped-difference_twice B x z y h f i g)

  -- where the sum is clamped too, nothing is left
  pub difference-of_clamped_sum : clamp false B (x -ℤ clamp false B (y +ℤ z)) ≡ clamp false B (x -ℤ (y +ℤ z))
  difference-of_clamped_sum = by-range (three_ways false B (y +ℤ z))
    where
      by-range : (InRange false B (y +ℤ z)) ⊎ (((y +ℤ z) <ℤ lo false B) ⊎ (hi false B <ℤ (y +ℤ z))) → clamp false B (x -ℤ clamp false B (y +ℤ z)) ≡ clamp false B (x -ℤ (y +ℤ z))
      by-range (inl r) = ap (λ (w : ℤ). clamp false B (x -ℤ w)) (clamp-fits false B _ r)
      by-range (inr (inl r)) = let l = g.low in let m = i.low in absurd (omega (arith, ints))
      by-range (inr (inr r)) =
          let e = clamp-above false B (y +ℤ z) h r in
          let u = f.high in
          none B (x -ℤ clamp false B (y +ℤ z)) (omega (arith, ints)) ∙ sym (none B (x -ℤ (y +ℤ z)) (omega (arith, ints)))

pub ruleset saturations = (Decides-int_eq, clamped-difference_twice, clamped-differences_exchanged, difference-of_clamped_sum, clamp-fits, clamp-below, clamp-above)
