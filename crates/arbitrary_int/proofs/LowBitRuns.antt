-- Why a run at a wide type has the same low bits as the run at a narrow type.
use Rattle.std.specs.Prelude.{◌≡◌, ℕ, ℤ, Bool, pos, ◌+◌, ◌%◌, ◌≤◌, ◌<◌, List, [], ◌∷◌, ◌++◌, length, map, take, get_or, set, Result, Ok, Err, ⊤, ◌+ℤ◌, ◌-ℤ◌, ◌*ℤ◌, All}
use Rattle.std.specs.Result.{result_map_both}
use Rattle.std.proofs.Common.{arith, refl, ap, sym, ◌∙◌, mod-eq_of_lt}
use Rattle.std.proofs.lemmas.List.{map-set, map-append, map_more, take_more_set, take_all}
use Rattle.std.proofs.lemmas.List.Elements.{All-head, All-tail}
use Rattle.std.proofs.Math.ListN.{get_or-map}
use Rattle.arbitrary_base.specs.Residue.{wrap}
use Rattle.arbitrary_base.specs.Operation.{bitwise_and, bitwise_not, bitwise_or, bitwise_xor, shifted_left}
use Rattle.arbitrary_base.proofs.storages.CheckedSum.{wrap-zero}
use Rattle.arbitrary_base.proofs.modular.LowBitOperation.{low-sum, low-difference, low-product, low-and, low-or, low-xor, low-not, low-shl}
use Rattle.arbitrary_int.proofs.RunLemmas.{RunOf-ok}
use Rattle.arbitrary_int.specs.Steps.{two_meaning, one_meaning, by_meaning, result_of, target_of, meaning, StepWithin}
use Rattle.arbitrary_int.specs.Runs.{later, RunOf}
use Rattle.arbitrary_int.specs.Widths.{IsLowBit}
use Rattle.arbitrary_int.specs.declared.steps.TwoOp.{TwoOp}
use Rattle.arbitrary_int.specs.declared.steps.TwoOp.TheVariants.{WrappingAdd, WrappingSub, WrappingMul, And, Or, Xor}
use Rattle.arbitrary_int.specs.declared.steps.OneOp.{OneOp}
use Rattle.arbitrary_int.specs.declared.steps.OneOp.TheVariants.{Not, WrappingNeg}
use Rattle.arbitrary_int.specs.declared.steps.ByOp.{ByOp}
use Rattle.arbitrary_int.specs.declared.steps.ByOp.TheVariants.{WrappingShl}
use Rattle.arbitrary_int.specs.declared.steps.Step.{Step}
use Rattle.arbitrary_int.specs.declared.steps.Step.TheVariants.{Two, One, By}
use Rattle.arbitrary_int.specs.declared.steps.Stop.{Stop}
use Rattle.arbitrary_int.specs.declared.steps.Why.{Why}

-- ---- one step

-- the wide result is a number, and the narrow one is that number, wrapped
pub record LowResult (s : Bool) (A : ℕ) (wide narrow : Result ℤ Why) : Type 0 where
  pub number : ℤ
  pub wide_is : wide ≡ Ok number
  pub narrow_is : narrow ≡ Ok (wrap s A number)

low-two_meaning : (s t : Bool) (A B : ℕ) (op : TwoOp) (to left right : ℕ) (x y : ℤ) → 1 ≤ A → A ≤ B → IsLowBit A (Two op to left right)
    → LowResult s A (two_meaning t B op x y) (two_meaning s A op (wrap s A x) (wrap s A y))
unfolding bitwise_and bitwise_or bitwise_xor
low-two_meaning s t A B WrappingAdd to left right x y h g l = record { number = wrap t B (x +ℤ y); wide_is = refl; narrow_is = ap Ok (sym (low-sum s t A B x y h g)) }
low-two_meaning s t A B WrappingSub to left right x y h g l = record { number = wrap t B (x -ℤ y); wide_is = refl; narrow_is = ap Ok (sym (low-difference s t A B x y h g)) }
low-two_meaning s t A B WrappingMul to left right x y h g l = record { number = wrap t B (x *ℤ y); wide_is = refl; narrow_is = ap Ok (sym (low-product s t A B x y h g)) }
low-two_meaning s t A B And to left right x y h g l = record { number = bitwise_and t B x y; wide_is = refl; narrow_is = ap Ok (sym (low-and s t A B x y h g)) }
low-two_meaning s t A B Or to left right x y h g l = record { number = bitwise_or t B x y; wide_is = refl; narrow_is = ap Ok (sym (low-or s t A B x y h g)) }
low-two_meaning s t A B Xor to left right x y h g l = record { number = bitwise_xor t B x y; wide_is = refl; narrow_is = ap Ok (sym (low-xor s t A B x y h g)) }
low-two_meaning s t A B op to left right x y h g l = absurd l

low-one_meaning : (s t : Bool) (A B : ℕ) (op : OneOp) (to src : ℕ) (x : ℤ) → 1 ≤ A → A ≤ B → IsLowBit A (One op to src)
    → LowResult s A (one_meaning t B op x) (one_meaning s A op (wrap s A x))
unfolding bitwise_not
low-one_meaning s t A B Not to src x h g l = record { number = bitwise_not t B x; wide_is = refl; narrow_is = ap Ok (sym (low-not s t A B x h g)) }
low-one_meaning s t A B WrappingNeg to src x h g l = record {
  number = wrap t B (pos 0 -ℤ x);
  wide_is = refl;
  narrow_is = ap Ok (sym (low-difference s t A B (pos 0) x h g ∙ ap (λ (z : ℤ). wrap s A (z -ℤ wrap s A x)) (wrap-zero s A h)));
}
low-one_meaning s t A B op to src x h g l = absurd l

low-by_meaning : (s t : Bool) (A B : ℕ) (op : ByOp) (to src : ℕ) (x : ℤ) (amount : ℕ) → 1 ≤ A → A ≤ B → IsLowBit A (By op to src amount)
    → LowResult s A (by_meaning t B op x amount) (by_meaning s A op (wrap s A x) amount)
unfolding shifted_left
low-by_meaning s t A B WrappingShl to src x k h g l = record {
  number = shifted_left t B x k;
  wide_is = let m : k < B = omega arith in let e : k % B ≡ k = mod-eq_of_lt m in rw e refl;
  narrow_is = let e : k % A ≡ k = mod-eq_of_lt l in rw e (ap Ok (sym (low-shl s t A B k x g l)));
}
low-by_meaning s t A B op to src x k h g l = absurd l

-- a source, wrapped
low-register : (s : Bool) (A : ℕ) (regs : List ℤ) (k : ℕ) → 1 ≤ A → get_or (map (wrap s A) regs) k (pos 0) ≡ wrap s A (get_or regs k (pos 0))
low-register s A regs k h = ap (get_or (map (wrap s A) regs) k) (sym (wrap-zero s A h)) ∙ get_or-map (wrap s A) regs k (pos 0)

low-result : (s t : Bool) (A B : ℕ) (step : Step) (regs : List ℤ) → 1 ≤ A → A ≤ B → IsLowBit A step
    → LowResult s A (result_of t B step regs) (result_of s A step (map (wrap s A) regs))
low-result s t A B (Two op to left right) regs h g l =
    rw (low-register s A regs left h, low-register s A regs right h) (low-two_meaning s t A B op to left right (get_or regs left (pos 0)) (get_or regs right (pos 0)) h g l)
low-result s t A B (One op to src) regs h g l =
    rw (low-register s A regs src h) (low-one_meaning s t A B op to src (get_or regs src (pos 0)) h g l)
low-result s t A B (By op to src amount) regs h g l =
    rw (low-register s A regs src h) (low-by_meaning s t A B op to src (get_or regs src (pos 0)) amount h g l)

-- the narrow run on the wrapped registers is the wide one, wrapped, and neither stops
pub record LowRun (s : Bool) (A : ℕ) (wide narrow : List ℤ × Result ⊤ Stop) : Type 0 where
  pub wide_ends : wide.1 ≡ Ok tt
  pub narrow_is : narrow ≡ (map (wrap s A) wide.0, Ok tt)

later-low : (s : Bool) (A : ℕ) (wide narrow : List ℤ × Result ⊤ Stop) → LowRun s A wide narrow → LowRun s A (later wide) (later narrow)
later-low s A (regs, Ok u) narrow r = record { wide_ends = r.wide_ends; narrow_is = ap later r.narrow_is }
later-low s A (regs, Err stop) narrow r = let e = r.wide_ends in absurd (cc)

pub low-run : (s t : Bool) (A B : ℕ) (steps : List Step) (regs : List ℤ) → 1 ≤ A → A ≤ B → All (IsLowBit A) steps
    → LowRun s A (RunOf t B steps regs) (RunOf s A steps (map (wrap s A) regs))
low-run s t A B [] regs h g l = record { wide_ends = refl; narrow_is = refl }
low-run s t A B (step ∷ steps) regs h g l =
    let a = low-result s t A B step regs h g (All-head (IsLowBit A) step steps l) in
    let to = target_of step in
    let new = set regs to a.number in
    let wide : meaning t B step regs ≡ Ok new = ap (result_map_both (set regs to) (λ why. why)) a.wide_is in
    let narrow : meaning s A step (map (wrap s A) regs) ≡ Ok (map (wrap s A) new) =
    ap (result_map_both (set (map (wrap s A) regs) to) (λ why. why)) a.narrow_is ∙ ap Ok (sym (map-set (wrap s A) regs to a.number)) in
    let rest = low-run s t A B steps new h g (All-tail (IsLowBit A) step steps l) in
    rw (RunOf-ok t B step steps regs new wide, RunOf-ok s A step steps (map (wrap s A) regs) (map (wrap s A) new) narrow)
    (later-low s A (RunOf t B steps new) (RunOf s A steps (map (wrap s A) new)) rest)

-- on no registers there are no steps
pub no-steps : (steps : List Step) → All (StepWithin 0) steps → steps ≡ []
no-steps [] w = refl
no-steps (step ∷ steps) w = absurd (none step (All-head (StepWithin 0) step steps w))
  where
    none : (step : Step) → StepWithin 0 step → ⊥
    none (Two op to left right) w = omega (arith, w.0)
    none (One op to src) w = omega (arith, w.0)
    none (By op to src amount) w = omega (arith, w.0)

-- the same, of any list of steps that the registers have room for: where there are none, nothing states that the width is valid
pub low-wide : (s t : Bool) (A B : ℕ) (steps : List Step) (regs : List ℤ) → All (StepWithin (length regs)) steps → (0 < length regs → 1 ≤ A) → A ≤ B → All (IsLowBit A) steps
    → LowRun s A (RunOf t B steps regs) (RunOf s A steps (map (wrap s A) regs))
low-wide s t A B steps [] w h g l = rw (no-steps steps w) (record { wide_ends = refl; narrow_is = refl })
low-wide s t A B steps (x ∷ regs) w h g l = low-run s t A B steps (x ∷ regs) (h (omega arith)) g l

-- by what the code left
pub low-registers : (s t : Bool) (A B : ℕ) (steps : List Step) (regs wide narrow : List ℤ) → All (StepWithin (length regs)) steps → (0 < length regs → 1 ≤ A) → A ≤ B → All (IsLowBit A) steps
    → wide ≡ (RunOf t B steps regs).0 → narrow ≡ map (wrap s A) wide → RunOf s A steps (map (wrap s A) regs) ≡ (narrow, Ok tt)
low-registers s t A B steps regs wide narrow w h g l e f =
    (low-wide s t A B steps regs w h g l).narrow_is ∙ ap (λ (r : List ℤ). (r, Ok tt)) (sym (f ∙ ap (map (wrap s A)) e))

pub low-ending : (s t : Bool) (A B : ℕ) (steps : List Step) (regs : List ℤ) (ending : Result ⊤ Stop) → All (StepWithin (length regs)) steps → (0 < length regs → 1 ≤ A) → A ≤ B → All (IsLowBit A) steps
    → ending ≡ (RunOf t B steps regs).1 → ending ≡ Ok tt
low-ending s t A B steps regs ending w h g l e = e ∙ (low-wide s t A B steps regs w h g l).wide_ends

-- ---- the narrow registers, one after the other

pub low-start : {X Y : Type 0} (v : X → ℤ) (n : Y → ℤ) (f : ℤ → ℤ) (xs : List X) (ys : List Y) → map n (take 0 ys) ≡ map f (map v (take 0 xs))
low-start v n f xs ys = refl

pub low-turn : {X Y : Type 0} (v : X → ℤ) (n : Y → ℤ) (f : ℤ → ℤ) (xs : List X) (ys : List Y) (i : ℕ) (x : X) (y : Y)
    → i < length xs → i < length ys → x ≡ get_or xs i x → n y ≡ f (v x)
    → map n (take i ys) ≡ map f (map v (take i xs)) → map n (take (i + 1) (set ys i y)) ≡ map f (map v (take (i + 1) xs))
low-turn {X = X} v n f xs ys i x y h g is e m =
    ap (map n) (take_more_set ys i y g) ∙ map-append n (take i ys) (y ∷ []) ∙ (λ j. m j ++ e j ∷ [])
    ∙ sym (ap (map f) (map_more v xs i x h) ∙ map-append f (map v (take i xs)) (v (get_or xs i x) ∷ []) ∙ ap (λ (z : X). map f (map v (take i xs)) ++ f (v z) ∷ []) (sym is))

pub low-end : {X Y : Type 0} (v : X → ℤ) (n : Y → ℤ) (f : ℤ → ℤ) (xs : List X) (ys : List Y) (i : ℕ)
    → length xs ≡ length ys → length ys ≤ i → map n (take i ys) ≡ map f (map v (take i xs)) → map n ys ≡ map f (map v xs)
low-end {X = X} v n f xs ys i e h m =
    ap (map n) (sym (take_all i ys h)) ∙ m ∙ ap (λ (l : List X). map f (map v l)) (take_all i xs (let g : length xs ≤ i = omega arith in g))

pub ruleset narrowed = (low-start, low-turn, low-end)
