-- Why a run of checked sums, differences, products and quotients is the same at each type with at least the
-- range.
use Rattle.std.specs.Prelude.{◌≡◌, ℕ, ℤ, Bool, true, false, pos, ◌+◌, ◌≤◌, ◌<◌, List, [], ◌∷◌, length, take, drop, get_or, set, Result, Ok, Err, ⊤, int_le, int_div, ◌&&◌, All}
use Rattle.std.specs.Ordering.{int_eq}
use Rattle.std.specs.Result.{result_map_both}
use Rattle.std.proofs.Common.{arith, refl, ap, sym, ◌∙◌, suc}
use Rattle.std.proofs.lemmas.Int.{ints}
use Rattle.std.proofs.lemmas.List.{get_or_default}
use Rattle.std.proofs.lemmas.List.Elements.{All-head, All-tail}
use Rattle.arbitrary_base.specs.Range.{lo, hi, in_range}
use Rattle.arbitrary_base.proofs.modular.Truncation.{in_range-true}
use Rattle.arbitrary_int.proofs.RunLemmas.{RunOf-ok, RunOf-err, delayed, run-stop, run-end}
use Rattle.arbitrary_int.specs.Steps.{exact_or_refused, meaning, result_of, target_of, unless_zero}
use Rattle.arbitrary_int.specs.Runs.{later, RunOf}
use Rattle.arbitrary_int.specs.Widths.{IsCheckedArithmetic, carried_out, RangeWithin}
use Rattle.arbitrary_int.specs.declared.steps.TwoOp.TheVariants.{CheckedAdd, CheckedSub, CheckedMul, CheckedDiv}
use Rattle.arbitrary_int.specs.declared.steps.Step.{Step}
use Rattle.arbitrary_int.specs.declared.steps.Step.TheVariants.{Two}
use Rattle.arbitrary_int.specs.declared.steps.Stop.{Stop}
use Rattle.arbitrary_int.specs.declared.steps.Why.{Why}
use Rattle.arbitrary_int.specs.declared.steps.Why.TheVariants.{Refused}

-- ---- one step

in_range-wider : (s t : Bool) (A B : ℕ) (x : ℤ) → RangeWithin s A t B → in_range s A x ≡ true → in_range t B x ≡ true
unfolding in_range
in_range-wider s t A B x c e = by_tests (int_le (lo s A) x) (int_le x (hi s A)) refl refl e
  where
    by_tests : (p q : Bool) → int_le (lo s A) x ≡ p → int_le x (hi s A) ≡ q → (p && q) ≡ true → in_range t B x ≡ true
    by_tests true true p q r = let l = c.low in let h = c.high in in_range-true t B x (record { low = grind (arith, ints); high = grind (arith, ints) })
    by_tests true false p q r = absurd (cc)
    by_tests false q p r u = absurd (cc)

exact-wider : (s t : Bool) (A B : ℕ) (x y : ℤ) → RangeWithin s A t B → exact_or_refused s A x ≡ Ok y → exact_or_refused t B x ≡ Ok y
exact-wider s t A B x y c e = by_test (in_range s A x) refl
  where
    by_test : (b : Bool) → in_range s A x ≡ b → exact_or_refused t B x ≡ Ok y
    by_test true p = let q = in_range-wider s t A B x c p in rw q (rw p at e)
    by_test false p = let r : Err Refused ≡ Ok y = rw p at e in absurd (cc)

quotient-wider : (s t : Bool) (A B : ℕ) (x y z : ℤ) → RangeWithin s A t B
    → unless_zero y Refused (exact_or_refused s A (int_div x y)) ≡ Ok z → unless_zero y Refused (exact_or_refused t B (int_div x y)) ≡ Ok z
quotient-wider s t A B x y z c e = by_test (int_eq y (pos 0)) refl
  where
    by_test : (b : Bool) → int_eq y (pos 0) ≡ b → unless_zero y Refused (exact_or_refused t B (int_div x y)) ≡ Ok z
    by_test true p = let r : Err Refused ≡ Ok z = rw p at e in absurd (cc)
    by_test false p = let r : exact_or_refused s A (int_div x y) ≡ Ok z = rw p at e in rw p (exact-wider s t A B (int_div x y) z c r)

result-wider : (s t : Bool) (A B : ℕ) (step : Step) (regs : List ℤ) (x : ℤ) → RangeWithin s A t B → IsCheckedArithmetic step
    → result_of s A step regs ≡ Ok x → result_of t B step regs ≡ Ok x
result-wider s t A B (Two CheckedAdd to left right) regs x c i e = exact-wider s t A B _ x c e
result-wider s t A B (Two CheckedSub to left right) regs x c i e = exact-wider s t A B _ x c e
result-wider s t A B (Two CheckedMul to left right) regs x c i e = exact-wider s t A B _ x c e
result-wider s t A B (Two CheckedDiv to left right) regs x c i e = quotient-wider s t A B (get_or regs left (pos 0)) (get_or regs right (pos 0)) x c e
result-wider s t A B (Two op to left right) regs x c i e = absurd i
result-wider s t A B step regs x c i e = absurd i

meaning-wider : (s t : Bool) (A B : ℕ) (step : Step) (regs new : List ℤ) → RangeWithin s A t B → IsCheckedArithmetic step
    → meaning s A step regs ≡ Ok new → meaning t B step regs ≡ Ok new
meaning-wider s t A B step regs new c i e = by_result (result_of s A step regs) refl
  where
    by_result : (a : Result ℤ Why) → result_of s A step regs ≡ a → meaning t B step regs ≡ Ok new
    by_result (Ok x) p =
        ap (result_map_both (set regs (target_of step)) (λ why. why)) (result-wider s t A B step regs x c i p ∙ sym p) ∙ e
    by_result (Err why) p = let r : Err why ≡ Ok new = sym (ap (result_map_both (set regs (target_of step)) (λ why. why)) p) ∙ e in absurd (cc)

later-carried : (step : Step) (steps : List Step) (q : List ℤ × Result ⊤ Stop) → carried_out (later q).1 (step ∷ steps) ≡ step ∷ carried_out q.1 steps
later-carried step steps (regs, Ok u) = refl
later-carried step steps (regs, Err stop) = let e : 1 + stop.at ≡ suc stop.at = omega arith in ap (λ (n : ℕ). take n (step ∷ steps)) e

later-registers : (q : List ℤ × Result ⊤ Stop) → (later q).0 ≡ q.0
later-registers (regs, Ok u) = refl
later-registers (regs, Err stop) = refl

wider-turn : (s t : Bool) (A B : ℕ) (step : Step) (steps : List Step) (regs : List ℤ) → RangeWithin s A t B → IsCheckedArithmetic step
    → ((new : List ℤ) → RunOf t B (carried_out (RunOf s A steps new).1 steps) new ≡ ((RunOf s A steps new).0, Ok tt))
    → (m : Result (List ℤ) Why) → meaning s A step regs ≡ m
    → RunOf t B (carried_out (RunOf s A (step ∷ steps) regs).1 (step ∷ steps)) regs ≡ ((RunOf s A (step ∷ steps) regs).0, Ok tt)
wider-turn s t A B step steps regs c i rest (Ok new) p =
    let q = RunOf s A steps new in
    let w : meaning t B step regs ≡ Ok new = meaning-wider s t A B step regs new c i p in
    rw (RunOf-ok s A step steps regs new p, later-carried step steps q, later-registers q, RunOf-ok t B step (carried_out q.1 steps) regs new w, rest new) refl
wider-turn s t A B step steps regs c i rest (Err why) p = rw (RunOf-err s A step steps regs why p) refl

-- what a run of exact steps carried out, a wider type carries out alike
pub wider-run : (s t : Bool) (A B : ℕ) (steps : List Step) (regs : List ℤ) → RangeWithin s A t B → All IsCheckedArithmetic steps
    → RunOf t B (carried_out (RunOf s A steps regs).1 steps) regs ≡ ((RunOf s A steps regs).0, Ok tt)
wider-run s t A B [] regs c l = refl
wider-run s t A B (step ∷ steps) regs c l =
    wider-turn s t A B step steps regs c (All-head IsCheckedArithmetic step steps l) (λ new. wider-run s t A B steps new c (All-tail IsCheckedArithmetic step steps l)) (meaning s A step regs) refl

-- by how a run ended, and what it left
pub wider-ended : (s t : Bool) (A B : ℕ) (steps : List Step) (regs new : List ℤ) (ending : Result ⊤ Stop)
    → new ≡ (RunOf s A steps regs).0 → ending ≡ (RunOf s A steps regs).1 → RangeWithin s A t B → All IsCheckedArithmetic steps
    → RunOf t B (carried_out ending steps) regs ≡ (new, Ok tt)
wider-ended s t A B steps regs new ending e f c l = rw (e, f) (wider-run s t A B steps regs c l)

-- at a step that stops, and at the end
pub wider-stop : (s t : Bool) (A B : ℕ) (steps : List Step) (k : ℕ) (d : Step) (regs now new : List ℤ) (why : Why) → k < length steps
    → RunOf s A steps regs ≡ delayed k (RunOf s A (drop k steps) now) → meaning s A (get_or steps k d) now ≡ Err why → new ≡ now
    → RangeWithin s A t B → All IsCheckedArithmetic steps → RunOf t B (take k steps) regs ≡ (new, Ok tt)
wider-stop s t A B steps k d regs now new why h rest stops same c l =
    let whole = run-stop s A steps k (get_or steps k d) now why (RunOf s A steps regs) h (get_or_default steps k d (get_or steps k d) h) stops rest in
    wider-ended s t A B steps regs new (Err (record { at = k; why = why })) (same ∙ sym (ap (λ (r : List ℤ × Result ⊤ Stop). r.0) whole)) (sym (ap (λ (r : List ℤ × Result ⊤ Stop). r.1) whole)) c l

pub wider-end : (s t : Bool) (A B : ℕ) (steps : List Step) (k : ℕ) (regs now : List ℤ) → length steps ≤ k
    → RunOf s A steps regs ≡ delayed k (RunOf s A (drop k steps) now)
    → RangeWithin s A t B → All IsCheckedArithmetic steps → RunOf t B steps regs ≡ (now, Ok tt)
wider-end s t A B steps k regs now h rest c l =
    let whole = run-end s A steps k now (RunOf s A steps regs) h rest in
    wider-ended s t A B steps regs now (Ok tt) (sym (ap (λ (r : List ℤ × Result ⊤ Stop). r.0) whole)) (sym (ap (λ (r : List ℤ × Result ⊤ Stop). r.1) whole)) c l
