-- The numbers of a step, read from its words one by one.
use Rattle.std.proofs.Common.{◌≡◌, ℕ, ◌^◌, ◌==◌, false, List, [], ◌∷◌, length, Option, Some, None, option_map, option_and_then, refl, arith}
use Rattle.std.specs.Option.{option_zip}
use Rattle.std.proofs.lemmas.Bool.{ne_eqb}
use Rattle.arbitrary_int.specs.declared.steps.Step.{Step}
use Rattle.arbitrary_int.specs.declared.steps.Step.TheVariants as steps
use Rattle.arbitrary_int.specs.declared.steps.TwoOp.{TwoOp}
use Rattle.arbitrary_int.specs.declared.steps.OneOp.{OneOp}
use Rattle.arbitrary_int.specs.declared.steps.ByOp.{ByOp}
use Rattle.bitrun_text.specs.Numeral.{number_below, first_number}
use Rattle.bitrun_text.specs.Operation.{at_end, step_with}
use Rattle.bitrun_text.specs.declared.operation.Operation.TheVariants as operations

infixl 10 ◌>>=◌
abbrev ◌>>=◌ : {A B : Type 0} → Option A → (A → Option B) → Option B
o >>= f = option_and_then f o

more : (word : List ℕ) (words : List (List ℕ)) → (length (word ∷ words) == 0) ≡ false
more word words = ne_eqb (length (word ∷ words)) 0 (omega arith)

-- ---- three numbers, of which the last has a limit of its own

abbrev three : ℕ → ℕ → (ℕ → ℕ → ℕ → Step) → List (List ℕ) → Option Step
three count limit step (first ∷ second ∷ third ∷ []) = option_map (λ n. step n.0 n.1.0 n.1.1)
    (option_zip (number_below count first) (option_zip (number_below count second) (number_below limit third)))
three count limit step words = None

abbrev three_by_one : ℕ → ℕ → (ℕ → ℕ → ℕ → Step) → List (List ℕ) → Option Step
three_by_one count limit step words = do
  to ← first_number count words
  left ← first_number count to.1
  last ← first_number limit left.1
  at_end last.1 (step to.0 left.0 last.0)

three_taken : (count limit : ℕ) (step : ℕ → ℕ → ℕ → Step) (words : List (List ℕ)) → three count limit step words ≡ three_by_one count limit step words
three_taken count limit step [] = refl
three_taken count limit step (a ∷ []) = by_parts (number_below count a) refl
  where
    by_parts : (o : Option ℕ) → number_below count a ≡ o → None ≡ three_by_one count limit step (a ∷ [])
    by_parts None e = rw e refl
    by_parts (Some x) e = rw e refl
three_taken count limit step (a ∷ b ∷ []) = by_parts (number_below count a) (number_below count b) refl refl
  where
    by_parts : (o p : Option ℕ) → number_below count a ≡ o → number_below count b ≡ p → None ≡ three_by_one count limit step (a ∷ b ∷ [])
    by_parts None p e f = rw e refl
    by_parts (Some x) None e f = rw (e, f) refl
    by_parts (Some x) (Some y) e f = rw (e, f) refl
three_taken count limit step (a ∷ b ∷ c ∷ rest) = by_parts rest (number_below count a) (number_below count b) (number_below limit c) refl refl refl
  where
    by_parts : (rest : List (List ℕ)) (o p q : Option ℕ) → number_below count a ≡ o → number_below count b ≡ p → number_below limit c ≡ q
        → three count limit step (a ∷ b ∷ c ∷ rest) ≡ three_by_one count limit step (a ∷ b ∷ c ∷ rest)
    by_parts [] None p q e f g = rw e refl
    by_parts [] (Some x) None q e f g = rw (e, f) refl
    by_parts [] (Some x) (Some y) None e f g = rw (e, f, g) refl
    by_parts [] (Some x) (Some y) (Some z) e f g = rw (e, f, g) refl
    by_parts (d ∷ rest) None p q e f g = rw e refl
    by_parts (d ∷ rest) (Some x) None q e f g = rw (e, f) refl
    by_parts (d ∷ rest) (Some x) (Some y) None e f g = rw (e, f, g) refl
    by_parts (d ∷ rest) (Some x) (Some y) (Some z) e f g = rw (e, f, g, more d rest) refl

pub two_taken : (count : ℕ) (op : TwoOp) (words : List (List ℕ)) → step_with count (operations.Two op) words ≡ three_by_one count count (steps.Two op) words
unfolding step_with
two_taken count op [] = refl
two_taken count op (a ∷ []) = three_taken count count (steps.Two op) (a ∷ [])
two_taken count op (a ∷ b ∷ []) = three_taken count count (steps.Two op) (a ∷ b ∷ [])
two_taken count op (a ∷ b ∷ c ∷ []) = three_taken count count (steps.Two op) (a ∷ b ∷ c ∷ [])
two_taken count op (a ∷ b ∷ c ∷ d ∷ rest) = three_taken count count (steps.Two op) (a ∷ b ∷ c ∷ d ∷ rest)

pub by_taken : (count : ℕ) (op : ByOp) (words : List (List ℕ)) → step_with count (operations.By op) words ≡ three_by_one count (2 ^ 32) (steps.By op) words
unfolding step_with
by_taken count op [] = refl
by_taken count op (a ∷ []) = three_taken count (2 ^ 32) (steps.By op) (a ∷ [])
by_taken count op (a ∷ b ∷ []) = three_taken count (2 ^ 32) (steps.By op) (a ∷ b ∷ [])
by_taken count op (a ∷ b ∷ c ∷ []) = three_taken count (2 ^ 32) (steps.By op) (a ∷ b ∷ c ∷ [])
by_taken count op (a ∷ b ∷ c ∷ d ∷ rest) = three_taken count (2 ^ 32) (steps.By op) (a ∷ b ∷ c ∷ d ∷ rest)

-- ---- two numbers

abbrev two_by_one : ℕ → OneOp → List (List ℕ) → Option Step
two_by_one count op words = do
  to ← first_number count words
  src ← first_number count to.1
  at_end src.1 (steps.One op to.0 src.0)

pub one_taken : (count : ℕ) (op : OneOp) (words : List (List ℕ)) → step_with count (operations.One op) words ≡ two_by_one count op words
unfolding step_with
one_taken count op [] = refl
one_taken count op (a ∷ []) = by_parts (number_below count a) refl
  where
    by_parts : (o : Option ℕ) → number_below count a ≡ o → None ≡ two_by_one count op (a ∷ [])
    by_parts None e = rw e refl
    by_parts (Some x) e = rw e refl
one_taken count op (a ∷ b ∷ rest) = by_parts rest (number_below count a) (number_below count b) refl refl
  where
    by_parts : (rest : List (List ℕ)) (o p : Option ℕ) → number_below count a ≡ o → number_below count b ≡ p
        → step_with count (operations.One op) (a ∷ b ∷ rest) ≡ two_by_one count op (a ∷ b ∷ rest)
    by_parts [] None p e f = rw e refl
    by_parts [] (Some x) None e f = rw (e, f) refl
    by_parts [] (Some x) (Some y) e f = rw (e, f) refl
    by_parts (c ∷ rest) None p e f = rw e refl
    by_parts (c ∷ rest) (Some x) None e f = rw (e, f) refl
    by_parts (c ∷ rest) (Some x) (Some y) e f = rw (e, f, more c rest) refl

pub ruleset taken = (two_taken, one_taken, by_taken)
