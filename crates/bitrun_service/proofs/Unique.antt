-- An input has at most one output, and at most one first bad line.
use Rattle.std.proofs.Common.{◌≡◌, ℕ, ◌-◌, ◌<◌, ◌≤◌, Bool, List, [], ◌∷◌, ◌++◌, length, take, drop, slice_get, filter, None, Some, IsSomeAnd, Option, ℤ, refl, sym, ap, ap₂, ◌∙◌, inl, inr, arith, append_assoc, take_all}
use Rattle.std.specs.List.{AllZip}
use Rattle.std.proofs.lemmas.Bool.{cases_order}
use Rattle.std.proofs.lemmas.List.{take-take, take-append-drop}
use Rattle.arbitrary_int.specs.declared.steps.Step.{Step}
use Rattle.bitrun_text.specs.Text.{has_items, word_lines}
use Rattle.bitrun_text.specs.Numeral.{value_named}
use Rattle.bitrun_text.specs.Kind.{type_row, type_of}
use Rattle.bitrun_text.specs.Operation.{step_named}
use Rattle.bitrun_text.specs.Form.{Form, BeginsForm, BadLine, IsValue, IsStep}
use Rattle.bitrun_service.specs.Output.{IsOutput}
use Rattle.bitrun_text.specs.declared.kind.Kind.{Kind}

-- fewer lines begin the form too
fewer_begin : (lines : List (List (List ℕ))) (m n : ℕ) → m ≤ n → BeginsForm (take n lines) → BeginsForm (take m lines)
unfolding BeginsForm
fewer_begin lines m n less begins =
    let cut = drop m (take n lines) in
    let whole : take m lines ++ (cut ++ begins.0) ≡ take n lines ++ begins.0 =
    rw (← append_assoc (take m lines) cut begins.0, ← take-take m n lines less) (ap (λ start. start ++ begins.0) (take-append-drop m (take n lines))) in
    (cut ++ begins.0, begins.1, begins.2, begins.3, rw whole begins.4)

no_later_one : (input : List ℕ) (m n : ℕ) → BadLine input m → BadLine input n → m < n → ⊥
no_later_one input m n a b less =
    let lines = word_lines input in
    let missing = a.bad (fewer_begin lines m (n - 1) (omega arith) b.before) in
    let whole : take n lines ≡ take (n - 1) lines = take_all n lines (omega (arith, missing.0)) ∙ sym (take_all (n - 1) lines (omega (arith, missing.0))) in
    let after = b.bad (rw whole b.before) in
    omega (arith, missing.0, after.0)

pub one_bad_line : (input : List ℕ) (m n : ℕ) → BadLine input m → BadLine input n → m ≡ n
one_bad_line input m n a b =
    elim (cases_order m n) [
      | inl same ↦ same
      | inr (inl less) ↦ absurd (no_later_one input m n a b less)
      | inr (inr more) ↦ absurd (no_later_one input n m b a more)
    ]

zip_once : {A B : Type 0} (R : A → B → Type 0) (once : (x : A) (y z : B) → R x y → R x z → y ≡ z) (xs : List A) (ys zs : List B) → AllZip R xs ys → AllZip R xs zs → ys ≡ zs
zip_once R once [] [] [] h k = refl
zip_once R once [] [] (z ∷ zs) h k = absurd k
zip_once R once [] (y ∷ ys) zs h k = absurd h
zip_once R once (x ∷ xs) [] zs h k = absurd h
zip_once R once (x ∷ xs) (y ∷ ys) [] h k = absurd k
zip_once R once (x ∷ xs) (y ∷ ys) (z ∷ zs) h k = ap₂ (λ a b. a ∷ b) (once x y z h.0 k.0) (zip_once R once xs ys zs h.1 k.1)

same_some : {A : Type 0} (o : Option A) (x y : A) → o ≡ Some x → o ≡ Some y → x ≡ y
same_some o x y e f = cc

line_once : (s : Bool) (B : ℕ) (line : Option (List (List ℕ))) (xs ys : List ℤ) → IsSomeAnd line (λ words. AllZip (IsValue s B) words xs) → IsSomeAnd line (λ words. AllZip (IsValue s B) words ys) → xs ≡ ys
line_once s B None xs ys h k = absurd h
line_once s B (Some words) xs ys h k = zip_once (IsValue s B) (λ w x y. same_some (value_named s B w) x y) words xs ys h k

one_form : (lines : List (List (List ℕ))) (k l : Kind) (xs ys : List ℤ) (ss ts : List Step) → Form lines k xs ss → Form lines l ys ts → (k ≡ l) × (xs ≡ ys) × (ss ≡ ts)
one_form lines k l xs ys ss ts f g =
    let kinds : k ≡ l = (let e = f.names_kind in let h = g.names_kind in cc) in
    let registers : xs ≡ ys = line_once (type_row (type_of k)).1 (type_row (type_of k)).2 (slice_get lines 1) xs ys f.holds_registers (rw kinds g.holds_registers) in
    let steps : ss ≡ ts = zip_once (IsStep (length xs)) (λ w s t. same_some (step_named (length xs) w) s t) (filter has_items (drop 2 lines)) ss ts f.names_steps (rw registers g.names_steps) in
    (kinds, registers, steps)

pub one_output : (input text other : List ℕ) → IsOutput input text → IsOutput input other → text ≡ other
one_output input text other a b =
    let same = one_form (word_lines input) a.kind b.kind a.registers b.registers a.steps b.steps a.form b.form in
    a.written ∙ rw (same.0, same.1, same.2) (sym b.written)
