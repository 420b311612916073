-- One more item of a sum or a product, and the number 1.
use Rattle.std.specs.Prelude.{◌≡◌, ◌≤◌, ◌-◌, ℕ, ℤ, pos, Bool, true, false, List, [], ◌∷◌, ◌++◌, map, Option, Some, None, MatchOption, ⊤}
use Rattle.std.specs.List.{fold}
use Rattle.std.specs.Iterator.{Yields, DrainsIf, AlwaysYields}
use Rattle.std.specs.Iterator.Runs.{SomeRun, WholeRun}
use Rattle.std.proofs.Common.{arith, refl, ap, subst, sym, ◌∙◌}
use Rattle.std.proofs.lemmas.Int.{ints}
use Rattle.std.proofs.lemmas.List.{map-append, map-id}
use Rattle.std.proofs.lemmas.Iterator.{YieldsList, items_from_drains}
use Rattle.std.proofs.lemmas.List.Sums.{fold-append}
use Rattle.std.proofs.iter.runs.Made.{run, took, run_of_turn, run_of_exit}
use Rattle.arbitrary_base.specs.Range.{InRange}
use Rattle.arbitrary_base.specs.Residue.{wrap}
use Rattle.arbitrary_int.specs.Totals.{PartialsFit, TotalOrNone}
use Rattle.arbitrary_base.proofs.modular.Congruence.{pow_le}
use Rattle.arbitrary_base.proofs.modular.Residue.{wrap-of_in_range}

fit-append : (s : Bool) (B : ℕ) (op : ℤ → ℤ → ℤ) (a : ℤ) (l : List ℤ) (x : ℤ) → PartialsFit s B op a l → InRange s B (op (fold op a l) x) → PartialsFit s B op a (l ++ x ∷ [])
fit-append s B op a [] x h r = (h.0, (r, tt))
fit-append s B op a (y ∷ l) x h r = (h.0, fit-append s B op (op a y) l x h.1 r)

unfit-append : (s : Bool) (B : ℕ) (op : ℤ → ℤ → ℤ) (a : ℤ) (l : List ℤ) (x : ℤ) → ¬ (InRange s B (op (fold op a l) x)) → ¬ (PartialsFit s B op a (l ++ x ∷ []))
unfit-append s B op a [] x n = λ h. n h.1.0
unfit-append s B op a (y ∷ l) x n = λ h. unfit-append s B op (op a y) l x n h.1

module _ {V : Type 0} (number : V → ℤ) (s : Bool) (B : ℕ) (op : ℤ → ℤ → ℤ) (first : ℤ) (l : List V) (t : ℤ) where
  -- an item that leaves a number in range
  pub one_more : (x : V) (r : ℤ) → PartialsFit s B op first (map number l) × (t ≡ fold op first (map number l)) → InRange s B (op t (number x)) × (r ≡ op t (number x))
      → PartialsFit s B op first (map number (l ++ x ∷ [])) × (r ≡ fold op first (map number (l ++ x ∷ [])))
  one_more x r h k =
      let m = map-append number l (x ∷ []) in (
        subst (PartialsFit s B op first) (sym m) (fit-append s B op first (map number l) (number x) h.0 (subst (λ (u : ℤ). InRange s B (op u (number x))) h.1 k.0)),
        k.1 ∙ ap (λ (u : ℤ). op u (number x)) h.1 ∙ sym (fold-append op first (map number l) (number x ∷ [])) ∙ ap (fold op first) (sym m),
      )

  -- and one that leaves another
  one_too_many : (x : V) → t ≡ fold op first (map number l) → ¬ (InRange s B (op t (number x))) → ¬ (PartialsFit s B op first (map number (l ++ x ∷ [])))
  one_too_many x e n =
      subst (λ (k : List ℤ). ¬ (PartialsFit s B op first k)) (sym (map-append number l (x ∷ []))) (unfit-append s B op first (map number l) (number x) (subst (λ (u : ℤ). ¬ (InRange s B (op u (number x)))) e n))

  module _ {I : Type 0} (next : I → Option V → I → Type 0) (i j u : I) where
    pub stopped : (x : V) → Yields next i l j → next j (Some x) u → t ≡ fold op first (map number l) → ¬ (InRange s B (op t (number x)))
        → SomeRun next i (λ p. ¬ (PartialsFit s B op first (map number p.items)))
    stopped x ran step e n =
        let r = run_of_turn next i l j ran x u step in
        (r.0, r.1, λ f. one_too_many x e n (subst (λ (k : List V). PartialsFit s B op first (map number k)) r.2.0 f))

    pub ended : Yields next i l j → next j None u → PartialsFit s B op first (map number l) × (t ≡ fold op first (map number l))
        → WholeRun next i (λ p. PartialsFit s B op first (map number p.items) × (t ≡ fold op first (map number p.items)))
    ended ran step h =
        let r = run_of_exit next i l j ran u step in
        (r.0, r.1, r.2, subst (λ (k : List V). PartialsFit s B op first (map number k) × (t ≡ fold op first (map number k))) (sym r.3.0) h)

-- a first number that is out of range
pub not_begun : {V I : Type 0} (next : I → Option V → I → Type 0) (number : V → ℤ) (s : Bool) (B : ℕ) (op : ℤ → ℤ → ℤ) (first : ℤ) (i : I) (r : Option V) → r ≡ None → ¬ (InRange s B first)
    → TotalOrNone s B op first next number i r
not_begun next number s B op first i r e n =
    subst (TotalOrNone s B op first next number i) (sym e) (run next i [] false (i, refl, λ w. absurd (cc)), refl, λ f. n f.0)

-- ---- the number 1

unsigned-one : (B : ℕ) → 1 ≤ B → InRange false B (pos 1)
unsigned-one B h = let p = pow_le 1 B h in record { low = omega (arith, ints); high = omega (arith, ints) }

signed-one : (B : ℕ) → 2 ≤ B → InRange true B (pos 1)
signed-one B h = let p = pow_le 1 (B - 1) (omega arith) in record { low = omega (arith, ints); high = omega (arith, ints) }

pub one-unsigned : (s t : Bool) (B : ℕ) (x : ℤ) → t ≡ s → t ≡ false → 1 ≤ B → x ≡ wrap s B (pos 1) → InRange s B (pos 1) × (x ≡ pos 1)
one-unsigned s t B x e f h g =
    let i : InRange s B (pos 1) = subst (λ (b : Bool). InRange b B (pos 1)) (sym f ∙ e) (unsigned-one B h) in
    (i, g ∙ wrap-of_in_range s B (pos 1) h i)

pub one-signed : (s : Bool) (B C : ℕ) (x : ℤ) → C ≡ B → (C ≡ 1 → ⊥) → 1 ≤ B → x ≡ wrap s B (pos 1) → InRange s B (pos 1) × (x ≡ pos 1)
one-signed s B C x e f h g =
    let two : 2 ≤ B = omega (arith, e) in
    let i : InRange s B (pos 1) = elim s as (λ (b : Bool). InRange b B (pos 1)) [ true ↦ signed-one B two | false ↦ unsigned-one B h ] in
    (i, g ∙ wrap-of_in_range s B (pos 1) h i)

pub one-missing : (s t : Bool) (B C : ℕ) → t ≡ s → C ≡ B → t ≡ true → C ≡ 1 → ¬ (InRange s B (pos 1))
one-missing s t B C e f g h i =
    let j : InRange true 1 (pos 1) = subst (λ (b : Bool). InRange b 1 (pos 1)) (sym e ∙ g) (subst (λ (k : ℕ). InRange s k (pos 1)) (sym f ∙ h) i) in
    let k = j.high in
    omega (arith, ints)

pub ruleset one_laws = (one-unsigned, one-signed, one-missing)

-- ---- for callers: an iterator that is known to give a list

given : {I V : Type 0} (next : I → Option V → I → Type 0) (i j : I) (all xs : List V) → AlwaysYields next (λ x. x) i all → Yields next i xs j → (rest : List V) × (xs ++ rest ≡ all)
given next i j all [] h ran = (all, refl)
given next i j [] (x ∷ xs) h ran = absurd (h x ran.0 ran.1)
given next i j (y ∷ ys) (x ∷ xs) h ran =
    let turn = h.1 x ran.0 ran.1 in
    let more = given next ran.0 j ys xs turn.1 ran.2 in
    (more.0, λ k. turn.0 k ∷ more.1 k)

fit-front : (s : Bool) (B : ℕ) (op : ℤ → ℤ → ℤ) (first : ℤ) (l m : List ℤ) → PartialsFit s B op first (l ++ m) → PartialsFit s B op first l
fit-front s B op first [] [] h = h
fit-front s B op first [] (x ∷ m) h = (h.0, tt)
fit-front s B op first (x ∷ l) m h = (h.0, fit-front s B op (op first x) l m h.1)

-- the total of the list
pub total-of_list : {I V : Type 0} {next : I → Option V → I → Type 0} (number : V → ℤ) (s : Bool) (B : ℕ) (op : ℤ → ℤ → ℤ) (first : ℤ) {i : I} (r : Option V) {all : List V}
    → TotalOrNone s B op first next number i r → YieldsList next (λ x. x) i all
    → MatchOption r (¬ (PartialsFit s B op first (map number all))) (λ t. PartialsFit s B op first (map number all) × (number t ≡ fold op first (map number all)))
total-of_list {next = next} number s B op first {i} None {all} h y =
    let ran = took h.0 in
    let front = given next i ran.0 all h.0.items y.runs (subst (λ k. Yields next k h.0.items ran.0) h.1 ran.1) in
    λ f. h.2 (fit-front s B op first (map number h.0.items) (map number front.0)
    (subst (PartialsFit s B op first) (ap (map number) (sym front.1) ∙ map-append number h.0.items front.0) f))
total-of_list {next = next} number s B op first {i} (Some t) {all} h y =
    let ran = took h.0 in
    let whole = items_from_drains h.0.items (subst (λ k. DrainsIf next ⊤ k h.0.items) h.1 (ran.0, ran.1, λ _. ran.2 h.2)) y in
    let e : h.0.items ≡ all = sym (map-id h.0.items) ∙ whole in
    subst (λ (l : List _). PartialsFit s B op first (map number l) × (number t ≡ fold op first (map number l))) e h.3
