-- Why a step is right: the contract of each call states the meaning of its operation.
use Rattle.std.specs.Bool.{then_some}
use Rattle.std.specs.Ordering.{int_eq}
use Rattle.std.specs.Prelude.{Bool, Err, IfSome, IsNone, List, MatchResult, None, Ok, Option, Result, Some, SomeIff, false, get_or, if◌then◌else◌, int_div, length, map, nat_eq, nat_lt, ok_or, option_map, pos, set, true, ℕ, ℤ, ◌<◌, ◌↔◌, ◌≡◌, ◌≢◌, ◌≤◌}
use Rattle.std.specs.Result.{result_map_both}
use Rattle.std.proofs.Common.{ap, arith, lit<, lit≤, refl, subst, sym, ◌∙◌}
use Rattle.std.proofs.lemmas.Int.{ints}
use Rattle.std.proofs.lemmas.List.{get_or-map, map-set}
use Rattle.arbitrary_base.specs.Range.{InRange, in_range}
use Rattle.arbitrary_base.specs.Residue.{Congruent, residue}
use Rattle.arbitrary_base.proofs.modular.Residue.{congruent-same, residue-congruent}
use Rattle.arbitrary_base.proofs.modular.Truncation.{InRange-wider, in_range-false, in_range-true}
use Rattle.arbitrary_base.proofs.storages.CheckedSum.{zero-in_range}
use Rattle.arbitrary_base.proofs.storages.Primitive.{residue-pos}
use Rattle.arbitrary_int.specs.Steps.{by_meaning, exact_or_refused, one_meaning, two_meaning, unless_zero}
use Rattle.arbitrary_int.specs.declared.steps.ByOp.{ByOp}
use Rattle.arbitrary_int.specs.declared.steps.OneOp.{OneOp}
use Rattle.arbitrary_int.specs.declared.steps.TwoOp.{TwoOp}
use Rattle.arbitrary_int.specs.declared.steps.Why.{Why}
use Rattle.arbitrary_int.specs.declared.steps.Why.TheVariants.{Refused}

-- ---- results that may be refused

exact-some : (s : Bool) (B : ℕ) (x : ℤ) → InRange s B x → exact_or_refused s B x ≡ Ok x
exact-some s B x f = rw (in_range-true s B x f) refl

exact-none : (s : Bool) (B : ℕ) (x : ℤ) → (InRange s B x → ⊥) → exact_or_refused s B x ≡ Err Refused
exact-none s B x f = rw (in_range-false s B x f) refl

pub exact-checks : {T : Type 0} (number : T → ℤ) (s : Bool) (B : ℕ) (x : ℤ) (o : Option T) (r : Result T Why)
    → SomeIff (option_map number o) (InRange s B x) x → r ≡ ok_or o Refused
    → MatchResult r (λ v. exact_or_refused s B x ≡ Ok (number v)) (λ why. exact_or_refused s B x ≡ Err why)
exact-checks number s B x None r h e = rw e (exact-none s B x h)
exact-checks number s B x (Some y) r h e = rw e (exact-some s B x h.0 ∙ ap Ok (sym h.1))

-- ---- divisors

pub nonzero : (y : ℤ) → int_eq y (pos 0) ≡ false → y ≢ pos 0
nonzero y e z = let t : int_eq y (pos 0) ≡ true = rw z refl in cc

int_eq-false : (y : ℤ) → y ≢ pos 0 → int_eq y (pos 0) ≡ false
int_eq-false y n = by_test (int_eq y (pos 0)) refl
  where
    by_test : (t : Bool) → int_eq y (pos 0) ≡ t → t ≡ false
    by_test true p = absurd (n (grind (arith, ints)))
    by_test false p = refl

pub unless_zero-zero : (y : ℤ) (why : Why) (result : Result ℤ Why) → int_eq y (pos 0) ≡ true → unless_zero y why result ≡ Err why
unless_zero-zero y why result e = rw e refl

pub unless_zero-other : (y : ℤ) (why : Why) (result : Result ℤ Why) → int_eq y (pos 0) ≡ false → unless_zero y why result ≡ result
unless_zero-other y why result e = rw e refl

pub quotient-checks : {T : Type 0} (number : T → ℤ) (s : Bool) (B : ℕ) (x y : ℤ) (o : Option T) (r : Result T Why)
    → SomeIff (option_map number o) ((y ≢ pos 0) × InRange s B (int_div x y)) (int_div x y) → r ≡ ok_or o Refused
    → MatchResult r (λ v. unless_zero y Refused (exact_or_refused s B (int_div x y)) ≡ Ok (number v)) (λ why. unless_zero y Refused (exact_or_refused s B (int_div x y)) ≡ Err why)
quotient-checks number s B x y (Some q) r h e =
    rw e (unless_zero-other y Refused (exact_or_refused s B (int_div x y)) (int_eq-false y h.0.0) ∙ exact-some s B (int_div x y) h.0.1 ∙ ap Ok (sym h.1))
quotient-checks number s B x y None r h e = rw e (by_test (int_eq y (pos 0)) refl)
  where
    by_test : (t : Bool) → int_eq y (pos 0) ≡ t → unless_zero y Refused (exact_or_refused s B (int_div x y)) ≡ Err Refused
    by_test true p = unless_zero-zero y Refused (exact_or_refused s B (int_div x y)) p
    by_test false p = unless_zero-other y Refused (exact_or_refused s B (int_div x y)) p ∙ exact-none s B (int_div x y) (λ f. h (nonzero y p, f))

-- the residue is 0 exactly where the number is
pub zero_test : (s : Bool) (B p : ℕ) (x : ℤ) (b : Bool) → (1 ≤ B) × (B ≤ 128) → InRange s B x → p ≡ residue 128 x → b ≡ nat_eq p 0 → b ≡ int_eq x (pos 0)
zero_test s B p x true h f e t =
    let z : p ≡ 0 = grind arith in
    let c : Congruent 128 (pos 0) x = subst (λ (n : ℕ). Congruent 128 (pos n) x) (sym e ∙ z) (residue-congruent 128 x) in
    let same : pos 0 ≡ x = congruent-same s 128 (pos 0) x (lit≤ tt) (zero-in_range s 128 (lit≤ tt)) (InRange-wider s B 128 x h.0 h.1 f) c in
    rw (← same) refl
zero_test s B p x false h f e t = sym (int_eq-false x (λ z. let m : p ≡ 0 = e ∙ ap (residue 128) z ∙ residue-pos 128 0 (lit< tt) in let k : false ≡ nat_eq 0 0 = rw m at t in cc))

-- ---- amounts

pub below-checks : {T : Type 0} (number : T → ℤ) (B amount : ℕ) (x : ℤ) (o : Option T) (r : Result T Why)
    → (IsNone o ↔ (B ≤ amount)) → IfSome o (λ v. number v ≡ x) → r ≡ ok_or o Refused
    → MatchResult r (λ v. ok_or (then_some (nat_lt amount B) x) Refused ≡ Ok (number v)) (λ why. ok_or (then_some (nat_lt amount B) x) Refused ≡ Err why)
below-checks number B amount x None r h g e = rw e (let l : B ≤ amount = h.0 refl in let t : nat_lt amount B ≡ false = grind arith in rw t refl)
below-checks number B amount x (Some v) r h g e = rw e (by_test (nat_lt amount B) refl)
  where
    by_test : (t : Bool) → nat_lt amount B ≡ t → ok_or (then_some (nat_lt amount B) x) Refused ≡ Ok (number v)
    by_test true p = rw p (ap Ok (sym g))
    by_test false p = let l : B ≤ amount = grind arith in let n = h.1 l in absurd (cc)

pub ruleset results = (exact-checks, quotient-checks, below-checks)

-- ---- registers

source : {T : Type 0} (number : T → ℤ) (regs : List T) (k : ℕ) (x : T) → k < length regs → x ≡ get_or regs k x → number x ≡ get_or (map number regs) k (pos 0)
source number regs k x h e = sym (get_or-map number regs k x (pos 0) h ∙ ap number (sym e))

pub two-sources : {T : Type 0} (number : T → ℤ) (s : Bool) (B : ℕ) (op : TwoOp) (left right : ℕ) (regs : List T) (x y : T) (r : Result T Why)
    → left < length regs → right < length regs → x ≡ get_or regs left x → y ≡ get_or regs right y
    → MatchResult r (λ v. two_meaning s B op (number x) (number y) ≡ Ok (number v)) (λ why. two_meaning s B op (number x) (number y) ≡ Err why)
    → MatchResult r (λ v. two_meaning s B op (get_or (map number regs) left (pos 0)) (get_or (map number regs) right (pos 0)) ≡ Ok (number v)) (λ why. two_meaning s B op (get_or (map number regs) left (pos 0)) (get_or (map number regs) right (pos 0)) ≡ Err why)
two-sources number s B op left right regs x y r h g e f m =
    let a = source number regs left x h e in
    let b = source number regs right y g f in
    let P : ℤ → ℤ → Type 0 = λ p q. MatchResult r (λ v. two_meaning s B op p q ≡ Ok (number v)) (λ why. two_meaning s B op p q ≡ Err why) in
    subst (λ (q : ℤ). P (get_or (map number regs) left (pos 0)) q) b (subst (λ (p : ℤ). P p (number y)) a m)

pub one-source : {T : Type 0} (number : T → ℤ) (s : Bool) (B : ℕ) (op : OneOp) (src : ℕ) (regs : List T) (x v : T)
    → src < length regs → x ≡ get_or regs src x → one_meaning s B op (number x) ≡ Ok (number v)
    → one_meaning s B op (get_or (map number regs) src (pos 0)) ≡ Ok (number v)
one-source number s B op src regs x v h e m = subst (λ (p : ℤ). one_meaning s B op p ≡ Ok (number v)) (source number regs src x h e) m

pub by-source : {T : Type 0} (number : T → ℤ) (s : Bool) (B : ℕ) (op : ByOp) (src amount : ℕ) (regs : List T) (x : T) (r : Result T Why)
    → src < length regs → x ≡ get_or regs src x
    → MatchResult r (λ v. by_meaning s B op (number x) amount ≡ Ok (number v)) (λ why. by_meaning s B op (number x) amount ≡ Err why)
    → MatchResult r (λ v. by_meaning s B op (get_or (map number regs) src (pos 0)) amount ≡ Ok (number v)) (λ why. by_meaning s B op (get_or (map number regs) src (pos 0)) amount ≡ Err why)
by-source number s B op src amount regs x r h e m =
    subst (λ (p : ℤ). MatchResult r (λ v. by_meaning s B op p amount ≡ Ok (number v)) (λ why. by_meaning s B op p amount ≡ Err why)) (source number regs src x h e) m

pub ruleset sources = (two-sources, one-source, by-source)

-- a step that writes, and one that stops
pub written-ok : {T : Type 0} (number : T → ℤ) (regs : List T) (to : ℕ) (v : T) (result : Result ℤ Why)
    → result ≡ Ok (number v) → result_map_both (set (map number regs) to) (λ why. why) result ≡ Ok (map number (set regs to v))
written-ok number regs to v result e = ap (result_map_both (set (map number regs) to) (λ why. why)) e ∙ ap Ok (sym (map-set number regs to v))

pub written-err : (regs : List ℤ) (to : ℕ) (result : Result ℤ Why) (why : Why) → result ≡ Err why → result_map_both (set regs to) (λ why. why) result ≡ Err why
written-err regs to result why e = ap (result_map_both (set regs to) (λ why. why)) e

pub ruleset writes = (written-ok, written-err)
