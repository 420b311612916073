-- Steps within a range, and consecutive numbers.
use Rattle.std.specs.Prelude.{◌≡◌, ℕ, zero, suc, ℤ, pos, negsuc, ◌+ℤ◌, ◌-ℤ◌, ◌≤ℤ◌, ◌<ℤ◌, ◌≤◌, Bool, true, false, List, [], ◌∷◌, ◌++◌, map, length, ◌+◌, ◌<◌, Option, Some, None, IfSome, slice_get}
use Rattle.std.proofs.Common.{refl, ap, sym, subst, ◌∙◌, arith, lit≤}
use Rattle.std.proofs.lemmas.Int.{ints}
use Rattle.std.specs.Int.{int_gap}
use Rattle.std.specs.List.{range_with_len}
use Rattle.arbitrary_base.specs.Range.{InRange}
use Rattle.arbitrary_base.specs.Residue.{Congruent, wrap}
use Rattle.arbitrary_base.proofs.modular.Congruence.{Congruent-add, Congruent-sub, Congruent-refl, span, pow_le}
use Rattle.arbitrary_base.proofs.modular.Residue.{wrap-congruent, wrap-same, wrap-of_in_range}
use Rattle.arbitrary_int.specs.Ranges.{numbers, values_left}

-- a wrapped sum or difference with the truncation of a number
pub moved_up : (s : Bool) (B : ℕ) (x y m z : ℤ) → 1 ≤ B → InRange s B (x +ℤ y) → m ≡ wrap s B y → z ≡ wrap s B (x +ℤ m) → z ≡ x +ℤ y
moved_up s B x y m z h i e f =
    let c : Congruent B (x +ℤ m) (x +ℤ y) = Congruent-add B x x m y (Congruent-refl B x) (subst (λ (k : ℤ). Congruent B k y) (sym e) (wrap-congruent s B y)) in
    f ∙ wrap-same s B (x +ℤ m) (x +ℤ y) c ∙ wrap-of_in_range s B (x +ℤ y) h i

pub moved_down : (s : Bool) (B : ℕ) (x y m z : ℤ) → 1 ≤ B → InRange s B (x -ℤ y) → m ≡ wrap s B y → z ≡ wrap s B (x -ℤ m) → z ≡ x -ℤ y
moved_down s B x y m z h i e f =
    let c : Congruent B (x -ℤ m) (x -ℤ y) = Congruent-sub B x x m y (Congruent-refl B x) (subst (λ (k : ℤ). Congruent B k y) (sym e) (wrap-congruent s B y)) in
    f ∙ wrap-same s B (x -ℤ m) (x -ℤ y) c ∙ wrap-of_in_range s B (x -ℤ y) h i

pub ruleset moves = (moved_up, moved_down)

pub apart_by : (s : Bool) (B : ℕ) (x y p q r : ℤ) → 1 ≤ B → B ≤ 128 → InRange s B x → InRange s B y → x ≤ℤ y → p ≡ wrap false 128 y → q ≡ wrap false 128 x → r ≡ wrap false 128 (p -ℤ q) → r ≡ y -ℤ x
apart_by s B x y p q r h k f g le e d w =
    let c : Congruent 128 (p -ℤ q) (y -ℤ x) = Congruent-sub 128 p y q x (subst (λ (m : ℤ). Congruent 128 m y) (sym e) (wrap-congruent false 128 y)) (subst (λ (m : ℤ). Congruent 128 m x) (sym d) (wrap-congruent false 128 x)) in
    let wide = span s B h in
    let most = pow_le B 128 k in
    let low = f.low in
    let high = g.high in
    let i : InRange false 128 (y -ℤ x) = record { low = omega (arith, ints); high = omega (arith, ints) } in
    w ∙ wrap-same false 128 (p -ℤ q) (y -ℤ x) c ∙ wrap-of_in_range false 128 (y -ℤ x) (lit≤ tt) i

pub ruleset distances = (apart_by)

-- ---- rows

-- n numbers, from x on
row : ℤ → ℕ → List ℤ
row x zero = []
row x (suc n) = x ∷ row (x +ℤ pos 1) n

row-places : (x : ℤ) (m n : ℕ) → map (λ k. x +ℤ pos k) (range_with_len m n) ≡ row (x +ℤ pos m) n
unfolding row
row-places x m zero = refl
row-places x m (suc n) =
    let e : x +ℤ pos (m + 1) ≡ x +ℤ pos m +ℤ pos 1 = omega (arith, ints) in
    ap (λ (l : List ℤ). (x +ℤ pos m) ∷ l) (row-places x (m + 1) n ∙ ap (λ (y : ℤ). row y n) e)

numbers-row : (a b : ℤ) → numbers a b ≡ row a (int_gap a (b +ℤ pos 1))
numbers-row a b =
    let e : a +ℤ pos 0 ≡ a = omega (arith, ints) in
    row-places a 0 (int_gap a (b +ℤ pos 1)) ∙ ap (λ (y : ℤ). row y (int_gap a (b +ℤ pos 1))) e

row-last : (x : ℤ) (n : ℕ) → row x (suc n) ≡ row x n ++ (x +ℤ pos n) ∷ []
unfolding row
row-last x zero = let e : x ≡ x +ℤ pos 0 = omega (arith, ints) in ap (λ (w : ℤ). w ∷ []) e
row-last x (suc n) =
    let e : x +ℤ pos 1 +ℤ pos n ≡ x +ℤ pos (suc n) = omega (arith, ints) in
    ap (λ (ys : List ℤ). x ∷ ys) (row-last (x +ℤ pos 1) n ∙ ap (λ (w : ℤ). row (x +ℤ pos 1) n ++ w ∷ []) e)

pub gap-some : (a b : ℤ) → a ≤ℤ b → pos (int_gap a b) ≡ b -ℤ a
gap-some (pos a) (pos b) h = omega (arith, ints)
gap-some (pos a) (negsuc b) h = absurd (omega (arith, ints))
gap-some (negsuc a) (pos b) h = omega (arith, ints)
gap-some (negsuc a) (negsuc b) h = omega (arith, ints)

gap-none : (a b : ℤ) → b ≤ℤ a → int_gap a b ≡ 0
gap-none (pos a) (pos b) h = omega (arith, ints)
gap-none (pos a) (negsuc b) h = refl
gap-none (negsuc a) (pos b) h = absurd (omega (arith, ints))
gap-none (negsuc a) (negsuc b) h = omega (arith, ints)

row-length : (x : ℤ) (n : ℕ) → length (row x n) ≡ n
unfolding row
row-length x zero = refl
row-length x (suc n) = ap suc (row-length (x +ℤ pos 1) n)

pub length-numbers : (a b : ℤ) → length (numbers a b) ≡ int_gap a (b +ℤ pos 1)
length-numbers a b = ap length (numbers-row a b) ∙ row-length a (int_gap a (b +ℤ pos 1))

-- none where the first is greater
pub numbers-none : (a b : ℤ) → b <ℤ a → numbers a b ≡ []
unfolding row
numbers-none a b h = numbers-row a b ∙ ap (row a) (gap-none a (b +ℤ pos 1) (omega (arith, ints)))

counted : (a b : ℤ) → a ≤ℤ b → int_gap a (b +ℤ pos 1) ≡ suc (int_gap a b)
counted a b h =
    let e = gap-some a b h in
    let f = gap-some a (b +ℤ pos 1) (omega (arith, ints)) in
    omega (arith, ints)

-- the first, and those after it
pub numbers-first : (a b c : ℤ) → a ≤ℤ b → c ≡ a +ℤ pos 1 → numbers a b ≡ a ∷ numbers c b
unfolding row
numbers-first a b c h e =
    let f = gap-some a b h in
    let g = gap-some c (b +ℤ pos 1) (omega (arith, ints)) in
    let k : int_gap a b ≡ int_gap c (b +ℤ pos 1) = omega (arith, ints) in
    numbers-row a b ∙ ap (row a) (counted a b h) ∙ (λ i. a ∷ row (sym e i) (k i)) ∙ ap (λ (l : List ℤ). a ∷ l) (sym (numbers-row c b))

-- the last, and those before it
pub numbers-last : (a b c : ℤ) → a ≤ℤ b → c ≡ b -ℤ pos 1 → numbers a b ≡ numbers a c ++ b ∷ []
numbers-last a b c h e =
    let f : b ≡ c +ℤ pos 1 = omega (arith, ints) in
    let g = gap-some a b h in
    let k : a +ℤ pos (int_gap a b) ≡ b = omega (arith, ints) in
    numbers-row a b ∙ ap (row a) (counted a b h) ∙ row-last a (int_gap a b) ∙ (λ i. row a (int_gap a (f i)) ++ k i ∷ [])
    ∙ ap (λ (l : List ℤ). l ++ b ∷ []) (sym (numbers-row a c))

-- one number alone
pub numbers-one : (a b : ℤ) → a ≡ b → numbers a b ≡ a ∷ []
numbers-one a b e = numbers-first a b (a +ℤ pos 1) (omega (arith, ints)) refl ∙ ap (λ (l : List ℤ). a ∷ l) (numbers-none (a +ℤ pos 1) b (omega (arith, ints)))

pub numbers-one_back : (a b : ℤ) → a ≡ b → numbers a b ≡ b ∷ []
numbers-one_back a b e = numbers-one a b e ∙ ap (λ (z : ℤ). z ∷ []) e

-- what is at a place of a row's front
module _ {A : Type 0} (number : A → ℤ) where
  moved : (a : ℤ) (n k : ℕ) (o : Option A) → IfSome o (λ x. (number x ≡ a +ℤ pos 1 +ℤ pos k) × (k < n)) → IfSome o (λ x. (number x ≡ a +ℤ pos (suc k)) × (suc k < suc n))
  moved a n k None h = tt
  moved a n k (Some x) h = (omega (arith, ints, h.0), omega (arith, h.1))

  placed : (l : List A) (more : List ℤ) (a : ℤ) (n : ℕ) → map number l ++ more ≡ row a n → (k : ℕ) → IfSome (slice_get l k) (λ x. (number x ≡ a +ℤ pos k) × (k < n))
  unfolding row
  placed [] more a n e k = tt
  placed (x ∷ l) more a zero e k = absurd (cc)
  placed (x ∷ l) more a (suc n) e zero = (let f : number x ≡ a = cc in omega (arith, ints, f), omega arith)
  placed (x ∷ l) more a (suc n) e (suc k) = moved a n k (slice_get l k) (placed l more (a +ℤ pos 1) n (cc) k)

  pub numbers-placed : (l : List A) (more : List ℤ) (a b : ℤ) → map number l ++ more ≡ numbers a b → (k : ℕ) → IfSome (slice_get l k) (λ x. (number x ≡ a +ℤ pos k) × (k < int_gap a (b +ℤ pos 1)))
  numbers-placed l more a b e = placed l more a (int_gap a (b +ℤ pos 1)) (e ∙ numbers-row a b)

pub in_up : (s : Bool) (B : ℕ) (a b : ℤ) → InRange s B a → InRange s B b → a <ℤ b → InRange s B (a +ℤ pos 1)
in_up s B a b f g h = record { low = let e = f.low in omega (arith, ints); high = let e = g.high in omega (arith, ints) }

pub in_down : (s : Bool) (B : ℕ) (a b : ℤ) → InRange s B a → InRange s B b → a <ℤ b → InRange s B (b -ℤ pos 1)
in_down s B a b f g h = record { low = let e = f.low in omega (arith, ints); high = let e = g.high in omega (arith, ints) }

pub ruleset ends = (in_up)

-- ---- what a call of a range's `next` or `next_back` leaves

pub left-first : (d : Bool) (a b c : ℤ) → d ≡ false → a <ℤ b → c ≡ a +ℤ pos 1 → values_left d a b ≡ a ∷ values_left d c b
left-first true a b c e h f = absurd (cc)
left-first false a b c e h f = numbers-first a b c (omega (arith, ints)) f

pub left-last : (d : Bool) (a b c : ℤ) → d ≡ false → a <ℤ b → c ≡ b -ℤ pos 1 → values_left d a b ≡ values_left d a c ++ b ∷ []
left-last true a b c e h f = absurd (cc)
left-last false a b c e h f = numbers-last a b c (omega (arith, ints)) f

pub left-one : (d : Bool) (a b : ℤ) → d ≡ false → a ≡ b → values_left d a b ≡ a ∷ values_left true a b
left-one true a b e h = absurd (cc)
left-one false a b e h = numbers-one a b h

pub left-one_back : (d : Bool) (a b : ℤ) → d ≡ false → a ≡ b → values_left d a b ≡ values_left true a b ++ b ∷ []
left-one_back true a b e h = absurd (cc)
left-one_back false a b e h = numbers-one_back a b h

pub left-none : (d : Bool) (a b : ℤ) → b <ℤ a → values_left d a b ≡ []
left-none true a b h = refl
left-none false a b h = numbers-none a b h
