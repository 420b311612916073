-- A log's record, written and read one field after the other.
use Rattle.std.specs.Prelude.{◌≡◌, ℕ, ℤ, Bool, true, false, List, ◌++◌, ◌≤◌, length, take, drop, Option, None, Some, IsTrue, Result, Ok, Err, OnErr}
use Rattle.std.specs.Int.{div_ceil}
use Rattle.std.specs.Io.KnownBytes.{Appends, Consumes}
use Rattle.std.proofs.Common.{arith, sym, ap, subst, ◌∙◌, lit≤, append_assoc, length-append, inl, inr}
use Rattle.std.proofs.Math.Seq.{take-append_seam, drop-append_seam}
use Rattle.arbitrary_int.specs.Range.{InRange}
use Rattle.arbitrary_int.specs.ByteLists.{BorshBytes, Canonical}
use Rattle.arbitrary_int.specs.Borsh.{Unreadable}
use Rattle.arbitrary_int.specs.Streams.{AppendsBeginning}
use Rattle.arbitrary_int.proofs.NumberOfBytes.{length-Borsh, Borsh-canonical, Borsh-unique}
use Rattle.arbitrary_int.proofs.StreamSteps.{begun_append, begun_after}
use Rattle.examples.specs.Journal.{FailedOrNoRecord, record_bytes}

pub on_err : {T E P : Type 0} → (r : Result T E) → P → OnErr r P
on_err (Ok x) p = tt
on_err (Err e) p = p

-- ---- a beginning of a record was written: of its first field, or all of the fields before and a beginning of the next

pub first_begun : (time level source reading : ℤ) (a b : Option (List ℕ)) → AppendsBeginning a b (BorshBytes 40 time) → AppendsBeginning a b (record_bytes time level source reading)
first_begun time level source reading a b h = begun_append a b (BorshBytes 40 time) (BorshBytes 3 level ++ (BorshBytes 9 source ++ BorshBytes 12 reading)) h

pub second_begun : (time level source reading : ℤ) (a b c : Option (List ℕ)) → Appends a b (BorshBytes 40 time) → AppendsBeginning b c (BorshBytes 3 level) → AppendsBeginning a c (record_bytes time level source reading)
second_begun time level source reading a b c p h =
    begun_after a b c (BorshBytes 40 time) (BorshBytes 3 level ++ (BorshBytes 9 source ++ BorshBytes 12 reading)) p
    (begun_append b c (BorshBytes 3 level) (BorshBytes 9 source ++ BorshBytes 12 reading) h)

pub third_begun : (time level source reading : ℤ) (a b c d : Option (List ℕ)) → Appends a b (BorshBytes 40 time) → Appends b c (BorshBytes 3 level) → AppendsBeginning c d (BorshBytes 9 source)
    → AppendsBeginning a d (record_bytes time level source reading)
third_begun time level source reading a b c d p q h =
    begun_after a b d (BorshBytes 40 time) (BorshBytes 3 level ++ (BorshBytes 9 source ++ BorshBytes 12 reading)) p
    (begun_after b c d (BorshBytes 3 level) (BorshBytes 9 source ++ BorshBytes 12 reading) q (begun_append c d (BorshBytes 9 source) (BorshBytes 12 reading) h))

pub fourth_begun : (time level source reading : ℤ) (a b c d e : Option (List ℕ)) → Appends a b (BorshBytes 40 time) → Appends b c (BorshBytes 3 level) → Appends c d (BorshBytes 9 source)
    → AppendsBeginning d e (BorshBytes 12 reading) → AppendsBeginning a e (record_bytes time level source reading)
fourth_begun time level source reading a b c d e p q r h =
    begun_after a b e (BorshBytes 40 time) (BorshBytes 3 level ++ (BorshBytes 9 source ++ BorshBytes 12 reading)) p
    (begun_after b c e (BorshBytes 3 level) (BorshBytes 9 source ++ BorshBytes 12 reading) q (begun_after c d e (BorshBytes 9 source) (BorshBytes 12 reading) r h))

-- ---- a record is determined by its bytes

-- its fields in turn, and what follows
in_turn : (time level source reading : ℤ) (rest : List ℕ)
    → record_bytes time level source reading ++ rest ≡ BorshBytes 40 time ++ (BorshBytes 3 level ++ (BorshBytes 9 source ++ (BorshBytes 12 reading ++ rest)))
in_turn time level source reading rest =
    append_assoc (BorshBytes 40 time) (BorshBytes 3 level ++ (BorshBytes 9 source ++ BorshBytes 12 reading)) rest
    ∙ ap (λ (l : List ℕ). BorshBytes 40 time ++ l)
    (append_assoc (BorshBytes 3 level) (BorshBytes 9 source ++ BorshBytes 12 reading) rest ∙ ap (λ (l : List ℕ). BorshBytes 3 level ++ l) (append_assoc (BorshBytes 9 source) (BorshBytes 12 reading) rest))

-- what follows a field
rest-same : (B : ℕ) (x y : ℤ) (xs ys : List ℕ) → BorshBytes B x ++ xs ≡ BorshBytes B y ++ ys → xs ≡ ys
rest-same B x y xs ys e =
    let n : length (BorshBytes B x) ≡ length (BorshBytes B y) = length-Borsh B x ∙ sym (length-Borsh B y) in
    sym (drop-append_seam (BorshBytes B x) xs) ∙ (λ i. drop (n i) (e i)) ∙ drop-append_seam (BorshBytes B y) ys

-- a field determines its number
number-same : (s : Bool) (B : ℕ) (x y : ℤ) (xs ys : List ℕ) → 1 ≤ B → InRange s B x → InRange s B y → BorshBytes B x ++ xs ≡ BorshBytes B y ++ ys → x ≡ y
number-same s B x y xs ys h f g e =
    let n : length (BorshBytes B x) ≡ length (BorshBytes B y) = length-Borsh B x ∙ sym (length-Borsh B y) in
    Borsh-unique s B x y h f g (sym (take-append_seam (BorshBytes B x) xs) ∙ (λ i. take (n i) (e i)) ∙ take-append_seam (BorshBytes B y) ys)

pub records-same : (time level source reading time2 level2 source2 reading2 : ℤ) (rest rest2 : List ℕ)
    → InRange false 40 time → InRange false 3 level → InRange false 9 source → InRange true 12 reading
    → InRange false 40 time2 → InRange false 3 level2 → InRange false 9 source2 → InRange true 12 reading2
    → record_bytes time level source reading ++ rest ≡ record_bytes time2 level2 source2 reading2 ++ rest2
    → (time ≡ time2) × (level ≡ level2) × (source ≡ source2) × (reading ≡ reading2)
records-same time level source reading time2 level2 source2 reading2 rest rest2 f g h i f2 g2 h2 i2 e =
    let a = sym (in_turn time level source reading rest) ∙ e ∙ in_turn time2 level2 source2 reading2 rest2 in
    let b = rest-same 40 time time2 _ _ a in
    let d = rest-same 3 level level2 _ _ b in
    let k = rest-same 9 source source2 _ _ d in
    (number-same false 40 time time2 _ _ (lit≤ tt) f f2 a, number-same false 3 level level2 _ _ (lit≤ tt) g g2 b, number-same false 9 source source2 _ _ (lit≤ tt) h h2 d, number-same true 12 reading reading2 _ _ (lit≤ tt) i i2 k)

-- ---- a record that is there is read

-- what a reader holds after a field
rest-after : (B : ℕ) (x y : ℤ) (b : Option (List ℕ)) (more : List ℕ) → Consumes (Some (BorshBytes B y ++ more)) b (BorshBytes B x) → b ≡ Some more
rest-after B x y None more k = absurd k
rest-after B x y (Some ys) more k = ap Some (sym (rest-same B y x more ys k))

held-after : (B : ℕ) (x y : ℤ) (a b : Option (List ℕ)) (more : List ℕ) → a ≡ Some (BorshBytes B y ++ more) → Consumes a b (BorshBytes B x) → b ≡ Some more
held-after B x y a b more e k = rest-after B x y b more (subst (λ (o : Option (List ℕ)). Consumes o b (BorshBytes B x)) e k)

not-short : {F : Type 0} (B : ℕ) (y : ℤ) (more : List ℕ) (left : Option (List ℕ)) → Unreadable (Canonical B) (Some (BorshBytes B y ++ more)) left F (div_ceil B 8) → F
not-short B y more left (inl t) = t
not-short B y more left (inr (inl h)) = absurd (omega (arith, h, length-append (BorshBytes B y) more, length-Borsh B y))
not-short B y more left (inr (inr h)) =
    absurd (h.0 (subst (Canonical B) (sym ((λ i. take (sym (length-Borsh B y) i) (BorshBytes B y ++ more)) ∙ take-append_seam (BorshBytes B y) more)) (Borsh-canonical B y)))

-- a value that is there is not refused, unless the reader failed
only_by_fault : {F : Type 0} (B : ℕ) (y : ℤ) (a left : Option (List ℕ)) (more : List ℕ) → a ≡ Some (BorshBytes B y ++ more) → Unreadable (Canonical B) a left F (div_ceil B 8) → F
only_by_fault {F} B y a left more e k = not-short B y more left (subst (λ (o : Option (List ℕ)). Unreadable (Canonical B) o left F (div_ceil B 8)) e k)

-- N is what else a failure says
module _ (N : Type 0) (failed : Bool) where
  pub first_refused : (a left : Option (List ℕ)) → Unreadable (Canonical 40) a left (IsTrue failed × N) (div_ceil 40 8) → FailedOrNoRecord a failed
  first_refused a left k = λ time level source reading rest e. (only_by_fault 40 time a left _ (e ∙ ap Some (in_turn time level source reading rest)) k).0

  pub second_refused : (x : ℤ) (a b left : Option (List ℕ)) → Consumes a b (BorshBytes 40 x) → Unreadable (Canonical 3) b left (IsTrue failed × N) (div_ceil 3 8) → FailedOrNoRecord a failed
  second_refused x a b left h k =
      λ time level source reading rest e. (only_by_fault 3 level b left _ (held-after 40 x time a b _ (e ∙ ap Some (in_turn time level source reading rest)) h) k).0

  pub third_refused : (x y : ℤ) (a b c left : Option (List ℕ)) → Consumes a b (BorshBytes 40 x) → Consumes b c (BorshBytes 3 y) → Unreadable (Canonical 9) c left (IsTrue failed × N) (div_ceil 9 8) → FailedOrNoRecord a failed
  third_refused x y a b c left h g k =
      λ time level source reading rest e.
      (only_by_fault 9 source c left _ (held-after 3 y level b c _ (held-after 40 x time a b _ (e ∙ ap Some (in_turn time level source reading rest)) h) g) k).0

  pub fourth_refused : (x y z : ℤ) (a b c d left : Option (List ℕ)) → Consumes a b (BorshBytes 40 x) → Consumes b c (BorshBytes 3 y) → Consumes c d (BorshBytes 9 z)
      → Unreadable (Canonical 12) d left (IsTrue failed × N) (div_ceil 12 8) → FailedOrNoRecord a failed
  fourth_refused x y z a b c d left h g f k =
      λ time level source reading rest e.
      (only_by_fault 12 reading d left rest (held-after 9 z source c d _ (held-after 3 y level b c _ (held-after 40 x time a b _ (e ∙ ap Some (in_turn time level source reading rest)) h) g) f) k).0
