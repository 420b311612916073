-- A number shifted right by its trailing zeros: the result is odd, and shifting it back returns the number.
-- Callers name the set `normal_shifts`.
use Rattle.std.specs.Bool.{beq}
use Rattle.std.specs.List.{count_by, prefix_len}
use Rattle.std.specs.Prelude.{Bool, List, [], drop, false, length, pos, replicate, suc, take, true, unsigned_abs, zero, ℕ, ℤ, ◌%◌, ◌++◌, ◌-◌, ◌∷◌, ◌≡◌, ◌≢◌, ◌≤◌}
use lib.Seq.{take-append_seam}
use Rattle.std.proofs.Common.{ap, arith, length-drop, refl, sym, ◌∙◌}
use Rattle.std.proofs.Math.Pow.{pow_mono}
use Rattle.std.proofs.lemmas.Bool.Decides.{Decides-int_eq}
use Rattle.std.proofs.lemmas.Int.{ints}
use Rattle.arbitrary_base.specs.BitList.{bits, fill}
use Rattle.arbitrary_base.specs.Operation.{bitwise_and, shifted_left, shifted_right}
use Rattle.arbitrary_base.specs.Range.{InRange}
use Rattle.arbitrary_base.proofs.bit_lists.Count.{front-fits, popcount-cons}
use Rattle.arbitrary_base.proofs.bit_lists.UnsignedNumber.{same_length}
use Rattle.arbitrary_base.proofs.operations.Definition.{bits-right, by-bits, left-is, of-bits}
use Rattle.arbitrary_base.proofs.operations.KnownMask.{and-by_one}
use Rattle.arbitrary_calls.proofs.counts.OneRunBounds.{trailing_zeros-lowest_clear}
use Rattle.arbitrary_laws.proofs.places.LowestBit.{none-or-some}

-- ---- what is left is odd

odd-left : (l m : List Bool) → 1 ≤ count_by (λ b. b) l → prefix_len (beq false) (drop (prefix_len (beq false) l) l ++ m) ≡ 0
odd-left [] m h = absurd (omega arith)
odd-left (true ∷ l) m h = refl
odd-left (false ∷ l) m h =
    let more : prefix_len (beq false) (false ∷ l) ≡ suc (prefix_len (beq false) l) = omega arith in
    ap (λ (n : ℕ). prefix_len (beq false) (drop n (false ∷ l) ++ m)) more ∙ odd-left l m (omega (arith, popcount-cons false l))

pub odd-shifted : (s : Bool) (B : ℕ) (x : ℤ) → 1 ≤ B → InRange s B x → x ≢ pos 0
    → unsigned_abs (shifted_right s B x (prefix_len (beq false) (bits B x))) % 2 ≡ 1
odd-shifted s B x h f d =
    let k = prefix_len (beq false) (bits B x) in
    let y = shifted_right s B x k in
    let e : prefix_len (beq false) (bits B y) ≡ 0 =
    ap (prefix_len (beq false)) (bits-right s B x k (front-fits false B x)) ∙ odd-left (bits B x) (replicate k (fill s (bits B x))) (none-or-some s B x h f d) in
    by-digit (unsigned_abs y % 2) refl e (trailing_zeros-lowest_clear B y h)
  where
    by-digit : (r : ℕ) → r ≡ unsigned_abs (shifted_right s B x (prefix_len (beq false) (bits B x))) % 2
        → prefix_len (beq false) (bits B (shifted_right s B x (prefix_len (beq false) (bits B x)))) ≡ 0
        → (unsigned_abs (shifted_right s B x (prefix_len (beq false) (bits B x))) % 2 ≡ 0 → 1 ≤ prefix_len (beq false) (bits B (shifted_right s B x (prefix_len (beq false) (bits B x)))))
        → unsigned_abs (shifted_right s B x (prefix_len (beq false) (bits B x))) % 2 ≡ 1
    by-digit zero r e even = let m = even (sym r) in absurd (omega arith)
    by-digit (suc n) r e even = omega arith

pub low-of_shifted : (s : Bool) (B : ℕ) (x : ℤ) → 2 ≤ B → InRange s B x → x ≢ pos 0
    → bitwise_and s B (shifted_right s B x (prefix_len (beq false) (bits B x))) (pos 1) ≡ pos 1
low-of_shifted s B x h f d =
    and-by_one s B (shifted_right s B x (prefix_len (beq false) (bits B x))) (pos 1) _ (omega arith) (one s) refl refl ∙ ap pos (odd-shifted s B x (omega arith) f d)
  where
    one : (s : Bool) → InRange s B (pos 1)
    one false = let p = pow_mono h in record { low = omega (arith, ints); high = omega (arith, ints) }
    one true = let g : 1 ≤ B - 1 = omega arith in let p = pow_mono g in record { low = omega (arith, ints); high = omega (arith, ints) }

-- ---- and back

zeros-first : (l : List Bool) → replicate (prefix_len (beq false) l) false ++ drop (prefix_len (beq false) l) l ≡ l
zeros-first [] = refl
zeros-first (true ∷ l) = refl
zeros-first (false ∷ l) =
    let more : prefix_len (beq false) (false ∷ l) ≡ suc (prefix_len (beq false) l) = omega arith in
    ap (λ (n : ℕ). replicate n false ++ drop n (false ∷ l)) more ∙ ap (λ (m : List Bool). false ∷ m) (zeros-first l)

pub shifted-back : (s : Bool) (B : ℕ) (x : ℤ) → 1 ≤ B → InRange s B x
    → shifted_left s B (shifted_right s B x (prefix_len (beq false) (bits B x))) (prefix_len (beq false) (bits B x)) ≡ x
shifted-back s B x h f =
    let k = prefix_len (beq false) (bits B x) in
    let l = bits B x in
    let m = replicate k (fill s l) in
    let y = shifted_right s B x k in
    let some : length l - k ≡ length (drop k l) = omega (arith, length-drop k l) in
    let cut : take (length (bits B y) - k) (bits B y) ≡ drop k l =
    ap (λ (n : ℕ). take (n - k) (bits B y)) (same_length B y x) ∙ ap (take (length l - k)) (bits-right s B x k (front-fits false B x))
    ∙ ap (λ (n : ℕ). take n (drop k l ++ m)) some ∙ take-append_seam (drop k l) m in
    by-bits s _ _ _ _ (left-is s B y k) (of-bits s B x h f) (ap (λ (t : List Bool). replicate k false ++ t) cut ∙ zeros-first l)

pub ruleset normal_shifts = (Decides-int_eq, odd-shifted, low-of_shifted, shifted-back)
