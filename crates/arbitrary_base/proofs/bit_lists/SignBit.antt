-- The last bit is the sign, and a right shift that copies it is a division that rounds down.
use Rattle.std.specs.Int.{Width, int_shl, int_shr}
use Rattle.std.specs.Prelude.{FitsSigned, map}
use Rattle.std.proofs.Common.{Bool, List, ap, arith, false, get_or, length, lt_of_le_of_lt, negsuc, not, of_z, pos, refl, subst, suc, sym, to_z, to_z-of_z, true, zero, ℕ, ℤ, ◌%◌, ◌*◌, ◌-◌, ◌/◌, ◌<◌, ◌^◌, ◌∙◌, ◌≡◌, ◌≤◌}
use Rattle.std.proofs.Math.Nat.{pow-suc}
use Rattle.std.proofs.Math.Pow.{shr_le}
use Rattle.std.proofs.lemmas.Int.{ints}
use Rattle.std.proofs.lemmas.List.{get_or-map}
use Rattle.std.proofs.lemmas.Nat.{pow_pos}
use Rattle.arbitrary_base.specs.BitList.{bits, fill, shl, shr, val}
use Rattle.arbitrary_base.specs.Range.{InRange}
use Rattle.arbitrary_base.specs.Residue.{residue, wrap}
use Rattle.arbitrary_base.proofs.bit_lists.Movement.{length-shl, length-shr, num-shl, num-shr, shr-not}
use Rattle.arbitrary_base.proofs.bit_lists.TwosComplement.{bits-negsuc, bits-wrap, num-bits_residue, val-bits, val-num}
use Rattle.arbitrary_base.proofs.bit_lists.UnsignedNumber.{length-bits, length-not, num-bits_small, same_num}
use Rattle.arbitrary_base.proofs.modular.Congruence.{pow_half}
use Rattle.arbitrary_base.proofs.modular.Residue.{wrap-of_in_range, wrap-same}
use Rattle.arbitrary_base.proofs.modular.Truncation.{InRange-wider}
use Rattle.arbitrary_base.proofs.storages.Primitive.{bits_some, cast_unsigned-residue, mod-congruent, residue-pos, signed-fits, signed-from_bits, signed-in_range, unsigned-in_range, wrap-pos}
use mir.Val.{bits as width_of}

-- ---- the last bit

abbrev last : List Bool → Bool
last l = get_or l (length l - 1) false

last-small : (b n : ℕ) → n < 2 ^ b → get_or (bits (suc b) (pos n)) b false ≡ false
unfolding bits
last-small zero n h = let e : n ≡ 0 = omega arith in rw e refl
last-small (suc b) n h = last-small b (n / 2) (omega (arith, pow-suc 2 b))

pub last-natural : (w n : ℕ) → 1 ≤ w → n < 2 ^ (w - 1) → last (bits w (pos n)) ≡ false
last-natural w n h l =
    ap (λ (k : ℕ). get_or (bits w (pos n)) (k - 1) false) (length-bits w (pos n))
    ∙ ap (λ (k : ℕ). get_or (bits k (pos n)) (w - 1) false) (let e : w ≡ suc (w - 1) = omega arith in e) ∙ last-small (w - 1) n l

pub last-not : (l : List Bool) → 1 ≤ length l → last (map not l) ≡ not (last l)
last-not l h =
    ap (λ (k : ℕ). get_or (map not l) (k - 1) false) (length-not l)
    ∙ get_or-map not l (length l - 1) false false (omega arith)

-- ---- to the right

shr-natural : (w n k : ℕ) → k ≤ w → n < 2 ^ w → bits w (pos (n / 2 ^ k)) ≡ shr (bits w (pos n)) k false
shr-natural w n k h l =
    same_num (bits w (pos (n / 2 ^ k))) (shr (bits w (pos n)) k false)
    (length-bits w (pos (n / 2 ^ k)) ∙ sym (length-shr (bits w (pos n)) k false (omega (arith, length-bits w (pos n))) ∙ length-bits w (pos n)))
    (num-bits_small w (n / 2 ^ k) (lt_of_le_of_lt (shr_le n k) l) ∙ sym (num-shr (bits w (pos n)) k ∙ ap (λ (x : ℕ). x / 2 ^ k) (num-bits_small w n l)))

pub bits-int_shr : (s : Bool) (B k : ℕ) (x : ℤ) → 1 ≤ B → k ≤ B → InRange s B x → bits B (int_shr x k) ≡ shr (bits B x) k (fill s (bits B x))
bits-int_shr false B k (pos n) h g r = let t = r.high in let p = pow_pos B in shr-natural B n k g (omega (arith, ints))
bits-int_shr false B k (negsuc n) h g r = let t = r.low in absurd (omega (arith, ints))
bits-int_shr true B k (pos n) h g r =
    let t = r.high in
    let p = pow_pos (B - 1) in
    let small : n < 2 ^ (B - 1) = omega (arith, ints) in
    rw (last-natural B n h small) (shr-natural B n k g (omega (arith, pow_half B h)))
bits-int_shr true B k (negsuc n) h g r =
    let t = r.low in
    let p = pow_pos (B - 1) in
    let small : n < 2 ^ (B - 1) = omega (arith, ints) in
    rw (bits-negsuc B (n / 2 ^ k), bits-negsuc B n, last-not (bits B (pos n)) (omega (arith, length-bits B (pos n))), last-natural B n h small, shr-natural B n k g (omega (arith, pow_half B h)))
    (sym (shr-not (bits B (pos n)) k false))

pub InRange-int_shr : (s : Bool) (B k : ℕ) (x : ℤ) → InRange s B x → InRange s B (int_shr x k)
InRange-int_shr false B k (pos n) r = let t = r.high in let d = shr_le n k in record { low = omega (arith, ints); high = omega (arith, ints) }
InRange-int_shr false B k (negsuc n) r = let t = r.low in absurd (omega (arith, ints))
InRange-int_shr true B k (pos n) r = let t = r.high in let d = shr_le n k in record { low = omega (arith, ints); high = omega (arith, ints) }
InRange-int_shr true B k (negsuc n) r =
    let t = r.low in
    let d = shr_le n k in
    let p = pow_pos (B - 1) in
    record { low = omega (arith, ints); high = omega (arith, ints) }

pub val-shr : (s : Bool) (B k : ℕ) (x : ℤ) → 1 ≤ B → k ≤ B → InRange s B x → val s (shr (bits B x) k (fill s (bits B x))) ≡ int_shr x k
val-shr s B k x h g r =
    ap (val s) (sym (bits-int_shr s B k x h g r)) ∙ val-bits s B (int_shr x k) h ∙ wrap-of_in_range s B (int_shr x k) h (InRange-int_shr s B k x r)

-- the truncation to fewer bits, shifted in a wider storage
shr-wide : (s : Bool) (B W k : ℕ) (y z : ℤ) → 1 ≤ B → B ≤ W → k < B → InRange s B y
    → z ≡ val s (shr (bits W y) k (fill s (bits W y))) → z ≡ int_shr y k
shr-wide s B W k y z h g l r f = f ∙ val-shr s W k y (omega arith) (omega arith) (InRange-wider s B W y h g r)

pub shr-narrow_value : (s : Bool) (B W k : ℕ) (x y z : ℤ) → z ≡ val s (shr (bits W y) k (fill s (bits W y)))
    → y ≡ wrap s B x → InRange s B y → 1 ≤ B → B ≤ W → k < B → z ≡ val s (shr (bits B x) k (fill s (bits B x)))
shr-narrow_value s B W k x y z f e r h g l =
    shr-wide s B W k y z h g l r f
    ∙ sym (ap (λ (m : List Bool). val s (shr m k (fill s m))) (sym (ap (bits B) e ∙ bits-wrap s B x)) ∙ val-shr s B k y h (omega arith) r)

pub shr-narrow_range : (s : Bool) (B W k : ℕ) (y z : ℤ) → z ≡ val s (shr (bits W y) k (fill s (bits W y)))
    → InRange s B y → 1 ≤ B → B ≤ W → k < B → InRange s B z
shr-narrow_range s B W k y z f r h g l =
    subst (λ (v : ℤ). InRange s B v) (sym (shr-wide s B W k y z h g l r f)) (InRange-int_shr s B k y r)

-- ---- to the left

pub val-shl : (s : Bool) (B k p : ℕ) (x : ℤ) → 1 ≤ B → k ≤ B → p ≡ residue B x → val s (shl (bits B x) k) ≡ wrap s B (pos (p * 2 ^ k))
val-shl s B k p x h g e =
    let len : k ≤ length (bits B x) = omega (arith, length-bits B x) in
    val-num s B (shl (bits B x) k) (length-shl (bits B x) k len ∙ length-bits B x)
    ∙ ap (λ (n : ℕ). wrap s B (pos n)) (num-shl (bits B x) k len ∙ rw (length-bits B x, num-bits_residue B x, ← e) refl)
    ∙ wrap-same s B _ _ (mod-congruent B (p * 2 ^ k))

-- ---- the primitives

-- m is 2 ^ B, which goals write as one numeral
pub unsigned-shl : (B a n m : ℕ) → m ≡ 2 ^ B → a < m → n < B → pos (a * 2 ^ n % m) ≡ val false (shl (bits B (pos a)) n)
unsigned-shl B a n m e h g =
    ap (λ (i : ℕ). pos (a * 2 ^ n % i)) e
    ∙ sym (val-shl false B n a (pos a) (omega arith) (omega arith) (sym (residue-pos B a (omega arith))) ∙ wrap-pos B (a * 2 ^ n) (omega arith))

pub unsigned-shr : (B a n : ℕ) → a < 2 ^ B → n < B → pos (a / 2 ^ n) ≡ val false (shr (bits B (pos a)) n false)
unsigned-shr B a n h g = sym (val-shr false B n (pos a) (omega arith) (omega arith) (unsigned-in_range B a h))

pub signed-shl : (w : Width) (x : ℤ) (n : ℕ) → FitsSigned w x → n < width_of w → int_shl w x n ≡ val true (shl (bits (width_of w) x) n)
signed-shl w x n f g =
    signed-from_bits w (of_z w x * 2 ^ n)
    ∙ sym (val-shl true (width_of w) n (of_z w x) x (bits_some w) (omega arith) (cast_unsigned-residue w x f))

pub signed-shr : (w : Width) (x : ℤ) (n : ℕ) → FitsSigned w x → n < width_of w
    → to_z w (of_z w (int_shr (to_z w (of_z w x)) n)) ≡ val true (shr (bits (width_of w) x) n (last (bits (width_of w) x)))
signed-shr w x n f g =
    let r = signed-in_range w x f in
    let s = signed-fits w (int_shr x n) (InRange-int_shr true (width_of w) n x r) in
    ap (λ (z : ℤ). to_z w (of_z w (int_shr z n))) (to_z-of_z f) ∙ to_z-of_z s
    ∙ sym (val-shr true (width_of w) n x (bits_some w) (omega arith) r)

pub ruleset unsigned_shifts = (unsigned-shl, unsigned-shr)
