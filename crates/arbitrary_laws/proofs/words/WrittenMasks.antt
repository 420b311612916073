-- A number under a literal mask is the sum of the parts under the mask's runs of ones, each as a quotient and a
-- remainder.
use Rattle.std.specs.Prelude.{◌≡◌, ℕ, zero, suc, ◌+◌, ◌-◌, ◌*◌, ◌/◌, ◌%◌, ◌^◌, ◌<◌, min}
use Rattle.std.specs.Int.Bits.{bit_and, bit_or, bit_xor, or_add_and, xor_add_and}
use Rattle.std.specs.Int.{bit_at}
use lib.Bits.{xor_self}
use Rattle.std.proofs.Common.{refl, sym, ap, ap₂, ◌∙◌, arith, div-add-mod', mod-lt}
use Rattle.std.proofs.Math.Nat.{add-mul, mod-mod}
use Rattle.std.proofs.lemmas.Nat.{and_assoc, and_block, and_comm, and_le_l, and_le_r, and_mask, pow_pos, shl-shr, xor_shr}
use Rattle.std.proofs.lemmas.Nat.Bits.{bit_at_and, bit_at_xor, bit_at-lt, same_from_bits}
use Rattle.arbitrary_laws.proofs.words.LowestOne.{low_bit, low_power, none, power}

-- a mask that is moved up
pub up : (n a k : ℕ) → bit_and n (a * 2 ^ k) ≡ bit_and (n / 2 ^ k) a * 2 ^ k
up n a k =
    let e : n / 2 ^ k * 2 ^ k + n % 2 ^ k ≡ n = div-add-mod' n (2 ^ k) in
    let z : a * 2 ^ k + 0 ≡ a * 2 ^ k = omega arith in
    ap₂ bit_and (sym e) (sym z) ∙ and_block k (n / 2 ^ k) a (n % 2 ^ k) 0 (mod-lt n (pow_pos k)) (pow_pos k)
    ∙ ap (λ (i : ℕ). bit_and (n / 2 ^ k) a * 2 ^ k + i) (none (n % 2 ^ k)) ∙ omega arith

-- a mask with k ones at its low end
low : (n a k : ℕ) → bit_and n (a * 2 ^ k + (2 ^ k - 1)) ≡ bit_and n (a * 2 ^ k) + n % 2 ^ k
low n a k =
    let p = pow_pos k in
    let e : n / 2 ^ k * 2 ^ k + n % 2 ^ k ≡ n = div-add-mod' n (2 ^ k) in
    let s : 2 ^ k - 1 < 2 ^ k = omega arith in
    let m : n % 2 ^ k % 2 ^ k ≡ n % 2 ^ k = mod-mod n (2 ^ k) in
    ap (λ (i : ℕ). bit_and i (a * 2 ^ k + (2 ^ k - 1))) (sym e) ∙ and_block k (n / 2 ^ k) a (n % 2 ^ k) (2 ^ k - 1) (mod-lt n p) s
    ∙ ap₂ (λ (i j : ℕ). i + j) (sym (up n a k)) (and_mask (n % 2 ^ k) k ∙ m)

peeled : (n m k l q r : ℕ) → m ≡ q * 2 ^ k → q + 1 ≡ suc r * 2 ^ l
    → bit_and n m ≡ n / 2 ^ k % 2 ^ l * 2 ^ k + bit_and n (m - (2 ^ l - 1) * 2 ^ k)
peeled n m k l q r e f =
    let p = pow_pos l in
    let s : suc r * 2 ^ l ≡ r * 2 ^ l + 2 ^ l = omega arith in
    let g : q ≡ r * 2 ^ l + (2 ^ l - 1) = omega (arith, f, s, p) in
    let h : m ≡ r * 2 ^ l * 2 ^ k + (2 ^ l - 1) * 2 ^ k = e ∙ ap (λ (i : ℕ). i * 2 ^ k) g ∙ add-mul (r * 2 ^ l) (2 ^ l - 1) (2 ^ k) in
    let rest : m - (2 ^ l - 1) * 2 ^ k ≡ r * 2 ^ l * 2 ^ k = omega (arith, h) in
    ap (bit_and n) (e ∙ ap (λ (i : ℕ). i * 2 ^ k) g) ∙ up n (r * 2 ^ l + (2 ^ l - 1)) k
    ∙ ap (λ (i : ℕ). i * 2 ^ k) (low (n / 2 ^ k) r l) ∙ add-mul (bit_and (n / 2 ^ k) (r * 2 ^ l)) (n / 2 ^ k % 2 ^ l) (2 ^ k)
    ∙ ap (λ (i : ℕ). i + n / 2 ^ k % 2 ^ l * 2 ^ k) (sym (up n (r * 2 ^ l) k)) ∙ omega (arith, ap (bit_and n) rest)

some : (q k r : ℕ) → q + 1 ≡ r * k → (s : ℕ) × (q + 1 ≡ suc s * k)
some q k zero e = absurd (omega arith)
some q k (suc s) e = (s, e)

-- the lowest run of ones is `run_length - 1` times the lowest one
abbrev pub run_length : ℕ → ℕ
run_length m = low_bit (m / low_bit m + 1)

-- `suc m` fits a mask that is written out: its lowest run of ones, and the others
pub and_runs : (n m : ℕ) → bit_and n (suc m)
    ≡ n / low_bit (suc m) % run_length (suc m) * low_bit (suc m) + bit_and n (suc m - (run_length (suc m) - 1) * low_bit (suc m))
and_runs n m =
    let p = low_power (suc m) (omega arith) in
    let k = p.place in
    let c : suc m / low_bit (suc m) ≡ p.times = ap₂ (λ (i j : ℕ). i / j) p.number p.is ∙ shl-shr p.times k in
    let b = low_power (p.times + 1) (omega arith) in
    let l = b.place in
    let e : run_length (suc m) ≡ 2 ^ l = ap (λ (i : ℕ). low_bit (i + 1)) c ∙ b.is in
    let r = some p.times (2 ^ l) b.times b.number in
    peeled n (suc m) k l p.times r.0 p.number r.1
    ∙ sym (ap₂ (λ (i j : ℕ). n / i % j * i + bit_and n (suc m - (j - 1) * i)) p.is e)

pub and_none : (n : ℕ) → bit_and n 0 ≡ 0
and_none n = none n

pub and_of_and : (x m k : ℕ) → bit_and (bit_and x m) (suc k) ≡ bit_and x (bit_and m (suc k))
and_of_and x m k = and_assoc (suc k) x m

-- ---- a written number that is set, and one that is turned over

-- what a mask lets through of a word that is joined to it. It is opened by its runs alone
unfoldable pub through : ℕ → ℕ → ℕ
through n m = bit_and n m

through-is : (n m : ℕ) → through n m ≡ bit_and n m
unfolding through
through-is n m = refl

pub through_runs : (n m : ℕ) → through n (suc m)
    ≡ n / low_bit (suc m) % run_length (suc m) * low_bit (suc m) + through n (suc m - (run_length (suc m) - 1) * low_bit (suc m))
through_runs n m =
    let k = suc m - (run_length (suc m) - 1) * low_bit (suc m) in
    through-is n (suc m) ∙ and_runs n m ∙ ap (λ (i : ℕ). n / low_bit (suc m) % run_length (suc m) * low_bit (suc m) + i) (sym (through-is n k))

pub through_none : (n : ℕ) → through n 0 ≡ 0
through_none n = through-is n 0 ∙ none n

pub or_written : (a m : ℕ) → bit_or a (suc m) ≡ a - through a (suc m) + suc m
or_written a m = omega (arith, or_add_and a (suc m), and_le_l a (suc m), through-is a (suc m))

pub written_or : (a m : ℕ) → bit_or (suc m) a ≡ a - through a (suc m) + suc m
written_or a m = omega (arith, or_add_and (suc m) a, and_comm a (suc m), and_le_l a (suc m), through-is a (suc m))

pub xor_written : (a m : ℕ) → bit_xor a (suc m) ≡ a + suc m - 2 * through a (suc m)
xor_written a m = omega (arith, xor_add_and a (suc m), through-is a (suc m))

-- ---- several bits in which two words differ: a page that is crossed

digits : (x y z : ℕ) → x < 2 → y < 2 → z < 2 → min ((x + y) % 2) z ≡ (min x z + min y z) % 2
digits x y z p q r = omega arith

and_of_xor : (a b m : ℕ) → bit_and (bit_xor a b) (suc m) ≡ bit_xor (bit_and a (suc m)) (bit_and b (suc m))
and_of_xor a b m =
    same_from_bits _ _ (λ i. by-digits a b (suc m) i)
  where
    by-digits : (x y z i : ℕ) → bit_at (bit_and (bit_xor x y) z) i ≡ bit_at (bit_xor (bit_and x z) (bit_and y z)) i
    by-digits x y z i =
        bit_at_and (bit_xor x y) z i ∙ ap (λ (n : ℕ). min n (bit_at z i)) (bit_at_xor x y i)
        ∙ digits (bit_at x i) (bit_at y i) (bit_at z i) (bit_at-lt x i) (bit_at-lt y i) (bit_at-lt z i)
        ∙ sym (bit_at_xor (bit_and x z) (bit_and y z) i ∙ ap₂ (λ (n k : ℕ). (n + k) % 2) (bit_at_and x z i) (bit_at_and y z i))

same_from_xor : (x y : ℕ) → bit_xor x y ≡ 0 → x ≡ y
same_from_xor x y e = omega (arith, e, xor_add_and x y, and_le_l x y, and_le_r x y)

-- the first part of each conclusion shows the search what to match
pub differing : (a b m : ℕ) → (bit_and (bit_xor a b) (suc m) ≡ bit_and (bit_xor a b) (suc m))
    × ((bit_and (bit_xor a b) (suc m) ≡ 0 → bit_and a (suc m) ≡ bit_and b (suc m))
    × (bit_and a (suc m) ≡ bit_and b (suc m) → bit_and (bit_xor a b) (suc m) ≡ 0))
differing a b m =
    let x = bit_and a (suc m) in
    let y = bit_and b (suc m) in
    let e = and_of_xor a b m in
    (refl, (λ f. same_from_xor x y (sym e ∙ f), λ f. e ∙ ap (λ (i : ℕ). bit_xor i y) f ∙ xor_self y))

-- likewise for all bits from a place on
pub differing_above : (a b d : ℕ) → 0 < d → bit_and d (d - 1) ≡ 0 → (bit_xor a b / d ≡ bit_xor a b / d)
    × ((bit_xor a b / d ≡ 0 → a / d ≡ b / d) × (a / d ≡ b / d → bit_xor a b / d ≡ 0))
differing_above a b d c p =
    let h = power d c p in
    let x = a / d in
    let y = b / d in
    let e : bit_xor a b / d ≡ bit_xor x y =
    ap (λ (i : ℕ). bit_xor a b / i) h.1 ∙ xor_shr a b h.0 ∙ sym (ap (λ (i : ℕ). bit_xor (a / i) (b / i)) h.1) in
    (refl, (λ f. same_from_xor x y (sym e ∙ f), λ f. e ∙ ap (λ (i : ℕ). bit_xor i y) f ∙ xor_self y))

-- a word under written masks, written numbers that are set in it or turned over, and words that differ under a mask
pub ruleset written_masks = (and_runs, and_none, and_of_and, through_runs, through_none, or_written, written_or, xor_written, differing, differing_above)
