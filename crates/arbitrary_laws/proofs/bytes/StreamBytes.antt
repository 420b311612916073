-- The bytes of a number in a stream: they determine the number, also if more bytes follow, and they compare as
-- the numbers do.
use Rattle.std.specs.Int.{div_ceil}
use Rattle.std.specs.Prelude.{Bool, List, false, length, pos, reverse, take, true, ℕ, ℤ, ◌*◌, ◌++◌, ◌<◌, ◌^◌, ◌≡◌, ◌≤◌}
use lib.Dec.{eqb}
use lib.Pointwise.{bytes_decides, pointwise}
use Rattle.std.proofs.Common.{ap, arith, refl, sym, ◌∙◌}
use Rattle.std.proofs.Math.Seq.{take-append_seam}
use Rattle.std.proofs.lemmas.List.{reverse-reverse, take_all}
use Rattle.arbitrary_base.specs.ByteLists.{BorshBytes, bytes, bytes_number}
use Rattle.arbitrary_base.specs.Range.{InRange}
use Rattle.arbitrary_base.specs.Residue.{wrap}
use Rattle.arbitrary_base.proofs.bytes.NumberOfBytes.{Borsh-canonical, bytes-wrap, length-Borsh, wrap-Borsh, wrap-bytes_number}

pub Borsh-size : (B : ℕ) (x : ℤ) → (BorshBytes B x ≡ BorshBytes B x) × (length (BorshBytes B x) ≡ div_ceil B 8) × (bytes_number (BorshBytes B x) < 2 ^ B)
Borsh-size B x = (refl, length-Borsh B x, (Borsh-canonical B x).below)

-- the number of the first bytes of a list
unfoldable pub decoded : Bool → ℕ → List ℕ → ℤ
decoded s B l = wrap s B (pos (bytes_number (take (div_ceil B 8) l)))

module _ (s : Bool) (B : ℕ) (x : ℤ) (h : 1 ≤ B) (f : InRange s B x) where
  decoded-alone : decoded s B (BorshBytes B x) ≡ x
  unfolding decoded
  decoded-alone = ap (λ (l : List ℕ). wrap s B (pos (bytes_number l))) (take_all (div_ceil B 8) (BorshBytes B x) (omega (arith, length-Borsh B x))) ∙ wrap-Borsh s B x h f

  decoded-first : (more : List ℕ) → decoded s B (BorshBytes B x ++ more) ≡ x
  unfolding decoded
  decoded-first more = ap (λ (l : List ℕ). wrap s B (pos (bytes_number l))) (ap (λ (n : ℕ). take n (BorshBytes B x ++ more)) (sym (length-Borsh B x)) ∙ take-append_seam (BorshBytes B x) more) ∙ wrap-Borsh s B x h f

pub number-of_Borsh : (B : ℕ) (x : ℤ) → 1 ≤ B → InRange false B x → (BorshBytes B x ≡ BorshBytes B x) × (decoded false B (BorshBytes B x) ≡ x)
number-of_Borsh B x h f = (refl, decoded-alone false B x h f)

pub number-of_Borsh_signed : (B : ℕ) (x : ℤ) → 1 ≤ B → InRange true B x → (BorshBytes B x ≡ BorshBytes B x) × (decoded true B (BorshBytes B x) ≡ x)
number-of_Borsh_signed B x h f = (refl, decoded-alone true B x h f)

pub first-of_Borsh : (B : ℕ) (x : ℤ) (more : List ℕ) → 1 ≤ B → InRange false B x → (BorshBytes B x ++ more ≡ BorshBytes B x ++ more) × (decoded false B (BorshBytes B x ++ more) ≡ x)
first-of_Borsh B x more h f = (refl, decoded-first false B x h f more)

pub first-of_Borsh_signed : (B : ℕ) (x : ℤ) (more : List ℕ) → 1 ≤ B → InRange true B x → (BorshBytes B x ++ more ≡ BorshBytes B x ++ more) × (decoded true B (BorshBytes B x ++ more) ≡ x)
first-of_Borsh_signed B x more h f = (refl, decoded-first true B x h f more)

-- a test of two arrays of bytes
pub bytes-compared : (l m : List ℕ) → (pointwise eqb l m ≡ pointwise eqb l m) × (l ≡ m → pointwise eqb l m ≡ true) × (pointwise eqb l m ≡ true → l ≡ m)
bytes-compared l m = let d = bytes_decides l m in (refl, d.1, d.0)

-- the bytes of a number that is converted to the other sign
pub bytes-converted : (s : Bool) (B n : ℕ) (x : ℤ) → B ≡ 8 * n → bytes n (wrap s B x) ≡ bytes n x
bytes-converted s B n x e = bytes-wrap s B n x (wrap s B x) e refl

-- a number by its bytes, and bytes by those in the other order
abbrev pub spelled : Bool → ℕ → List ℕ → ℤ
spelled s n l = wrap s (8 * n) (pos (bytes_number l))

pub bytes-spell : (n : ℕ) (x : ℤ) → 1 ≤ n → InRange false (8 * n) x → (bytes n x ≡ bytes n x) × (spelled false n (bytes n x) ≡ x)
bytes-spell n x h f = (refl, wrap-bytes_number false n x h f)

pub bytes-spell_signed : (n : ℕ) (x : ℤ) → 1 ≤ n → InRange true (8 * n) x → (bytes n x ≡ bytes n x) × (spelled true n (bytes n x) ≡ x)
bytes-spell_signed n x h f = (refl, wrap-bytes_number true n x h f)

pub reverse-back : (l : List ℕ) → (reverse l ≡ reverse l) × (reverse (reverse l) ≡ l)
reverse-back l = (refl, reverse-reverse l)
