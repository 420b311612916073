-- Values that have the same bytes.
use Rattle.std.specs.Prelude.{◌≡◌, ◌*◌, ◌≤◌, ◌↔◌, ℕ, ℤ, Bool, List, reverse, IsTrue}
use Rattle.std.proofs.Common.{refl, sym, ap, ◌∙◌}
use Rattle.std.proofs.lemmas.List.{reverse-reverse}
use Rattle.arbitrary_base.specs.Range.{InRange}
use Rattle.arbitrary_base.specs.ByteLists.{bytes, BorshBytes}
use Rattle.arbitrary_base.proofs.bytes.NumberOfBytes.{wrap-number_of, Borsh-unique}

-- bytes that are reversed twice
pub reversed_twice : (s : Bool) (B n : ℕ) (x y z : ℤ) → B ≡ 8 * n → 1 ≤ B → InRange s B x → InRange s B z → bytes n y ≡ reverse (bytes n x) → bytes n z ≡ reverse (bytes n y) → z ≡ x
reversed_twice s B n x y z w h f k p q =
    let e : bytes n z ≡ bytes n x = q ∙ ap reverse p ∙ reverse-reverse (bytes n x) in
    sym (wrap-number_of s B n z (bytes n x) w h k e) ∙ wrap-number_of s B n x (bytes n x) w h f refl

-- two lists that are compared, each the bytes of a number
pub shared : (s : Bool) (B : ℕ) (x y : ℤ) (l m : List ℕ) (same : Bool) → 1 ≤ B → InRange s B x → InRange s B y → l ≡ BorshBytes B x → m ≡ BorshBytes B y → (IsTrue same ↔ (l ≡ m)) → IsTrue same ↔ (x ≡ y)
shared s B x y l m same h f g p q e =
    (λ t. Borsh-unique s B x y h f g (sym p ∙ e.0 t ∙ q), λ d. e.1 (p ∙ ap (BorshBytes B) d ∙ sym q))
