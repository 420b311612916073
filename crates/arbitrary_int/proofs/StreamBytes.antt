-- The bytes of a number in a stream: how many there are, and that they determine the number, also if more bytes
-- follow.
use Rattle.std.specs.Prelude.{Bool, List, false, pos, true, ℕ, ℤ, ◌<◌, ◌^◌, ◌≡◌, ◌≤◌}
use Rattle.std.proofs.Common.{ap, subst, sym, ◌∙◌}
use Rattle.arbitrary_base.specs.ByteLists.{bytes_number}
use Rattle.arbitrary_base.specs.Range.{InRange}
use Rattle.arbitrary_base.specs.Residue.{Congruent, wrap}
use Rattle.arbitrary_base.proofs.modular.ExactOrCongruent.{wrapped-congruent}
use Rattle.arbitrary_base.proofs.modular.Residue.{wrap-of_in_range}
use Rattle.arbitrary_base.proofs.storages.Primitive.{unsigned-in_range}

-- the number that is read from canonical bytes: their number, and with a sign one that is congruent to it
pub number-of_pattern : (s : Bool) (B p : ℕ) (l : List ℕ) (x : ℤ) → 1 ≤ B → p ≡ bytes_number l → bytes_number l < 2 ^ B → x ≡ wrap s B (pos p)
    → (s ≡ false → x ≡ pos (bytes_number l)) × (s ≡ true → Congruent B x (pos (bytes_number l)))
number-of_pattern s B p l x w e h f =
    let g : x ≡ wrap s B (pos (bytes_number l)) = f ∙ ap (λ (k : ℕ). wrap s B (pos k)) e in
    ((λ u. g ∙ wrap-of_in_range s B (pos (bytes_number l)) w (subst (λ (t : Bool). InRange t B (pos (bytes_number l))) (sym u) (unsigned-in_range B (bytes_number l) h))), (λ _. wrapped-congruent s B (pos (bytes_number l)) x g))
