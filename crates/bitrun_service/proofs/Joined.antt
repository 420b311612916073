-- Numbers separated by spaces.
use Rattle.std.proofs.Common.{◌≡◌, List, [], ◌∷◌, ◌++◌, map, ℤ, ap, sym, append-nil}
use Rattle.std.specs.List.{join_with_byte, flat_map}
use Rattle.std.specs.Fmt.{signed_decimal}
use Rattle.bitrun_service.specs.Output.{after_space}

pub join-cons : (x : ℤ) (xs : List ℤ) → join_with_byte 32 (map signed_decimal (x ∷ xs)) ≡ signed_decimal x ++ flat_map after_space xs
join-cons x [] = sym (append-nil (signed_decimal x))
join-cons x (y ∷ ys) = ap (λ t. signed_decimal x ++ 32 ∷ t) (join-cons y ys)
