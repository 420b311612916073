-- The types of the registers, and the first line.
use Rattle.std.specs.Prelude.{ℕ, ◌&&◌, Bool, true, false, List, [], ◌∷◌, Option, None, option_map, if◌then◌else◌, codes, bytes_eq}
use Rattle.std.specs.List.{find}
use Rattle.bitrun_text.specs.declared.kind.RegisterType.{RegisterType}
use Rattle.bitrun_text.specs.declared.kind.RegisterType.TheVariants as types
use Rattle.bitrun_text.specs.declared.kind.WidePair.{WidePair}
use Rattle.bitrun_text.specs.declared.kind.WidePair.TheVariants as pairs
use Rattle.bitrun_text.specs.declared.kind.Kind.{Kind}
use Rattle.bitrun_text.specs.declared.kind.Kind.TheVariants as kinds

-- a type's name, whether it has a sign, and its width
abbrev pub type_row : RegisterType → List ℕ × Bool × ℕ
type_row types.U1 = (codes "u1", false, 1)
type_row types.I1 = (codes "i1", true, 1)
type_row types.U7 = (codes "u7", false, 7)
type_row types.I7 = (codes "i7", true, 7)
type_row types.U14 = (codes "u14", false, 14)
type_row types.I14 = (codes "i14", true, 14)
type_row types.U120 = (codes "u120", false, 120)
type_row types.I120 = (codes "i120", true, 120)

-- the wide type of a pair, and the narrow one
abbrev pub types_of : WidePair → RegisterType × RegisterType
types_of pairs.U14U7 = (types.U14, types.U7)
types_of pairs.U14I7 = (types.U14, types.I7)
types_of pairs.I14U7 = (types.I14, types.U7)
types_of pairs.I120U14 = (types.I120, types.U14)

-- the type of the registers that the second line holds
abbrev pub type_of : Kind → RegisterType
type_of (kinds.Run type) = type
type_of (kinds.Wide pair) = (types_of pair).0

-- the type that a word names
unfoldable pub type_named : List ℕ → Option RegisterType
type_named word = find (λ type. bytes_eq word (type_row type).0) (types.U1 ∷ types.I1 ∷ types.U7 ∷ types.I7 ∷ types.U14 ∷ types.I14 ∷ types.U120 ∷ types.I120 ∷ [])

-- the pair that two words name
unfoldable pub pair_named : List ℕ → List ℕ → Option WidePair
pair_named wide narrow = find (λ pair. bytes_eq wide (type_row (types_of pair).0).0 && bytes_eq narrow (type_row (types_of pair).1).0)
    (pairs.U14U7 ∷ pairs.U14I7 ∷ pairs.I14U7 ∷ pairs.I120U14 ∷ [])

-- what the words of the first line name
unfoldable pub kind_named : List (List ℕ) → Option Kind
kind_named (run ∷ name ∷ []) = if bytes_eq run (codes "run") then option_map kinds.Run (type_named name) else None
kind_named (wide ∷ name ∷ narrow ∷ []) = if bytes_eq wide (codes "wide") then option_map kinds.Wide (pair_named name narrow) else None
kind_named words = None
