-- The digits of fields, each a count and a number, one field after the other.
use Rattle.std.specs.Prelude.{ℕ, List, [], ◌∷◌, ◌++◌}
use Rattle.frames.specs.Digits.{digits}

unfoldable pub spelled : List (ℕ × ℕ) → List ℕ
unfolding digits
spelled [] = []
spelled (f ∷ fs) = digits f.0 f.1 ++ spelled fs
