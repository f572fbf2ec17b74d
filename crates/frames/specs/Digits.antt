-- Capital hexadecimal digits, written and read. Everything is over the digit count k.
use Rattle.std.specs.Prelude.{ℕ, zero, suc, ◌+◌, ◌-◌, ◌*◌, ◌/◌, ◌%◌, ◌^◌, List, [], ◌∷◌, ◌++◌, Bool, cond, ◌&&◌, ◌||◌, get_or, leb, ltb}
use Rattle.mesh.specs.Search.{first_from, first, every}

-- the byte of a digit: 48 is '0', 65 is 'A'
abbrev pub digit_of : ℕ → ℕ
digit_of d = cond (ltb d 10) (48 + d) (55 + d)

-- the last k hexadecimal digits of x, the highest first
unfoldable pub digits : ℕ → ℕ → List ℕ
digits zero x = []
digits (suc k) x = digits k (x / 16) ++ digit_of (x % 16) ∷ []

-- the number that k digits F write
abbrev pub highest : ℕ → ℕ
highest k = 16 ^ k - 1

-- what stands at place i of a text; 0, which is no digit and no line feed, past its end
abbrev pub byte_at : List ℕ → ℕ → ℕ
byte_at text i = get_or text i 0

-- '0' to '9', 'A' to 'F'
unfoldable pub is_digit : ℕ → Bool
is_digit b = leb 48 b && ltb b 58 || leb 65 b && ltb b 71

unfoldable pub digit_value : ℕ → ℕ
digit_value b = cond (ltb b 65) (b - 48) (b - 55)

-- k digits stand at place p
unfoldable pub digits_at : ℕ → List ℕ → ℕ → Bool
unfolding is_digit first_from first every
digits_at k text p = every (λ i. is_digit (byte_at text (p + i))) k

-- the number that the k bytes at place p write, taken as digits
unfoldable pub number_at : ℕ → List ℕ → ℕ → ℕ
unfolding digit_value
number_at zero text p = 0
number_at (suc k) text p = 16 * number_at k text p + digit_value (byte_at text (p + k))
