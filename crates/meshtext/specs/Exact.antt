-- What a text is the text of, said without reading it.
use Rattle.std.specs.Prelude.{ℕ, ◌*◌, ◌^◌, ◌<◌, ◌≡◌, List, length}
use Rattle.mesh.specs.Limits.{at}
use Rattle.frames.specs.Frames.{house_text}

-- n, a triangles ts and the targets vs of b inner vertices, all of whose numbers have w digits
pub record Written (w n a b : ℕ) (ts vs : List ℕ) : Type 0 where
  pub triangles : length ts ≡ 3 * a
  pub vertices : length vs ≡ 3 * b
  pub n_small : n < 16 ^ w
  pub corners_small : (j : ℕ) → j < length ts → at ts j < 16 ^ w
  pub targets_small : (j : ℕ) → j < length vs → at vs j < 16 ^ w

-- the text is theirs
pub record IsText (w : ℕ) (text : List ℕ) (n : ℕ) (ts vs : List ℕ) : Type 0 where
  pub a : ℕ
  pub b : ℕ
  pub numbers : Written w n a b ts vs
  pub same : house_text w n ts vs ≡ text
