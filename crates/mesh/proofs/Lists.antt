-- Lists given by a function: what stands where, and the two ways in which a loop makes one. A filler paints a buffer from the
-- front (`painted`); one that writes some numbers at each turn gathers them.
use Prim.Native.Nat.{ℕ, zero, suc, ◌+◌, ◌≤◌, ◌<◌}
use native.Mathlib.Nat.{add-zero, zero-add, eq-or-lt_of_le, le_of_suc-le-suc}
use native.Mathlib.Numerals.{add-one}
use native.Mathlib.Omega.{arith}
use mathlib.Core.Path.{◌≡◌, refl, sym, ap, ap₂, ◌∙◌}
use mathlib.Core.List.{List, [], ◌∷◌, ◌++◌, append-nil, append_assoc}
use mathlib.Core.Logic.{⊎_elim}
use lib.ListN.{length, get_or, set, length-set, length-append}
use lib.Seq.{ext_get_or, get_or-set_same, get_or-set_other}
use Rattle.mesh.specs.Search.{tabulate, tabulate_from, gather, gather_from, painted}

length_tabulate_from {ℓ} : {A : Type ℓ} (f : ℕ → A) (k m : ℕ) → length (tabulate_from f k m) ≡ m
unfolding tabulate_from
length_tabulate_from f k zero = refl
length_tabulate_from f k (suc m) = ap suc (length_tabulate_from f (suc k) m)

pub length_tabulate {ℓ} : {A : Type ℓ} (f : ℕ → A) (m : ℕ) → length (tabulate f m) ≡ m
unfolding tabulate
length_tabulate f m = length_tabulate_from f 0 m

get_d_tabulate_from {ℓ} : {A : Type ℓ} (f : ℕ → A) (k m i : ℕ) (d : A) → i < m → get_or (tabulate_from f k m) i d ≡ f (k + i)
unfolding tabulate_from
get_d_tabulate_from f k zero i d l = absurd (omega arith)
get_d_tabulate_from f k (suc m) zero d l = rw add-zero
get_d_tabulate_from f k (suc m) (suc i) d l = get_d_tabulate_from f (suc k) m i d (omega arith) ∙ ap f (omega arith)

pub get_d_tabulate {ℓ} : {A : Type ℓ} (f : ℕ → A) (m i : ℕ) (d : A) → i < m → get_or (tabulate f m) i d ≡ f i
unfolding tabulate
get_d_tabulate f m i d l = get_d_tabulate_from f 0 m i d l ∙ ap f (zero-add i)

-- a list is the table of its own places
pub tabulate_is {ℓ} : {A : Type ℓ} (f : ℕ → A) (m : ℕ) (xs : List A) (d : A) → length xs ≡ m → ((i : ℕ) → i < m → get_or xs i d ≡ f i) → xs ≡ tabulate f m
tabulate_is f m xs d e h =
    ext_get_or d xs (tabulate f m) (e ∙ sym (length_tabulate f m))
    (λ i l. let g : i < m = omega arith in h i g ∙ sym (get_d_tabulate f m i d g))

pub tabulate_cong {ℓ} : {A : Type ℓ} (f g : ℕ → A) (m : ℕ) → ((i : ℕ) → i < m → f i ≡ g i) → tabulate f m ≡ tabulate g m
tabulate_cong f g m h =
    ext_get_or (f 0) (tabulate f m) (tabulate g m) (length_tabulate f m ∙ sym (length_tabulate g m))
    (λ i l. let k : i < m = omega (arith, length_tabulate f m) in get_d_tabulate f m i (f 0) k ∙ h i k ∙ sym (get_d_tabulate g m i (f 0) k))

module _ (f : ℕ → ℕ) where
  pub painted_none : (d : List ℕ) → painted f 0 d ≡ d
  unfolding painted
  painted_none d = refl

  pub painted_more : (m : ℕ) (d : List ℕ) → set (painted f m d) m (f m) ≡ painted f (m + 1) d
  unfolding painted
  painted_more m d = rw add-one

  pub length_painted : (m : ℕ) (d : List ℕ) → length (painted f m d) ≡ length d
  unfolding painted
  length_painted zero d = refl
  length_painted (suc m) d = length-set (painted f m d) m (f m) ∙ length_painted m d

  pub painted_below : (m k : ℕ) (d : List ℕ) (x : ℕ) → m ≤ length d → k < m → get_or (painted f m d) k x ≡ f k
  unfolding painted
  painted_below zero k d x l h = absurd (omega arith)
  painted_below (suc m) k d x l h =
      ⊎_elim
      (λ e. ap (λ (j : ℕ). get_or (set (painted f m d) m (f m)) j x) e ∙
      (get_or-set_same (painted f m d) m (f m) x (omega (arith, length_painted m d)) ∙ ap f (sym e)))
      (λ lt. get_or-set_other (painted f m d) m k (f m) x (λ e. omega arith) ∙ painted_below m k d x (omega arith) lt)
      (eq-or-lt_of_le (le_of_suc-le-suc h))

  pub painted_above : (m k : ℕ) (d : List ℕ) (x : ℕ) → m ≤ k → get_or (painted f m d) k x ≡ get_or d k x
  unfolding painted
  painted_above zero k d x h = refl
  painted_above (suc m) k d x h = get_or-set_other (painted f m d) m k (f m) x (λ e. omega arith) ∙ painted_above m k d x (omega arith)

  -- a buffer of just that length holds the list at the end
  pub painted_all : (m : ℕ) (d : List ℕ) → length d ≡ m → painted f m d ≡ tabulate f m
  painted_all m d e =
      tabulate_is f m (painted f m d) 0 (length_painted m d ∙ e) (λ i h. painted_below m i d 0 (omega arith) h)

pub painted_cong : (f g : ℕ → ℕ) (m : ℕ) (d : List ℕ) → ((i : ℕ) → i < m → f i ≡ g i) → painted f m d ≡ painted g m d
unfolding painted
painted_cong f g zero d h = refl
painted_cong f g (suc m) d h = rw (painted_cong f g m d (λ i l. h i (omega arith)), h m (omega arith))

-- what is gathered at the first m turns, one turn more at the end
gather_from_more : (f : ℕ → List ℕ) (k m : ℕ) → gather_from f k (suc m) ≡ gather_from f k m ++ f (k + m)
unfolding gather_from
gather_from_more f k zero = rw (add-zero k) (append-nil (f k))
gather_from_more f k (suc m) =
    ap (λ xs. f k ++ xs) (gather_from_more f (suc k) m) ∙
    (sym (append_assoc (f k) (gather_from f (suc k) m) (f (suc k + m))) ∙
    ap (λ (j : ℕ). (f k ++ gather_from f (suc k) m) ++ f j) (omega arith))

pub gather_none : (f : ℕ → List ℕ) → gather f 0 ≡ []
unfolding gather gather_from
gather_none f = refl

pub gather_more : (f : ℕ → List ℕ) (m : ℕ) → gather f (m + 1) ≡ gather f m ++ f m
unfolding gather
gather_more f m = rw add-one (gather_from_more f 0 m ∙ ap (λ (j : ℕ). gather_from f 0 m ++ f j) (zero-add m))

pub gather_cong : (f g : ℕ → List ℕ) (m : ℕ) → ((i : ℕ) → i < m → f i ≡ g i) → gather f m ≡ gather g m
gather_cong f g zero h = gather_none f ∙ sym (gather_none g)
gather_cong f g (suc m) h =
    ap (gather f) (sym (add-one m)) ∙ gather_more f m ∙
    ap₂ (λ a b. a ++ b) (gather_cong f g m (λ i l. h i (omega arith))) (h m (omega arith)) ∙
    sym (gather_more g m) ∙ ap (gather g) (add-one m)

pub gather_grows : (f : ℕ → List ℕ) (k m : ℕ) → k ≤ m → length (gather f k) ≤ length (gather f m)
gather_grows f k zero h = let e : k ≡ 0 = omega arith in rw e (omega arith)
gather_grows f k (suc m) h =
    ⊎_elim (λ e. rw e (omega arith))
    (λ l.
    let r = gather_grows f k m (le_of_suc-le-suc l) in
    let s : length (gather f (suc m)) ≡ length (gather f m) + length (f m) =
    ap (λ (j : ℕ). length (gather f j)) (sym (add-one m)) ∙ ap length (gather_more f m) ∙ length-append (gather f m) (f m) in
    omega arith)
    (eq-or-lt_of_le h)

-- within a list what is read does not depend on what is read past its end
pub get_d_any {ℓ} : {A : Type ℓ} (l : List A) (i : ℕ) (d e : A) → i < length l → get_or l i d ≡ get_or l i e
get_d_any [] i d e h = absurd (omega arith)
get_d_any (x ∷ xs) zero d e h = refl
get_d_any (x ∷ xs) (suc i) d e h = get_d_any xs i d e (le_of_suc-le-suc h)
