-- Going on and on: iterates of a map, the least number of steps, and an injective map of finitely many numbers that comes back.
use Prim.Native.Nat.{ℕ, zero, suc, ◌+◌, ◌-◌, ◌≤◌, ◌<◌}
use mathlib.Core.Path.{◌≡◌, refl, sym, ap, ◌∙◌}
use mathlib.Core.Bool.{Bool, true}
use mathlib.Core.Logic.{◌≢◌}
use native.Mathlib.Omega.{arith}
use native.Mathlib.Nat.{add-suc, add-zero, suc-add, zero-add}
use lib.Dec.{ltb, eqb}
use borrow.Author.Tests.{ltb-true, ltb-false, eqb-true, eqb-false, eq-eqb}
use Rattle.mesh.specs.Search.{first, iterate}
use Rattle.mesh.proofs.Tests.{by_bool}
use Rattle.mesh.proofs.Search.{first_law, first_le}
use Rattle.mesh.proofs.Count.{pigeon, count_all}

pub iterate_zero : (f : ℕ → ℕ) (x : ℕ) → iterate f 0 x ≡ x
unfolding iterate
iterate_zero f x = refl

pub iterate_step : (f : ℕ → ℕ) (k x : ℕ) → iterate f (suc k) x ≡ f (iterate f k x)
unfolding iterate
iterate_step f k x = refl

-- the first step taken first
pub iterate_suc : (f : ℕ → ℕ) (k x : ℕ) → iterate f (suc k) x ≡ iterate f k (f x)
unfolding iterate
iterate_suc f zero x = refl
iterate_suc f (suc k) x = ap f (iterate_suc f k x)

pub iterate_add : (f : ℕ → ℕ) (j k x : ℕ) → iterate f (j + k) x ≡ iterate f j (iterate f k x)
unfolding iterate
iterate_add f zero k x = rw zero-add
iterate_add f (suc j) k x = rw suc-add (ap f (iterate_add f j k x))

-- what is kept by each step is kept
pub iterate_keeps : (P : ℕ → Type 0) (f : ℕ → ℕ) → ((x : ℕ) → P x → P (f x)) → (k x : ℕ) → P x → P (iterate f k x)
unfolding iterate
iterate_keeps P f s zero x h = h
iterate_keeps P f s (suc k) x h = s (iterate f k x) (iterate_keeps P f s k x h)

-- a number that stays where it is stays
pub iterate_fixed : (f : ℕ → ℕ) (k x : ℕ) → f x ≡ x → iterate f k x ≡ x
unfolding iterate
iterate_fixed f zero x e = refl
iterate_fixed f (suc k) x e = ap f (iterate_fixed f k x e) ∙ e

-- the least number of steps from x to y, which passes no number twice
pub least : (f : ℕ → ℕ) (x y k : ℕ) → iterate f k x ≡ y
    → (m : ℕ) × (iterate f m x ≡ y) × ((i : ℕ) → i < m → iterate f i x ≢ y) × (m ≤ k)
least f x y k e =
    let t : ℕ → Bool = (λ i. eqb (iterate f i x) y) in
    let r = first_law t (suc k) in
    let b : first t (suc k) ≤ k = first_le t (suc k) k (omega arith) (eq-eqb (iterate f k x) y e) in
    (first t (suc k), eqb-true (iterate f (first t (suc k)) x) y (r.hit (omega arith)), λ i l. eqb-false (iterate f i x) y (r.low i l), b)

pub least_apart : (f : ℕ → ℕ) (x y k : ℕ) → iterate f k x ≡ y → ((i : ℕ) → i < k → iterate f i x ≢ y)
    → (i j : ℕ) → i < j → j < suc k → iterate f i x ≢ iterate f j x
least_apart f x y k e h i j l g c =
    let d : ℕ = k - j in
    let s : d + j ≡ k = omega arith in
    h (d + i) (omega arith) (iterate_add f d i x ∙ ap (iterate f d) c ∙ sym (iterate_add f d j x) ∙ ap (λ z. iterate f z x) s ∙ e)

-- an injective map of the numbers below m comes back, and after at most m steps
pub period : (f : ℕ → ℕ) (m x : ℕ) → x < m → ((y : ℕ) → y < m → f y < m) → ((y z : ℕ) → y < m → z < m → f y ≡ f z → y ≡ z)
    → iterate f (suc (first (λ i. eqb (iterate f (suc i) x) x) m)) x ≡ x
unfolding iterate
period f m x l in-m inj =
    by_bool (ltb r m) (λ u. eqb-true (iterate f (suc r) x) x ((first_law t m).hit (ltb-true r m u)))
    (λ u.
    let o : m ≤ r = ltb-false r m u in
    absurd
    (let z =
    pigeon (suc m) m (λ i. iterate f i x) (λ y. true) (λ i _. stay i) (λ i _. refl)
    (λ i j a b c. eqb-false (iterate f (suc (j - suc i)) x) x ((first_law t m).low (j - suc i) (omega arith)) (cancel i j a c)) in
    let y = count_all m in
    omega arith))
  where
    t : ℕ → Bool
    t i = eqb (iterate f (suc i) x) x

    r : ℕ
    r = first t m

    stay : (i : ℕ) → iterate f i x < m
    stay zero = l
    stay (suc i) = in-m (iterate f i x) (stay i)

    cut : (i d : ℕ) → iterate f i x ≡ iterate f (d + i) x → x ≡ iterate f d x
    cut zero d c = c ∙ ap (λ y. iterate f y x) (add-zero d)
    cut (suc i) d c = cut i d (inj (iterate f i x) (iterate f (d + i) x) (stay i) (stay (d + i)) (c ∙ ap (λ y. iterate f y x) (add-suc d i)))

    cancel : (i j : ℕ) → i < j → iterate f i x ≡ iterate f j x → iterate f (suc (j - suc i)) x ≡ x
    cancel i j a c =
        let s : j ≡ suc (j - suc i) + i = omega arith in
        sym (cut i (suc (j - suc i)) (c ∙ ap (λ y. iterate f y x) s))

-- what goes out comes back
pub come_back : (f : ℕ → ℕ) (m : ℕ) → ((y : ℕ) → y < m → f y < m) → ((y z : ℕ) → y < m → z < m → f y ≡ f z → y ≡ z)
    → (k x : ℕ) → x < m → (j : ℕ) × (iterate f j (iterate f k x) ≡ x)
unfolding iterate
come_back f m i n zero x l = (0, refl)
come_back f m i n (suc k) x l =
    let r : ℕ = first (λ i. eqb (iterate f (suc i) x) x) m in
    let b = come_back f m i n k (f x) (i x l) in (
      r + b.0,
      iterate_add f r b.0 (iterate f (suc k) x) ∙ ap (λ y. iterate f r (iterate f b.0 y)) (iterate_suc f k x) ∙
          ap (iterate f r) b.1 ∙ sym (iterate_suc f r x) ∙ period f m x l i n,
    )

-- steps that stay below n come to a number, if at all, within n of them: the shortest way there passes nothing twice
pub short_of : (f : ℕ → ℕ) (n x y k : ℕ) → ((i : ℕ) → iterate f i x < n) → iterate f k x ≡ y
    → (m : ℕ) × (m < n) × (iterate f m x ≡ y) × ((i : ℕ) → i < m → iterate f i x ≢ y)
short_of f n x y k low e =
    let m = least f x y k e in
    let p =
    pigeon (suc m.0) n (λ i. iterate f i x) (λ z. true) (λ i _. low i) (λ i _. refl) (least_apart f x y m.0 m.1 m.2) in
    let c = count_all n in
    (m.0, omega arith, m.1, m.2)
