-- Counting, and the pigeonhole: k different numbers that pass are at most as many as pass; k numbers that hold all that pass are at least as many.
use Prim.Native.Nat.{ℕ, zero, suc, ◌≤◌, ◌<◌}
use mathlib.Core.Path.{◌≡◌, refl, sym, ap, ◌∙◌}
use mathlib.Core.Bool.{Bool, true, false, not, ◌&&◌}
use mathlib.Core.Logic.{◌≢◌}
use native.Mathlib.Omega.{arith}
use lib.Dec.{ltb, eqb}
use borrow.Author.Tests.{ltb-true, ltb-false, eqb-true, eqb-false, eq-eqb, ne_eqb}
use Rattle.mesh.specs.Search.{count, first}
use Rattle.mesh.proofs.Tests.{by_bool, clash}
use Rattle.mesh.proofs.Search.{first_law}

-- p with x left out
abbrev pub without : (ℕ → Bool) → ℕ → ℕ → Bool
without p x k = p k && not (eqb k x)

pub without_other : (p : ℕ → Bool) (x k : ℕ) → k ≢ x → without p x k ≡ p k
without_other p x k n = rw (ne_eqb k x n) (by_bool (p k) (λ t. rw t) (λ t. rw t))

pub without_self : (p : ℕ → Bool) (x : ℕ) → without p x x ≡ false
without_self p x = rw (eq-eqb x x refl) (by_bool (p x) (λ t. rw t) (λ t. rw t))

pub count_cong : (p q : ℕ → Bool) (m : ℕ) → ((k : ℕ) → k < m → p k ≡ q k) → count p m ≡ count q m
unfolding count
count_cong p q zero h = refl
count_cong p q (suc m) h = rw (h m (omega arith), count_cong p q m (λ k l. h k (omega arith)))

pub count_none : (p : ℕ → Bool) (m : ℕ) → ((x : ℕ) → x < m → p x ≡ false) → count p m ≡ 0
unfolding count
count_none p zero h = refl
count_none p (suc m) h = rw (h m (omega arith), count_none p m (λ x l. h x (omega arith)))

pub count_all : (m : ℕ) → count (λ k. true) m ≡ m
unfolding count
count_all zero = refl
count_all (suc m) = rw (count_all m) (omega arith)

-- one that passes, taken out
pub count_without : (p : ℕ → Bool) (m x : ℕ) → x < m → p x ≡ true → count p m ≡ suc (count (without p x) m)
unfolding count
count_without p zero x l t = absurd (omega arith)
count_without p (suc m) x l t =
    by_bool (eqb x m)
    (λ u.
    let e : x ≡ m = eqb-true x m u in
    rw (count_cong (without p x) p m (λ k g. without_other p x k (omega arith)), ← e, without_self p x, t) (omega arith))
    (λ u.
    let n : x ≢ m = eqb-false x m u in
    rw (count_without p m x (omega arith) t, without_other p x m (omega arith)) (omega arith))

pub count_lt : (p : ℕ → Bool) (m k : ℕ) → k < m → p k ≡ true → count p k < count p m
unfolding count
count_lt p zero k l t = absurd (omega arith)
count_lt p (suc m) k l t =
    by_bool (eqb k m) (λ u. let e : k ≡ m = eqb-true k m u in rw (← e, t) (omega arith))
    (λ u. let n : k ≢ m = eqb-false k m u in omega (arith, count_lt p m k (omega arith) t))

-- k different numbers that pass
pub pigeon : (k m : ℕ) (f : ℕ → ℕ) (p : ℕ → Bool)
    → ((i : ℕ) → i < k → f i < m) → ((i : ℕ) → i < k → p (f i) ≡ true)
    → ((i j : ℕ) → i < j → j < k → f i ≢ f j) → k ≤ count p m
pigeon zero m f p a b c = omega arith
pigeon (suc k) m f p a b c =
    rw (count_without p m (f k) (a k (omega arith)) (b k (omega arith)))
    (omega (
      arith,
      pigeon k m f (without p (f k)) (λ i l. a i (omega arith))
          (λ i l. without_other p (f k) (f i) (c i k l (omega arith)) ∙ b i (omega arith))
          (λ i j l g. c i j l (omega arith)),
    ))

-- k numbers, among which is each that passes
pub cover : (k m : ℕ) (f : ℕ → ℕ) (p : ℕ → Bool) → ((x : ℕ) → x < m → p x ≡ true → (i : ℕ) × (i < k) × (f i ≡ x)) → count p m ≤ k
cover zero m f p a =
    rw (count_none p m (λ x l. by_bool (p x) (λ t. absurd (let w = a x l t in let y = w.1 in omega arith)) (λ t. t))) (omega arith)
cover (suc k) m f p a =
    by_bool (ltb (f k) m)
    (λ u. by_bool (p (f k))
    (λ t. rw (count_without p m (f k) (ltb-true (f k) m u) t) (omega (
      arith,
      cover k m f (without p (f k))
          (λ x l g. by_bool (eqb x (f k))
          (λ q. clash (without p (f k) x) g (rw (eqb-true x (f k) q) (without_self p (f k))))
          (λ q. let n : x ≢ f k = eqb-false x (f k) q in keep x n (a x l (sym (without_other p (f k) x n) ∙ g)))),
    )))
    (λ t. omega (arith, cover k m f p (λ x l g. keep x (λ q. clash (p x) g (ap p q ∙ t)) (a x l g)))))
    (λ u.
    let o : m ≤ f k = ltb-false (f k) m u in
    omega (arith, cover k m f p (λ x l g. keep x (λ (q : x ≡ f k). omega arith) (a x l g))))
  where
    keep : (x : ℕ) → x ≢ f k → (i : ℕ) × (i < suc k) × (f i ≡ x) → (i : ℕ) × (i < k) × (f i ≡ x)
    keep x n (i, l, e) = let o : i ≢ k = (λ q. n (sym e ∙ ap f q)) in (i, omega arith, e)

-- an injection of what passes p below m into what passes q below k
pub count_inj : (m k : ℕ) (f : ℕ → ℕ) (p q : ℕ → Bool) → ((x : ℕ) → x < m → p x ≡ true → (f x < k) × (q (f x) ≡ true))
    → ((x y : ℕ) → x < m → y < m → p x ≡ true → p y ≡ true → f x ≡ f y → x ≡ y) → count p m ≤ count q k
unfolding count
count_inj zero k f p q a i = omega arith
count_inj (suc m) k f p q a i =
    by_bool (p m)
    (λ t.
    let h = a m (omega arith) t in
    let r =
    count_inj m k f p (without q (f m))
    (λ x l u.
    let g = a x (omega arith) u in
    (g.0, without_other q (f m) (f x) (λ e. let z = i x m (omega arith) (omega arith) u t e in omega arith) ∙ g.1))
    (λ x y l g. i x y (omega arith) (omega arith)) in
    let c = count_without q k (f m) h.0 h.1 in
    rw t (omega arith))
    (λ t.
    let r = count_inj m k f p q (λ x l. a x (omega arith)) (λ x y l g. i x y (omega arith) (omega arith)) in
    rw t (omega arith))

-- an injective map of the numbers below m meets each of them
pub onto : (m : ℕ) (f : ℕ → ℕ) → ((x : ℕ) → x < m → f x < m) → ((x y : ℕ) → x < m → y < m → f x ≡ f y → x ≡ y)
    → (y : ℕ) → y < m → (x : ℕ) × (x < m) × (f x ≡ y)
onto m f a i y l =
    by_bool (ltb r m)
    (λ u. let h : r < m = ltb-true r m u in (r, h, eqb-true (f r) y ((first_law (λ x. eqb (f x) y) m).hit h)))
    (λ u.
    let h : m ≤ r = ltb-false r m u in
    absurd
    (let c =
    pigeon m m f (without (λ x. true) y) a
    (λ x lx. without_other (λ x. true) y (f x) (eqb-false (f x) y ((first_law (λ x. eqb (f x) y) m).low x (omega arith))))
    (λ x z lt lz e. let q = i x z (omega arith) lz e in omega arith) in
    let d = count_without (λ x. true) m y l refl in
    let e = count_all m in
    omega arith))
  where
    r : ℕ
    r = first (λ x. eqb (f x) y) m
