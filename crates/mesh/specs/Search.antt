-- One search, and what is made of it: "there is", "for each", the lists that a function gives. All of it computes.
use Rattle.std.specs.declared.option.Option.{Option}
use Rattle.std.specs.declared.option.Option.TheVariants.{Some, None}
use Rattle.std.specs.Prelude.{ℕ, zero, suc, ◌+◌, List, [], ◌∷◌, ◌++◌, Bool, cond, not, set, leb, ltb}

-- the lowest number from k on that passes, of the next m; k + m where none of them does
unfoldable pub first_from : (ℕ → Bool) → ℕ → ℕ → ℕ
first_from p k zero = k
first_from p k (suc m) = let later = first_from p (suc k) m in cond (p k) k later

-- the lowest number below m that passes; m where there is none
unfoldable pub first : (ℕ → Bool) → ℕ → ℕ
first p m = first_from p 0 m

-- the same where there is one
unfoldable pub lowest : (ℕ → Bool) → ℕ → Option ℕ
lowest p m = cond (ltb (first p m) m) (Some (first p m)) None

-- some number below m passes
unfoldable pub some : (ℕ → Bool) → ℕ → Bool
some p m = ltb (first p m) m

-- each number below m passes
unfoldable pub every : (ℕ → Bool) → ℕ → Bool
every p m = leb m (first (λ k. not (p k)) m)

-- how many numbers below m pass
unfoldable pub count : (ℕ → Bool) → ℕ → ℕ
count p zero = 0
count p (suc m) = count p m + cond (p m) 1 0

-- f applied k times
unfoldable pub iterate : (ℕ → ℕ) → ℕ → ℕ → ℕ
iterate f zero x = x
iterate f (suc k) x = f (iterate f k x)

unfoldable pub tabulate_from {ℓ} : {A : Type ℓ} → (ℕ → A) → ℕ → ℕ → List A
tabulate_from f k zero = []
tabulate_from f k (suc m) = f k ∷ tabulate_from f (suc k) m

-- f 0, f 1, .., f (m - 1)
unfoldable pub tabulate {ℓ} : {A : Type ℓ} → (ℕ → A) → ℕ → List A
tabulate f m = tabulate_from f 0 m

unfoldable pub gather_from : (ℕ → List ℕ) → ℕ → ℕ → List ℕ
gather_from f k zero = []
gather_from f k (suc m) = f k ++ gather_from f (suc k) m

-- the lists f 0, f 1, .., f (m - 1) one after the other
unfoldable pub gather : (ℕ → List ℕ) → ℕ → List ℕ
gather f m = gather_from f 0 m

-- the buffer d with its first m places set by f
unfoldable pub painted : (ℕ → ℕ) → ℕ → List ℕ → List ℕ
painted f zero d = d
painted f (suc m) d = set (painted f m d) m (f m)
