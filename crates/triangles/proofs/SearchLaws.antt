-- Searches over the positions of a table: what the search for a side says, and that it goes on where either end is another one.
use Prim.Native.Nat.{ℕ, zero, suc, ◌+◌, ◌≤◌, ◌<◌}
use mathlib.Core.Path.{◌≡◌, refl, sym, ap, ◌∙◌}
use mathlib.Core.List.{List}
use mathlib.Core.Bool.{Bool, false, ◌||◌}
use mathlib.Core.Logic.{◌≢◌}
use native.Mathlib.Omega.{arith}
use native.Mathlib.Numerals.{add-one}
use lib.ListN.{length, get_or, take}
use lib.Dec.{ltb, eqb}
use borrow.Author.Count.{below_more}
use borrow.Author.Tests.{ne_eqb, le-ltb}
use Rattle.std.specs.List.{list_any}
use Rattle.std.proofs.lemmas.List.Folds.{list_any_more}
use Rattle.std.specs.declared.option.Option.TheVariants.{Some, None}
use Rattle.std.specs.declared.option.Option.{Option}
use Rattle.std.specs.Option.{MatchOption, is_some}
use Rattle.mesh.specs.Search.{lowest, some}
use Rattle.mesh.specs.Sides.{from, to, is_side, side_at}
use Rattle.mesh.proofs.Tests.{by_bool, clash, and_false_left, and_false_right, or_left, or_right, or_none}
use Rattle.mesh.proofs.Search.{first_none, lowest_found, lowest_found_none, lowest_some, some_at, some_of, some_none, none_some}
use Rattle.triangles.specs.Table.{side_found}

-- a side that was found, and one that was not
module _ (ts : List ℕ) (a b : ℕ) where
  pub found_at : (p : ℕ) → Some p ≡ side_found ts a b → (side_at ts a b ≡ p) × (p < length ts)
  unfolding side_at
  found_at p e = let w = lowest_found (is_side ts a b) (length ts) p (sym e) in (sym w.0, w.1)

  pub found_none : None ≡ side_found ts a b → side_at ts a b ≡ length ts
  unfolding side_at
  found_none e = first_none (is_side ts a b) (length ts) (lowest_found_none (is_side ts a b) (length ts) (sym e))

  -- whether it was found before p
  pub found_before : {Q : ℕ → Type 0} (p : ℕ) (r : Bool) (o : Option ℕ) → MatchOption o (r ≡ false) Q → ((x : ℕ) → Q x → r ≡ ltb x p)
      → o ≡ side_found ts a b → p < length ts → r ≡ ltb (side_at ts a b) p
  found_before p r None m k e l = m ∙ sym (le-ltb (side_at ts a b) p (omega (arith, found_none e)))
  found_before p r (Some x) m k e l = k x m ∙ ap (λ y. ltb y p) (sym (found_at x e).0)

-- x is the corner read
module _ (ts : List ℕ) (a b p x : ℕ) where
  pub not_from : x ≡ from ts p → x ≢ a → is_side ts a b p ≡ false
  not_from f d = and_false_left (eqb (from ts p) a) (eqb (to ts p) b) (ne_eqb (from ts p) a (λ g. d (f ∙ g)))

  pub not_to : x ≡ to ts p → x ≢ b → is_side ts a b p ≡ false
  not_to f d = and_false_right (eqb (from ts p) a) (eqb (to ts p) b) (ne_eqb (to ts p) b (λ g. d (f ∙ g)))

-- one number more, and `any` over a list's first elements
some_more : (q : ℕ → Bool) (m : ℕ) → some q (m + 1) ≡ (some q m || q m)
some_more q m =
    by_bool (some q m)
    (λ t. let w = some_at q m t in some_of q (m + 1) w.0 (omega (arith, w.1)) w.2 ∙ sym (or_left (some q m) (q m) t))
    (λ t. by_bool (q m) (λ u. some_of q (m + 1) m (omega arith) u ∙ sym (or_right (some q m) (q m) u))
    (λ u. none_some q (m + 1) (below_more _ m (some_none q m t) u) ∙ sym (or_none (some q m) (q m) t u)))

pub any_some : {X : Type 0} (p : X → Bool) (xs : List X) (d : X) (n : ℕ) → n ≤ length xs → list_any p (take n xs) ≡ some (λ k. p (get_or xs k d)) n
any_some p xs d zero l = sym (none_some (λ k. p (get_or xs k d)) 0 (λ k h. absurd (omega arith)))
any_some p xs d (suc m) l =
    rw (← add-one m)
    (list_any_more p xs m d (omega arith) ∙ ap (λ b. b || p (get_or xs m d)) (any_some p xs d m (omega arith)) ∙ sym (some_more (λ k. p (get_or xs k d)) m))

-- whether a search found one
pub some_found : {b : Bool} (p : ℕ → Bool) (m : ℕ) {o : Option ℕ} → b ≡ is_some o → o ≡ lowest p m → b ≡ some p m
some_found p m t e = t ∙ ap is_some e ∙ lowest_some p m

pub none_found : {b : Bool} {o : Option ℕ} → b ≡ is_some o → b ≡ false → o ≡ None
none_found {o = None} t e = refl
none_found {b = b} {o = Some x} t e = clash b t e
