-- One turn of a walk, by what the code finds at its edge.
use Prim.Native.Nat.{ℕ, zero, suc, ◌+◌, ◌-◌, ◌<◌}
use native.Mathlib.Omega.{arith}
use mathlib.Core.Path.{◌≡◌, refl}
use mathlib.Core.List.{List, [], ◌∷◌}
use mathlib.Core.Bool.{cond}
use Rattle.std.specs.declared.option.Option.{Option}
use Rattle.std.specs.declared.option.Option.TheVariants.{Some, None}
use Rattle.std.specs.declared.result.Result.{Result}
use Rattle.std.specs.declared.result.Result.TheVariants.{Ok, Err}
use Rattle.mesh.specs.Wood.{is_edge}
use Rattle.mesh.specs.Array.{Hand, left}
use Rattle.mesh.specs.Reading.{Stop, at_vertex, go_on, is_torn, torn, after_stop, stop_at, walk}
use Rattle.tables.specs.declared.refusal.Refusal.{Refusal}
use Rattle.tables.specs.Refusal.{number}
use Rattle.questions.specs.Stops.{stop_meant}

-- what is answered at a stop as the code has it
abbrev pub after : Result (Option ℕ) Refusal → ℕ → List ℕ → List ℕ
after (Ok (Some v)) reads rest = 0 ∷ v ∷ reads ∷ []
after (Ok None) reads rest = rest
after (Err r) reads rest = number r ∷ []

after_meant : (s : Stop) (reads : ℕ) (rest : List ℕ) → after_stop s reads rest ≡ after (stop_meant s) reads rest
after_meant (at_vertex v) reads rest = refl
after_meant go_on reads rest = refl
after_meant is_torn reads rest = refl

module _ (n : ℕ) (fronts : Hand → ℕ → ℕ) (c : ℕ) where
  pub walk_turn : (more e reads : ℕ) → 0 < more → walk n fronts c more e reads
      ≡ after (stop_meant (stop_at c e)) reads (cond (is_edge n (fronts left e)) (walk n fronts c (more - 1) (fronts left e) (reads + 1)) torn)
  unfolding walk
  walk_turn zero e reads l = absurd (omega arith)
  walk_turn (suc more) e reads l = let m : suc more - 1 ≡ more = omega arith in rw m (after_meant (stop_at c e) reads _)

  -- the reads are spent
  pub walk_last : (more e reads : ℕ) → more ≡ 0 → walk n fronts c more e reads ≡ after (stop_meant (stop_at c e)) reads torn
  unfolding walk
  walk_last more e reads z = rw z (after_meant (stop_at c e) reads torn)

pub ruleset turns = (walk_turn, walk_last)
