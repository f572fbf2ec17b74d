-- The numbers that every question meets first.
use Rattle.std.specs.Prelude.{ℕ, Bool, cond, not}
use Rattle.mesh.specs.Limits.{out_of_range}
use Rattle.mesh.specs.Wood.{is_edge}

-- 1, then 2 where the tables do not fit; 0 where they do
abbrev pub sizes_met : ℕ → Bool → ℕ
sizes_met n fits = cond (out_of_range n) 1 (cond (not fits) 2 0)

-- and then 14 where what is asked about is no edge
abbrev pub edge_met : ℕ → Bool → ℕ → ℕ
edge_met n fits j = cond (out_of_range n) 1 (cond (not fits) 2 (cond (not (is_edge n j)) 14 0))
