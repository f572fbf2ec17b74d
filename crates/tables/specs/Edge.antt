-- What the code answers about edges, where there may be none.
use Rattle.std.specs.Prelude.{ℕ, List, eqb}
use Rattle.std.specs.declared.option.Option.{Option}
use Rattle.mesh.specs.Search.{lowest}
use Rattle.mesh.specs.Wood.{target, edge_of}

-- the colour of the edge that leaves a for b
abbrev pub colour_between : List ℕ → ℕ → ℕ → Option ℕ
colour_between ws a b = lowest (λ c. eqb (target ws (edge_of a c)) b) 3
