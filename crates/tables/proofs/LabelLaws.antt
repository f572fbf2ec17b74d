-- A label of the code is fixed by what it means.
use mathlib.Core.Path.{◌≡◌, refl, ap}
use Rattle.tables.specs.declared.edge.Label.{Label}
use Rattle.tables.specs.declared.edge.Label.TheVariants.{Out, Into, Bare}
use Rattle.tables.specs.Label.{label_meant}

pub label_once : (k l : Label) → label_meant k ≡ label_meant l → k ≡ l
label_once (Out c) (Out d) e = let f : c ≡ d = cc in ap Out f
label_once (Out c) (Into d) e = cc
label_once (Out c) Bare e = cc
label_once (Into c) (Out d) e = cc
label_once (Into c) (Into d) e = let f : c ≡ d = cc in ap Into f
label_once (Into c) Bare e = cc
label_once Bare (Out d) e = cc
label_once Bare (Into d) e = cc
label_once Bare Bare e = refl
