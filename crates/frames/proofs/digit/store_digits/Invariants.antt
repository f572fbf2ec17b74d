-- `store_digits` stores the last digit first: what is left to store, before what is stored, is always the whole.
use mathlib.Core.Path.{◌≡◌}
use mathlib.Core.List.{◌++◌}
use lib.ListN.{length, drop}
use Rattle.frames.specs.Digits.{digits}
use Rattle.frames.proofs.digit.store_digits.Given as goal

abbrev pub invariant-loop-i : goal.invariant-loop-i
invariant-loop-i l = record {
  same_length : length l.places ≡ length l.initial.places;
  whole : digits l.i l.rest ++ drop l.i l.places ≡ digits (length l.initial.places) l.x;
}
