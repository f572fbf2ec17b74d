-- What a writer answers and leaves: with room its bytes over the front of its part, without room a refusal and nothing. Its record allows one
-- end alone, and what it answers lies within its part.
use Prim.Native.Nat.{ℕ, ◌≤◌, ◌<◌}
use native.Mathlib.Nat.{zero-add}
use native.Mathlib.Omega.{arith}
use mathlib.Core.Path.{◌≡◌, sym, ◌∙◌, ap}
use mathlib.Core.List.{List, ◌++◌}
use lib.ListN.{length, take, drop, length-append}
use lib.Seq.{sets, sets-eq, length-take-le}
use lib.Dec.{leb}
use borrow.Author.Tests.{lt-leb, le-leb, leb-true}
use Rattle.mesh.proofs.Tests.{by_bool}
use Rattle.std.specs.declared.result.Result.{Result}
use Rattle.std.specs.declared.result.Result.TheVariants.{Ok, Err}
use Rattle.tables.specs.declared.refusal.Refusal.{Refusal}
use Rattle.tables.specs.declared.refusal.Refusal.TheVariants.{Length}
use Rattle.frames.specs.Put.{over, put_of, Wrote, WroteInRoom, Stored}

pub same_count : (m k : ℕ) (r : Result ℕ Refusal) → r ≡ Ok m → r ≡ Ok k → k ≡ m
same_count m k r e f = cc

pub never_refused : (m : ℕ) (k : Refusal) (r : Result ℕ Refusal) → r ≡ Ok m → r ≡ Err k → ⊥
never_refused m k r e f = let z : ◌≡◌ {A = ℕ} 0 1 = cc in omega arith

module _ (room : ℕ) (lines part : List ℕ) where
  pub no_room : length part < room → WroteInRoom room lines part (Err Length) part
  unfolding over put_of
  no_room l = let e = lt-leb room (length part) l in record { answer = rw e; bytes = rw e }

  -- stored from the front of a part with room
  pub wrote_lines : (m : ℕ) (part' : List ℕ) → m ≡ length lines → length lines ≤ room → room ≤ length part → part' ≡ sets part 0 lines
      → WroteInRoom room lines part (Ok m) part'
  unfolding over put_of
  wrote_lines m part' e l g s =
      let t = le-leb room (length part) g in
      record {
        answer = rw t (ap Ok e);
        bytes = rw t (s ∙ sets-eq lines part 0 (omega arith) ∙ ap (λ (k : ℕ). lines ++ drop k part) (zero-add (length lines)));
      }

  pub stored_front : (next : ℕ) (part' : List ℕ) → room ≤ length part → Stored room lines 0 part next part' → WroteInRoom room lines part (Ok next) part'
  stored_front next part' l s = wrote_lines next part' (s.after ∙ zero-add (length lines)) s.few l s.stored

  module _ (r : Result ℕ Refusal) (part' : List ℕ) (w : WroteInRoom room lines part r part') where
    -- with room
    pub wrote_over : room ≤ length part → (r ≡ Ok (length lines)) × (part' ≡ lines ++ drop (length lines) part)
    unfolding over put_of
    wrote_over l = let e = le-leb room (length part) l in (rw e at w.answer, rw e at w.bytes)

    -- without
    pub wrote_none : length part < room → (r ≡ Err Length) × (part' ≡ part)
    unfolding over put_of
    wrote_none l = let e = lt-leb room (length part) l in (rw e at w.answer, rw e at w.bytes)

    -- the count that was answered lies within the part as it was left, and its front has so many bytes
    module _ (k : ℕ) (done : r ≡ Ok k) where
      pub done_within : k ≤ length part'
      unfolding put_of
      done_within =
          by_bool (leb room (length part))
          (λ t.
          let v = wrote_over (leb-true room (length part) t) in
          omega (arith, same_count (length lines) k r v.0 done, ap length v.1, length-append lines (drop (length lines) part)))
          (λ t. absurd (never_refused k Length r done (rw t at w.answer)))

      pub done_front : k ≡ length (take k part')
      done_front = sym (length-take-le k part' done_within)

    -- two ends are one
    pub wrote_in_room_once : (s : Result ℕ Refusal) (part'' : List ℕ) → WroteInRoom room lines part s part'' → (r ≡ s) × (part' ≡ part'')
    wrote_in_room_once s part'' v = (w.answer ∙ sym v.answer, w.bytes ∙ sym v.bytes)

module _ (frame part : List ℕ) where
  pub wrote_frame : (m : ℕ) (part' : List ℕ) → m ≡ length frame → m ≤ length part → part' ≡ sets part 0 frame → Wrote frame part (Ok m) part'
  wrote_frame m part' e l s = wrote_lines (length frame) frame part m part' e (omega arith) (omega arith) s

  module _ (r : Result ℕ Refusal) (part' : List ℕ) (w : Wrote frame part r part') where
    pub wrote_once : (s : Result ℕ Refusal) (part'' : List ℕ) → Wrote frame part s part'' → (r ≡ s) × (part' ≡ part'')
    wrote_once s part'' v = wrote_in_room_once (length frame) frame part r part' w s part'' v

    -- a frame in a part with room for more
    pub frame_front : (room : ℕ) → length frame ≤ room → room ≤ length part → WroteInRoom room frame part r part'
    unfolding over put_of
    frame_front room l g =
        let v = wrote_over (length frame) frame part r part' w (omega arith) in
        let e = le-leb room (length part) g in
        record { answer = rw e v.0; bytes = rw e v.1 }

    -- and as what it stores from the part's front
    pub wrote_stored : length frame ≤ length part → Stored (length frame) frame 0 part (length frame) part'
    wrote_stored l = record {
      few = omega arith;
      after = sym (zero-add (length frame));
      stored = (wrote_over (length frame) frame part r part' w l).1 ∙ ap (λ (k : ℕ). frame ++ drop k part) (sym (zero-add (length frame))) ∙ sym (sets-eq frame part 0 (omega arith));
    }
