-- What is written for a text: nothing into a buffer without room, else by what the reader finds.
use Prim.Native.Nat.{ℕ, ◌≤◌}
use native.Mathlib.Omega.{arith}
use mathlib.Core.Path.{◌≡◌, sym}
use mathlib.Core.List.{List}
use mathlib.Core.Bool.{cond}
use lib.ListN.{length}
use lib.Dec.{ltb}
use borrow.Author.Tests.{ltb-true, ltb-false, ne_eqb}
use Rattle.std.specs.Result.{IsErrAnd}
use Rattle.std.specs.declared.result.Result.{Result}
use Rattle.std.proofs.lemmas.Result.{err_from_is_err_and}
use Rattle.mesh.proofs.Tests.{by_bool}
use Rattle.tables.specs.declared.refusal.Refusal.{Refusal}
use Rattle.tables.specs.declared.refusal.Refusal.TheVariants.{Length}
use Rattle.tables.specs.Refusal.{number}
use Rattle.tables.proofs.RefusalLaws.{number_above, number_once}
use Rattle.frames.specs.Frames.{refusal_line}
use Rattle.frames.specs.Put.{Wrote, WroteInRoom}
use Rattle.frames.proofs.PutLaws.{no_room, frame_front}
use Rattle.frames.proofs.FrameLaws.{length_refusal}
use Rattle.arraytext.specs.ArrayText.{vertices_in, text_refusal, references_in, services_in, lines_for}

-- what the test of the room says where it passes, and where it does not
pub room_found : (most : ℕ) (out : List ℕ) → ◌≡◌ {A = ℕ} 0 (cond (ltb (length out) most) 2 0) → most ≤ length out
room_found most out e =
    by_bool (ltb (length out) most) (λ t. absurd (let z = rw t at e in omega arith)) (λ t. ltb-false (length out) most t)

pub room_missed : (most : ℕ) (lines out : List ℕ) (r : Result ℕ Refusal) (e : Refusal) → number e ≡ cond (ltb (length out) most) 2 0
    → IsErrAnd r (λ x. x ≡ e) → WroteInRoom most lines out r out
room_missed most lines out r e n h =
    let p = err_from_is_err_and r h in
    by_bool (ltb (length out) most)
    (λ t.
    let k : e ≡ Length = number_once e Length (rw t at n) in
    rw (p.1, p.2, k) (no_room most lines out (ltb-true (length out) most t)))
    (λ t. absurd (omega (arith, number_above e, rw t at n)))

module _ (f : ℕ → List ℕ → List ℕ → List ℕ) (text : List ℕ) (most : ℕ) (out : List ℕ) (r : Result ℕ Refusal) (out' : List ℕ) where
  pub lines_refused : (e : Refusal) → number e ≡ text_refusal text → 5 ≤ most → most ≤ length out → Wrote (refusal_line (number e)) out r out'
      → WroteInRoom most (lines_for f text) out r out'
  unfolding lines_for
  lines_refused e n l g w =
      rw (sym n, ne_eqb (number e) 0 (λ z. let a = number_above e in omega arith))
      (frame_front (refusal_line (number e)) out r out' w most (omega (arith, length_refusal (number e))) g)

  pub lines_written : (n : ℕ) (told : List ℕ) → ◌≡◌ {A = ℕ} 0 (text_refusal text) → told ≡ text → n ≡ vertices_in text
      → WroteInRoom most (f n (references_in n told) (services_in n told)) out r out' → WroteInRoom most (lines_for f text) out r out'
  unfolding lines_for
  lines_written n told z t e w = rw (sym z, sym e, sym t) w
