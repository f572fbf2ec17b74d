-- Bytes written into the part of a buffer from a place to the end, said of the whole buffer.
use Prim.Native.Nat.{ℕ, ◌+◌, ◌-◌, ◌≤◌}
use native.Mathlib.Omega.{arith}
use mathlib.Core.Path.{◌≡◌, refl, sym, ◌∙◌, ap, ap₂}
use mathlib.Core.List.{List, ◌++◌, append-nil, append_assoc}
use lib.ListN.{length, take, drop, length-drop}
use lib.Seq.{take_all, drop-length, drop-drop, sets, sets-eq, length-sets, length-take-le}
use borrow.Rule.Slice.PartMut.{put_mid, Post-is}
use Rattle.frames.specs.Digits.{digits}
use Rattle.std.specs.declared.result.Result.{Result}
use Rattle.std.specs.declared.result.Result.TheVariants.{Ok, Err}
use Rattle.tables.specs.declared.refusal.Refusal.{Refusal}
use Rattle.frames.specs.Put.{Wrote, Stored}
use Rattle.frames.proofs.DigitLaws.{length_digits}
use Rattle.frames.proofs.PutLaws.{same_count, never_refused, wrote_over, wrote_frame, wrote_stored}

-- a part to the end is the rest
pub rest : (at : ℕ) (l : List ℕ) → take (length l - at) (drop at l) ≡ drop at l
rest at l = take_all (length l - at) (drop at l) (omega (arith, length-drop at l))

pub length_rest : (at : ℕ) (l : List ℕ) → length (take (length l - at) (drop at l)) ≡ length l - at
length_rest at l = ap length (rest at l) ∙ length-drop at l

-- a part to the end, put back
pub put_rest : (at : ℕ) (l ys : List ℕ) → at ≤ length l → put_mid at (length l - at) l ys ≡ take at l ++ ys
put_rest at l ys h =
    ap (λ (t : List ℕ). take at l ++ (ys ++ t)) (Post-is at (length l) l h ∙ drop-length l) ∙
    ap (λ (t : List ℕ). take at l ++ t) (append-nil ys)

-- digits that fill k places
pub filled_digits : (at k m x : ℕ) (l ys : List ℕ) → m ≡ k → at + k ≤ length l → ys ≡ digits (length (take m (drop at l))) x
    → (put_mid at m l ys ≡ sets l at (digits k x)) × (length (put_mid at m l ys) ≡ length l)
filled_digits at k m x l ys s h e =
    let f : ys ≡ digits k x = e ∙ ap (λ (n : ℕ). digits n x) (length-take-le m (drop at l) (omega (arith, length-drop at l)) ∙ s) in
    let g : put_mid at m l ys ≡ sets l at (digits k x) =
    ap₂ (λ (m : ℕ) (ys : List ℕ). put_mid at m l ys) s f ∙
    ap (λ (t : List ℕ). take at l ++ (digits k x ++ t)) (drop-drop k at l ∙ ap (λ (n : ℕ). drop (at + n) l) (sym (length_digits k x))) ∙
    sym (append_assoc (take at l) (digits k x) (drop (at + length (digits k x)) l)) ∙ sym (sets-eq (digits k x) l at (omega (arith, length_digits k x))) in
    (g, ap length g ∙ length-sets l at (digits k x))

-- a frame in a part with room for it
module _ (at : ℕ) (frame l : List ℕ) (r : Result ℕ Refusal) (ys : List ℕ) (room : at + length frame ≤ length l)
    (w : Wrote frame (take (length l - at) (drop at l)) r ys) where
  written : (r ≡ Ok (length frame)) × (ys ≡ frame ++ drop (length frame) (take (length l - at) (drop at l)))
  written =
      wrote_over (length frame) frame (take (length l - at) (drop at l)) r ys w (omega (arith, length_rest at l))

  pub part_stored : (m : ℕ) → length frame ≤ m → Stored m frame at l (at + length frame) (put_mid at (length l - at) l ys)
  part_stored m few = record {
    few = few;
    after = omega arith;
    stored = put_rest at l ys (omega arith) ∙ ap (λ (t : List ℕ). take at l ++ t)
        (written.1 ∙ ap (λ (t : List ℕ). frame ++ drop (length frame) t) (rest at l) ∙ ap (λ (t : List ℕ). frame ++ t) (drop-drop (length frame) at l)) ∙
        sym (append_assoc (take at l) frame (drop (at + length frame) l)) ∙ sym (sets-eq frame l at room);
  }

  -- by the writer's answer
  pub part_done : (m k : ℕ) → length frame ≤ m → r ≡ Ok k → Stored m frame at l (at + k) (put_mid at (length l - at) l ys)
  part_done m k few e = rw (same_count (length frame) k r written.0 e) (part_stored m few)

  pub part_refused : (k : Refusal) → r ≡ Err k → ⊥
  part_refused k e = never_refused (length frame) k r written.0 e

-- digits in a part with room for them
pub part_digits : (at k x : ℕ) (l : List ℕ) (r : Result ℕ Refusal) (ys : List ℕ) → at + k ≤ length l → Wrote (digits k x) (take (length l - at) (drop at l)) r ys
    → Stored k (digits k x) at l (at + k) (put_mid at (length l - at) l ys)
part_digits at k x l r ys room w =
    let e = length_digits k x in
    let s = part_stored at (digits k x) l r ys (omega arith) w k (omega arith) in
    record { few = s.few; after = omega (arith, s.after); stored = s.stored }

-- a run of bytes stored from the front of a part with room for the most of them
pub part_placed : (m at k : ℕ) (bytes l ys : List ℕ) → at + m ≤ length l → Stored m bytes 0 (take (length l - at) (drop at l)) k ys
    → Stored m bytes at l (at + k) (put_mid at (length l - at) l ys)
part_placed m at k bytes l ys room s =
    let e = length_rest at l in
    part_done at bytes l (Ok k) ys (omega (arith, s.few))
    (wrote_frame bytes (take (length l - at) (drop at l)) k ys (omega (arith, s.after)) (omega (arith, s.few, s.after)) s.stored) m k s.few refl

-- digits from the front of a part
pub front_digits : (k x : ℕ) (l : List ℕ) (r : Result ℕ Refusal) (ys : List ℕ) → k ≤ length l → Wrote (digits k x) l r ys → Stored k (digits k x) 0 l k ys
front_digits k x l r ys room w =
    let e = length_digits k x in
    let s = wrote_stored (digits k x) l r ys w (omega arith) in
    record { few = omega arith; after = omega arith; stored = s.stored }
