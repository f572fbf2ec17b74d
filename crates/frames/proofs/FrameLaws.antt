-- Frames: their lengths, and that the pieces of one, stored one after the other, are the frame.
use Prim.Native.Nat.{ℕ, ◌+◌, ◌*◌}
use native.Mathlib.Omega.{arith}
use mathlib.Core.Path.{◌≡◌, ◌∙◌, ap}
use mathlib.Core.List.{List, ◌++◌, append-nil}
use lib.ListN.{length, length-append}
use lib.Seq.{sets}
use Rattle.frames.specs.Digits.{digits}
use Rattle.frames.specs.Frames.{head_code, edge_code, refusal_code, line, head_frame, refusal_line, numbers_body, numbers_frame, triple_frame, edge_frame}
use Rattle.frames.specs.Put.{Stored}
use Rattle.frames.proofs.DigitLaws.{length_digits}

pub length_line : (code : ℕ) (body : List ℕ) → length (line code body) ≡ 3 + length body
unfolding line
length_line code body = simp length-append (omega arith)

pub length_number : (code k x : ℕ) → length (line code (digits k x)) ≡ 3 + k
length_number code k x = length_line code (digits k x) ∙ ap (λ (k : ℕ). 3 + k) (length_digits k x)

pub length_head : (w n : ℕ) → length (head_frame w n) ≡ 3 + w
unfolding head_frame
length_head w n = length_number head_code w n

pub length_refusal : (k : ℕ) → length (refusal_line k) ≡ 5
unfolding refusal_line
length_refusal k = length_number refusal_code 2 k

pub length_body : (w a b c k x : ℕ) → length (numbers_body w a b c k x) ≡ 3 * w + k
length_body w a b c k x = simp (length-append, length_digits) (omega arith)

pub length_numbers : (w code a b c k x : ℕ) → length (numbers_frame w code a b c k x) ≡ 3 + 3 * w + k
unfolding numbers_frame
length_numbers w code a b c k x = length_line code (numbers_body w a b c k x) ∙ omega (arith, length_body w a b c k x)

pub length_triple : (w code a b c : ℕ) → length (triple_frame w code a b c) ≡ 3 + 3 * w
unfolding triple_frame
length_triple w code a b c = length_numbers w code a b c 0 0 ∙ omega arith

-- without digits behind the third number
pub triple_is : (w code a b c : ℕ) → triple_frame w code a b c ≡ line code (digits w a ++ (digits w b ++ digits w c))
unfolding triple_frame numbers_frame digits
triple_is w code a b c = ap (λ (l : List ℕ). line code (digits w a ++ (digits w b ++ l))) (append-nil (digits w c))

pub length_edge : (w j l r s : ℕ) → length (edge_frame w j l r s) ≡ 4 + 3 * w
unfolding edge_frame
length_edge w j l r s = length_numbers w edge_code j l r 1 s ∙ omega arith

-- digits that were stored
pub stored_digits : (k x at : ℕ) (p q : List ℕ) → q ≡ sets p at (digits k x) → Stored k (digits k x) at p (at + k) q
stored_digits k x at p q e =
    let l = length_digits k x in
    record { few = omega arith; after = omega arith; stored = e }
