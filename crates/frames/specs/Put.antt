-- What a writer answers, and what it leaves in the part of a buffer that it is lent.
use Rattle.std.specs.Prelude.{ℕ, ◌+◌, ◌≤◌, ◌≡◌, List, ◌++◌, cond, length, drop, leb}
use Rattle.std.proofs.lemmas.List.Edits.{sets}
use Rattle.std.specs.declared.result.Result.{Result}
use Rattle.std.specs.declared.result.Result.TheVariants.{Ok, Err}
use Rattle.tables.specs.declared.refusal.Refusal.{Refusal}
use Rattle.tables.specs.declared.refusal.Refusal.TheVariants.{Length}

-- where a part has so much room, the bytes over its front; else it stays as it is
unfoldable pub over : ℕ → List ℕ → List ℕ → List ℕ
over room bytes part = cond (leb room (length part)) (bytes ++ drop (length bytes) part) part

-- how many bytes were written, or that the part is too short
unfoldable pub put_of : ℕ → List ℕ → List ℕ → Result ℕ Refusal
put_of room bytes part = cond (leb room (length part)) (Ok (length bytes)) (Err Length)

-- a writer whose bytes show only as they are written asks for the room of the most
pub record WroteInRoom (room : ℕ) (lines part : List ℕ) (r : Result ℕ Refusal) (part' : List ℕ) : Type 0 where
  pub answer : r ≡ put_of room lines part
  pub bytes : part' ≡ over room lines part

-- a writer of a frame asks for the frame's own length
abbrev pub Wrote : List ℕ → List ℕ → Result ℕ Refusal → List ℕ → Type 0
Wrote frame part r part' = WroteInRoom (length frame) frame part r part'

-- at most so many bytes at a place of a buffer: no other byte changes, and the next ones begin where they end
pub record Stored (most : ℕ) (bytes : List ℕ) (at : ℕ) (buffer : List ℕ) (next : ℕ) (buffer' : List ℕ) : Type 0 where
  pub few : length bytes ≤ most
  pub after : next ≡ at + length bytes
  pub stored : buffer' ≡ sets buffer at bytes
