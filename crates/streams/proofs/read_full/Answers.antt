-- Two reads, one after the other, stand in the buffer one after the other.
use Rattle.std.proofs.Common.{◌≡◌, ℕ, ◌+◌, ◌≤◌, List, ◌++◌, rules, length, take, sym, ap, ◌∙◌, subst, length-take-le}
use Rattle.std.proofs.lemmas.List.{take-append-le}
use Rattle.std.proofs.Math.Seq.{take-append-add}
use Rattle.std.specs.Io.KnownBytes.{Consumes}
use Rattle.std.proofs.KnownBytes.{Consumes-trans}
use borrow.Rule.Slice.PartMut.{put_mid, post_of}
use Rattle.streams.proofs.read_full.Goals as goal

-- n bytes read into the part behind the first `at`, k long
two_reads : (at k n : ℕ) (buf part : List ℕ) → at ≤ length buf → n ≤ length part → take at buf ++ take n part ≡ take (at + n) (put_mid at k buf part)
two_reads at k n buf part within fits =
    ap (λ l. take at buf ++ l) (sym (take-append-le n part (post_of at k buf) fits))
    ∙ sym (take-append-add (take at buf) (part ++ post_of at k buf) n)
    ∙ ap (λ m. take (m + n) (put_mid at k buf part)) (length-take-le at buf within)

pub loop-done-preserved : goal.loop-done-preserved
loop-done-preserved g c =
    let before = c.loop-done.invariant in
    let now = c.in_ok-count.ensures in
    record {
      within = search rules;
      read = subst (Consumes _ _) (two_reads _ _ _ c.loop-done.buf _ before.within now.bound.0) (Consumes-trans _ _ _ _ _ before.read now.bytes.0);
    }
