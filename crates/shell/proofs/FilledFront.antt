-- What a reader gave, in the front of a buffer.
use Rattle.std.proofs.Common.{◌≡◌, ℕ, ◌+◌, ◌≤◌, List, ◌++◌, None, Some, sym, ap, subst, ◌∙◌, length}
use Rattle.std.proofs.Common.{take, append_assoc, length-take-le}
use Rattle.std.proofs.Math.Seq.{take-append-add}
use Rattle.std.proofs.lemmas.List.{take-append-le}
use borrow.Rule.Slice.PartMut.{put_mid, post_of}
use Rattle.std.specs.declared.option.Option.{Option}
use Rattle.std.specs.Io.KnownBytes.{Consumes}

-- one read and then another
both : (a b c : Option (List ℕ)) (xs ys : List ℕ) → Consumes a b xs → Consumes b c ys → Consumes a c (xs ++ ys)
both None b c xs ys p q = tt
both (Some x) None c xs ys p q = absurd p
both (Some x) (Some y) None xs ys p q = absurd q
both (Some x) (Some y) (Some z) xs ys p q = p ∙ ap (λ l. xs ++ l) q ∙ sym (append_assoc xs ys z)

-- n bytes read into the part after the first k
behind : (k room n : ℕ) (buffer part : List ℕ) → k ≤ length buffer → n ≤ length part
    → take k buffer ++ take n part ≡ take (k + n) (put_mid k room buffer part)
behind k room n buffer part in_buffer in_part =
    let front = take k buffer in
    let rest = part ++ post_of k room buffer in
    let same : length front ≡ k = length-take-le k buffer in_buffer in
    ap (λ l. front ++ l) (sym (take-append-le n part (post_of k room buffer) in_part))
    ∙ sym (take-append-add front rest n)
    ∙ ap (λ m. take (m + n) (front ++ rest)) same

-- the front after one more read
pub more : (a b c : Option (List ℕ)) (k room n : ℕ) (buffer part : List ℕ) → k ≤ length buffer → n ≤ length part
    → Consumes a b (take k buffer) → Consumes b c (take n part)
    → Consumes a c (take (k + n) (put_mid k room buffer part))
more a b c k room n buffer part in_buffer in_part p q =
    subst (Consumes a c) (behind k room n buffer part in_buffer in_part) (both a b c _ _ p q)
