-- What writes, one after another, leave in a writer.
use Rattle.std.proofs.Common.{◌≡◌, ℕ, ◌+◌, ◌-◌, List, ◌++◌, None, Some, arith, sym, ap, subst, ◌∙◌, length}
use Rattle.std.proofs.Common.{take, take_all, drop, append_assoc, take-add, Result, Ok, Err, OnErr}
use Rattle.std.proofs.lemmas.List.{length-drop}
use Rattle.std.specs.declared.option.Option.{Option}
use Rattle.std.specs.Io.KnownBytes.{Appends, Keeps}
use Rattle.shell.specs.Partly.{Extends}

-- one text and then another
pub both : (a b c : Option (List ℕ)) (xs ys : List ℕ) → Appends a b xs → Appends b c ys → Appends a c (xs ++ ys)
both None b c xs ys p q = tt
both (Some x) None c xs ys p q = absurd p
both (Some x) (Some y) None xs ys p q = absurd q
both (Some x) (Some y) (Some z) xs ys p q = q ∙ ap (λ l. l ++ ys) p ∙ append_assoc x xs ys

-- a text and then nothing
pub still : (a b c : Option (List ℕ)) (xs : List ℕ) → Appends a b xs → Keeps b c → Appends a c xs
still None b c xs p q = tt
still (Some x) None c xs p q = absurd p
still (Some x) (Some y) None xs p q = absurd q
still (Some x) (Some y) (Some z) xs p q = q ∙ p

-- a text and then maybe more
pub longer : (a b c : Option (List ℕ)) (xs : List ℕ) → Appends a b xs → Extends b c → Extends a c
longer a b c xs p (ys, q) = (xs ++ ys, both a b c xs ys p q)

-- the first k bytes and then n of the rest
pub onward : (a b c : Option (List ℕ)) (bytes : List ℕ) (k n : ℕ) → Appends a b (take k bytes)
    → Appends b c (take n (take (length bytes - k) (drop k bytes))) → Appends a c (take (k + n) bytes)
onward a b c bytes k n p q =
    let rest : take (length bytes - k) (drop k bytes) ≡ drop k bytes =
    take_all (length bytes - k) (drop k bytes) (omega (arith, length-drop k bytes)) in
    subst (Appends a c) (ap (λ l. take k bytes ++ take n l) rest ∙ sym (take-add k n bytes)) (both a b c _ _ p q)

-- a text, and then a call that maybe failed
pub then_err : {E : Type 0} (r : Result (Unit {0}) E) (a b c : Option (List ℕ)) (xs : List ℕ) → Appends a b xs
    → OnErr r (Extends b c) → OnErr r (Extends a c)
then_err (Ok x) a b c xs p q = tt
then_err (Err e) a b c xs p q = longer a b c xs p q

-- a text, and then a call that failed
pub then_failed : {E : Type 0} (r : Result (Unit {0}) E) (a b c : Option (List ℕ)) (xs : List ℕ) → Appends a b xs
    → Extends b c → OnErr r (Extends a c)
then_failed (Ok x) a b c xs p q = tt
then_failed (Err e) a b c xs p q = longer a b c xs p q
