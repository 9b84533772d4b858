-- Text printed part by part.
use Rattle.std.proofs.Common.{◌≡◌, ℕ, zero, suc, ◌+◌, ◌/◌, ◌%◌, ◌^◌, ◌<◌, ◌≤◌, ◌==◌, List, [], ◌∷◌, ◌++◌, arith}
use Rattle.std.proofs.Common.{false, sym, ap, subst, ◌∙◌, length, take, set, get_or}
use Rattle.std.proofs.Common.{length-append, append_assoc, append-nil}
use Rattle.std.proofs.lemmas.Bool.{ne_eqb}
use Rattle.std.proofs.lemmas.List.{flat_map_more, take_more, take_more_set}
use Rattle.std.proofs.lemmas.Fmt.{decimal_digit, decimal_step}
use Rattle.std.specs.declared.option.Option.{Option}
use Rattle.std.specs.Io.KnownBytes.{Appends}
use Rattle.std.specs.Fmt.{decimal}
use Rattle.std.specs.List.{flat_map}
use Rattle.shell.proofs.Grown.{both}
use Rattle.script.specs.Printed.{hex_byte, item_text, next_text, numbers_text}

-- one more byte in hex
pub more_hex : (a b c : Option (List ℕ)) (bytes : List ℕ) (i : ℕ) → i < length bytes
    → Appends a b (flat_map hex_byte (take i bytes)) → Appends b c (hex_byte (get_or bytes i 0))
    → Appends a c (flat_map hex_byte (take (i + 1) bytes))
more_hex a b c bytes i inside p q =
    let texts =
    flat_map_more hex_byte [] (take i bytes) (get_or bytes i 0)
    ∙ ap (flat_map hex_byte) (sym (take_more bytes i 0 inside)) in
    subst (Appends a c) texts (both a b c _ _ p q)

-- one more number, with a comma before it unless it is the first
next : (n : ℕ) (ns : List ℕ) (i : ℕ) → i < length ns
    → numbers_text (take (suc i) (n ∷ ns)) ++ next_text (get_or ns i 0) ≡ numbers_text (take (suc (i + 1)) (n ∷ ns))
next n ns i inside =
    append_assoc (decimal n) (flat_map next_text (take i ns)) (next_text (get_or ns i 0))
    ∙ ap (λ l. decimal n ++ l)
    (flat_map_more next_text [] (take i ns) (get_or ns i 0)
    ∙ ap (flat_map next_text) (sym (take_more ns i 0 inside)))

item : (values : List ℕ) (k : ℕ) → k < length values
    → numbers_text (take k values) ++ item_text k (get_or values k 0) ≡ numbers_text (take (k + 1) values)
item [] k inside = absurd (omega arith)
item (n ∷ ns) zero inside = sym (append-nil (decimal n))
item (n ∷ ns) (suc i) inside =
    let after : (suc i == 0) ≡ false = ne_eqb (suc i) 0 (omega arith) in
    let size : suc (i + 1) ≡ suc i + 1 = omega arith in
    rw after (next n ns i (omega arith) ∙ ap (λ m. numbers_text (take m (n ∷ ns))) size)

pub more_numbers : (a b c : Option (List ℕ)) (values : List ℕ) (k : ℕ) → k < length values
    → Appends a b (numbers_text (take k values)) → Appends b c (item_text k (get_or values k 0))
    → Appends a c (numbers_text (take (k + 1) values))
more_numbers a b c values k inside p q = subst (Appends a c) (item values k inside) (both a b c _ _ p q)

-- the digits of a number of one digit, in a buffer's front
pub one_digit : (out : List ℕ) (n : ℕ) → n < 10 → 0 < length out → take 1 (set out 0 (48 + n)) ≡ decimal n
one_digit out n few room = take_more_set out 0 (48 + n) room ∙ sym (decimal_digit n few)

-- one more digit behind those of a tenth
pub more_digits : (out : List ℕ) (n k : ℕ) → 10 ≤ n → n < 2 ^ 64 → k < length out → take k out ≡ decimal (n / 10)
    → take (k + 1) (set out k (48 + n % 10)) ≡ decimal n
more_digits out n k many small room front =
    take_more_set out k (48 + n % 10) room
    ∙ ap (λ l. l ++ (48 + n % 10) ∷ []) front
    ∙ sym (decimal_step n many small)

-- it is one longer than a tenth's
pub tenth_length : (n : ℕ) → 10 ≤ n → n < 2 ^ 64 → length (decimal n) ≡ length (decimal (n / 10)) + 1
tenth_length n many small =
    ap length (decimal_step n many small) ∙ length-append (decimal (n / 10)) ((48 + n % 10) ∷ [])
