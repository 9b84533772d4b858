-- Numbers read in decimal, one more digit at a time, and lists of them, one more at a time.
use Rattle.std.proofs.Common.{◌≡◌, ◌≢◌, ℕ, zero, suc, Bool, true, false, ◌==◌, ◌+◌, ◌-◌, ◌*◌, ◌%◌, ◌<◌, ◌≤◌, List, []}
use Rattle.std.proofs.Common.{◌∷◌, arith, refl, sym, ap, ◌∙◌, length, drop, set, get_or, if◌then◌else◌}
use Rattle.std.proofs.lemmas.Bool.{ne_eqb}
use Rattle.std.proofs.lemmas.List.{drop_more, drop_all, length-drop, get_or-drop, get_or-set_same, get_or-set_other}
use borrow.Author.Count.{below_more}
use Rattle.std.specs.Char.{is_ascii_digit}
use Rattle.script.specs.Numbers.{number_after, number_at, behind_comma, behind_commas}
use Rattle.script.specs.Placed.{IsNotIn}

-- numbers that are the same modulo 2^32 are so after the same digits
step : (t : Bool) (a b d : ℕ) (bs : List ℕ) → a % 4294967296 ≡ b % 4294967296
    → ((m n : ℕ) → m % 4294967296 ≡ n % 4294967296
    → number_after m bs % 4294967296 ≡ number_after n bs % 4294967296)
    → (if t then number_after (a * 10 + d) bs else a) % 4294967296
    ≡ (if t then number_after (b * 10 + d) bs else b) % 4294967296
step true a b d bs e more = more (a * 10 + d) (b * 10 + d) (omega arith)
step false a b d bs e more = e

same : (bs : List ℕ) (a b : ℕ) → a % 4294967296 ≡ b % 4294967296
    → number_after a bs % 4294967296 ≡ number_after b bs % 4294967296
same [] a b e = e
same (x ∷ bs) a b e = step (is_ascii_digit x) a b (x - 48) bs e (λ m n. same bs m n)

pub digit_read : (text : List ℕ) (i v w : ℕ) → i < length text → is_ascii_digit (get_or text i 0) ≡ true
    → (v * 10 + (get_or text i 0 - 48)) % 4294967296 ≡ w % 4294967296
    → number_after v (drop i text) % 4294967296 ≡ number_after w (drop (i + 1) text) % 4294967296
digit_read text i v w h digit e =
    let b = get_or text i 0 in
    ap (λ l. number_after v l % 4294967296) (drop_more text i 0 h)
    ∙ ap (λ t. (if t then number_after (v * 10 + (b - 48)) (drop (i + 1) text) else v) % 4294967296) digit
    ∙ same (drop (i + 1) text) (v * 10 + (b - 48)) w e

pub no_digit : (text : List ℕ) (i v : ℕ) → i < length text → is_ascii_digit (get_or text i 0) ≡ false
    → number_after v (drop i text) ≡ v
no_digit text i v h other =
    let b = get_or text i 0 in
    ap (number_after v) (drop_more text i 0 h)
    ∙ ap (λ t. if t then number_after (v * 10 + (b - 48)) (drop (i + 1) text) else v) other

pub text_ends : (text : List ℕ) (i v : ℕ) → length text ≤ i → number_after v (drop i text) ≡ v
text_ends text i v h = ap (number_after v) (drop_all i text h)

-- ---- numbers with commas between

skip : (b : ℕ) (bs : List ℕ) → b ≢ 44 → behind_comma (b ∷ bs) ≡ behind_comma bs
skip b bs other = ap (λ t. if t then bs else behind_comma bs) (ne_eqb b 44 other)

passed : (n : ℕ) (text : List ℕ) (from : ℕ) → from + n ≤ length text → IsNotIn text from (from + n) 44
    → behind_comma (drop from text) ≡ behind_comma (drop (from + n) text)
passed zero text from inside none =
    let here : from ≡ from + 0 = omega arith in
    ap (λ k. behind_comma (drop k text)) here
passed (suc n) text from inside none =
    let place : from + 1 + n ≡ from + suc n = omega arith in
    ap behind_comma (drop_more text from 0 (omega arith))
    ∙ skip (get_or text from 0) (drop (from + 1) text) (none from (omega arith) (omega arith))
    ∙ passed n text (from + 1) (omega arith) (λ k after before. none k (omega arith) (omega arith))
    ∙ ap (λ k. behind_comma (drop k text)) place

pub comma_found : (text : List ℕ) (from i : ℕ) → from ≤ i → i < length text → get_or text i 0 ≡ 44
    → IsNotIn text from i 44 → drop (i + 1) text ≡ behind_comma (drop from text)
comma_found text from i after inside is none =
    let place : from + (i - from) ≡ i = omega arith in
    let rest = drop (i + 1) text in
    sym (
    passed (i - from) text from (omega arith) (λ k start before. none k start (omega arith))
    ∙ ap (λ k. behind_comma (drop k text)) place
    ∙ ap behind_comma (drop_more text i 0 inside)
    ∙ ap (λ b. if b == 44 then rest else behind_comma rest) is
    )

none_in : (bs : List ℕ) → ((k : ℕ) → k < length bs → get_or bs k 0 ≢ 44) → behind_comma bs ≡ []
none_in [] none = refl
none_in (b ∷ bs) none = skip b bs (none 0 (omega arith)) ∙ none_in bs (λ k inside. none (suc k) (omega arith))

pub no_comma : (text : List ℕ) (from : ℕ) → IsNotIn text from (length text) 44
    → drop (length text) text ≡ behind_comma (drop from text)
no_comma text from none =
    drop_all (length text) text (omega arith)
    ∙ sym (none_in (drop from text) (λ k inside is.
    none (from + k) (omega arith) (omega (arith, length-drop from text)) (sym (get_or-drop from text k 0) ∙ is)))

-- the numbers before the n-th are read
abbrev pub AreRead : List ℕ → ℕ → List ℕ → Type 0
AreRead text n values =
    (k : ℕ) → k < n → get_or values k 0 ≡ number_after 0 (behind_commas k text) % 4294967296

pub one_more : (text : List ℕ) (from at n : ℕ) (values : List ℕ) (v : ℕ) → n < length values
    → drop at text ≡ behind_commas n (drop from text) → v ≡ number_at text at % 4294967296
    → AreRead (drop from text) n values → AreRead (drop from text) (n + 1) (set values n v)
one_more text from at n values v inside place v-is before =
    below_more (λ k. get_or (set values n v) k 0 ≡ number_after 0 (behind_commas k (drop from text)) % 4294967296) n
    (λ k h. get_or-set_other values n k v 0 (omega arith) ∙ before k h)
    (get_or-set_same values n v 0 inside ∙ v-is ∙ ap (λ l. number_after 0 l % 4294967296) place)
