-- "Each form begins with a 4-byte length of all bytes after it, then one version byte, 1, then two bytes X and Y of the
-- catalogue version. A form fills its slice exactly."
use Rattle.std.specs.Prelude.{ℕ, zero, suc, ◌+◌, Bool, ◌&&◌, List, [], ◌∷◌, ◌++◌, eqb, leb, length, take, drop, get_or}
use Rattle.octets.specs.Octets.{bytes, number}
use Rattle.history.specs.Verdict.{Verdict, done, refusal, ◌unless◌⨾◌}

pub record Form : Type 0 where
  pub version : ℕ
  pub x : ℕ
  pub y : ℕ
  pub contents : List ℕ

unfoldable pub form_bytes : Form → List ℕ
form_bytes f = bytes 4 (3 + length f.contents) ++ (f.version ∷ f.x ∷ f.y ∷ f.contents)

-- 1: "slice under 4 bytes, not 4 + length, or length under the least"
unfoldable pub is_whole : ℕ → List ℕ → Bool
is_whole least b = leb 4 (length b) && (eqb (length b) (4 + number (take 4 b)) && leb least (number (take 4 b)))

-- 1; 2 (version byte)
unfoldable pub read_form : ℕ → (ℕ → Bool) → List ℕ → Verdict Form
read_form least good b =
    refusal 1 unless is_whole least b ⨾
    refusal 2 unless good (get_or b 4 0) ⨾
    done (record { version = get_or b 4 0; x = get_or b 5 0; y = get_or b 6 0; contents = drop 7 b })

-- ---- forms that lie end to end

-- the first, as long as its own first four bytes say, and what follows it. Bytes that hold none in full are all in the
-- first, which is then no whole form
unfoldable pub front_form : List ℕ → List ℕ
front_form b = take (4 + number (take 4 b)) b

unfoldable pub after_front : List ℕ → List ℕ
after_front b = drop (4 + number (take 4 b)) b

-- the first n of them
abbrev pub first_forms : ℕ → List ℕ → List (List ℕ)
first_forms zero b = []
first_forms (suc n) [] = []
first_forms (suc n) (c ∷ b) = front_form (c ∷ b) ∷ first_forms n (after_front (c ∷ b))

-- all: none is empty, so there are at most as many as bytes
unfoldable pub forms_in : List ℕ → List (List ℕ)
forms_in b = first_forms (length b) b
