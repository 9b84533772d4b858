-- Demand 3 over what the calls give, as the user words it: calls that refuse do not meet it. T, A, B, .. are any bytes.
-- Assumes nothing.
use Prim.Native.Nat.{ℕ, ◌+◌, ◌*◌, ◌≤◌}
use mathlib.Core.Path.{◌≡◌, refl, sym, ap, ◌∙◌}
use mathlib.Core.List.{List}
use lib.ListN.{length, take}
use native.Mathlib.Omega.{arith}
use Rattle.octets.specs.Octets.{Bytes}
use Rattle.history.specs.declared.Answer.{Answer}
use Rattle.history.specs.Verdict.{Verdict, done, settled}
use Rattle.history.specs.Image.{Image}
use Rattle.history.specs.Calls.{image_call, difference_call, apply_call, join_call, turn_call}
use Rattle.history.proofs.OutputLaws.{Ran, Success, succeeds}
use Rattle.history.proofs.CodeLaws.{delivered, apply_call_coded, join_call_coded}
use Rattle.history.proofs.SizeLaws.{OneJoin}
use Rattle.history.proofs.Demands.{has_difference, apply_of_difference, only_list, join_of_differences}
use Rattle.history.proofs.Demands.{turned_difference, three_lists, difference_not_longer, join_not_longer}

-- n bytes have room for b, and into any output with room for it the call writes b:
-- 0, 65535, 255 and b's length, b at the front, the rest as it was
abbrev pub Gives : Verdict (List ℕ) → ℕ → List ℕ → Type 0
Gives v n b = (length b ≤ n) × ((out : List ℕ) → length b ≤ length out → Success b out (settled v out))

gives : {v : Verdict (List ℕ)} {n : ℕ} {b : List ℕ} → v ≡ done b → length b ≤ n → Gives v n b
gives e h = (h, λ out room. succeeds out e room)

-- "Under one accepted table": every call succeeds, and no list takes more room than four images
pub record Demand3 (T A B C : List ℕ) : Type 0 where
  pub AB : List ℕ
  pub BC : List ℕ
  pub Ac : List ℕ
  pub BA : List ℕ
  pub a_to_b : Gives (difference_call T A B) (4 * length A) AB
  pub b_to_c : Gives (difference_call T B C) (4 * length B) BC
  pub a_to_c : Gives (difference_call T A C) (4 * length A) Ac
  pub b_to_a : Gives (difference_call T B A) (4 * length B) BA
  -- "the list from A to B turns A into B"
  pub turns : Gives (apply_call T A AB) (length B) B
  -- "and is the only accepted list that does"
  pub only : (L out : List ℕ) → Bytes L → Success B out (settled (apply_call T A L) out) → L ≡ AB
  -- "A-to-B joined with B-to-C is A-to-C"
  pub joined : Gives (join_call T AB BC) (4 * length A) Ac
  -- "A-to-B turned back is B-to-A"
  pub back : Gives (turn_call T AB) (4 * length B) BA

-- an application that succeeds with B gives B
apply_gave : (T A L : List ℕ) {B out : List ℕ} → Success B out (settled (apply_call T A L) out)
    → apply_call T A L ≡ done B
apply_gave T A L {B} {out} s =
    let o : Ran (apply_call T A L) out (settled (apply_call T A L) out).answer (settled (apply_call T A L) out).output =
    record { leaves = (refl, refl) } in
    let d = delivered (apply_call_coded T A L) o (ap (λ (r : Answer). r.code) s.answer) in
    d.bytes ∙ ap done
    (ap (λ (r : Answer). take r.length (settled (apply_call T A L) out).output) s.answer ∙ s.front)

-- for any A, B and C accepted under T
pub demand_3 : (T A B C : List ℕ) {a b c : Image} → Bytes A → Bytes B → Bytes C → image_call T A ≡ done a
    → image_call T B ≡ done b → image_call T C ≡ done c → Demand3 T A B C
demand_3 T A B C ha hb hc ea eb ec =
    let l = has_difference T A B ha hb ea eb in
    let m = has_difference T B C hb hc eb ec in
    let k = has_difference T A C ha hc ea ec in
    let n = has_difference T B A hb ha eb ea in
    let k-short = difference_not_longer T A C ha hc k.1 in
    let n-short = difference_not_longer T B A hb ha n.1 in
    record {
      AB = l.0;
      BC = m.0;
      Ac = k.0;
      BA = n.0;
      a_to_b = gives l.1 (difference_not_longer T A B ha hb l.1);
      b_to_c = gives m.1 (difference_not_longer T B C hb hc m.1);
      a_to_c = gives k.1 k-short;
      b_to_a = gives n.1 n-short;
      turns = gives (apply_of_difference T A B ha hb l.1) (omega arith);
      only = λ L out hl s. let e : done L ≡ done l.0 = sym (only_list T A L ha hl (apply_gave T A L s)) ∙ l.1 in cc;
      joined = gives (join_of_differences T A B C ha hb hc l.1 m.1 ∙ k.1) k-short;
      back = gives (turned_difference T A B ha hb l.1 ∙ n.1) n-short;
    }

-- "three lists that some image takes in turn join to the same bytes, whichever pair is joined first";
-- no join takes more room than the lists joined
pub record ThreeLists (T L M N : List ℕ) : Type 0 where
  pub LM : List ℕ
  pub MN : List ℕ
  pub LMN : List ℕ
  pub first_two : Gives (join_call T L M) (length L + length M) LM
  pub then_third : Gives (join_call T LM N) (length L + (length M + length N)) LMN
  pub last_two : Gives (join_call T M N) (length M + length N) MN
  pub then_first : Gives (join_call T L MN) (length L + (length M + length N)) LMN

pub three_in_turn : (T A L M N : List ℕ) {B C D : List ℕ} → Bytes A → Bytes L → Bytes M → Bytes N
    → apply_call T A L ≡ done B → apply_call T B M ≡ done C → apply_call T C N ≡ done D → ThreeLists T L M N
three_in_turn T A L M N ha hl hm hn x y z =
    let t = three_lists T A L M N ha hl hm hn x y z in
    let j : OneJoin T L M N t.0 = t.2 in
    record {
      LM = j.early;
      MN = j.late;
      LMN = t.0;
      first_two = gives j.early_joined j.early_short;
      then_third = gives j.early_first j.short;
      last_two = gives j.late_joined j.late_short;
      then_first = gives j.late_first j.short;
    }

-- what `join` wrote is never longer than the two lists together
pub joined_short : (T L M : List ℕ) {out : List ℕ} {r : Answer} {m : List ℕ} → Bytes L → Bytes M
    → Ran (join_call T L M) out r m → r.code ≡ 0
    → length (take r.length m) ≤ length L + length M
joined_short T L M hl hm o z = join_not_longer T L M hl hm (delivered (join_call_coded T L M) o z).bytes
