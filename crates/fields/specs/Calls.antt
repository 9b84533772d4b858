-- The call that writes a state handed in as numbers, over raw bytes.
use Rattle.std.specs.Prelude.{ℕ, List, eqb}
use Rattle.rows.specs.declared.Refusal.{Refusal}
use Rattle.kinds.specs.Kinds.{layout_no, rows_of, kind_in, element_of}
use Rattle.kinds.specs.declared.Kind.{Kind}
use Rattle.history.specs.Verdict.{Verdict, refused, then, refusal_at, ◌unless◌⨾◌}
use Rattle.history.specs.Image.{found_in, ◌of◌⨾◌}
use Rattle.history.specs.Calls.{read_state_call, write_state_call}
use Rattle.fields.specs.PlainFields.{values_in, check_named}

-- what is tested before a state's values: table, image and 13 as in reading, then 22 if the
-- object's kind has another number
abbrev pub of_kind : List ℕ → List ℕ → ℕ → ℕ → (Kind → Verdict (List ℕ)) → Verdict (List ℕ)
of_kind T A i number next =
    then (read_state_call T A i) λ was.
    refusal_at 22 i unless eqb number (layout_no (kind_in was)) ⨾
    next (kind_in was)

-- 11 for a value that has no named case; then the state is written as by `write_state`
unfoldable pub write_fields_call : List ℕ → List ℕ → ℕ → ℕ → List ℕ → ℕ → Verdict (List ℕ)
write_fields_call T A i number fields position =
    of_kind T A i number λ k.
    check_named (rows_of k) (values_in k fields) of i ⨾
    write_state_call T A i (element_of k (values_in k fields)) position

-- the refusal found, once table, image, 13 and 22 are passed
unfoldable pub state_refused : List ℕ → List ℕ → ℕ → ℕ → Refusal → Verdict (List ℕ)
state_refused T A i number found = of_kind T A i number λ k. refused (found_in found i)
