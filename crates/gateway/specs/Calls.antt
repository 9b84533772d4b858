-- The call that only C needs, over raw bytes.
use Rattle.std.specs.Prelude.{ℕ, List, eqb, length}
use Rattle.octets.specs.Octets.{number}
use Rattle.kinds.specs.Kinds.{width_of}
use Rattle.elements.specs.Elements.{carried, kind_of}
use Rattle.history.specs.Verdict.{Verdict, done, refusal, ◌unless◌⨾◌}
use Rattle.history.specs.Table.{catalogue_good}
use Rattle.history.specs.Image.{element, ◌of◌⨾◌}

-- 3 (catalogue), 5 (type), 8 (a length that is not the type's width);
-- then the element's check, which names no object (65535)
unfoldable pub element_call : ℕ → ℕ → ℕ → List ℕ → Verdict ℕ
element_call x y type b =
    refusal 3 unless catalogue_good x y ⨾
    refusal 5 unless carried x type ⨾
    refusal 8 unless eqb (length b) (width_of (kind_of x type)) ⨾
    element (kind_of x type) (number b) of 65535 ⨾
    done (number b)
