-- A glance at the element at a place: a shortcut of the code, nothing to believe.
-- Written by catalogue/write.py.
use Rattle.std.specs.Prelude.{◌≡◌, List, ℕ, take, drop}
use Rattle.octets.specs.Octets.{number}
use Rattle.rows.specs.Marks.{Shows}
use Rattle.kinds.specs.Kinds.{width_of, rows_of}
use Rattle.kinds.specs.declared.Kind.{Kind}
use Rattle.kinds.specs.declared.Glance.{Glance}

-- the element's number, and what a glance says of its fields
pub record Glanced (k : Kind) (b : List ℕ) (at : ℕ) (r : Glance) : Type 0 where
  pub read : r.word ≡ number (take (width_of k) (drop at b))
  pub shown : Shows (rows_of k) r.word r.listed
