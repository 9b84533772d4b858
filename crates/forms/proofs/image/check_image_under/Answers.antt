-- `forms::image::check_image_under` meets its contract: each return is what the tests so far decide.
-- Assumes nothing.
use native.Mathlib.Omega.{arith}
use mathlib.Core.Path.{sym, ap, ◌∙◌}
use borrow.Author.Rules.{rules}
use Rattle.std.specs.Prelude.{Err}
use Rattle.tables.proofs.AnswerLaws.{no, yes}
use Rattle.heads.proofs.Forms.{long_enough}
use Rattle.heads.proofs.Places.{head_inside, elements_fill}
use Rattle.forms.proofs.ImageAnswers.{not_whole, other_version, not_under, other_size, by_words}
use Rattle.forms.proofs.image.check_image_under.Goals as goal

pub returns-then-not-is_whole : goal.returns-then-not-is_whole
returns-then-not-is_whole c = ap Err c.refused.ensures ∙ search (not_whole, no)

pub bounds-image-4 : goal.bounds-image-4
bounds-image-4 c = search (long_enough, rules)

pub returns-then-not-is_image_version : goal.returns-then-not-is_image_version
returns-then-not-is_image_version c = ap Err c.refused-then-not-is_image_version.ensures
    ∙ search (other_version, yes, no)

pub is_under-requires : goal.is_under-requires
is_under-requires c = search (long_enough, rules)

pub returns-then-not-is_under : goal.returns-then-not-is_under
returns-then-not-is_under c = ap Err c.refused-then-not-is_under.ensures ∙ search (not_under, yes, no)

pub bounds-image-4-2 : goal.bounds-image-4-2
bounds-image-4-2 c = search (long_enough, rules)

pub returns-then-image-elements_place : goal.returns-then-image-elements_place
returns-then-image-elements_place c = ap Err c.refused-then-image-elements_place.ensures
    ∙ other_size _ _ _ _ (search yes) (search yes) (search yes) _ c.elements_place.ensures.0 _
    c.widths_of.ensures.0 (λ e. omega arith)

pub elements_of-requires : goal.elements_of-requires
elements_of-requires c = head_inside _ _ c.elements_place.ensures.0 (omega arith)

pub check_words-requires : goal.check_words-requires
check_words-requires c = elements_fill _ _ c.elements_place.ensures.0 (omega arith) c.elements_of.ensures

pub returns : goal.returns
returns c = c.check_words.ensures
    ∙ by_words _ _ _ _
    (sym c.is_whole.ensures ∙ c.if-not-is_whole.false)
    (sym c.is_image_version.ensures ∙ c.if-not-is_image_version.false)
    (sym c.is_under.ensures ∙ c.if-not-is_under.false)
    _ c.elements_place.ensures.0
    _ c.widths_of.ensures.0
    (omega arith)
    _ c.elements_of.ensures
