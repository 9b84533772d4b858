-- `receiver::backlog::take_lists` meets its contract: what the whole comes to, what is left comes to too;
-- the measure is the bytes left.
-- Assumes nothing.
use mathlib.Core.Path.{refl}
use Rattle.receiver.proofs.Turns.{image_small, none_yet, all_taken, turn_inside, turn_shrinks, turn_refused, turn_taken}
use Rattle.receiver.proofs.backlog.take_lists.Goals as goal

pub overflow_cast-size : goal.overflow_cast-size
overflow_cast-size c = record { fits = image_small c.requires.accepted_image c.args.plan.few }

pub loop-rest-init : goal.loop-rest-init
loop-rest-init c = none_yet _ _ c.requires.accepted_image c.type_inv.lists

pub returns-in-Err : goal.returns-in-Err
returns-in-Err c =
    turn_refused c.loop-rest.invariant c.loop-rest-test.ensures c.front_form-list.ensures c.take_under.ensures.1
    c.in-Err.ensures.0 c.count.ensures refl c.with_length.ensures

pub slice_bounds-rest-count : goal.slice_bounds-rest-count
slice_bounds-rest-count c = turn_inside c.loop-rest.invariant c.loop-rest-test.ensures c.front_form-list.ensures

pub slice_bounds-rest-start : goal.slice_bounds-rest-start
slice_bounds-rest-start c = turn_inside c.loop-rest.invariant c.loop-rest-test.ensures c.front_form-list.ensures

pub loop-rest-smaller : goal.loop-rest-smaller
loop-rest-smaller c = turn_shrinks c.loop-rest.invariant c.loop-rest-test.ensures c.front_form-list.ensures

pub loop-rest-preserved : goal.loop-rest-preserved
loop-rest-preserved c =
    turn_taken c.loop-rest.invariant c.loop-rest-test.ensures c.front_form-list.ensures c.take_under.ensures.1
    c.args.plan.few
    c.in_default.ensures.0 c.count-counted.ensures

pub returns : goal.returns
returns c = all_taken c.loop-rest.invariant c.loop-rest-test.ensures refl c.written.ensures
