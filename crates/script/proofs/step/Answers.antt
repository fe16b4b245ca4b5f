use Rattle.script.proofs.Behind.{no_step_behind, step_behind_law}
use Rattle.script.proofs.step.Goals as goal

pub rest-requires : goal.rest-requires
rest-requires c = tt

pub returns-then-rest-lt-ROOM : goal.returns-then-rest-lt-ROOM
returns-then-rest-lt-ROOM c = no_step_behind _ _ _ _ _ _ c.rest.ensures c.if-rest-lt-ROOM.true

pub call-done-requires : goal.call-done-requires
call-done-requires c = tt

pub conclude-requires : goal.conclude-requires
conclude-requires c = tt

pub shape_of-disk : goal.shape_of-disk
shape_of-disk c = c.call-done.auto.disk

pub shape_of-map : goal.shape_of-map
shape_of-map c = c.call-done.auto.map

pub shape_of-owner : goal.shape_of-owner
shape_of-owner c = c.call-done.auto.owner

pub shape_of-table : goal.shape_of-table
shape_of-table c = c.call-done.auto.table

pub shape_of-selected : goal.shape_of-selected
shape_of-selected c = c.call-done.auto.selected

pub shape_of-held : goal.shape_of-held
shape_of-held c = c.call-done.auto.held

pub shape_of-text : goal.shape_of-text
shape_of-text c = c.conclude.auto.text

pub returns : goal.returns
returns c =
    step_behind_law _ _ _ _ _ _ _ _ _ _ _ c.rest.ensures c.if-rest-lt-ROOM.false c.call-done.ensures (c.conclude.ensures _)
