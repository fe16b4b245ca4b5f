use Rattle.equations.proofs.Turning.{turned_line, turned_error, turned_end, turned_flush, turned_fill}
use Rattle.equations.proofs.progress.turn.Goals as goal

pub returns-in-Line : goal.returns-in-Line
returns-in-Line c =
    let told = c in
    turned_line _ _ told.decide.ensures _ _ _ told.in-Line.is c.answer.ensures

pub returns-in-Flush : goal.returns-in-Flush
returns-in-Flush c =
    turned_flush _ _ c.decide.ensures _ c.in-Flush.is c.flush.ensures

pub returns-in-Fill : goal.returns-in-Fill
returns-in-Fill c =
    let told = c in
    turned_fill _ _ told.decide.ensures _ _ told.in-Fill.is c.fill.ensures

pub returns-in-End : goal.returns-in-End
returns-in-End c =
    turned_end _ _ c.decide.ensures _ c.in-End.is c.with_stage.ensures

pub returns-in-Error : goal.returns-in-Error
returns-in-Error c =
    let told = c in
    turned_error _ _ told.decide.ensures _ _ told.in-Error.is c.put_error.ensures
