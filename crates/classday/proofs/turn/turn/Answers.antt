use Rattle.classday.specs.Sheet.{class_words}
use Rattle.pass.proofs.Parts.{step_joins}
use Rattle.pass.proofs.Turning.{turned_step, turned_line, turned_flush, turned_fill, turned_last, turned_error}
use Rattle.classday.proofs.turn.turn.Goals as goal

pub returns-in-Step : goal.returns-in-Step
returns-in-Step c =
    turned_step 8192 class_words _ _ _ c.decide.ensures _ c.in-Step.is
    (step_joins c.args.pass _ _ _ c.args.input.now _ _ _ _ c.step-s.ensures c.stepped.ensures)

pub returns-in-Line : goal.returns-in-Line
returns-in-Line c =
    turned_line 8192 class_words _ _ _ c.decide.ensures _ _ c.in-Line.is (c.begin_line.ensures.by_index _ _) (c.begin_line.ensures.by_index_2 _ _)

pub returns-in-Flush : goal.returns-in-Flush
returns-in-Flush c = turned_flush 8192 class_words _ _ _ c.decide.ensures _ c.in-Flush.is c.flush.ensures

pub returns-in-Fill : goal.returns-in-Fill
returns-in-Fill c = turned_fill 8192 class_words _ _ _ c.decide.ensures _ _ c.in-Fill.is c.fill.ensures

pub returns-in-Last : goal.returns-in-Last
returns-in-Last c =
    turned_last 8192 class_words _ _ _ c.decide.ensures _ _ c.in-Last.is c.put_last.ensures.text_after c.put_last.ensures.counted

pub returns-in-Error : goal.returns-in-Error
returns-in-Error c =
    turned_error 8192 class_words _ _ _ c.decide.ensures _ _ c.in-Error.is c.put_error.ensures.text_after c.put_error.ensures.counted
