-- The desk's output for the exam's sheet, computed: who says 8 is right. No theorem is used. Assumes nothing.
use mathlib.Core.Path.{◌≡◌, refl}
use Rattle.equation.specs.Answer as answer
use Rattle.equation.specs.Symbols as symbols
use Rattle.equation.specs.Relation as relation
use Rattle.equation.specs.Tree as tree
use Rattle.files.specs.Selection as selection
use Rattle.lines.specs.Reading as reading
use Rattle.example.specs.Computing.{computing}
use Rattle.example.specs.Example.{server}
use Rattle.marking.specs.Fields as fields
use Rattle.marking.specs.Desk as desk
use Rattle.marking.specs.Desk.{desk_of}
use Rattle.exam.specs.Exam.{sheet, marked}

pub exam : desk_of server sheet ≡ marked
unfolding
    computing answer.refusal answer.validity_of symbols.stars_in symbols.good_text symbols.good_number symbols.good symbols.connective_of
    symbols.relation_at symbols.token_of symbols.follow symbols.symbols_past relation.width tree.pushed tree.joined tree.result tree.bind tree.run
    tree.parse selection.select_number selection.select_of selection.passing selection.is_yes reading.field fields.fields_end fields.is_rx
    fields.script_end fields.less_first fields.less_session desk.first_row desk.read_row desk.rows_from desk.rows_of desk.is_right desk.verdict_word
    desk.row_text desk.marks_line desk.last_text desk.refused_line desk.stop_text desk.right_after desk.print_rows desk.output_of
exam = refl
