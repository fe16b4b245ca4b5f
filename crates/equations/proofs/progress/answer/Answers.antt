use Rattle.equations.proofs.Parts.{answered_none, answered_line}
use Rattle.equations.proofs.progress.answer.Goals as goal

pub returns-in-None : goal.returns-in-None
returns-in-None c =
    let told = c in
    let replied = told in
    let given = replied.args in
    answered_none given.progress given.n _ given.input.now given.text.now _ _ replied.wrapping_add_usize-to.ensures.value
    replied.reply_behind.ensures _ told.in-None.is c.put_error.ensures

pub returns-in-Some : goal.returns-in-Some
returns-in-Some c =
    let told = c in
    let replied = told in
    let given = replied.args in
    answered_line given.progress given.n _ given.input.now given.text.now _ _ replied.wrapping_add_usize-to.ensures.value
    replied.reply_behind.ensures _ _ _ _ told.in-Some.is c.least.ensures.2 c.passed.ensures c.with_more.ensures
