use Rattle.words.proofs.PieceLaws.{joins}
use native.Mathlib.Omega.{arith}
use Rattle.grammar.specs.Machine.{outcome_of}
use Rattle.replies.specs.Reply.{said_of}
use Rattle.replies.proofs.SaidLaws.{said_fits}
use Rattle.words.proofs.PieceLaws as pieces
use Rattle.words.proofs.WhyLaws as laws
use Rattle.words.proofs.wrong_line.Goals as goal

pub slice_bounds-reply_to_text-count : goal.slice_bounds-reply_to_text-count
slice_bounds-reply_to_text-count c = omega (arith, c.requires, c.push_front-a.auto.out, c.push_front-a.ensures.end, laws.front_most c.args.number (omega (arith, c.well_formed)))

pub slice_bounds-reply_to_text-start : goal.slice_bounds-reply_to_text-start
slice_bounds-reply_to_text-start c = slice_bounds-reply_to_text-count c

pub overflow_add-result : goal.overflow_add-result
overflow_add-result c =
    omega (
      arith,
      c.requires,
      c.push_front-a.auto.out,
      c.push_front-a.ensures.end,
      laws.front_most c.args.number (omega (arith, c.well_formed)),
      said_fits c.args.equation.now (omega (arith, c.well_formed)),
      (pieces.printed_behind c.push_front-a.new.out _ (said_of (outcome_of c.args.equation.now)) c.push_front-a.result c.reply_to_text-said.result
          (omega (
            arith,
            c.requires,
            c.push_front-a.auto.out,
            c.push_front-a.ensures.end,
            laws.front_most c.args.number (omega (arith, c.well_formed)),
            said_fits c.args.equation.now (omega (arith, c.well_formed)),
          )) c.reply_to_text-said.ensures).end,
    )

pub returns : goal.returns
returns c =
    rw (laws.why_line_law c.args.number (said_of (outcome_of c.args.equation.now))) at
    (joins c.push_front-a.ensures
    (pieces.printed_behind c.push_front-a.new.out _ (said_of (outcome_of c.args.equation.now)) c.push_front-a.result c.reply_to_text-said.result
    (omega (
      arith,
      c.requires,
      c.push_front-a.auto.out,
      c.push_front-a.ensures.end,
      laws.front_most c.args.number (omega (arith, c.well_formed)),
      said_fits c.args.equation.now (omega (arith, c.well_formed)),
    )) c.reply_to_text-said.ensures))
