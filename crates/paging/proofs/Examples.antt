-- The examples P1 to P12 of document 01, "proved together, by one statement": by computation. Assumes nothing.
use mathlib.Core.Path.{refl}
use Rattle.numbers.specs.Numbers.{number}
use Rattle.packet.specs.Packet.{packet_of}
use Rattle.packet.specs.Machine.{called, call}
use Rattle.packet.specs.Frame.{judged, byte, without_packet, answer_by, answer_of, receive_of}
use Rattle.text.specs.Match.{lower, fits, any_tail, one, matches}
use Rattle.header.specs.Items.{head_of, after, walk, marked, fields_of}
use Rattle.header.specs.Header.{listed, every, count_if, bytes_of, length_in, length_fits, ordered, proper, complete, sum_of, check_items, check_values}
use Rattle.header.specs.Header.{verdict}
use Rattle.equation.specs.Relation.{width}
use Rattle.equation.specs.Symbols.{stars_in, good_text, good_number, good, connective_of, relation_at, token_of, follow, symbols_past}
use Rattle.equation.specs.Tree.{pushed, joined, result, bind, run, parse}
use Rattle.equation.specs.Answer.{refusal, validity_of}
use Rattle.session.specs.Reply.{tell, answered}
use Rattle.decide.specs.Decide.{on_packet, on_frame, decide_of}
use Rattle.paging.specs.Examples.{smallest, Examples}

pub examples : Examples
unfolding
    smallest packet_of called call judged byte without_packet answer_by answer_of receive_of lower fits any_tail one matches head_of after walk marked fields_of
    listed every count_if bytes_of length_in length_fits ordered proper complete number sum_of check_items check_values verdict width stars_in good_text
    good_number good connective_of relation_at token_of follow symbols_past pushed joined result bind run parse refusal validity_of tell answered on_packet
    on_frame decide_of
examples =
    record {
      p1 = refl;
      p2 = refl;
      p2_closes = refl;
      p3 = refl;
      p4 = refl;
      p5 = refl;
      p6 = refl;
      p7 = refl;
      p7_later = refl;
      p8 = refl;
      p8_short = refl;
      p9 = refl;
      p10 = refl;
      p10_empty = refl;
      p11 = refl;
      p12 = refl;
    }
