-- THEOREM: all the demands. Assumes nothing.
use Rattle.paging.proofs.Examples.{examples}
use Rattle.paging.proofs.Paging.{page_answered, paging, paging_whole}
use Rattle.paging.proofs.Pieces.{in_pieces}
use Rattle.demands.specs.Demands.{Demands}
use Rattle.answers.proofs.Demand1.{demand_1}
use Rattle.cutting.proofs.Demand2.{demand_2}
use Rattle.demands.proofs.Whole.{demand_3}
use Rattle.demands.proofs.Downloads.{from_pupil_to_pupil, asked_and_sent}

pub demands : Demands
demands =
    record {
      every_answer = demand_1;
      real_answers = demand_2;
      sound_store = demand_3;
      pupil_to_pupil = from_pupil_to_pupil;
      asked_and_sent = asked_and_sent;
      page_answer = page_answered;
      paging = paging;
      paging_whole = paging_whole;
      in_pieces = in_pieces;
      examples = examples;
    }
