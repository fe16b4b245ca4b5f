-- Demand 2's sentences on the machine, packets, closing and cutting, together. Assumes nothing.
use mathlib.Core.Path.{◌≡◌, sym, ap, ◌∙◌}
use mathlib.Core.List.{List}
use Prim.Native.Nat.{ℕ, ◌+◌}
use native.Mathlib.Omega.{arith}
use lib.ListN.{length, take, drop}
use Rattle.packet.specs.Packet.{left_in, read_answer}
use Rattle.packet.proofs.PacketLaws.{accepted, reads_back, info_back, written_reads_back}
use Rattle.session.specs.declared.reply.Answer.TheVariants as answer
use Rattle.server.specs.State.{Outcome}
use Rattle.history.specs.Calls.{call_of}
use Rattle.refines.proofs.Refining.{every_call, every_history}
use Rattle.promises.specs.Demand1.{Answers, refuses, silent, closes, sends}
use Rattle.promises.specs.Demand2.{WrittenReadsBack, SentReads, SentReadsBack, Demand2}
use Rattle.answers.proofs.Answered.{every_call_answers}
use Rattle.answers.proofs.ClosingIsLosing.{closing_is_losing, every_closing}
use Rattle.cutting.proofs.CutCalls.{cut_elsewhere}
use Rattle.cutting.proofs.Uncut.{uncut_same}
use Rattle.cutting.proofs.Earlier.{lent_earlier}
use Rattle.cutting.proofs.Feeding.{enough_calls, pieces_elsewhere}
use Rattle.cutting.proofs.Requests.{nothing_due}
use Rattle.transfers.proofs.Downloads.{download_brings, download_ends}
use Rattle.transfers.proofs.Begins.{download_begins}
use Rattle.transfers.proofs.Listed.{directory_begins}
use Rattle.transfers.proofs.Directories.{directory_brings, directory_ends}
use Rattle.transfers.proofs.Broken.{directory_breaks}

-- THEOREM: what the writer leaves reads back
pub every_written_reads_back : WrittenReadsBack
every_written_reads_back kind info out k n h =
    record {
      accepted = written_reads_back kind info out k n h;
      information = rw (← accepted kind info out k n h) (unfold left_in in info_back kind info (drop (2 + length info) out));
    }

-- THEOREM: what a call sends reads back
pub every_sent_reads_back : SentReadsBack
every_sent_reads_back sv l c taken size e = go (every_call_answers sv l c)
  where
    go : Answers sv l c (call_of sv l c) → SentReads (call_of sv l c) size
    go (refuses r) =
        let q : answer.Refused r.number ≡ answer.Sent taken size = sym (ap (λ (o : Outcome). o.done.answer) r.same) ∙ e in
        let z : ◌≡◌ {A = ℕ} 0 1 = cc in absurd (omega arith)
    go (silent r) =
        let q : answer.Quiet r.taken ≡ answer.Sent taken size = sym r.answered ∙ e in
        let z : ◌≡◌ {A = ℕ} 0 1 = cc in absurd (omega arith)
    go (closes r) =
        let q : answer.Closed r.taken ≡ answer.Sent taken size = sym r.answered ∙ e in
        let z : ◌≡◌ {A = ℕ} 0 1 = cc in absurd (omega arith)
    go (sends r) =
        let q : answer.Sent r.taken (2 + length r.info) ≡ answer.Sent taken size = sym r.answered ∙ e in
        let z : 2 + length r.info ≡ size = cc in
        record {
          kind = r.kind;
          info = r.info;
          size_is = sym z;
          reads = record {
            accepted = ap read_answer r.out ∙ reads_back r.kind r.info _ r.listed (omega (arith, r.most));
            information = ap (λ (b : List ℕ). take (length r.info) (drop 2 b)) r.out ∙ info_back r.kind r.info _;
          };
        }

-- THEOREM: demand 2's sentences. What every call keeps is proved in crates/history.
pub demand_2 : Demand2
demand_2 =
    record {
      written = every_written_reads_back;
      sent = every_sent_reads_back;
      machine = every_call;
      machine_after = every_history;
      nothing_due = nothing_due;
      download_begins = download_begins;
      download = download_brings;
      download_ends = download_ends;
      directory_begins = directory_begins;
      directory = directory_brings;
      directory_ends = directory_ends;
      directory_breaks = directory_breaks;
      closing = every_closing;
      closing_is_losing = closing_is_losing;
      cut = cut_elsewhere;
      uncut = uncut_same;
      earlier = lent_earlier;
      enough = enough_calls;
      pieces = pieces_elsewhere;
    }
