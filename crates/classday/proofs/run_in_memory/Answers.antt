use Rattle.std.proofs.Common.{refl, arith}
use Rattle.pass.proofs.Starting.{ready}
use Rattle.classday.proofs.run_in_memory.Goals as goal

pub run-requires : goal.run-requires
run-requires c =
    ready 8192 (omega arith) _
    (record {
      disk = c.blank_disk-disk.ensures;
      map = search;
      owner = search;
      table = search;
      selected = search;
      held = search;
      input = c.blank_input-input.ensures;
      bytes = c.blank_text-bytes.ensures;
      text = c.blank_text-text.ensures;
    })

pub returns : goal.returns
returns c =
    record {
      memory = _;
      ready = ready 8192 (omega arith) _ (record {
        disk = c.blank_disk-disk.ensures;
        map = search;
        owner = search;
        table = search;
        selected = search;
        held = search;
        input = c.blank_input-input.ensures;
        bytes = c.blank_text-bytes.ensures;
        text = c.blank_text-text.ensures;
      });
      after = _;
      played = c.run.ensures;
      pass = refl;
    }
