use Rattle.std.proofs.Common.{sym, rules}
use Rattle.sitting.proofs.Starting.{ready}
use Rattle.sitting.proofs.sit.Goals as goal

pub blank_disk-disk-requires : goal.blank_disk-disk-requires
blank_disk-disk-requires c = tt

pub blank_text-input-requires : goal.blank_text-input-requires
blank_text-input-requires c = tt

pub blank_bytes-bytes-requires : goal.blank_bytes-bytes-requires
blank_bytes-bytes-requires c = tt

pub blank_text-text-requires : goal.blank_text-text-requires
blank_text-text-requires c = tt

pub run-requires : goal.run-requires
run-requires c =
    ready _
    (record {
      disk = search rules;
      map = search rules;
      owner = search rules;
      table = search rules;
      selected = search rules;
      held = search rules;
      input = search rules;
      bytes = search rules;
      text = search rules;
    })

pub returns : goal.returns
returns c = record { memory = _; ready = ready _ (record { disk = search rules; map = search rules; owner = search rules; table = search rules; selected = search rules; held = search rules; input = search rules; bytes = search rules; text = search rules }); after = _; played = c.run.ensures }
