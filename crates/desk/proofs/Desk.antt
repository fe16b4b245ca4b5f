-- The desk writes `desk_of` of the answer sheet that it read. Assumes nothing.
use Rattle.marking.specs.declared.Kind.TheVariants as kind
use Rattle.runs.proofs.Whole.{program_prints}
use Rattle.desk.specs.Desk.{DeskPrints}

pub desk_prints : DeskPrints
desk_prints ran small done rest f = (program_prints kind.Desk ran small).whole rest f done
