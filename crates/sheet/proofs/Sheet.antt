-- `sheet` writes `right_sheet_of` of the script that it read. Assumes nothing.
use Rattle.marking.specs.declared.Kind.TheVariants as kind
use Rattle.runs.proofs.Whole.{program_prints}
use Rattle.sheet.specs.Sheet.{SheetPrints}

pub sheet_prints : SheetPrints
sheet_prints ran small done rest f = (program_prints kind.Sheet ran small).whole rest f done
